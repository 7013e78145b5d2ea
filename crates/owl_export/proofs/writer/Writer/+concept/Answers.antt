-- A concept by its node, and forms of two operands.
use Rattle.std.specs.Prelude.{[], ◌∷◌, ◌++◌}
use Rattle.syntax.specs.Concepts.{concept_below}
use Rattle.owl_export.specs.AxiomText.{concept_text}
use Rattle.output.specs.Text.{text}
use Rattle.owl_export.proofs.Emitted.{emits_cut, emits_over, emits_then, emits_as}
use Rattle.owl_export.proofs.Lines.{text_none, text_everything, text_name, text_not, text_and, text_or, text_exists, text_forall, text_other}
use Rattle.owl_export.proofs.writer.Writer.+concept.Goals as goal

pub concept-returns-in_default : goal.concept-returns-in_default
unfolding text
concept-returns-in_default t c = emits_as _ _ _ _ _ (text_none _ _ _ c.in_default.ensures) c.put.ensures

pub concept-returns-in-Everything : goal.concept-returns-in-Everything
unfolding text
concept-returns-in-Everything t c = emits_as _ _ _ _ _ (text_everything _ _ _ _ c.in-Some.ensures c.in-Everything.is) c.put-in-Everything.ensures

pub concept-returns-in-Name : goal.concept-returns-in-Name
unfolding text
concept-returns-in-Name t c = emits_as _ _ _ _ _ (text_name _ _ _ _ c.in-Some.ensures _ c.in-Name.is) c.name.ensures

pub concept-returns-in_err-put-in-Not : goal.concept-returns-in_err-put-in-Not
unfolding text
concept-returns-in_err-put-in-Not t c =
    rw (c.from_residual.ensures, ← text_not _ _ _ _ c.in-Some.ensures _ c.in-Not.is) (emits_cut (text "ObjectComplementOf(") (concept_text (concept_below c.args.tree.table.now c.args.tree.number c.in-Not.a) ++ (41 ∷ [])) c.args.self.now
    c.in_err-put-in-Not.ensures)

pub concept-returns-in_err-concept-in-Not : goal.concept-returns-in_err-concept-in-Not
unfolding text
concept-returns-in_err-concept-in-Not t c =
    rw (c.from_residual-in_err-concept-in-Not.ensures, ← text_not _ _ _ _ c.in-Some.ensures _ c.in-Not.is)
    (emits_over (text "ObjectComplementOf(") _ c.args.self.now _ c.in_ok-put-in-Not.ensures
    (emits_cut (concept_text (concept_below c.args.tree.table.now c.args.tree.number c.in-Not.a)) (41 ∷ []) c.put-in-Not.new.self
    (rw c.operand.ensures at c.in_err-concept-in-Not.ensures)))

pub concept-returns-in_ok-concept-in-Not : goal.concept-returns-in_ok-concept-in-Not
unfolding text
concept-returns-in_ok-concept-in-Not t c =
    emits_as _ _ _ _ _ (text_not _ _ _ _ c.in-Some.ensures _ c.in-Not.is)
    (emits_then _ _ _ _ _ c.in_ok-put-in-Not.ensures _
    (emits_then _ _ _ _ _ (rw c.operand.ensures at c.in_ok-concept-in-Not.ensures) _ c.put-in-Not-2.ensures))

pub concept-returns-in-And : goal.concept-returns-in-And
unfolding text
concept-returns-in-And t c =
    emits_as _ _ _ _ _ (text_and _ _ _ _ c.in-Some.ensures _ _ c.in-And.is) (rw (c.operand-in-And.ensures, c.operand-in-And-2.ensures) at c.pair.ensures)

pub concept-returns-in-Or : goal.concept-returns-in-Or
unfolding text
concept-returns-in-Or t c =
    emits_as _ _ _ _ _ (text_or _ _ _ _ c.in-Some.ensures _ _ c.in-Or.is) (rw (c.operand-in-Or.ensures, c.operand-in-Or-2.ensures) at c.pair-in-Or.ensures)

pub concept-returns-in-Exists : goal.concept-returns-in-Exists
unfolding text
concept-returns-in-Exists t c =
    emits_as _ _ _ _ _ (text_exists _ _ _ _ c.in-Some.ensures _ _ c.in-Exists.is)
    (rw (c.operand-in-Exists.ensures, c.operand-in-Exists-2.ensures) at c.restriction.ensures)

pub concept-returns-in-Forall : goal.concept-returns-in-Forall
unfolding text
concept-returns-in-Forall t c =
    emits_as _ _ _ _ _ (text_forall _ _ _ _ c.in-Some.ensures _ _ c.in-Forall.is)
    (rw (c.operand-in-Forall.ensures, c.operand-in-Forall-2.ensures) at c.restriction-in-Forall.ensures)

pub concept-returns-in_default-node : goal.concept-returns-in_default-node
unfolding text
concept-returns-in_default-node t c =
    let w = c.in_default-node in
    emits_as _ _ _ _ _
    (text_other _ _ _ _ c.in-Some.ensures w.not-Everything w.not-Name w.not-Not w.not-And w.not-Or w.not-Exists w.not-Forall)
    c.put-in_default-node.ensures

pub pair-returns : goal.pair-returns
pair-returns t c =
    emits_then _ _ _ _ _ c.in_ok-put.ensures _ (emits_then _ _ _ _ _ c.in_ok-concept.ensures _
    (emits_then (32 ∷ []) _ _ _ _ c.in_ok-put-2.ensures _ (emits_then _ _ _ _ _ c.in_ok-concept-2.ensures _ c.put-3.ensures)))

pub restriction-returns : goal.restriction-returns
restriction-returns t c =
    emits_then _ _ _ _ _ c.in_ok-put.ensures _ (emits_then _ _ _ _ _ c.in_ok-role.ensures _
    (emits_then (32 ∷ []) _ _ _ _ c.in_ok-put-2.ensures _ (emits_then _ _ _ _ _ c.in_ok-concept.ensures _ c.put-3.ensures)))
