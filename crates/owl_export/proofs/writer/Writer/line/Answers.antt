-- A record's line.
use Rattle.std.specs.Prelude.{[], ◌∷◌}
use Rattle.output.specs.Text.{text}
use Rattle.syntax.specs.Concepts.{concept_below}
use Rattle.owl_export.specs.AxiomText.{concept_text}
use Rattle.owl_export.specs.RecordText.{form_text}
use Rattle.owl_export.proofs.Emitted.{emits_nothing, emits_cut, emits_then, emits_as}
use Rattle.owl_export.proofs.Lines.{line_axiom, line_other, line_past}
use Rattle.owl_export.proofs.writer.Writer.line.Goals as goal

pub returns-in_default : goal.returns-in_default
returns-in_default c = rw (← line_past _ _ c.in_default.ensures) (emits_nothing _)

pub returns-in_default-node : goal.returns-in_default-node
returns-in_default-node c = rw (← line_other _ _ _ c.in-Some.ensures c.in_default-node.not-Axiom) (emits_nothing _)

pub returns-in_err-pair : goal.returns-in_err-pair
unfolding text
returns-in_err-pair c =
    rw (c.from_residual.ensures, ← line_axiom _ _ _ c.in-Some.ensures _ _ c.in-Axiom.is)
    (emits_cut
    (form_text (text "SubClassOf(") (concept_text (concept_below c.args.table.now c.args.i c.in-Axiom.left))
    (concept_text (concept_below c.args.table.now c.args.i c.in-Axiom.right))) (10 ∷ []) c.args.self.now (rw (c.operand.ensures, c.operand-2.ensures) at c.in_err-pair.ensures))

pub returns : goal.returns
unfolding text
returns c =
    emits_as _ _ _ _ _ (line_axiom _ _ _ c.in-Some.ensures _ _ c.in-Axiom.is)
    (emits_then _ (10 ∷ []) _ _ _ (rw (c.operand.ensures, c.operand-2.ensures) at c.in_ok-pair.ensures) _ c.put.ensures)
