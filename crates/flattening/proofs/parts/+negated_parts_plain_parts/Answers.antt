-- Concepts by their nodes, and the parts that they add, read plainly and under a not.
use Rattle.std.proofs.Common.{true, false, refl}
use Rattle.records.specs.declared.nodes.Node.TheVariants.{Not, Exists, Forall}
use Rattle.syntax.specs.Concepts.{node_of, concept_below, role_below}
use Rattle.syntax.specs.Normal.{plain}
use Rattle.flattening.specs.declared.parts.Quantifier.TheVariants.{Exists as AnExists, Forall as AForall}
use Rattle.flattening.proofs.NodeForms.{nf_node, walk-rest}
use Rattle.flattening.proofs.PartLists.{adds_nothing, adds_same}
use Rattle.flattening.proofs.Walks.{parts_by, walk-none, adds_two, adds_one, adds_restriction}
use Rattle.flattening.proofs.parts.+negated_parts_plain_parts.Goals as goal

pub negated_parts-returns-in_default : goal.negated_parts-returns-in_default
negated_parts-returns-in_default g t c = adds_nothing _ (parts_by _) _ (walk-none _ _ _ c.in_default.ensures true _)

pub negated_parts-returns-in-Not : goal.negated_parts-returns-in-Not
unfolding node_of plain concept_below
negated_parts-returns-in-Not g t c =
    adds_same _ _ _ _ _ _ _ (nf_node _ _ _ true _ (Not _) c.in-Some.ensures c.in-Not.is) (rw c.from.ensures at c.plain_parts.ensures)

pub negated_parts-returns-in_err-negated_parts-in-And : goal.negated_parts-returns-in_err-negated_parts-in-And
negated_parts-returns-in_err-negated_parts-in-And g t c =
    adds_one _ _ _ _ c.in-Some.ensures _ _ c.in-And.is true _ _ _ c.from_residual.ensures.0
    (rw c.from-in-And.ensures at c.in_err-negated_parts-in-And.ensures)

pub negated_parts-returns-in_ok-negated_parts-in-And : goal.negated_parts-returns-in_ok-negated_parts-in-And
negated_parts-returns-in_ok-negated_parts-in-And g t c =
    adds_two _ _ _ _ c.in-Some.ensures _ _ c.in-And.is true _ _ _ _ _
    (rw c.from-in-And.ensures at c.in_ok-negated_parts-in-And.ensures) (rw c.from-in-And-2.ensures at c.negated_parts-in-And.ensures)

pub negated_parts-returns-in-Exists : goal.negated_parts-returns-in-Exists
unfolding node_of plain concept_below role_below
negated_parts-returns-in-Exists g t c =
    adds_restriction _ _ _ _ c.in-Some.ensures true AForall _ _ _ _ _ _
    (nf_node _ _ _ true _ (Exists _ _) c.in-Some.ensures c.in-Exists.is) (rw c.in-Exists.is refl) c.meet.ensures

pub negated_parts-returns-in-Forall : goal.negated_parts-returns-in-Forall
unfolding node_of plain concept_below role_below
negated_parts-returns-in-Forall g t c =
    adds_restriction _ _ _ _ c.in-Some.ensures true AnExists _ _ _ _ _ _
    (nf_node _ _ _ true _ (Forall _ _) c.in-Some.ensures c.in-Forall.is) (rw c.in-Forall.is refl) c.meet-in-Forall.ensures

pub negated_parts-returns-in_default-node : goal.negated_parts-returns-in_default-node
negated_parts-returns-in_default-node g t c =
    let w = c.in_default-node in
    adds_nothing _ (parts_by _) _ (walk-rest _ _ _ w.not-Not w.not-And w.not-Or w.not-Exists w.not-Forall _ c.in-Some.ensures true _)

pub plain_parts-returns-in_default : goal.plain_parts-returns-in_default
plain_parts-returns-in_default g t c = adds_nothing _ (parts_by _) _ (walk-none _ _ _ c.in_default.ensures false _)

pub plain_parts-returns-in-Not : goal.plain_parts-returns-in-Not
unfolding node_of plain concept_below
plain_parts-returns-in-Not g t c =
    adds_same _ _ _ _ _ _ _ (nf_node _ _ _ false _ (Not _) c.in-Some.ensures c.in-Not.is) (rw c.from.ensures at c.negated_parts.ensures)

pub plain_parts-returns-in_err-plain_parts-in-And : goal.plain_parts-returns-in_err-plain_parts-in-And
plain_parts-returns-in_err-plain_parts-in-And g t c =
    adds_one _ _ _ _ c.in-Some.ensures _ _ c.in-And.is false _ _ _ c.from_residual.ensures.0
    (rw c.from-in-And.ensures at c.in_err-plain_parts-in-And.ensures)

pub plain_parts-returns-in_ok-plain_parts-in-And : goal.plain_parts-returns-in_ok-plain_parts-in-And
plain_parts-returns-in_ok-plain_parts-in-And g t c =
    adds_two _ _ _ _ c.in-Some.ensures _ _ c.in-And.is false _ _ _ _ _
    (rw c.from-in-And.ensures at c.in_ok-plain_parts-in-And.ensures) (rw c.from-in-And-2.ensures at c.plain_parts-in-And.ensures)

pub plain_parts-returns-in-Exists : goal.plain_parts-returns-in-Exists
unfolding node_of plain concept_below role_below
plain_parts-returns-in-Exists g t c =
    adds_restriction _ _ _ _ c.in-Some.ensures false AnExists _ _ _ _ _ _
    (nf_node _ _ _ false _ (Exists _ _) c.in-Some.ensures c.in-Exists.is) (rw c.in-Exists.is refl) c.meet.ensures

pub plain_parts-returns-in-Forall : goal.plain_parts-returns-in-Forall
unfolding node_of plain concept_below role_below
plain_parts-returns-in-Forall g t c =
    adds_restriction _ _ _ _ c.in-Some.ensures false AForall _ _ _ _ _ _
    (nf_node _ _ _ false _ (Forall _ _) c.in-Some.ensures c.in-Forall.is) (rw c.in-Forall.is refl) c.meet-in-Forall.ensures

pub plain_parts-returns-in_default-node : goal.plain_parts-returns-in_default-node
plain_parts-returns-in_default-node g t c =
    let w = c.in_default-node in
    adds_nothing _ (parts_by _) _ (walk-rest _ _ _ w.not-Not w.not-And w.not-Or w.not-Exists w.not-Forall _ c.in-Some.ensures false _)
