use mathlib.Core.Path.{◌∙◌}
use Rattle.owl_export.proofs.Beyond.{composed_none, composed_not, composed_two, composed_restriction, composed_rest, or_first, or_second}
use Rattle.owl_export.proofs.composed.+has_composed.Goals as goal

pub returns-in_default : goal.returns-in_default
returns-in_default t c = composed_none _ _ _ c.in_default.ensures

pub returns-in-Not : goal.returns-in-Not
returns-in-Not t c = (rw c.operand.ensures at c.has_composed.ensures) ∙ composed_not _ _ _ _ c.in-Some.ensures _ c.in-Not.is

pub returns-in_default-node : goal.returns-in_default-node
returns-in_default-node t c =
    let w = c.in_default-node in composed_rest _ _ _ _ c.in-Some.ensures w.not-Not w.not-And w.not-Or w.not-Exists w.not-Forall

pub returns-then-is_composed : goal.returns-then-is_composed
returns-then-is_composed t c =
    or_first _ (rw c.operand-in-Exists.ensures at c.is_composed.ensures) c.if-is_composed.true
    (composed_restriction _ _ _ _ c.in-Some.ensures _ _ c.in-Exists.is)

pub returns-else-is_composed : goal.returns-else-is_composed
returns-else-is_composed t c =
    or_second (rw c.operand-in-Exists.ensures at c.is_composed.ensures) c.if-is_composed.false
    (rw c.operand-else-is_composed.ensures at c.has_composed-else-is_composed.ensures)
    (composed_restriction _ _ _ _ c.in-Some.ensures _ _ c.in-Exists.is)

pub returns-then-has_composed : goal.returns-then-has_composed
returns-then-has_composed t c =
    or_first _ (rw c.operand-in-And.ensures at c.has_composed-in-And.ensures) c.if-has_composed.true
    (composed_two _ _ _ _ c.in-Some.ensures _ _ c.in-And.is)

pub returns-else-has_composed : goal.returns-else-has_composed
returns-else-has_composed t c =
    or_second (rw c.operand-in-And.ensures at c.has_composed-in-And.ensures) c.if-has_composed.false
    (rw c.operand-else-has_composed.ensures at c.has_composed-else-has_composed.ensures)
    (composed_two _ _ _ _ c.in-Some.ensures _ _ c.in-And.is)
