-- Record i by its node.
use Rattle.std.proofs.Common.{arith}
use Rattle.std.proofs.lemmas.Grind.{common_steps}
use Rattle.owl_export.proofs.Beyond.{calls_axiom, calls_inclusion, calls_other, calls_past, or_first, or_second}
use Rattle.owl_export.proofs.composed.calls_for_20.Goals as goal

pub returns-in_default : goal.returns-in_default
returns-in_default c = calls_past _ _ c.in_default.ensures

pub returns-in-RoleInclusion : goal.returns-in-RoleInclusion
returns-in-RoleInclusion c = calls_inclusion _ _ _ c.in-Some.ensures _ _ c.in-RoleInclusion.is

pub returns-in_default-node : goal.returns-in_default-node
returns-in_default-node c = calls_other c.args.table.now c.args.i (grind (arith, common_steps)) (grind (arith, common_steps))

pub returns-then-has_composed : goal.returns-then-has_composed
returns-then-has_composed c =
    or_first _ (rw c.operand.ensures at c.has_composed.ensures) c.if-has_composed.true (calls_axiom _ _ _ c.in-Some.ensures _ _ c.in-Axiom.is)

pub returns-else-has_composed : goal.returns-else-has_composed
returns-else-has_composed c =
    or_second (rw c.operand.ensures at c.has_composed.ensures) c.if-has_composed.false
    (rw c.operand-else-has_composed.ensures at c.has_composed-else-has_composed.ensures) (calls_axiom _ _ _ c.in-Some.ensures _ _ c.in-Axiom.is)
