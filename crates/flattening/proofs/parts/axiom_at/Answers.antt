-- An axiom is (not left) or right; any other record puts nothing on the queue.
use Rattle.flattening.proofs.QueueParts.{axiom_past, axiom_other, axiom_adds, axiom_over}
use Rattle.flattening.proofs.parts.axiom_at.Goals as goal

pub returns-in_default : goal.returns-in_default
returns-in_default g c = axiom_past _ _ _ c.in_default.ensures

pub returns-in_default-node : goal.returns-in_default-node
returns-in_default-node g c = axiom_other _ _ _ _ c.in-Some.ensures c.in_default-node.not-Axiom

pub returns-in_err-negated_parts : goal.returns-in_err-negated_parts
returns-in_err-negated_parts g c =
    axiom_over _ _ _ _ c.in-Some.ensures _ _ c.in-Axiom.is _ _ c.from_residual.ensures.0
    (rw c.from.ensures at c.in_err-negated_parts.ensures)

pub returns : goal.returns
returns g c =
    axiom_adds _ _ _ _ c.in-Some.ensures _ _ c.in-Axiom.is _ _ _ _
    (rw c.from.ensures at c.in_ok-negated_parts.ensures) (rw c.from-2.ensures at c.plain_parts.ensures)
