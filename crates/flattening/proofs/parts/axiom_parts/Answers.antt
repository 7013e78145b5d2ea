-- The invariant: the axioms of the records before i are gone through.
use Rattle.std.proofs.Common.{arith}
use Rattle.flattening.proofs.QueueParts.{axioms_none, axioms_more, axioms_over, axioms_all}
use Rattle.flattening.proofs.parts.axiom_parts.Goals as goal

pub loop-i-init : goal.loop-i-init
loop-i-init g c = axioms_none _ _

pub returns-in_err-axiom_at : goal.returns-in_err-axiom_at
returns-in_err-axiom_at g c = axioms_over _ _ _ _ c.loop-i.invariant _ _ c.from_residual.ensures.0 c.in_err-axiom_at.ensures

pub loop-i-preserved : goal.loop-i-preserved
loop-i-preserved g c = axioms_more _ _ _ _ c.loop-i.invariant _ c.in_ok-axiom_at.ensures

pub returns : goal.returns
returns g c = axioms_all _ _ _ (omega (arith, c.len-i-end.ensures.value, c.loop-i-test.false)) _ c.loop-i.invariant
