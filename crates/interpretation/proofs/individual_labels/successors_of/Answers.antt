use mathlib.Core.Path.{refl}
use native.Mathlib.Omega.{arith}
use Rattle.interpretation.proofs.Successions.{successors_none, successors_word}
use Rattle.interpretation.proofs.individual_labels.successors_of.Goals as goal

pub loop-from-init : goal.loop-from-init
loop-from-init c = (
  successors_none _ _ _ c.default-successors.ensures.0 c.default-successors.ensures.1,
  omega arith,
  λ h. refl,
)

pub loop-from-preserved : goal.loop-from-preserved
loop-from-preserved c =
    let i = c.loop-from.invariant in
    let m = c.min-to.ensures in
    let t = c.loop-from-test.true in
    let z = i.2 t in (
      successors_word _ _ _ _ _ i.0 z (omega (arith, m, t)) (omega (arith, m)) c.if-row-from-ne0.false c.if-tables-ne0.false,
      omega (arith, m),
      λ h. omega (arith, m, z, h),
    )
