use mathlib.Core.Path.{◌≡◌}
use Prim.Native.Nat.{◌^◌}
use native.Mathlib.Omega.{arith}
use Rattle.domino_labels.proofs.ThinnedLaws.{lent_none, lent_on}
use Rattle.domino_labels.proofs.live.Thinning.thin.Goals as goal

pub loop-a-init : goal.loop-a-init
loop-a-init c = lent_none _

pub loop-a-preserved : goal.loop-a-preserved
loop-a-preserved c = lent_on _ _ _ _ _ _ c.loop-a.invariant c.thin_label-moved.ensures

pub returns : goal.returns
returns c = let e : 2 ^ c.args.self.now.fitting.now.base.now.size.parts ≡ c.loop-a.a = omega (arith, c.labels-a-end.ensures) in
    rw e c.loop-a.invariant
