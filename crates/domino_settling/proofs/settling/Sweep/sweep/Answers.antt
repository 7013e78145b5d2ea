use mathlib.Core.Path.{◌≡◌}
use Prim.Native.Nat.{◌^◌}
use native.Mathlib.Omega.{arith}
use Rattle.domino_conditions.proofs.Rows.{last_row}
use Rattle.domino_settling.proofs.Sweeps.{swept-first, swept_on}
use Rattle.domino_settling.proofs.settling.Sweep.sweep.Goals as goal

pub loop-a-init : goal.loop-a-init
loop-a-init c = swept-first _

pub loop-a-preserved : goal.loop-a-preserved
loop-a-preserved c = swept_on _ _ _ _ _ _ c.loop-a.invariant c.sweep_row-moved.ensures

pub returns : goal.returns
returns c = let e : 2 ^ c.args.self.now.base.now.size.parts ≡ c.loop-a.a = omega (arith, c.labels-a-end.ensures) in
    rw (← last_row c.args.self.now.base.now.size.parts c.args.self.now.base.now.size.roles, e) c.loop-a.invariant
