use mathlib.Core.Path.{◌≡◌, refl}
use Prim.Native.Nat.{◌*◌, ◌^◌}
use borrow.Author.Rules.{rules}
use native.Mathlib.Omega.{arith}
use Rattle.domino_conditions.proofs.Rows.{last_run}
use Rattle.domino_settling.proofs.Converses.{matched_none, matched_on, matched_run, matched_as}
use Rattle.domino_settling.proofs.matching.Matching.match_row.Goals as goal

pub loop-r-init : goal.loop-r-init
loop-r-init c = matched_none _ _ _ _ _ refl

pub loop-r-preserved : goal.loop-r-preserved
loop-r-preserved c = matched_on _ _ _ _ _ _ _ _ _ _ _ c.loop-r.invariant refl
    (matched_run _ _ _ _ _ _ _ c.new-run.ensures (matched_as _ _ _ _ _ _ (search rules) c.match_all-moved.ensures))

pub returns : goal.returns
returns c = let e : 2 ^ (2 * c.args.size.roles) ≡ c.loop-r.r = omega (arith, c.role_sets-r-end.ensures) in
    rw (← last_run c.args.size.parts c.args.size.roles c.args.a, e) c.loop-r.invariant.passed
