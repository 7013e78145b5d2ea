use mathlib.Core.Path.{refl, sym as flip, ap}
use Prim.Native.Nat.{ℕ, ◌+◌}
use native.Mathlib.Nat.{add-zero}
use native.Mathlib.Omega.{arith}
use Rattle.domino_settling.proofs.Passed.{pass-at, pass_empty}
use Rattle.domino_settling.proofs.Converses.{part_place, in_run}
use Rattle.domino_settling.proofs.matching.Matching.match_all.Goals as goal

pub part_empty-requires : goal.part_empty-requires
part_empty-requires c = part_place c.args.self.now.run _ _ c.args.self.now.room (omega arith) c.labels-count.ensures

pub returns-then-part_empty : goal.returns-then-part_empty
returns-then-part_empty c = in_run _ _ refl refl (record {
  long = refl;
  passed = λ v p q. pass-at v _ _ _ _ _ _ _ _ (flip (add-zero _))
      (ap (λ (x : ℕ). c.args.self.now.run.at + x) c.labels-count.ensures) (pass_empty v _ _ _ _ (c.part_empty.ensures c.if-part_empty.true));
})
