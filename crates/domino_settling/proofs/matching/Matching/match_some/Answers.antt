use mathlib.Core.Bool.{false≢true}
use mathlib.Core.Path.{refl, sym as flip, ap, ◌∙◌}
use Prim.Native.Nat.{◌^◌, ◌<◌}
use native.Mathlib.Omega.{arith}
use Rattle.bitset.specs.Bits.{look}
use Rattle.domino_settling.proofs.Converses.{run_place, converse_place, matched_none, match_stay, match_clear}
use Rattle.domino_settling.proofs.matching.Matching.match_some.Goals.{then-member+then-not-member, else-member, else-member-via-then-member+else-not-member, else-member-via-else-member}
use Rattle.domino_settling.proofs.matching.Matching.match_some.Goals as goal

pub loop-b-init : goal.loop-b-init
loop-b-init c = matched_none _ _ _ _ _ refl

pub overflow_add-n : goal.overflow_add-n
overflow_add-n c = omega (arith, (run_place c.args.self.now.run _ c.args.self.now.room c.loop-b.b (omega arith) _ refl).1)

pub member-requires : goal.member-requires
member-requires c = (run_place c.args.self.now.run _ c.args.self.now.room c.loop-b.b (omega arith) _ c.loop-b.invariant.long).0

pub member-requires-then-member : goal.member-requires-then-member
member-requires-then-member c = converse_place c.args.self.now.run _ c.args.self.now.room c.loop-b.b (omega arith) _ _ c.index.ensures c.loop-b.invariant.long

pub loop-b-preserved : goal.loop-b-preserved
loop-b-preserved c = let lb : c.loop-b.b < 2 ^ c.args.self.now.run.size.parts = omega arith in
    elim c.if-member.branch [
      | then-member+then-not-member w ↦ rw (w.set-is, w.moved-is, w.clear.ensures)
          (match_clear c.args.self.now.run _ c.args.self.now.room c.loop-b.b lb _ _ _ _ refl (flip c.member.ensures ∙ w.if-member.true)
          (ap (look c.loop-b.set) (flip w.index.ensures) ∙ flip w.member-then-member.ensures ∙ w.if-not-member.true) c.loop-b.invariant)
      | else-member w ↦ rw (w.set-is, w.moved-is)
          (match_stay c.args.self.now.run _ c.args.self.now.room c.loop-b.b lb _ _ _ _
          (λ q. elim w.else-member.branch [
            | else-member-via-then-member+else-not-member u ↦
                ap (look c.loop-b.set) (flip u.index.ensures) ∙ flip u.member-then-member.ensures ∙ u.if-not-member.false
            | else-member-via-else-member u ↦ absurd (false≢true (flip u.if-member.false ∙ c.member.ensures ∙ q))
          ]) c.loop-b.invariant)
    ]
