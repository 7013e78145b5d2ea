use mathlib.Core.Path.{◌≡◌, refl}
use Prim.Native.Nat.{ℕ, ◌+◌, ◌*◌, ◌%◌, ◌^◌}
use native.Mathlib.Omega.{arith}
use Rattle.domino_initial.proofs.Dropping.{labels_words}
use Rattle.domino_settling.proofs.Converses.{word-place, in_none, in_on, in_past, word_empty}
use Rattle.domino_settling.proofs.matching.Matching.match_words.Goals.{then-self-start-ne0, else-self-start-ne0}
use Rattle.domino_settling.proofs.matching.Matching.match_words.Goals as goal

pub loop-i-init : goal.loop-i-init
loop-i-init c = in_none _ _ _ refl

pub bounds-self-start : goal.bounds-self-start
bounds-self-start c = (word-place c.args.self.now.run _ c.loop-i.i _ c.args.self.now.room c.requires (omega arith) c.loop-i.invariant.long).0

pub match_word-moved-requires : goal.match_word-moved-requires
match_word-moved-requires c =
    let w = word-place c.args.self.now.run _ c.loop-i.i _ c.args.self.now.room c.requires (omega arith) refl in
    rw (c.loop-i.invariant.run) (omega (arith, w), omega (arith, w))

pub loop-i-preserved : goal.loop-i-preserved
loop-i-preserved c = let k : ℕ = c.loop-i.i * 2 ^ 6 % 2 ^ 64 in
    let w = word-place c.args.self.now.run _ c.loop-i.i _ c.args.self.now.room c.requires (omega arith) refl in
    let s : k ≡ 64 * c.loop-i.i = w.3 in
    let t : 64 * c.loop-i.i ≡ k = omega arith in
    let e : 64 * (c.loop-i.i + 1) ≡ k + 64 = omega arith in
    rw e (elim c.if-self-start-ne0.branch [
      | then-self-start-ne0 w ↦ rw (w.self-is, w.moved-is)
          (in_on _ _ _ _ _ _ _ c.loop-i.invariant t _ _ w.match_word-moved.ensures)
      | else-self-start-ne0 u ↦ rw (u.self-is, u.moved-is)
          (in_past _ _ _ _ _ _ _ c.loop-i.invariant t (word_empty _ _ c.loop-i.i k w.2 s u.if-self-start-ne0.false))
    ])

pub returns : goal.returns
returns c = let e : 2 ^ c.args.self.now.run.size.parts ≡ 64 * c.loop-i.i =
    omega (arith, labels_words c.args.self.now.run.size.parts _ c.requires c.pow-i-end.ensures) in
    rw e c.loop-i.invariant
