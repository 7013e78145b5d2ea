use mathlib.Core.Path.{◌≡◌, refl}
use Prim.Native.Nat.{ℕ, ◌+◌, ◌*◌, ◌%◌, ◌^◌}
use native.Mathlib.Omega.{arith}
use Rattle.domino_settling.proofs.Converses.{run_place, in_none, in_on, in_past, byte_empty}
use Rattle.domino_settling.proofs.matching.Matching.match_word.Goals.{then-self-j-ne0, else-self-j-ne0}
use Rattle.domino_settling.proofs.matching.Matching.match_word.Goals as goal

pub overflow_add-j : goal.overflow_add-j
overflow_add-j c = omega (arith, (run_place c.args.self.now.run _ c.args.self.now.room c.args.from (omega arith) _ refl).1)

pub loop-i-init : goal.loop-i-init
loop-i-init c = in_none _ _ _ (omega arith)

pub bounds-self-j : goal.bounds-self-j
bounds-self-j c = (run_place c.args.self.now.run _ c.args.self.now.room c.args.from (omega arith) _ c.loop-i.invariant.long).0

pub loop-i-preserved : goal.loop-i-preserved
loop-i-preserved c = let k : ℕ = c.loop-i.i * 2 ^ 3 % 2 ^ 64 in
    let s : k ≡ 8 * c.loop-i.i = omega arith in
    let t : c.args.from + 8 * c.loop-i.i ≡ c.args.from + k = omega arith in
    let e : c.args.from + 8 * (c.loop-i.i + 1) ≡ c.args.from + k + 8 = omega arith in
    rw e (elim c.if-self-j-ne0.branch [
      | then-self-j-ne0 w ↦ rw (w.self-is, w.moved-is)
          (in_on _ _ _ _ _ _ _ c.loop-i.invariant t _ _ w.match_some-moved.ensures)
      | else-self-j-ne0 w ↦ rw (w.self-is, w.moved-is)
          (in_past _ _ _ _ _ _ _ c.loop-i.invariant t
          (byte_empty _ _ _ c.loop-i.i k c.requires.1 (omega arith) s w.if-self-j-ne0.false))
    ])
