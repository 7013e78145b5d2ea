-- What open, strike, settle and judge say and leave where the sheet is read and the words are enough, and stable sets of words.
use mathlib.Core.Path.{◌≡◌, sym as flip, ap, ◌∙◌}
use mathlib.Core.Bool.{cond}
use mathlib.Core.List.{List, [], ◌∷◌}
use Prim.Native.Nat.{ℕ, ◌+◌, ◌*◌, ◌≤◌, ◌<◌}
use native.Mathlib.Omega.{arith}
use lib.Dec.{T, eqb, T_not, eqb→eq}
use lib.ListN.{length, take}
use lib.Pow.{pow_pos}
use borrow.Author.Tests.{lt-ltb, le-ltb, eq-eqb}
use Rattle.bitset.specs.Bits.{Set, look, are_words, size, ones_of}
use Rattle.bitset.proofs.Facts.{either, T_of, is_true, of_true}
use Rattle.bitset.proofs.RunLaws.{words-room}
use Rattle.elimination.specs.Elimination.{is_stable, settled}
use Rattle.elimination.specs.Calls.{written, strike_words, settle_words}
use Rattle.elimination.proofs.Settling.{stable-at, stable-by}
use Rattle.elimination.proofs.Written.{written-ones}
use Rattle.syntax.specs.Reading.{Kb, kb}
use Rattle.semantics.specs.Conditions.{View, dominoes, initial, defective, defect_at, canon, held}
use Rattle.semantics.specs.Views.{kb_view}
use Rattle.semantics.proofs.Defects.{defective-is}
use Rattle.domino.specs.Answers.{verdict_numbers, verdict_of, open_says, open_leaves, strike_says, strike_leaves, settle_says, settle_leaves, judge_says, judge_leaves}
use Rattle.domino.specs.Demanded.{StableWords}
use Rattle.domino.proofs.OnSet.{says-enough, leaves-enough}

-- ---- the words needed

module _ (v : View) where
  -- "but at least 1"
  pub held-some : 1 ≤ held v
  held-some = omega (arith, pow_pos (2 * v.parts + 2 * v.roles))

-- ---- a sheet that is read, and words enough

module _ (k : Kb) (ws : List ℕ) (enough : held (kb_view k) ≤ length ws) where
  pub open_says_lem : open_says (kb k) ws ≡ 0 ∷ 0 ∷ size (dominoes (kb_view k)) (initial (kb_view k)) ∷ []
  unfolding open_says
  open_says_lem = says-enough _ ws k enough

  pub open_leaves_lem : open_leaves (kb k) ws ≡ written (held (kb_view k)) (dominoes (kb_view k)) (initial (kb_view k)) ws
  unfolding open_leaves
  open_leaves_lem = leaves-enough _ ws k enough

  pub strike-says : (n : ℕ) → n < dominoes (kb_view k)
      → strike_says (kb k) n ws ≡ 0 ∷ 0 ∷ n ∷ verdict_numbers (verdict_of (kb_view k) (look ws) n)
  unfolding strike_says
  strike-says n h = rw (says-enough _ ws k enough, lt-ltb n (dominoes (kb_view k)) h)

  pub strike-beyond : (n : ℕ) → dominoes (kb_view k) ≤ n → strike_says (kb k) n ws ≡ 11 ∷ 0 ∷ []
  unfolding strike_says
  strike-beyond n h = rw (says-enough _ ws k enough, le-ltb n (dominoes (kb_view k)) h)

  pub strike-leaves : (n : ℕ) → strike_leaves (kb k) n ws ≡ strike_words (dominoes (kb_view k)) (defective (kb_view k)) n ws
  unfolding strike_leaves
  strike-leaves n = leaves-enough _ ws k enough

  pub settle-says : settle_says (kb k) ws
      ≡ 0 ∷ 0 ∷ size (dominoes (kb_view k)) (settled (dominoes (kb_view k)) (defective (kb_view k)) (look ws)) ∷ []
  unfolding settle_says
  settle-says = says-enough _ ws k enough

  pub settle-leaves : settle_leaves (kb k) ws ≡ settle_words (held (kb_view k)) (dominoes (kb_view k)) (defective (kb_view k)) ws
  unfolding settle_leaves
  settle-leaves = leaves-enough _ ws k enough

  pub judge_says_lem : judge_says (kb k) ws
      ≡ 0 ∷ 0 ∷ size (dominoes (kb_view k)) (initial (kb_view k)) ∷ size (dominoes (kb_view k)) (canon (kb_view k))
      ∷ cond (eqb (size (dominoes (kb_view k)) (canon (kb_view k))) 0) 0 1 ∷ []
  unfolding judge_says
  judge_says_lem = says-enough _ ws k enough

  pub judge_leaves_lem : judge_leaves (kb k) ws ≡ written (held (kb_view k)) (dominoes (kb_view k)) (canon (kb_view k)) ws
  unfolding judge_leaves
  judge_leaves_lem = leaves-enough _ ws k enough

-- the ones in words that a set was written to are as many as it has members
pub ones-left : (v : View) (D : Set) (ws us : List ℕ) → us ≡ written (held v) (dominoes v) D ws → T (are_words ws)
    → held v ≤ length ws → size (dominoes v) D ≡ ones_of (take (held v) us)
ones-left v D ws us e t h =
    flip (ap (λ (l : List ℕ). ones_of (take (held v) l)) e ∙ written-ones (held v) (dominoes v) D ws (words-room (dominoes v)) t h)

-- ---- stable sets of words

module _ (v : View) (ws : List ℕ) where
  pub stable-words : T (is_stable (dominoes v) (defective v) (look ws)) → StableWords v ws
  unfolding StableWords
  stable-words r n h t =
      either (eqb (defect_at v (look ws) n) 0) (eqb→eq (defect_at v (look ws) n) 0)
      (λ u. absurd (stable-at (dominoes v) (defective v) (look ws) r n h (of_true t) (T_of (flip (defective-is v (look ws) n)) u)))

  pub words-stable : StableWords v ws → T (is_stable (dominoes v) (defective v) (look ws))
  unfolding StableWords
  words-stable r =
      stable-by (dominoes v) (defective v) (look ws)
      (λ n h t u. T_not (eqb (defect_at v (look ws) n) 0) (T_of (defective-is v (look ws) n) u)
      (of_true (eq-eqb _ _ (r n h (is_true (look ws n) t)))))
