-- What open, strike, settle and judge say and leave, spelt out: of a sheet that is refused and of one that is read. Each equation
-- is its definition.
use Prim.Native.Nat.{ℕ}
use mathlib.Core.Path.{◌≡◌, refl}
use mathlib.Core.Bool.{cond}
use mathlib.Core.List.{List, [], ◌∷◌}
use lib.Dec.{eqb, ltb}
use Rattle.bitset.specs.Bits.{look, size}
use Rattle.elimination.specs.Elimination.{settled}
use Rattle.elimination.specs.Calls.{written, strike_words, settle_words}
use Rattle.syntax.specs.Reading.{Kb, refusal, kb}
use Rattle.semantics.specs.Conditions.{dominoes, initial, defective, canon, held}
use Rattle.semantics.specs.Views.{kb_view}
use Rattle.domino.specs.Answers.{is_short, on_set, says_on_set, leaves_on_set, verdict_numbers, verdict_of, open_says, open_leaves, strike_says, strike_leaves, settle_says, settle_leaves, judge_says, judge_leaves}

module _ (ws : List ℕ) (n p : ℕ) where
  pub open_says-refusal : open_says (refusal n p) ws ≡ n ∷ p ∷ []
  unfolding open_says says_on_set on_set
  open_says-refusal = refl

  pub open_leaves-refusal : open_leaves (refusal n p) ws ≡ ws
  unfolding open_leaves leaves_on_set on_set
  open_leaves-refusal = refl

  pub strike-says-refusal : (i : ℕ) → strike_says (refusal n p) i ws ≡ n ∷ p ∷ []
  unfolding strike_says says_on_set on_set
  strike-says-refusal i = refl

  pub strike-leaves-refusal : (i : ℕ) → strike_leaves (refusal n p) i ws ≡ ws
  unfolding strike_leaves leaves_on_set on_set
  strike-leaves-refusal i = refl

  pub settle-says-refusal : settle_says (refusal n p) ws ≡ n ∷ p ∷ []
  unfolding settle_says says_on_set on_set
  settle-says-refusal = refl

  pub settle-leaves-refusal : settle_leaves (refusal n p) ws ≡ ws
  unfolding settle_leaves leaves_on_set on_set
  settle-leaves-refusal = refl

  pub judge_says-refusal : judge_says (refusal n p) ws ≡ n ∷ p ∷ []
  unfolding judge_says says_on_set on_set
  judge_says-refusal = refl

  pub judge_leaves-refusal : judge_leaves (refusal n p) ws ≡ ws
  unfolding judge_leaves leaves_on_set on_set
  judge_leaves-refusal = refl

module _ (ws : List ℕ) (k : Kb) where
  pub open_says-read : open_says (kb k) ws
      ≡ cond (is_short k ws) (10 ∷ 0 ∷ []) (0 ∷ 0 ∷ size (dominoes (kb_view k)) (initial (kb_view k)) ∷ [])
  unfolding open_says says_on_set on_set
  open_says-read = refl

  pub open_leaves-read : open_leaves (kb k) ws
      ≡ cond (is_short k ws) ws (written (held (kb_view k)) (dominoes (kb_view k)) (initial (kb_view k)) ws)
  unfolding open_leaves leaves_on_set on_set
  open_leaves-read = refl

  pub strike-says-read : (n : ℕ) → strike_says (kb k) n ws
      ≡ cond (is_short k ws) (10 ∷ 0 ∷ [])
      (cond (ltb n (dominoes (kb_view k))) (0 ∷ 0 ∷ n ∷ verdict_numbers (verdict_of (kb_view k) (look ws) n)) (11 ∷ 0 ∷ []))
  unfolding strike_says says_on_set on_set
  strike-says-read n = refl

  pub strike-leaves-read : (n : ℕ) → strike_leaves (kb k) n ws
      ≡ cond (is_short k ws) ws (strike_words (dominoes (kb_view k)) (defective (kb_view k)) n ws)
  unfolding strike_leaves leaves_on_set on_set
  strike-leaves-read n = refl

  pub settle-says-read : settle_says (kb k) ws
      ≡ cond (is_short k ws) (10 ∷ 0 ∷ [])
      (0 ∷ 0 ∷ size (dominoes (kb_view k)) (settled (dominoes (kb_view k)) (defective (kb_view k)) (look ws)) ∷ [])
  unfolding settle_says says_on_set on_set
  settle-says-read = refl

  pub settle-leaves-read : settle_leaves (kb k) ws
      ≡ cond (is_short k ws) ws (settle_words (held (kb_view k)) (dominoes (kb_view k)) (defective (kb_view k)) ws)
  unfolding settle_leaves leaves_on_set on_set
  settle-leaves-read = refl

  pub judge_says-read : judge_says (kb k) ws
      ≡ cond (is_short k ws) (10 ∷ 0 ∷ [])
      (0 ∷ 0 ∷ size (dominoes (kb_view k)) (initial (kb_view k)) ∷ size (dominoes (kb_view k)) (canon (kb_view k))
      ∷ cond (eqb (size (dominoes (kb_view k)) (canon (kb_view k))) 0) 0 1 ∷ [])
  unfolding judge_says says_on_set on_set
  judge_says-read = refl

  pub judge_leaves-read : judge_leaves (kb k) ws
      ≡ cond (is_short k ws) ws (written (held (kb_view k)) (dominoes (kb_view k)) (canon (kb_view k)) ws)
  unfolding judge_leaves leaves_on_set on_set
  judge_leaves-read = refl
