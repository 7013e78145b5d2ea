-- What a strike tells, and that settle, judge and lists of calls leave what the test without a number leaves (02, N2). Proved in
-- proofs/Reasons.antt.
use Rattle.std.specs.Prelude.{ℕ, ◌≤◌, ◌<◌, ◌≡◌, Bool, true, false, not, List, [], ◌∷◌, eqb}
use Rattle.bitset.specs.Bits.{Set, look}
use Rattle.elimination.specs.Calls.{Call, run_with, strike_words, settle_words, act_words}
use Rattle.syntax.specs.Bounds.{All}
use Rattle.syntax.specs.Reading.{Reading}
use Rattle.semantics.specs.Conditions.{View, order, FirstFails, dominoes, defective, condition_at, defect_at, held}
use Rattle.domino.specs.Answers.{open_leaves, strike_says, strike_leaves, settle_leaves, judge_leaves}
use Rattle.domino.specs.Demanded.{StableWords, calls_leave}

-- what strike says of a number: "Absent, not in the set; Struck, in it and loose, and now out; Kept, in it and not loose"
abbrev pub absent : ℕ → List ℕ
absent n = 0 ∷ 0 ∷ n ∷ 0 ∷ []

abbrev pub struck : ℕ → ℕ → List ℕ
struck condition n = 0 ∷ 0 ∷ n ∷ 1 ∷ condition ∷ []

abbrev pub kept : ℕ → List ℕ
kept n = 0 ∷ 0 ∷ n ∷ 2 ∷ []

-- ---- for a sheet that is read as s, its view v, and words ws that are enough

-- of a number n below 2^(2c+2L)
pub record Tells (s : Reading) (v : View) (ws : List ℕ) (n : ℕ) : Type 0 where
  pub absent_if : look ws n ≡ false → strike_says s n ws ≡ absent n
  -- "the number, 1 to 6, of the first condition that fails in 01's order, and Struck carries it"; N8: "N2's numbers gain 7"
  pub struck_if : (k : ℕ) → look ws n ≡ true → FirstFails (condition_at v (look ws) n) order k → strike_says s n ws ≡ struck k n
  pub kept_if : look ws n ≡ true → All (λ (k : ℕ). condition_at v (look ws) n k ≡ true) order → strike_says s n ws ≡ kept n
  -- and in no other case
  pub absent_means : strike_says s n ws ≡ absent n → look ws n ≡ false
  pub struck_means : (k : ℕ) → strike_says s n ws ≡ struck k n
      → (look ws n ≡ true) × FirstFails (condition_at v (look ws) n) order k × (1 ≤ k) × (k ≤ 7)
  pub kept_means : strike_says s n ws ≡ kept n → (look ws n ≡ true) × All (λ (k : ℕ). condition_at v (look ws) n k ≡ true) order

-- is the number of the first failing condition other than 0
abbrev pub fails_some : View → Set → ℕ → Bool
fails_some v S n = not (eqb (defect_at v S n) 0)

-- "Settle and judge use the same test and must be shown to leave what they left."
pub record AsBefore (s : Reading) (v : View) (ws : List ℕ) : Type 0 where
  -- a domino is defective exactly if its number is not 0
  pub test : (S : Set) (n : ℕ) → defective v S n ≡ fails_some v S n
  pub strikes : (n : ℕ) → strike_leaves s n ws ≡ strike_words (dominoes v) (fails_some v) n ws
  pub settles : settle_leaves s ws ≡ settle_words (held v) (dominoes v) (fails_some v) ws
  pub judges : judge_leaves s ws ≡ settle_words (held v) (dominoes v) (fails_some v) (open_leaves s ws)
  -- "The resting-set rule now covers these strikes.": a list of them leaves the words of which demand 3 speaks
  pub calls : (cs : List Call) → calls_leave s cs ws ≡ run_with (act_words (held v) (dominoes v) (fails_some v)) cs (open_leaves s ws)

-- how the answers tell a set at rest
pub record Resting (s : Reading) (v : View) (ws : List ℕ) : Type 0 where
  -- "A set is at rest if no pairing in it is loose in it": exactly if no strike says Struck
  pub no_strike : StableWords v ws → (n k : ℕ) → strike_says s n ws ≡ struck k n → ⊥
  pub at_rest : ((n k : ℕ) → n < dominoes v → strike_says s n ws ≡ struck k n → ⊥) → StableWords v ws
  -- "The opening set is all pairings that meet 1 to 3.", and 7: a strike in a list of calls from there on is by 4, 5 or 6
  pub later : (cs : List Call) (n k : ℕ) → strike_says s n (calls_leave s cs ws) ≡ struck k n → (4 ≤ k) × (k ≤ 6)
