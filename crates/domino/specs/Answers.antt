-- What open, strike, settle and judge answer and leave (01, "The calls, and what each refuses").
use Rattle.std.specs.Prelude.{ℕ, ◌≡◌, Bool, cond, ◌||◌, List, [], ◌∷◌, eqb, ltb, length, Result}
use Rattle.bitset.specs.Bits.{Set, look, size}
use Rattle.elimination.specs.Elimination.{settled}
use Rattle.elimination.specs.Calls.{written, strike_words, settle_words}
use Rattle.syntax.specs.Reading.{Kb, Reading, refusal, kb, is_read_refusal}
use Rattle.semantics.specs.Conditions.{View, dominoes, initial, defective, defect_at, canon, held}
use Rattle.semantics.specs.Views.{kb_view}
use Rattle.refusals.specs.Numbers.{numbers_of}
use Rattle.refusals.specs.declared.Refusal.{Refusal}
use Rattle.domino_conditions.specs.Tables.{condition_number}
use Rattle.domino_labels.specs.declared.judging.Judgement.{Judgement}
use Rattle.domino_labels.specs.Judging.{met}
use Rattle.domino.specs.declared.Verdict.{Verdict as CodeVerdict}
use Rattle.domino.specs.declared.Verdict.TheVariants.{Absent as IsAbsent, Struck as IsStruck, Kept as IsKept}
use Rattle.domino.specs.declared.Outcome.{Outcome}

-- strike: "Absent, not in the set; Struck, in it and loose, and now out; Kept, in it and not loose"; with 02, N2, the number of the
-- condition that a struck domino failed
pub data Verdict : Type 0 where
  Absent : Verdict
  Struck : ℕ → Verdict
  Kept : Verdict

-- the code's, with the condition's number
abbrev pub verdict_is : CodeVerdict → Verdict
verdict_is IsAbsent = Absent
verdict_is (IsStruck c) = Struck (condition_number c)
verdict_is IsKept = Kept

-- a verdict's number, then the condition that a struck domino failed
abbrev pub verdict_numbers : Verdict → List ℕ
verdict_numbers Absent = 0 ∷ []
verdict_numbers (Struck condition) = 1 ∷ condition ∷ []
verdict_numbers Kept = 2 ∷ []

-- document 01's number and values for each case of an answer: the refusal's number (0 for none), its place, then the values
abbrev pub open_numbers : Result ℕ Refusal → List ℕ
open_numbers = numbers_of (λ size. size ∷ [])

abbrev pub strike_numbers : Result Outcome Refusal → List ℕ
strike_numbers = numbers_of (λ s. s.number ∷ verdict_numbers (verdict_is s.verdict))

abbrev pub settle_numbers : Result ℕ Refusal → List ℕ
settle_numbers = numbers_of (λ survivors. survivors ∷ [])

abbrev pub judge_numbers : Result Judgement Refusal → List ℕ
judge_numbers = numbers_of (λ j. j.opening ∷ j.survivors ∷ cond (met j) 1 0 ∷ [])

-- "10, set too short"
abbrev pub is_short : Kb → List ℕ → Bool
is_short k ws = ltb (length ws) (held (kb_view k))

-- A call on a set of so many words, of a sheet read as s: "refuses as read does, then 10, set too short"; else the call's own part.
-- What a refusal comes to is `refuse`, of its number and place.
unfoldable pub on_set : {A : Type 0} → (ℕ → ℕ → A) → (Kb → A) → Reading → ℕ → A
on_set refuse own (refusal n p) words = refuse n p
on_set refuse own (kb k) words = cond (ltb words (held (kb_view k))) (refuse 10 0) (own k)

-- the numbers it refuses with
unfoldable pub is_set_refusal : ℕ → Bool
is_set_refusal n = is_read_refusal n || eqb n 10

-- what such a call says: a refusal's number and place, or what the call says of the knowledge base and the words
unfoldable pub says_on_set : (Kb → List ℕ → List ℕ) → Reading → List ℕ → List ℕ
says_on_set own s ws = on_set (λ n p. n ∷ p ∷ []) (λ k. own k ws) s (length ws)

-- what it leaves: "A refusal writes nothing to any buffer"
unfoldable pub leaves_on_set : (Kb → List ℕ → List ℕ) → Reading → List ℕ → List ℕ
leaves_on_set own s ws = on_set (λ n p. ws) (λ k. own k ws) s (length ws)

-- open: "It writes the opening set and answers its size."
unfoldable pub open_says : Reading → List ℕ → List ℕ
open_says = says_on_set (λ k ws. 0 ∷ 0 ∷ size (dominoes (kb_view k)) (initial (kb_view k)) ∷ [])

unfoldable pub open_leaves : Reading → List ℕ → List ℕ
open_leaves = leaves_on_set (λ k ws. written (held (kb_view k)) (dominoes (kb_view k)) (initial (kb_view k)) ws)

-- 02, N2: the number "of the first condition that fails in 01's order, and Struck carries it"
unfoldable pub verdict_of : View → Set → ℕ → Verdict
verdict_of v D n = cond (D n) (cond (eqb (defect_at v D n) 0) Kept (Struck (defect_at v D n))) Absent

-- strike "refuses as read does, then 10, then 11, number not below 2^(2c+2L)"
unfoldable pub is_strike_refusal : ℕ → Bool
is_strike_refusal n = is_set_refusal n || eqb n 11

unfoldable pub strike_says : Reading → ℕ → List ℕ → List ℕ
strike_says s n = says_on_set (λ k ws. cond (ltb n (dominoes (kb_view k)))
    (0 ∷ 0 ∷ n ∷ verdict_numbers (verdict_of (kb_view k) (look ws) n)) (11 ∷ 0 ∷ [])) s

unfoldable pub strike_leaves : Reading → ℕ → List ℕ → List ℕ
strike_leaves s n = leaves_on_set (λ k ws. strike_words (dominoes (kb_view k)) (defective (kb_view k)) n ws) s

-- settle: "It leaves the largest subset of the set that has nothing loose."
unfoldable pub settle_says : Reading → List ℕ → List ℕ
settle_says = says_on_set (λ k ws. 0 ∷ 0 ∷ size (dominoes (kb_view k)) (settled (dominoes (kb_view k)) (defective (kb_view k)) (look ws)) ∷ [])

unfoldable pub settle_leaves : Reading → List ℕ → List ℕ
settle_leaves = leaves_on_set (λ k ws. settle_words (held (kb_view k)) (dominoes (kb_view k)) (defective (kb_view k)) ws)

-- judge: "It opens and settles, and answers the opening size, the survivor count, and met or unmet." 02, N5: "13 is withdrawn"
unfoldable pub judge_says : Reading → List ℕ → List ℕ
judge_says = says_on_set (λ k ws. 0 ∷ 0 ∷ size (dominoes (kb_view k)) (initial (kb_view k)) ∷ size (dominoes (kb_view k)) (canon (kb_view k))
    ∷ cond (eqb (size (dominoes (kb_view k)) (canon (kb_view k))) 0) 0 1 ∷ [])

unfoldable pub judge_leaves : Reading → List ℕ → List ℕ
judge_leaves = leaves_on_set (λ k ws. written (held (kb_view k)) (dominoes (kb_view k)) (canon (kb_view k)) ws)

-- the contracts: for a sheet read as s
pub record Opens (s : Reading) (before after : List ℕ) (r : Result ℕ Refusal) : Type 0 where
  pub answer : open_numbers r ≡ open_says s before
  pub set : after ≡ open_leaves s before

pub record Strikes (s : Reading) (n : ℕ) (before after : List ℕ) (r : Result Outcome Refusal) : Type 0 where
  pub answer : strike_numbers r ≡ strike_says s n before
  pub set : after ≡ strike_leaves s n before

pub record Settles (s : Reading) (before after : List ℕ) (r : Result ℕ Refusal) : Type 0 where
  pub answer : settle_numbers r ≡ settle_says s before
  pub set : after ≡ settle_leaves s before

pub record Judges (s : Reading) (before after : List ℕ) (r : Result Judgement Refusal) : Type 0 where
  pub answer : judge_numbers r ≡ judge_says s before
  pub set : after ≡ judge_leaves s before
