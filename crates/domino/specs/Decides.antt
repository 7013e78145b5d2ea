-- What judge decides: the one statement for a user, of any bytes and any words. It puts the contract of judge, demands 1 and 2 and
-- the theorem on models together. Proved in proofs/Decides.antt.
use Rattle.std.specs.Prelude.{ℕ, ◌<◌, ◌≤◌, ◌≡◌, ◌⊎◌, ◌↔◌, Bool, true, false, List, length, drop, Result, Ok, Err}
use Rattle.bitset.specs.Bits.{look, size}
use Rattle.elimination.specs.Calls.{written}
use Rattle.records.specs.Places.{Placed}
use Rattle.syntax.specs.Reading.{Kb, refusal, kb, read_kb}
use Rattle.syntax.specs.Answers.{limit}
use Rattle.semantics.specs.Interpretations.{Interpretation, models, Satisfiable}
use Rattle.semantics.specs.Dominoes.{Domino, number}
use Rattle.semantics.specs.Conditions.{LargestStable, dominoes, initial, canon, canon_dominoes, held}
use Rattle.semantics.specs.Views.{kb_view}
use Rattle.semantics.specs.Projection.{projection}
use Rattle.refusals.specs.Numbers.{number as number_of}
use Rattle.refusals.specs.declared.Refusal.{Refusal}
use Rattle.domino_labels.specs.declared.judging.Judgement.{Judgement}
use Rattle.domino_labels.specs.Judging.{met}
use Rattle.domino.specs.Answers.{is_set_refusal}

-- judge refuses with a number n and a place p
pub record RefusedRightly (sheet before after : List ℕ) (n p : ℕ) : Type 0 where
  -- "If the bytes given are no sheet or one too large, or a set or list is too short": "refuses as read does, then 10"
  pub why : (read_kb limit sheet ≡ refusal n p)
      ⊎ ((k : Kb) × (read_kb limit sheet ≡ kb k) × (length before < held (kb_view k)) × (n ≡ 10) × (p ≡ 0))
  -- "the call comes back with the refusal number and place that document 01 fixes": one of the numbers of a call on a set,
  pub among : is_set_refusal n ≡ true
  -- with its place where a record starts, at a reference's byte, or 0
  pub placed : Placed sheet n p
  -- "and every set and list is untouched"
  pub untouched : after ≡ before

-- judge answers, of a sheet that is read as k, the sizes of two sets, and whether k can be met
pub record DecidedRightly (k : Kb) (before after : List ℕ) (opening survivors : ℕ) (met : Bool) : Type 0 where
  -- the words needed are there
  pub enough : held (kb_view k) ≤ length before
  -- "says "can be met"" exactly if some finite plant of at least one item keeps the sheet,
  pub can_be_met : (met ≡ true) ↔ Satisfiable k
  -- and "cannot be met" exactly if none does
  pub cannot_be_met : (met ≡ false) ↔ ((I : Interpretation) → 0 < I.individuals → models I k ≡ true → ⊥)
  -- "Judging a sheet leaves the largest set of pairings in which none is loose": the canonical set, which is that set,
  pub members : (A R B : ℕ) → Domino (kb_view k).parts (kb_view k).roles A R B
      → look after (number (kb_view k).parts (kb_view k).roles A R B) ≡ canon_dominoes (kb_view k) A R B
  pub largest : LargestStable (kb_view k) (canon_dominoes (kb_view k))
  -- word for word, the spare bits cleared and "Further words are never touched."
  pub words : after ≡ written (held (kb_view k)) (dominoes (kb_view k)) (canon (kb_view k)) before
  pub past : drop (held (kb_view k)) after ≡ drop (held (kb_view k)) before
  -- "Every finite plant of at least one item that keeps the sheet has all its pairings in that set."
  pub models-inside : (I : Interpretation) → models I k ≡ true
      → (A R B : ℕ) → projection I k A R B ≡ true → look after (number (kb_view k).parts (kb_view k).roles A R B) ≡ true
  -- "answers the opening size, the survivor count"
  pub opening-size : opening ≡ size (dominoes (kb_view k)) (initial (kb_view k))
  pub survivor_count : survivors ≡ size (dominoes (kb_view k)) (canon (kb_view k))

-- either judge refuses, rightly and with nothing touched; or the sheet is read, and judge has decided it rightly
abbrev pub Decides : List ℕ → List ℕ → List ℕ → Result Judgement Refusal → Type 0
Decides sheet before after (Err r) = RefusedRightly sheet before after (number_of r.reason) r.place
Decides sheet before after (Ok j) =
    (k : Kb) × (read_kb limit sheet ≡ kb k) × DecidedRightly k before after j.opening j.survivors (met j)
