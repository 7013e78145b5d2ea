-- What each call answers and leaves (01, "The calls, and what each refuses").
use Rattle.std.specs.Prelude.{ℕ, List, [], ◌∷◌, ◌≡◌, Result, Ok, Err}
use Rattle.refusals.specs.Numbers.{numbers_of}
use Rattle.refusals.specs.declared.Refusal.{Refusal}
use Rattle.tbox.specs.declared.Counts.{Counts}
use Rattle.syntax.specs.Reading.{Reading}
use Rattle.syntax.specs.Counts.{PartCounts}
use Rattle.syntax.specs.Answers.{SumKept, list_leaves, list_says}

-- the documents' number and values for each case of an answer: the refusal's number (0 for none), its place, then the values
abbrev pub count_values : Counts → List ℕ
count_values n = n.names ∷ n.fresh ∷ n.existentials ∷ n.universals ∷ n.roles ∷ []

abbrev pub read_numbers : Result Counts Refusal → List ℕ
read_numbers = numbers_of count_values

-- the counts of parts
abbrev pub part_counts : Counts → PartCounts
part_counts n = record { names = n.names; fresh = n.fresh; existentials = n.existentials; universals = n.universals }

-- 02, N9: "every call passing them on must keep their sum equal to c": of what read answers
abbrev pub AnswersSum : Reading → Result Counts Refusal → Type 0
AnswersSum s (Ok n) = SumKept s (part_counts n)
AnswersSum s (Err r) = Unit

abbrev pub list_numbers : Result ℕ Refusal → List ℕ
list_numbers = numbers_of (λ c. c ∷ [])

pub record Lists (s : Reading) (before after : List ℕ) (r : Result ℕ Refusal) : Type 0 where
  pub answer : list_numbers r ≡ list_says s before
  pub list : after ≡ list_leaves s before
