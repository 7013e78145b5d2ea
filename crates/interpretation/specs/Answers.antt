-- What checking a drawn interpretation answers and leaves (02, N10).
use Rattle.std.specs.Prelude.{ℕ, ◌≡◌, Bool, ◌&&◌, ◌||◌, cond, List, [], ◌∷◌, eqb, leb, Result}
use Rattle.elimination.specs.Calls.{written}
use Rattle.syntax.specs.Reading.{Reading}
use Rattle.semantics.specs.Conditions.{View, dominoes, held}
use Rattle.semantics.specs.Views.{kb_view}
use Rattle.refusals.specs.Numbers.{numbers_of}
use Rattle.refusals.specs.declared.Refusal.{Refusal}
use Rattle.domino.specs.Answers.{is_set_refusal, says_on_set, leaves_on_set}
use Rattle.drawings.specs.Entries.{drawing_of}
use Rattle.drawings.specs.Checking.{Breach, unbroken, at, between, breach_numbers, file_fault, drawn_set, breach}
use Rattle.interpretation.specs.declared.drawing.Finding.{Finding}
use Rattle.interpretation.specs.declared.drawing.Finding.TheVariants.{Holds, Individual, Pair}

-- what the code found
abbrev pub finding_is : Finding → Breach
finding_is Holds = unbroken
finding_is (Individual x) = at x
finding_is (Pair x y) = between x y

-- the number and values for each case of an answer: 02 fixes none, so 0, 1 and 2 are ours
abbrev pub check_numbers : Result Finding Refusal → List ℕ
check_numbers = numbers_of (λ f. breach_numbers (finding_is f))

-- of a file and the knowledge base seen as v: its first fault, at place 0, or the first breach
unfoldable pub file_says : View → List ℕ → List ℕ
file_says v file =
    cond (eqb (file_fault v file) 0) (0 ∷ 0 ∷ breach_numbers (breach v (drawing_of file))) (file_fault v file ∷ 0 ∷ [])

-- on a fault "the set is untouched"; else "the plant's pairings, self-pairings included, as a set, spare bits cleared", and "the set is
-- written all the same" when something breaks
unfoldable pub file_leaves : View → List ℕ → List ℕ → List ℕ
file_leaves v file ws = cond (eqb (file_fault v file) 0) (written (held v) (dominoes v) (drawn_set v (drawing_of file)) ws) ws

-- the numbers it refuses with: a call's on a set, and the file's, 22 to 25
unfoldable pub is_file_fault : ℕ → Bool
is_file_fault n = leb 22 n && leb n 25

unfoldable pub is_check_refusal : ℕ → Bool
is_check_refusal n = is_set_refusal n || is_file_fault n

-- "Errors: the sheet's, then 10, then" the file's
unfoldable pub check_says : Reading → List ℕ → List ℕ → List ℕ
check_says s file = says_on_set (λ k ws. file_says (kb_view k) file) s

unfoldable pub check_leaves : Reading → List ℕ → List ℕ → List ℕ
check_leaves s file = leaves_on_set (λ k ws. file_leaves (kb_view k) file ws) s

-- the contract: for a sheet read as s and a file
pub record ChecksPlant (s : Reading) (file before after : List ℕ) (r : Result Finding Refusal) : Type 0 where
  pub answer : check_numbers r ≡ check_says s file before
  pub set : after ≡ check_leaves s file before
