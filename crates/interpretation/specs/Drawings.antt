-- What functions tell each other of a drawn interpretation: its rows, its labels so far, its dominoes and pairs so far.
use Rattle.std.specs.Prelude.{ℕ, ◌+◌, ◌*◌, ◌≤◌, ◌<◌, ◌≡◌, List, eqb, length, get_or, Option, Some, None}
use Rattle.bitset.specs.Bits.{Set}
use Rattle.elimination.specs.Sets.{some}
use Rattle.elimination.specs.Calls.{written}
use Rattle.semantics.specs.Dominoes.{number}
use Rattle.semantics.specs.Conditions.{View, dominoes, held}
use Rattle.domino_conditions.specs.Tables.{view}
use Rattle.drawings.specs.Entries.{Drawing as DrawingOf, drawing_of}
use Rattle.drawings.specs.Checking.{unbroken, least, roles_between, label, drawn_set, pair_below, pair_breach, breach}
use Rattle.drawing_rows.specs.Rows.{byte_at}
use Rattle.interpretation.specs.declared.drawing.Drawing.{Drawing}
use Rattle.interpretation.specs.declared.drawing.Finding.{Finding}
use Rattle.interpretation.specs.Answers.{finding_is}

-- the knowledge base and the drawing
abbrev pub view_of : Drawing → View
view_of d = view d.base.now

abbrev pub drawn : Drawing → DrawingOf
drawn d = drawing_of d.file.now

-- how many individuals
abbrev pub count_of : Drawing → ℕ
count_of d = length d.names.now

-- the row of individual x: byte y is the role set from x to y
pub record RowOf (d : Drawing) (x : ℕ) (row : List ℕ) : Type 0 where
  pub long : length row ≡ 128
  pub bytes : (y : ℕ) → y < count_of d → byte_at row y ≡ roles_between (view_of d) (drawn d) x y

-- the rows of `count` individuals from `start` on, 128 words each
pub record BlockOf (d : Drawing) (start : ℕ) (block : List ℕ) (count : ℕ) : Type 0 where
  pub some : 0 < count
  pub room : count ≤ 128
  pub there : start + count ≤ count_of d
  pub bytes : (i y : ℕ) → i < count → y < count_of d → byte_at block (1024 * i + y) ≡ roles_between (view_of d) (drawn d) (start + i) y

-- the labels of the individuals below n
pub record Labelled (d : Drawing) (labels : List ℕ) (n : ℕ) : Type 0 where
  pub long : length labels ≡ 1024
  pub are : (x : ℕ) → x < n → get_or labels x 0 ≡ label (view_of d) (drawn d) x

abbrev pub AllLabelled : Drawing → List ℕ → Type 0
AllLabelled d labels = Labelled d labels (count_of d)

-- the number of the domino of x and y
unfoldable pub number_between : Drawing → ℕ → ℕ → ℕ
number_between d x y =
    number (view_of d).parts (view_of d).roles
    (label (view_of d) (drawn d) x) (roles_between (view_of d) (drawn d) x y) (label (view_of d) (drawn d) y)

-- the dominoes of x with each individual, and those of all individuals below n
unfoldable pub row_set : Drawing → ℕ → Set
row_set d x n = some (count_of d) (λ y. eqb n (number_between d x y))

unfoldable pub rows_set : Drawing → ℕ → Set
rows_set d m n = some m (λ x. row_set d x n)

-- no pair that begins below m breaks a role inclusion; the first of those that do
abbrev pub NoPair : Drawing → ℕ → Type 0
NoPair d m = pair_below (view_of d) (drawn d) m ≡ unbroken

abbrev pub PairBelow : Drawing → ℕ → Finding → Type 0
PairBelow d m f = finding_is f ≡ pair_below (view_of d) (drawn d) m

-- the least number below n that passes a test, if any does
abbrev pub FindsLeast : ℕ → Set → Option ℕ → Type 0
FindsLeast n f None = least n f ≡ n
FindsLeast n f (Some x) = (x < n) × (least n f ≡ x)

-- the words needed hold the drawn dominoes, and the others are as before
abbrev pub DominoesWritten : Drawing → List ℕ → List ℕ → Type 0
DominoesWritten d before after = after ≡ written (held (view_of d)) (dominoes (view_of d)) (drawn_set (view_of d) (drawn d)) before

-- what putting all dominoes in leaves, and the first pair with a breach
pub record PutsAll (d : Drawing) (before after : List ℕ) (r : Finding) : Type 0 where
  pub set : DominoesWritten d before after
  pub pair : finding_is r ≡ pair_breach (view_of d) (drawn d)

-- what the whole check leaves and finds
pub record Checks (d : Drawing) (before after : List ℕ) (r : Finding) : Type 0 where
  pub set : DominoesWritten d before after
  pub finding : finding_is r ≡ breach (view_of d) (drawn d)
