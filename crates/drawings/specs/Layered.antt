-- The drawing of a domino set in three layers (02, N11: "From a sheet, produce a plant in N10's records").
use Rattle.std.specs.Prelude.{ℕ, ◌*◌, Bool, ◌&&◌, List, length, get_or}
use Rattle.bitset.specs.Bits.{Set, bit, word}
use Rattle.semantics.specs.Interpretations.{Interpretation}
use Rattle.semantics.specs.Dominoes.{left_of, roles_of, right_of_lem}
use Rattle.semantics.specs.Layers.{label_at, roles_at, layered}
use Rattle.drawings.specs.Entries.{Entry, Drawing, names_of, connections_of}
use Rattle.drawings.specs.Laid.{laid, drawn_entries}

-- "With m survivors in rising order": of the numbers of a set's dominoes, of c parts and L roles
module _ (c L : ℕ) (members : List ℕ) where
  abbrev pub count : ℕ
  count = length members

  abbrev pub left : ℕ → ℕ
  left i = left_of c L (get_or members i 0)

  abbrev pub roles : ℕ → ℕ
  roles i = roles_of c L (get_or members i 0)

  abbrev pub right : ℕ → ℕ
  right i = right_of_lem c (get_or members i 0)

  -- "Survivor j joins item g × m + i to item ((g + 1) mod 3) × m + j if the right set of i is the left set of j, with j's links,
  -- reversed bits giving connections back": the role set from x to y, and whether role k is in it
  abbrev pub roles_from : ℕ → ℕ → ℕ
  roles_from = roles_at L count left roles right

  unfoldable pub joined_in : ℕ → ℕ → ℕ → Bool
  joined_in k x y = bit (roles_from x y) (2 * k)

  -- the interpretation, whose names are those of the labels
  abbrev pub layered_of : Interpretation
  layered_of = layered L count left roles right

  -- `plain` says which parts are names or fresh names
  module _ (plain : Set) where
    -- "item g × m + i, for g of 0, 1, 2, has the right-side traits and fresh marks of survivor i"
    unfoldable pub names_in : ℕ → ℕ
    names_in x = word c (λ k. plain k && bit (label_at count right x) k)

    -- "there are 3m items"; "Items first, then connections by from, to and link, each once"
    unfoldable pub layered_entries : List Entry
    layered_entries = drawn_entries (3 * count) L names_in joined_in

    unfoldable pub layered_file : List ℕ
    layered_file = laid layered_entries

    -- what they draw
    abbrev pub layered_drawing : Drawing
    layered_drawing = record { names = names_of layered_entries; connections = connections_of layered_entries }
