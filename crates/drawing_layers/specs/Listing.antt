-- The members of a set in rising order, as far as they are listed.
use Rattle.std.specs.Prelude.{ℕ, ◌<◌, ◌≡◌, List, length, Option, Some, None}
use Rattle.bitset.specs.Bits.{Set}
use Rattle.semantics.specs.Layers.{rising}
use Rattle.arrayvec.specs.ArrayVec.{ArrayVec}

-- the members below n are more than there is room for
abbrev pub TooMany : Set → ℕ → Type 0
TooMany S n = 341 < length (rising S n)

-- the members below n are on a list
abbrev pub Lists : Set → ℕ → List ℕ → Option (Unit {0}) → Type 0
Lists S n members (Some u) = members ≡ rising S n
Lists S n members None = TooMany S n

abbrev pub ListOf : Set → ℕ → Option (ArrayVec ℕ) → Type 0
ListOf S n (Some members) = members.items ≡ rising S n
ListOf S n None = TooMany S n
