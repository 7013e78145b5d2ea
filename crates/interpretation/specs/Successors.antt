-- The tables of a knowledge base and of individuals: whose successors have which fillers; what follows of the label of an individual.
use Rattle.std.specs.Prelude.{ℕ, ◌<◌, ◌≡◌, Bool, not, ◌&&◌, ◌||◌, List, length, get_or}
use Rattle.bitset.specs.Bits.{bit}
use Rattle.elimination.specs.Sets.{some}
use Rattle.semantics.specs.Conditions.{View}
use Rattle.domino_parts.specs.PartTables.{PartTablesOf}
use Rattle.domino_parts.specs.PartWords.{filled_by}
use Rattle.drawing_rows.specs.Rows.{byte_at}
use Rattle.interpretation.specs.declared.tables.Tables.{Tables}
use Rattle.interpretation.specs.declared.individual_labels.Successors.{Successors}

-- the tables of a knowledge base and of individuals with such names and fresh names, made for the individuals below y
pub record TablesTo (v : View) (names : List ℕ) (t : Tables) (y : ℕ) : Type 0 where
  pub parts : PartTablesOf v t.parts
  pub room : length t.fillers ≡ 1024
  pub fillers : (x : ℕ) → x < y → get_or t.fillers x 0 ≡ filled_by v (get_or names x 0)

-- the whole of them
abbrev pub TablesOf : View → List ℕ → Tables → Type 0
TablesOf v names t = TablesTo v names t (length names)

-- does the role of part k hold from the individual of a row to y; has y its filler
abbrev pub reaches : Tables → List ℕ → ℕ → ℕ → Bool
reaches t row k y = bit (get_or t.parts.holds (byte_at row y) 0) k

abbrev pub filled : Tables → ℕ → ℕ → Bool
filled t k y = bit (get_or t.fillers y 0) k

-- of the individuals below n: the parts whose role reaches one with the filler, and one without
pub record SuccessorsTo (t : Tables) (row : List ℕ) (n : ℕ) (c : Successors) : Type 0 where
  pub met : (k : ℕ) → bit c.met k ≡ some n (λ y. reaches t row k y && filled t k y)
  pub missed : (k : ℕ) → bit c.missed k ≡ some n (λ y. reaches t row k y && not (filled t k y))

-- the label that follows
unfoldable pub concluded : Tables → Successors → ℕ → ℕ → Bool
concluded t c names k = (bit names k || (bit c.met k && bit t.parts.existentials k)) || (not (bit c.missed k) && bit t.parts.universals k)
