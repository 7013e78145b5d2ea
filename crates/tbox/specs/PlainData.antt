-- Parts as plain data, read as the parts of the definitions.
use Rattle.std.specs.Prelude.{ℕ, ◌<◌, ◌≡◌, List, length, get_or}
use Rattle.bitset.specs.Bits.{word_at}
use Rattle.records.specs.Entries.{Entry}
use Rattle.syntax.specs.Concepts.{Role}
use Rattle.syntax.specs.Flatten.{Part}
use Rattle.syntax.specs.Truth.{role_on}
use Rattle.syntax.specs.Parts.{role_holds}
use Rattle.flattening.specs.Origins.{part_of}
use Rattle.flattening.specs.declared.parts.Origin.{Origin}
use Rattle.tbox.specs.declared.base.Part.{Part as PlainPart}
use Rattle.tbox.specs.Promise.{kind_is, no_part}

-- a list has the words of the role sets on which a role holds
abbrev pub RoleOf : Role → List ℕ → Type 0
RoleOf u words = (w : ℕ) → w < 4 → get_or words w 0 ≡ word_at (role_on u) w

-- a part: its kind, and the words of the role sets on which its role holds
pub record PartIs (p : Part) (x : PlainPart) : Type 0 where
  pub kind : x.kind ≡ kind_is p
  pub role : (w : ℕ) → w < 4 → get_or x.role w 0 ≡ word_at (role_holds p) w

-- the same of each of the first n parts
pub record PartsAre (es : List Entry) (os : List Origin) (n : ℕ) (xs : List PlainPart) : Type 0 where
  pub count : length xs ≡ n
  pub each : (i : ℕ) (o : Origin) → i < n → PartIs (part_of es i (get_or os i o)) (get_or xs i no_part)
