-- Counting a list of parts.
use Rattle.std.specs.Prelude.{ℕ, ◌≡◌, List}
use Rattle.records.specs.Entries.{Entry}
use Rattle.syntax.specs.Counts.{counts_of}
use Rattle.flattening.specs.Origins.{parts_in}
use Rattle.flattening.specs.declared.parts.Origin.{Origin}
use Rattle.tbox.specs.declared.Counts.{Counts}
use Rattle.tbox.specs.Answers.{part_counts}

-- n counts the parts, whichever records they come from, beside so many roles
pub record CountsParts (os : List Origin) (L : ℕ) (n : Counts) : Type 0 where
  pub parts : (es : List Entry) → part_counts n ≡ counts_of (parts_in es os)
  pub roles : n.roles ≡ L
