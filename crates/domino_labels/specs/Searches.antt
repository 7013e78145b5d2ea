-- What the search for witnesses is asked, of the row of a live label.
use Rattle.std.specs.Prelude.{ℕ, ◌≡◌, Bool, true, List}
use Rattle.bitset.specs.Bits.{look}
use Rattle.flattening.specs.declared.parts.Quantifier.{Quantifier}
use Rattle.tbox.specs.declared.base.Filler.{Filler}
use Rattle.tbox.specs.declared.base.Part.{Part}
use Rattle.domino_labels.specs.Fittings.{row_view}
use Rattle.domino_labels.specs.Live.{Inside, found_in}
use Rattle.domino_labels.specs.declared.fitting.Row.{Row}

-- the row's label is among labels of the knowledge base
pub record Lives (row : Row) (ws : List ℕ) : Type 0 where
  pub inside : Inside (row_view row) ws
  pub lives : look ws row.label ≡ true

abbrev pub found : Row → List ℕ → Part → Quantifier → Filler → Bool
found row ws p q f = found_in (row_view row) ws row.label p q f
