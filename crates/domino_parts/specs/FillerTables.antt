-- What the tables by label hold.
use Rattle.std.specs.Prelude.{ℕ, ◌*◌, ◌^◌, ◌/◌, ◌<◌, ◌≡◌, min, length, get_or}
use Rattle.semantics.specs.Conditions.{View}
use Rattle.domino_parts.specs.PartWords.{filled_by}
use Rattle.domino_parts.specs.declared.tables.FillerTables.{FillerTables}

-- the tables, made for the labels below l that have six bits, and for those of higher bits below 64 h
pub record FillersTo (v : View) (t : FillerTables) (l h : ℕ) : Type 0 where
  pub rooms : (length t.low ≡ 64) × (length t.high ≡ 64)
  pub low : (s : ℕ) → s < l → get_or t.low s 0 ≡ filled_by v s
  pub high : (s : ℕ) → s < h → get_or t.high s 0 ≡ filled_by v (64 * s)
  pub rest : h ≡ 0 → get_or t.high 0 0 ≡ 0

-- the whole of them
abbrev pub FillersOf : View → FillerTables → Type 0
FillersOf v t = FillersTo v t (min (2 ^ v.parts) 64) (2 ^ v.parts / 64)
