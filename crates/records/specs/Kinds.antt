-- What the code holds of a kind, read as the shape of the definitions.
use Rattle.std.specs.Prelude.{ℕ, ◌+◌, Option, Some, None}
use Rattle.records.specs.Shapes.{shaped, unknown}
use Rattle.records.specs.Shapes.{Shape}
use Rattle.records.specs.declared.shapes.Sort.{Sort}
use Rattle.records.specs.declared.shapes.Sort.TheVariants.{Concept, Role, Axiom}
use Rattle.records.specs.declared.shapes.Shape.{Shape as ShapeHeld}

-- a sort by its number, 0 for none, and the limit of a number: it is below one more than the largest
abbrev pub sort_no : Sort → ℕ
sort_no Concept = 1
sort_no Role = 2
sort_no Axiom = 3

abbrev pub wanted_no : Option Sort → ℕ
wanted_no None = 0
wanted_no (Some s) = sort_no s

abbrev pub limit_no : Option ℕ → ℕ
limit_no None = 0
limit_no (Some n) = n + 1

-- a shape, and the shape of a kind, which is none where the kind is unknown
abbrev pub shape_seen : ShapeHeld → Shape
shape_seen s = shaped (sort_no s.sort) s.body (limit_no s.largest) (wanted_no s.first) (wanted_no s.second)

abbrev pub shape_numbers : Option ShapeHeld → Shape
shape_numbers None = unknown
shape_numbers (Some s) = shape_seen s
