-- Worked texts and sheets: what import writes of each text and export of each sheet. Proved in proofs/Worked.antt.
use Rattle.std.specs.Prelude.{ℕ, List, [], ◌∷◌, ◌++◌}
use Prim.Native.String.{String}
use Rattle.output.specs.Text.{text}
use Rattle.output.specs.Output.{Output, refuse, write}
use Rattle.owl_import.specs.Import.{imported}
use Rattle.owl_export.specs.Export.{exported}

-- a text and what import makes of it
pub record Row : Type 0 where
  pub text : List ℕ
  pub outcome : Output

abbrev row : String → Output → Row
row s o = record { text = text s; outcome = o }

abbrev pub import_row : Row → Row
import_row r = record { text = r.text; outcome = imported r.text }

-- what goes both ways: a line's text and its sheet
abbrev complement : List ℕ
complement = 0x03 ∷ 0x00 ∷ 0x03 ∷ 0x01 ∷ 0x04 ∷ 0x01 ∷ 0x20 ∷ 0x00 ∷ 0x02 ∷ []

abbrev restrictions : List ℕ
restrictions =
    0x11 ∷ 0x03 ∷ 0x01 ∷ 0x07 ∷ 0x00 ∷ 0x01 ∷ 0x10 ∷ 0x00 ∷ 0x02 ∷ 0x08 ∷ 0x03 ∷ 0x04 ∷ 0x20 ∷ 0x02 ∷ 0x05 ∷ []

abbrev booleans : List ℕ
booleans =
    0x03 ∷ 0x00 ∷ 0x03 ∷ 0x0B ∷ 0x05 ∷ 0x00 ∷ 0x01 ∷ 0x03 ∷ 0x00 ∷ 0x03 ∷ 0x00 ∷ 0x06 ∷ 0x03 ∷ 0x04 ∷ 0x20 ∷ 0x02 ∷ 0x05 ∷ []

abbrev pub imports : List Row
imports =
    row "SubClassOf(:t0 ObjectComplementOf(:t1))" (write complement) ∷
    row "SubClassOf(ObjectSomeValuesFrom(ObjectInverseOf(:k3) owl:Thing) ObjectAllValuesFrom(:k0 owl:Nothing))" (write restrictions) ∷
    row "SubClassOf(ObjectIntersectionOf(:t0 :t11) ObjectUnionOf(:t0 :t0))" (write booleans) ∷
    row "SubClassOf(:t0 :t12)" (refuse 18 15) ∷
    row "SubClassOf(:t0 :k0)" (refuse 19 15) ∷
    row "SubClassOf(:t0 :t1 :t2)" (refuse 19 19) ∷
    row "SubClassOf " (refuse 19 11) ∷
    row "SubClassOf x" (refuse 18 11) ∷
    row "SubClassOf(:t0 :t01)" (refuse 18 15) ∷
    row " \n" (write []) ∷
    []

-- a sheet and what export makes of it. One has a role with `not` that no axiom reaches, one a role with `and` in its second axiom;
-- the last three have a role inclusion: alone, after an axiom that calls for 20, and before one
pub record Sheet : Type 0 where
  pub sheet : List ℕ
  pub written : Output

abbrev pub export_row : Sheet → Sheet
export_row r = record { sheet = r.sheet; written = exported r.sheet }

abbrev sheet_row : List ℕ → Output → Sheet
sheet_row s o = record { sheet = s; written = o }

-- everything, k0 and k1; that everything is everything, then some k0 and k1 everything; that k0 is within k1
abbrev roles : List ℕ
roles = 0x01 ∷ 0x10 ∷ 0x00 ∷ 0x10 ∷ 0x01 ∷ []

abbrev second_composed : List ℕ
second_composed = roles ++ (0x13 ∷ 0x01 ∷ 0x02 ∷ 0x07 ∷ 0x03 ∷ 0x00 ∷ 0x20 ∷ 0x00 ∷ 0x00 ∷ 0x20 ∷ 0x00 ∷ 0x04 ∷ [])

abbrev inclusion : List ℕ
inclusion = 0x21 ∷ 0x01 ∷ 0x02 ∷ []

abbrev pub exports : List Sheet
exports =
    sheet_row complement (write (text "SubClassOf(:t0 ObjectComplementOf(:t1))\n")) ∷
    sheet_row restrictions (write (text "SubClassOf(ObjectSomeValuesFrom(ObjectInverseOf(:k3) owl:Thing) ObjectAllValuesFrom(:k0 owl:Nothing))\n")) ∷
    sheet_row booleans (write (text "SubClassOf(ObjectIntersectionOf(:t0 :t11) ObjectUnionOf(:t0 :t0))\n")) ∷
    sheet_row (0x03 ∷ 0x00 ∷ 0x10 ∷ 0x00 ∷ 0x12 ∷ 0x01 ∷ 0x20 ∷ 0x00 ∷ 0x00 ∷ []) (write (text "SubClassOf(:t0 :t0)\n")) ∷
    sheet_row (0x03 ∷ 0x00 ∷ 0x04 ∷ 0x00 ∷ 0x05 ∷ 0x01 ∷ 0x01 ∷ []) (refuse 7 6) ∷
    sheet_row second_composed (refuse 20 14) ∷
    sheet_row (roles ++ inclusion) (refuse 20 5) ∷
    sheet_row (second_composed ++ inclusion) (refuse 20 14) ∷
    sheet_row (roles ++ inclusion ++ (0x13 ∷ 0x01 ∷ 0x02 ∷ 0x07 ∷ 0x04 ∷ 0x00 ∷ 0x20 ∷ 0x00 ∷ 0x05 ∷ [])) (refuse 20 5) ∷
    []
