-- Worked drawings of plants: a sheet, how many words and bytes are lent, and what is answered. Proved in proofs/Worked.antt.
use Rattle.std.specs.Prelude.{ℕ, zero, suc, List, [], ◌∷◌}
use Rattle.syntax.specs.Reading.{read_kb}
use Rattle.syntax.specs.Answers.{limit}
use Rattle.syntax.specs.Examples.{s1, s2}
use Rattle.output.specs.Output.{output_says}
use Rattle.interpretation.specs.DrawnPlant.{draw_output}

pub record Row : Type 0 where
  pub sheet : List ℕ
  pub words : ℕ
  pub bytes : ℕ
  pub says : List ℕ

abbrev pub row : List ℕ → ℕ → ℕ → List ℕ → Row
row s w b m = record { sheet = s; words = w; bytes = b; says = m }

-- so many bytes
unfoldable pub room : ℕ → List ℕ
room zero = []
room (suc n) = 0 ∷ room n

-- the row, as the definitions have it
abbrev pub answered : Row → Row
answered r = row r.sheet r.words r.bytes (output_says (draw_output (read_kb limit r.sheet) r.words) (room r.bytes))

-- lengths, with room for just these or more; one byte too few; what cannot be met, before the room is asked for; refusals of judge's
abbrev pub table : List Row
table =
    row [] 1 9 (0 ∷ 0 ∷ 9 ∷ []) ∷
    row [] 1 8 (21 ∷ 0 ∷ []) ∷
    row [] 0 9 (10 ∷ 0 ∷ []) ∷
    row (0x03 ∷ 0x00 ∷ []) 2 40 (0 ∷ 0 ∷ 36 ∷ []) ∷
    row (0x10 ∷ 0x00 ∷ []) 1 324 (0 ∷ 0 ∷ 324 ∷ []) ∷
    row (0x10 ∷ 0x00 ∷ []) 1 323 (21 ∷ 0 ∷ []) ∷
    row s1 1 2448 (0 ∷ 0 ∷ 2448 ∷ []) ∷
    row s2 1 0 (26 ∷ 0 ∷ []) ∷
    row (0x03 ∷ 0x0b ∷ []) 1 0 (10 ∷ 0 ∷ []) ∷
    row (0x04 ∷ 0x00 ∷ []) 1 9 (5 ∷ 1 ∷ []) ∷
    []
