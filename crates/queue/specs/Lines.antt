-- What the queue program prints (02, N1).
use Rattle.std.specs.Prelude.{ℕ, suc, Bool, cond, List, [], ◌∷◌, ◌++◌}
use Prim.Native.String.{String}
use Rattle.output.specs.Text.{text}
use Rattle.report.specs.Decimals.{decimal, labelled}
use Rattle.queue.specs.declared.slots.SlotAnswer.{SlotAnswer}
use Rattle.queue.specs.declared.slots.SlotAnswer.TheVariants.{Met, Unmet, Refused}
use Rattle.queue.specs.Queue.{Sums, said, totals_of}

-- a word and a number end a line
abbrev pub ending : String → ℕ → List ℕ
ending word n = labelled word n ++ text "\n"

-- "its number from 0, then `met`, `unmet` or `refused`, then survivors or the refusal number"
unfoldable pub slot_line : ℕ → SlotAnswer → List ℕ
slot_line n (Met s) = decimal n ++ ending " met " s
slot_line n (Unmet s) = decimal n ++ ending " unmet " s
slot_line n (Refused r) = decimal n ++ ending " refused " r

-- "For each slot one line", numbered from n on
unfoldable pub slot_lines : ℕ → List SlotAnswer → List ℕ
slot_lines n [] = []
slot_lines n (a ∷ rest) = slot_line n a ++ slot_lines (suc n) rest

-- `sheets 2 met 1 unmet 1 refused 0 survivors 16`
unfoldable pub totals_line : Sums → List ℕ
totals_line t =
    labelled "sheets " t.sheets ++ labelled " met " t.met ++ labelled " unmet " t.unmet ++ labelled " refused " t.refused
    ++ ending " survivors " t.survivors

-- "The last line gives exact totals"; 15 is "printed as the line `refused 15` in place of the totals"
unfoldable pub last_line : Bool → Sums → List ℕ
last_line ended t = cond ended (totals_line t) (text "refused 15\n")

-- "a 4,097th slot" is refused
abbrev pub most : ℕ
most = 4096

-- what the program prints for an input
unfoldable pub printed : List ℕ → List ℕ
printed input =
    let s = said most input in
    slot_lines 0 s.answers ++ last_line s.ended (totals_of s.answers)
