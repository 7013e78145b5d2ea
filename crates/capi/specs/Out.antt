-- What the exported functions return and write, by what the call says: the refusal's number (0 for none), its place, then the
-- values; a refusal has no values.
use Rattle.std.specs.Prelude.{ℕ, ◌+◌, List, [], ◌∷◌, length, get_or}
use Rattle.syntax.specs.Reading.{read_kb}
use Rattle.syntax.specs.Answers.{limit, read_says, SumKept, list_says, list_leaves}
use Rattle.output.specs.Output.{output_says, output_leaves}
use Rattle.owl_import.specs.Import.{imported}
use Rattle.owl_export.specs.Export.{exported}
use Rattle.domino.specs.Answers.{open_says, open_leaves, strike_says, strike_leaves, settle_says, settle_leaves, judge_says, judge_leaves}
use Rattle.interpretation.specs.Answers.{check_says, check_leaves}
use Rattle.interpretation.specs.DrawnPlant.{draw_output}

-- the result: the refusal's number, 0 for done
abbrev pub result_out : List ℕ → ℕ
result_out says = get_or says 0 0

-- the place afterwards: written on a refusal, else as it was before
abbrev pub place_out : List ℕ → ℕ → ℕ
place_out [] before = before
place_out (n ∷ []) before = before
place_out (n ∷ p ∷ []) before = p
place_out (n ∷ p ∷ v ∷ vs) before = before

-- value i afterwards: written if the call says it, else as it was before. A refusal says none, strike a condition only when struck, and a
-- check only the individuals that it names
abbrev pub value_out : ℕ → List ℕ → ℕ → ℕ
value_out i says before = get_or says (2 + i) before

-- what each call says of a sheet's bytes, and what it leaves of the list or the words that are lent
abbrev pub read_said : List ℕ → List ℕ
read_said sheet = read_says (read_kb limit sheet)

-- 02, N9: "every call passing them on must keep their sum equal to c"
abbrev pub SumOut : List ℕ → ℕ → ℕ → ℕ → ℕ → Type 0
SumOut sheet t f e u = SumKept (read_kb limit sheet) (record { names = t; fresh = f; existentials = e; universals = u })

abbrev pub list_said : List ℕ → List ℕ → List ℕ
list_said sheet list = list_says (read_kb limit sheet) list

abbrev pub list_left : List ℕ → List ℕ → List ℕ
list_left sheet list = list_leaves (read_kb limit sheet) list

abbrev pub open_said : List ℕ → List ℕ → List ℕ
open_said sheet words = open_says (read_kb limit sheet) words

abbrev pub open_left : List ℕ → List ℕ → List ℕ
open_left sheet words = open_leaves (read_kb limit sheet) words

abbrev pub strike_said : List ℕ → ℕ → List ℕ → List ℕ
strike_said sheet number words = strike_says (read_kb limit sheet) number words

abbrev pub strike_left : List ℕ → ℕ → List ℕ → List ℕ
strike_left sheet number words = strike_leaves (read_kb limit sheet) number words

abbrev pub settle_said : List ℕ → List ℕ → List ℕ
settle_said sheet words = settle_says (read_kb limit sheet) words

abbrev pub settle_left : List ℕ → List ℕ → List ℕ
settle_left sheet words = settle_leaves (read_kb limit sheet) words

abbrev pub judge_said : List ℕ → List ℕ → List ℕ
judge_said sheet words = judge_says (read_kb limit sheet) words

abbrev pub judge_left : List ℕ → List ℕ → List ℕ
judge_left sheet words = judge_leaves (read_kb limit sheet) words

abbrev pub check_said : List ℕ → List ℕ → List ℕ → List ℕ
check_said sheet plant words = check_says (read_kb limit sheet) plant words

abbrev pub check_left : List ℕ → List ℕ → List ℕ → List ℕ
check_left sheet plant words = check_leaves (read_kb limit sheet) plant words

-- what import says of a text and export of a sheet, and what each leaves of the bytes that are lent
abbrev pub import_said : List ℕ → List ℕ → List ℕ
import_said text out = output_says (imported text) out

abbrev pub import_left : List ℕ → List ℕ → List ℕ
import_left text out = output_leaves (imported text) out

abbrev pub export_said : List ℕ → List ℕ → List ℕ
export_said sheet out = output_says (exported sheet) out

abbrev pub export_left : List ℕ → List ℕ → List ℕ
export_left sheet out = output_leaves (exported sheet) out

-- what drawing says, and leaves of the bytes; it leaves of the words what judge does
abbrev pub draw_said : List ℕ → List ℕ → List ℕ → List ℕ
draw_said sheet words out = output_says (draw_output (read_kb limit sheet) (length words)) out

abbrev pub draw_left : List ℕ → List ℕ → List ℕ → List ℕ
draw_left sheet words out = output_leaves (draw_output (read_kb limit sheet) (length words)) out
