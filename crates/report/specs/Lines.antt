-- The lines that the evening program prints (01, "The evening program").
use Rattle.std.specs.Prelude.{ℕ, ◌≡◌, Bool, false, cond, List, ◌++◌, eqb, length, get_or, replicate}
use Rattle.syntax.specs.Reading.{Reading, refusal, kb, parts_of, read_kb}
use Rattle.syntax.specs.Counts.{PartCounts, counts_of}
use Rattle.syntax.specs.Answers.{limit, SumKept}
use Rattle.domino.specs.Answers.{is_short, judge_says, judge_leaves}
use Rattle.output.specs.Text.{text}
use Rattle.report.specs.Decimals.{labelled}

-- "A refusal prints one line, `refused 7 at 4`: number, then place."
unfoldable pub refused_line : ℕ → ℕ → List ℕ
refused_line number place = labelled "refused " number ++ labelled " at " place ++ text "\n"

-- 02, N9: "The evening program's first line becomes `traits 1 fresh 0 some 1 only 0 links 1`"
unfoldable pub counts_line : PartCounts → ℕ → List ℕ
counts_line n l =
    labelled "traits " n.names ++ labelled " fresh " n.fresh ++ labelled " some " n.existentials ++ labelled " only " n.universals
    ++ labelled " links " l ++ text "\n"

-- `opening 32 survivors 16`: "opening size; survivor count"
unfoldable pub sizes_line : ℕ → ℕ → List ℕ
sizes_line opening survivors = labelled "opening " opening ++ labelled " survivors " survivors ++ text "\n"

-- `can be met`: "the verdict, else `cannot be met`"
unfoldable pub verdict_line : Bool → List ℕ
verdict_line met = cond met (text "can be met\n") (text "cannot be met\n")

-- the counts, L, and what judge says: two numbers, a refusal's and its place; or five, the opening size third, then the survivor
-- count, then 1 for met
unfoldable pub judged_lines : PartCounts → ℕ → List ℕ → List ℕ
judged_lines n l says =
    cond (eqb (length says) 2) (refused_line (get_or says 0 0) (get_or says 1 0))
    (counts_line n l ++ sizes_line (get_or says 2 0) (get_or says 3 0) ++ verdict_line (eqb (get_or says 4 0) 1))

-- for a sheet read so, and these words lent
unfoldable pub evening_lines : Reading → List ℕ → List ℕ
evening_lines (refusal n p) ws = refused_line n p
evening_lines (kb k) ws = judged_lines (counts_of (parts_of k)) k.roles (judge_says (kb k) ws)

-- 02, N9: "every call passing them on must keep their sum equal to c": the lines begin with that of four counts whose sum is c
abbrev pub PrintsSum : Reading → List ℕ → List ℕ → List ℕ → Type 0
PrintsSum (refusal n p) words before after = Unit
PrintsSum (kb k) words before after =
    is_short k words ≡ false → (n : PartCounts) × (rest : List ℕ) × (after ≡ before ++ (counts_line n k.roles ++ rest)) × SumKept (kb k) n

-- the lines are put behind what the buffer held, the words are as judge leaves them, and the counts that are put come to c
pub record Reports (s : Reading) (words left before after : List ℕ) : Type 0 where
  pub lines : after ≡ before ++ evening_lines s words
  pub set : left ≡ judge_leaves s words
  pub sum : PrintsSum s words before after

-- what the evening program prints for a sheet: "with a set of 4,096 words"
unfoldable pub printed : List ℕ → List ℕ
printed sheet = evening_lines (read_kb limit sheet) (replicate 4096 0)
