-- What the evening program prints for S1, S2, S6 and a refused sheet is what documents 01 and 02 have, byte for byte; and with 4,096 words
-- "c + L of 10 to 12 is refused with 10".
use Prim.Native.Nat.{ℕ, ◌+◌, ◌*◌, ◌≤◌, ◌<◌}
use mathlib.Core.Path.{◌≡◌, refl, sym, ap, ◌∙◌}
use mathlib.Core.Bool.{false}
use mathlib.Core.List.{List, [], ◌∷◌}
use native.Mathlib.Nat.{pow-le-pow_right}
use native.Mathlib.Omega.{arith}
use lib.ListN.{length, get_or, replicate, length-replicate}
use borrow.Author.Tests.{lt-ltb, le-ltb}
use Rattle.syntax.specs.Reading.{Kb, Reading, refusal, kb, parts_of, read_kb}
use Rattle.syntax.specs.Counts.{PartCounts}
use Rattle.syntax.specs.Answers.{limit, counts_say, read_says}
use Rattle.syntax.specs.Examples.{Row as ReadRow, s1, s2, s6}
use Rattle.syntax.proofs.Worked.{rows_right as reads-right}
use Rattle.semantics.specs.Views.{kb_view}
use Rattle.semantics.specs.Conditions.{held}
use Rattle.domino.specs.Answers.{is_short, judge_says}
use Rattle.domino.specs.Examples.{Row}
use Rattle.domino.proofs.Judged.{more_words, judge_short}
use Rattle.domino.proofs.Worked.{rows_right}
use Rattle.output.specs.Text.{text}
use Rattle.report.specs.Decimals.{decimal_in, decimal}
use Rattle.report.specs.Lines.{refused_line, counts_line, sizes_line, verdict_line, judged_lines, evening_lines, printed}
use Rattle.syntax.proofs.Counting.{counts}
use Rattle.report.proofs.Reporting.{lines_of}

abbrev pub set4096 : List ℕ
set4096 = replicate 4096 0

pub many : length set4096 ≡ 4096
many = length-replicate {A = ℕ} 4096 0

-- ---- S1, S2, S6

-- the words lent in the table of worked sheets: to S1 and S2, and to S6
abbrev pub lent : List ℕ
lent = 0xffffffffffffffff ∷ 5 ∷ []

abbrev lent6 : List ℕ
lent6 = 0xffffffffffffffff ∷ 0xffffffffffffffff ∷ 0xffffffffffffffff ∷ 0xffffffffffffffff ∷ 5 ∷ []

read_at : ℕ → List ReadRow → List ℕ
read_at i rs = (get_or rs i (record { sheet = []; read = []; lent = []; listed = []; left = [] })).read

unfoldable pub judged_at : ℕ → List Row → List ℕ
judged_at i rs = (get_or rs i (record { sheet = []; reads = []; lent = []; opens = []; opened = []; settles = []; judges = []; judged = [] })).judges

prints : (sheet ws : List ℕ) (n : PartCounts) (l o s m : ℕ) → length ws ≤ 4096 → read_says (read_kb limit sheet) ≡ counts_say n l
    → judge_says (read_kb limit sheet) ws ≡ 0 ∷ 0 ∷ o ∷ s ∷ m ∷ [] → printed sheet ≡ judged_lines n l (0 ∷ 0 ∷ o ∷ s ∷ m ∷ [])
unfolding printed
prints sheet ws n l o s m few reads judges =
    sym (lines_of (read_kb limit sheet) set4096 n l (sym reads))
    ∙ ap (judged_lines n l) (more_words (read_kb limit sheet) ws set4096 (omega (arith, many, few)) (ap length judges) ∙ judges)

-- "For sheet S1 below it prints exactly"; 02, N9: "`traits 1 fresh 0 some 1 only 0 links 1` for S1"
pub s1-printed : printed s1 ≡ text "traits 1 fresh 0 some 1 only 0 links 1\nopening 32 survivors 16\ncan be met\n"
unfolding read_at judged_at judged_lines counts_line sizes_line verdict_line text decimal decimal_in
s1-printed = prints s1 lent (counts 1 0 1 0) 1 32 16 1 (omega arith) (ap (read_at 1) reads-right) (ap (judged_at 2) rows_right)

pub s2-printed : printed s2 ≡ text "traits 1 fresh 0 some 1 only 0 links 1\nopening 16 survivors 0\ncannot be met\n"
unfolding read_at judged_at judged_lines counts_line sizes_line verdict_line text decimal decimal_in
s2-printed = prints s2 lent (counts 1 0 1 0) 1 16 0 0 (omega arith) (ap (read_at 3) reads-right) (ap (judged_at 4) rows_right)

pub s6-printed : printed s6 ≡ text "traits 1 fresh 1 some 1 only 0 links 1\nopening 144 survivors 85\ncan be met\n"
unfolding read_at judged_at judged_lines counts_line sizes_line verdict_line text decimal decimal_in
s6-printed = prints s6 lent6 (counts 1 1 1 0) 1 144 85 1 (omega arith) (ap (read_at 7) reads-right) (ap (judged_at 9) rows_right)

-- each number is behind its own label. Five that all differ come to 10 at least, more than c + L of a sheet that is judged here.
pub lines_right : judged_lines (counts 1 2 3 4) 5 (0 ∷ 0 ∷ 7 ∷ 6 ∷ 1 ∷ []) ≡ text "traits 1 fresh 2 some 3 only 4 links 5\nopening 7 survivors 6\ncan be met\n"
unfolding judged_lines counts_line sizes_line verdict_line text decimal decimal_in
lines_right = refl

-- ---- refusals

refused : (s : Reading) (ws : List ℕ) (n p : ℕ) → read_says s ≡ n ∷ p ∷ [] → evening_lines s ws ≡ refused_line n p
unfolding read_says evening_lines
refused (refusal m q) ws n p e = cc
refused (kb k) ws n p e = absurd (omega (arith, ap length e))

-- "number, then place"; 02, N6: "03 00 04 00 05 01 01 is 7 at 6"
pub refused-printed : printed (0x03 ∷ 0x00 ∷ 0x04 ∷ 0x00 ∷ 0x05 ∷ 0x01 ∷ 0x01 ∷ []) ≡ text "refused 7 at 6\n"
unfolding read_at printed refused_line text decimal decimal_in
refused-printed = refused _ set4096 7 6 (ap (read_at 14) reads-right)

-- "a set of 4,096 words, so c + L of 10 to 12 is refused with 10", and no other
module _ (k : Kb) where
  abbrev taken : ℕ
  taken = length (parts_of k) + k.roles

  pub ten_short : 10 ≤ taken → evening_lines (kb k) set4096 ≡ refused_line 10 0
  unfolding evening_lines judged_lines
  ten_short h =
      let p = pow-le-pow_right {n = 2} (omega arith) {i = 20} {j = 2 * length (parts_of k) + 2 * k.roles} (omega arith) in
      let f : length set4096 < held (kb_view k) = omega (arith, many) in
      rw (judge_short k set4096 (lt-ltb (length set4096) (held (kb_view k)) f))

  pub nine_enough : taken ≤ 9 → is_short k set4096 ≡ false
  nine_enough h =
      let p = pow-le-pow_right {n = 2} (omega arith) {i = 2 * length (parts_of k) + 2 * k.roles} {j = 18} (omega arith) in
      let f : held (kb_view k) ≤ length set4096 = omega (arith, many) in
      le-ltb (length set4096) (held (kb_view k)) f
