-- What the queue program prints for worked queues is what document 02 has, byte for byte.
use Prim.Native.Nat.{ℕ, ◌-◌, ◌≤◌}
use mathlib.Core.Path.{◌≡◌, refl, ap, ap₂, ◌∙◌}
use mathlib.Core.List.{List, [], ◌∷◌, ◌++◌, map}
use native.Mathlib.Omega.{arith}
use lib.ListN.{length, take, replicate, length-append, length-replicate, length-map}
use lib.Seq.{take-append_seam}
use borrow.Author.Tests.{le-ltb}
use Rattle.syntax.specs.Reading.{read_kb}
use Rattle.syntax.specs.Answers.{limit}
use Rattle.syntax.specs.Examples.{s1, s2}
use Rattle.domino.specs.Answers.{judge_says}
use Rattle.domino.proofs.Worked.{rows_right}
use Rattle.output.specs.Text.{text}
use Rattle.report.specs.Decimals.{decimal_in, decimal}
use Rattle.domino.proofs.Judged.{more_words}
use Rattle.report.proofs.Worked.{set4096, many, lent, judged_at}
use Rattle.queue.specs.declared.slots.SlotAnswer.{SlotAnswer}
use Rattle.queue.specs.declared.slots.SlotAnswer.TheVariants.{Met, Unmet, Refused}
use Rattle.queue.specs.Queue.{answer_of, alone, length_in, sheet_in, slot_says, slot_first, end_first, slot_for, slots_laid, laid, Whole, Fit, met_in, unmet_in, refused_in, survivors_in, sum, totals_of}
use Rattle.queue.specs.Lines.{slot_line, slot_lines, totals_line, most, printed}
use Rattle.queue.specs.Steps.{takes}
use Rattle.queue.proofs.Running.{laid-printed, cut_printed}

-- ---- a slot for a sheet

module _ (sheet : List ℕ) (fits : length sheet ≤ 765) where
  -- it has 767 bytes
  pub slot_for-long : length (slot_for sheet) ≡ 767
  unfolding slot_for
  slot_for-long =
      omega (arith, length-append sheet (replicate (765 - length sheet) 0), length-replicate {A = ℕ} (765 - length sheet) 0)

  -- its length is the sheet's
  slot_for-length : length_in (slot_for sheet) ≡ length sheet
  unfolding slot_for length_in
  slot_for-length = omega arith

  -- and its sheet the sheet
  slot_for-sheet : sheet_in (slot_for sheet) ≡ sheet
  unfolding sheet_in slot_for
  slot_for-sheet =
      let rest : List ℕ = replicate (765 - length sheet) 0 in
      ap (λ (n : ℕ). take n (sheet ++ rest)) slot_for-length ∙ take-append_seam sheet rest

  -- its line says what judging the sheet alone says
  pub slot_for-says : slot_says (slot_for sheet) ≡ alone sheet
  unfolding slot_says
  slot_for-says = rw (slot_for-length, slot_for-sheet, le-ltb 765 (length sheet) fits)

slots-whole : (sheets : List (List ℕ)) → Fit sheets → Whole (map slot_for sheets)
slots-whole [] f = tt
slots-whole (s ∷ ss) f = (slot_for-long s f.0, slots-whole ss f.1)

slots_say : (sheets : List (List ℕ)) → Fit sheets → map slot_says (map slot_for sheets) ≡ map alone sheets
slots_say [] f = refl
slots_say (s ∷ ss) f = ap₂ (λ (a : SlotAnswer) (rest : List SlotAnswer). a ∷ rest) (slot_for-says s f.0) (slots_say ss f.1)

-- the lines of a queue's answers
abbrev lines_of : List SlotAnswer → List ℕ
lines_of answers = slot_lines 0 answers ++ totals_line (totals_of answers)

-- "Every slot's line ... equals what judging that sheet alone with 4,096 words says", and the totals are theirs
pub sheets-printed : (sheets : List (List ℕ)) → Fit sheets → length sheets ≤ most
    → printed (laid (map slot_for sheets)) ≡ slot_lines 0 (map alone sheets) ++ totals_line (totals_of (map alone sheets))
sheets-printed sheets f h =
    laid-printed (map slot_for sheets) (slots-whole sheets f) (omega (arith, length-map sheets slot_for)) ∙ ap lines_of (slots_say sheets f)

-- ---- judging S1 and S2 with 4,096 words

-- what judge says with these words, as an answer
alone-is : (sheet : List ℕ) (o s m : ℕ) → judge_says (read_kb limit sheet) lent ≡ 0 ∷ 0 ∷ o ∷ s ∷ m ∷ []
    → alone sheet ≡ answer_of (0 ∷ 0 ∷ o ∷ s ∷ m ∷ [])
unfolding alone
alone-is sheet o s m judges =
    ap answer_of (more_words (read_kb limit sheet) lent set4096 (omega (arith, many)) (ap length judges) ∙ judges)

s1-alone : alone s1 ≡ Met 16
unfolding judged_at answer_of
s1-alone = alone-is s1 32 16 1 (ap (judged_at 2) rows_right)

s2-alone : alone s2 ≡ Unmet 0
unfolding judged_at answer_of
s2-alone = alone-is s2 16 0 0 (ap (judged_at 4) rows_right)

-- ---- worked queues

-- S1 and S2, then the end
pub two_printed : printed (laid (slot_for s1 ∷ slot_for s2 ∷ []))
    ≡ text "0 met 16\n1 unmet 0\nsheets 2 met 1 unmet 1 refused 0 survivors 16\n"
two_printed =
    sheets-printed (s1 ∷ s2 ∷ []) (omega arith, (omega arith, tt)) (omega arith)
    ∙ ap₂ (λ (a b : SlotAnswer). lines_of (a ∷ b ∷ [])) s1-alone s2-alone
    ∙ unfold slot_lines slot_line totals_line totals_of sum met_in unmet_in refused_in survivors_in text decimal decimal_in in refl

-- "14, slot length above 765, on that slot's line": 766, whatever the other bytes
fourteen_says : (rest : List ℕ) → slot_says (0xfe ∷ 0x02 ∷ rest) ≡ Refused 14
unfolding slot_says length_in
fourteen_says rest = refl

-- so the queue of that slot
pub fourteen_printed : (rest : List ℕ) → length rest ≡ 765
    → printed (laid ((0xfe ∷ 0x02 ∷ rest) ∷ [])) ≡ text "0 refused 14\nsheets 1 met 0 unmet 0 refused 1 survivors 0\n"
fourteen_printed rest h =
    laid-printed ((0xfe ∷ 0x02 ∷ rest) ∷ []) (omega arith, tt) (omega arith)
    ∙ ap (λ (a : SlotAnswer). lines_of (a ∷ [])) (fourteen_says rest)
    ∙ unfold slot_lines slot_line totals_line totals_of sum met_in unmet_in refused_in survivors_in text decimal decimal_in in refl

-- no byte at all is a queue cut; the end alone is a queue
pub empty_printed : (printed [] ≡ text "refused 15\n") × (printed (0x31 ∷ []) ≡ text "sheets 0 met 0 unmet 0 refused 0 survivors 0\n")
unfolding slots_laid laid takes slot_first end_first slot_lines totals_line totals_of sum text decimal decimal_in
empty_printed = (cut_printed [] [] refl refl tt (omega arith), laid-printed [] tt (omega arith))
