-- From what read and judge answer to the evening program's lines.
use Prim.Native.Nat.{ℕ}
use mathlib.Core.Path.{◌≡◌, refl, sym, ap, ◌∙◌}
use mathlib.Core.Bool.{Bool, true, false}
use mathlib.Core.List.{List, [], ◌∷◌, ◌++◌, append_assoc}
use native.Mathlib.Omega.{arith}
use Rattle.std.specs.Prelude.{Result, Ok, Err}
use mathlib.Core.Bool.{cond}
use lib.Dec.{eqb}
use Rattle.refusals.specs.Numbers.{number}
use Rattle.refusals.specs.declared.Refusal.{Refusal}
use Rattle.tbox.specs.declared.Counts.{Counts}
use Rattle.domino_labels.specs.declared.judging.Judgement.{Judgement}
use lib.ListN.{replicate}
use Rattle.syntax.specs.Reading.{Reading, refusal, kb, parts_of, read_kb}
use Rattle.tbox.specs.Answers.{read_numbers, part_counts}
use Rattle.syntax.specs.Counts.{PartCounts, counts_of}
use Rattle.syntax.proofs.Counting.{same_counts, counts_sum}
use Rattle.syntax.specs.Answers.{limit, counts_say, read_says}
use Rattle.domino_labels.specs.Judging.{met}
use Rattle.domino.specs.Answers.{judge_numbers, judge_says, Judges}
use Rattle.domino.proofs.SpeltOut.{judge_says-read, judge_leaves-refusal}
use Rattle.domino.proofs.Decides.{unequal}
use Rattle.output.specs.Text.{text}
use Rattle.report.specs.Decimals.{decimal}
use Rattle.report.specs.Lines.{refused_line, counts_line, sizes_line, verdict_line, judged_lines, evening_lines, PrintsSum, Reports, printed}

-- the line of counts, put one label and number after another
pub counts_put : (o : List ℕ) (n : PartCounts) (l : ℕ) →
    o ++ text "traits " ++ decimal n.names ++ text " fresh " ++ decimal n.fresh ++ text " some " ++ decimal n.existentials
    ++ text " only " ++ decimal n.universals ++ text " links " ++ decimal l ++ text "\n" ≡ o ++ counts_line n l
unfolding counts_line
counts_put o n l = simp append_assoc

-- the lines of either answer of judge
module _ (n : PartCounts) (l : ℕ) where
  pub lines_refused : (r : Refusal) → refused_line (number r.reason) r.place ≡ judged_lines n l (judge_numbers (Err r))
  unfolding judged_lines
  lines_refused r = refl

  pub lines_judged : (j : Judgement) → counts_line n l ++ sizes_line j.opening j.survivors ++ verdict_line (met j) ≡ judged_lines n l (judge_numbers (Ok j))
  unfolding judged_lines
  lines_judged j = ap (λ b. counts_line n l ++ sizes_line j.opening j.survivors ++ verdict_line b) (as_said (met j))
    where
      as_said : (b : Bool) → b ≡ eqb (cond b 1 0) 1
      as_said true = refl
      as_said false = refl

-- the first line is that of the counts of the parts
says_done : (n : PartCounts) (l o s m : ℕ) → judged_lines n l (0 ∷ 0 ∷ o ∷ s ∷ m ∷ []) ≡ counts_line n l ++ (sizes_line o s ++ verdict_line (eqb m 1))
unfolding judged_lines
says_done n l o s m = append_assoc (counts_line n l) (sizes_line o s) (verdict_line (eqb m 1))

prints_sum : (s : Reading) (ws before after : List ℕ) → after ≡ before ++ evening_lines s ws → PrintsSum s ws before after
unfolding evening_lines
prints_sum (refusal n p) ws before after e = tt
prints_sum (kb k) ws before after e =
    let n : PartCounts = counts_of (parts_of k) in
    λ q.
    let says = ap (judged_lines n k.roles) (rw q at (judge_says-read ws k)) ∙ says_done n k.roles _ _ _ in
    (n, _, e ∙ ap (λ l. before ++ l) says, counts_sum (parts_of k))

-- of what the evening program prints
pub printed-sum : (sheet : List ℕ) → PrintsSum (read_kb limit sheet) (replicate 4096 0) [] (printed sheet)
unfolding printed
printed-sum sheet = prints_sum (read_kb limit sheet) (replicate 4096 0) [] (printed sheet) refl

-- read refuses
refused : (s : Reading) (ws before after : List ℕ) (n p : ℕ) → n ∷ p ∷ [] ≡ read_says s → after ≡ before ++ refused_line n p
    → Reports s ws ws before after
unfolding read_says evening_lines
refused (refusal m q) ws before after n p x puts =
    let i : m ≡ n = cc in let j : q ≡ p = cc in
    record { lines = rw (i, j) puts; set = sym (judge_leaves-refusal ws m q); sum = tt }
refused (kb k) ws before after n p x puts = unequal (n ∷ p ∷ []) _ x (omega arith)

-- what is said tells the counts and L
same_said : (m n : PartCounts) (k l : ℕ) → counts_say m k ≡ counts_say n l → (m ≡ n) × (k ≡ l)
same_said m n k l e =
    let t : m.names ≡ n.names = cc in
    let f : m.fresh ≡ n.fresh = cc in
    let x : m.existentials ≡ n.existentials = cc in
    let u : m.universals ≡ n.universals = cc in
    (same_counts t f x u, cc)

-- read answers its counts, and judge answers
pub lines_of : (s : Reading) (ws : List ℕ) (n : PartCounts) (l : ℕ) → counts_say n l ≡ read_says s → judged_lines n l (judge_says s ws) ≡ evening_lines s ws
unfolding read_says evening_lines
lines_of (refusal m q) ws n l x = unequal (m ∷ q ∷ []) (counts_say n l) (sym x) (omega arith)
lines_of (kb k) ws n l x = let e = same_said n (counts_of (parts_of k)) l k.roles x in rw (e.0, e.1) refl

module _ (s : Reading) (ws before after : List ℕ) where
  pub reports_refused : (r : Refusal) → read_numbers (Err r) ≡ read_says s → after ≡ before ++ refused_line (number r.reason) r.place
      → Reports s ws ws before after
  reports_refused r h puts = refused s ws before after (number r.reason) r.place h puts

  pub reports_judged : (n : Counts) → read_numbers (Ok n) ≡ read_says s → (left : List ℕ) (j : Result Judgement Refusal) → Judges s ws left j
      → after ≡ before ++ judged_lines (part_counts n) n.roles (judge_numbers j) → Reports s ws left before after
  reports_judged n h left j says puts =
      let e = ap (judged_lines (part_counts n) n.roles) says.answer ∙ lines_of s ws (part_counts n) n.roles h in
      let lines = puts ∙ ap (λ lines. before ++ lines) e in
      record { lines = lines; set = says.set; sum = prints_sum s ws before after lines }
