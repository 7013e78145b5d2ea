-- What judging a sheet alone says: whatever the words hold, and in which forms.
use Prim.Native.Nat.{ℕ, ◌≤◌, ◌<◌}
use mathlib.Core.Path.{◌≡◌, refl, sym, ap, ◌∙◌}
use mathlib.Core.Bool.{Bool, true, false, cond}
use mathlib.Core.List.{List, [], ◌∷◌}
use mathlib.Core.Logic.{◌⊎◌, inl, inr}
use native.Mathlib.Omega.{arith}
use lib.Dec.{eqb, ltb}
use lib.ListN.{length}
use borrow.Author.Tests.{eqb-true, eqb-false}
use Rattle.syntax.specs.Reading.{read_kb}
use Rattle.syntax.specs.Answers.{limit}
use Rattle.std.specs.Prelude.{Result}
use Rattle.refusals.specs.declared.Refusal.{Refusal}
use Rattle.domino_labels.specs.declared.judging.Judgement.{Judgement}
use Rattle.domino.specs.Answers.{judge_numbers, judge_says}
use Rattle.domino.proofs.Judged.{judge_by-length, Forms, judge_forms}
use Rattle.report.proofs.Worked.{set4096, many}
use Rattle.queue.specs.declared.slots.SlotAnswer.{SlotAnswer}
use Rattle.queue.specs.declared.slots.SlotAnswer.TheVariants.{Met, Unmet, Refused}
use Rattle.queue.specs.Queue.{answer_of, alone, length_in, sheet_in, slot_says, survivors_in}

-- with 4,096 words, whatever they hold, judge says what judging the sheet alone says
pub alone-judged : (sheet ws : List ℕ) (r : Result Judgement Refusal) → length ws ≡ 4096 → judge_numbers r ≡ judge_says (read_kb limit sheet) ws
    → answer_of (judge_numbers r) ≡ alone sheet
unfolding alone
alone-judged sheet ws r h e = ap answer_of (e ∙ judge_by-length (read_kb limit sheet) ws set4096 (h ∙ sym many))

-- ---- the forms of an answer

-- a refusal; met, with survivors, of which 4,096 words hold 2^18; or unmet, with none
abbrev pub Cases : SlotAnswer → Type 0
Cases a = ((n : ℕ) × (a ≡ Refused n)) ⊎ (((n : ℕ) × (a ≡ Met n) × (0 < n) × (n ≤ 262144)) ⊎ (a ≡ Unmet 0))

of_count : (o n : ℕ) → n ≤ 262144 → Cases (answer_of (0 ∷ 0 ∷ o ∷ n ∷ cond (eqb n 0) 0 1 ∷ []))
unfolding answer_of
of_count o n h = go (eqb n 0) refl
  where
    go : (b : Bool) → eqb n 0 ≡ b → Cases (cond (eqb (cond b 0 1) 1) (Met n) (Unmet n))
    go true e = inr (inr (ap Unmet (eqb-true n 0 e)))
    go false e = inr (inl (n, refl, omega (arith, eqb-false n 0 e), h))

cases : (says : List ℕ) (words : ℕ) → words ≡ 4096 → Forms says words → Cases (answer_of says)
cases says words w (inl (n, p, e)) = inl (n, ap answer_of e ∙ unfold answer_of in refl)
cases says words w (inr (o, n, e, h)) = rw e (of_count o n (omega arith))

pub alone_cases : (sheet : List ℕ) → Cases (alone sheet)
unfolding alone
alone_cases sheet = cases (judge_says (read_kb limit sheet) set4096) (length set4096) many (judge_forms (read_kb limit sheet) set4096)

few : (a : SlotAnswer) → Cases a → survivors_in a ≤ 262144
unfolding survivors_in
few a (inl (n, e)) = rw e (omega arith)
few a (inr (inl (n, e, some, h))) = rw e h
few a (inr (inr e)) = rw e (omega arith)

-- at most 2^18
pub alone-survivors : (sheet : List ℕ) → survivors_in (alone sheet) ≤ 262144
alone-survivors sheet = few (alone sheet) (alone_cases sheet)

-- a slot that is too long has none
pub slot_survivors : (slot : List ℕ) → survivors_in (slot_says slot) ≤ 262144
unfolding slot_says
slot_survivors slot = go (ltb 765 (length_in slot))
  where
    go : (b : Bool) → survivors_in (cond b (Refused 14) (alone (sheet_in slot))) ≤ 262144
    go true = unfold survivors_in in omega arith
    go false = alone-survivors (sheet_in slot)
