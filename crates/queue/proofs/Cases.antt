-- The cases of what judge answers and of a slot's answer, as the code takes them apart.
use Prim.Native.Nat.{ℕ, ◌+◌, ◌-◌, ◌*◌, ◌≤◌, ◌<◌}
use mathlib.Core.Path.{◌≡◌, refl, sym, ap, subst, ◌∙◌}
use mathlib.Core.Bool.{Bool, true, false, cond}
use mathlib.Core.List.{List}
use native.Mathlib.Omega.{arith}
use lib.ListN.{length, get_or, take, drop}
use lib.Seq.{take-take}
use Rattle.std.specs.Prelude.{slice_range}
use borrow.Author.Tests.{lt-ltb, le-ltb}
use Rattle.syntax.specs.Reading.{read_kb}
use Rattle.syntax.specs.Answers.{limit}
use Rattle.std.specs.Prelude.{Result, Ok, Err}
use lib.Dec.{eqb}
use Rattle.refusals.specs.Numbers.{number}
use Rattle.refusals.specs.declared.Refusal.{Refusal}
use Rattle.domino_labels.specs.declared.judging.Judgement.{Judgement}
use Rattle.domino_labels.specs.Judging.{met}
use Rattle.domino.specs.Answers.{judge_numbers, Judges}
use Rattle.queue.specs.declared.slots.SlotAnswer.{SlotAnswer}
use Rattle.queue.specs.declared.slots.SlotAnswer.TheVariants.{Met, Unmet, Refused}
use Rattle.queue.specs.Queue.{Sums, answer_of, length_in, sheet_in, slot_says, met_in, unmet_in, refused_in, survivors_in}
use Rattle.queue.specs.Steps.{added, slot_leaves, JudgesAlone, JudgesSlot}
use Rattle.queue.proofs.Alone.{alone-judged}

-- ---- what judge answers

module _ (sheet before after : List ℕ) (j : Result Judgement Refusal) (many : length before ≡ 4096)
    (says : Judges (read_kb limit sheet) before after j) where
  case : (r : SlotAnswer) → answer_of (judge_numbers j) ≡ r → JudgesAlone sheet before after r
  case r e = record { answer = sym e ∙ alone-judged sheet before j many says.answer; set = says.set }

  same : {x : Result Judgement Refusal} → j ≡ x → answer_of (judge_numbers j) ≡ answer_of (judge_numbers x)
  same e = ap (λ (a : Result Judgement Refusal). answer_of (judge_numbers a)) e

  pub alone-refused : (r : Refusal) → j ≡ Err r → JudgesAlone sheet before after (Refused (number r.reason))
  unfolding answer_of
  alone-refused r e = case (Refused (number r.reason)) (same e)

  module _ (x : Judgement) (b : Bool) (e : j ≡ Ok x) (m : b ≡ met x) where
    found : answer_of (judge_numbers j) ≡ cond (eqb (cond b 1 0) 1) (Met x.survivors) (Unmet x.survivors)
    unfolding answer_of
    found = same e ∙ ap (λ (b : Bool). cond (eqb (cond b 1 0) 1) (Met x.survivors) (Unmet x.survivors)) (sym m)

    pub alone-met : b ≡ true → JudgesAlone sheet before after (Met x.survivors)
    alone-met h = case (Met x.survivors) (found ∙ ap (λ (b : Bool). cond (eqb (cond b 1 0) 1) (Met x.survivors) (Unmet x.survivors)) h)

    pub alone-unmet : b ≡ false → JudgesAlone sheet before after (Unmet x.survivors)
    alone-unmet h = case (Unmet x.survivors) (found ∙ ap (λ (b : Bool). cond (eqb (cond b 1 0) 1) (Met x.survivors) (Unmet x.survivors)) h)

-- ---- one answer more

none_more : (n : ℕ) → n + 0 ≡ n
none_more n = omega arith

module _ (t : Sums) (a : SlotAnswer) where
  pub added-met : (s : ℕ) → a ≡ Met s
      → record {
        sheets = t.sheets + 1;
        met = t.met + 1;
        unmet = t.unmet;
        refused = t.refused;
        survivors = t.survivors + s;
      } ≡ added t a
  unfolding added met_in unmet_in refused_in survivors_in
  added-met s e = rw e (rw (none_more t.unmet, none_more t.refused) refl)

  pub added-unmet : (s : ℕ) → a ≡ Unmet s
      → record {
        sheets = t.sheets + 1;
        met = t.met;
        unmet = t.unmet + 1;
        refused = t.refused;
        survivors = t.survivors + s;
      } ≡ added t a
  unfolding added met_in unmet_in refused_in survivors_in
  added-unmet s e = rw e (rw (none_more t.met, none_more t.refused) refl)

  pub added-refused : (n : ℕ) → a ≡ Refused n
      → record {
        sheets = t.sheets + 1;
        met = t.met;
        unmet = t.unmet;
        refused = t.refused + 1;
        survivors = t.survivors;
      } ≡ added t a
  unfolding added met_in unmet_in refused_in survivors_in
  added-refused n e = rw e (rw (none_more t.met, none_more t.unmet, none_more t.survivors) refl)

-- the survivors of either verdict
module _ (a : SlotAnswer) where
  pub survivors-met : (s : ℕ) → a ≡ Met s → survivors_in a ≡ s
  unfolding survivors_in
  survivors-met s e = rw e refl

  pub survivors-unmet : (s : ℕ) → a ≡ Unmet s → survivors_in a ≡ s
  unfolding survivors_in
  survivors-unmet s e = rw e refl

-- ---- a slot's length

-- the sheet, as the code takes it out of the 765 bytes behind the length
pub sheet-cut : (slot : List ℕ) (n : ℕ) → n ≤ length slot - 2 → slice_range (take (length slot - 2) (drop 2 slot)) 0 n ≡ take n (drop 2 slot)
sheet-cut slot n few =
    let e : n - 0 ≡ n = omega arith in
    ap (λ (k : ℕ). take k (take (length slot - 2) (drop 2 slot))) e ∙ take-take n (length slot - 2) (drop 2 slot) few

module _ (slot before after : List ℕ) (n : ℕ) (e : n ≡ get_or slot 0 0 + get_or slot 1 0 * 256) where
  is-length : length_in slot ≡ n
  unfolding length_in
  is-length = omega (arith, e)

  pub slot_refused : (number : ℕ) → 765 < n → number ≡ 14 → JudgesSlot slot before before (Refused number)
  unfolding slot_says slot_leaves
  slot_refused number h f = let x = is-length in let y = lt-ltb 765 n h in record { answer = rw (x, y, f) refl; set = rw (x, y) refl }

  pub slot_judged : (sheet : List ℕ) (r : SlotAnswer) → n ≤ 765 → sheet ≡ take n (drop 2 slot) → JudgesAlone sheet before after r
      → JudgesSlot slot before after r
  unfolding slot_says slot_leaves sheet_in
  slot_judged sheet r h f says =
      let x = is-length in
      let y = le-ltb 765 n h in
      let s = subst (λ (l : List ℕ). JudgesAlone l before after r) f says in
      record { answer = rw (x, y) s.answer; set = rw (x, y) s.set }
