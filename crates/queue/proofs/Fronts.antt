-- What a step reads of the input is enough: it takes, adds and prints what it would with all of it.
use Prim.Native.Nat.{ℕ, suc, ◌≤◌}
use mathlib.Core.Path.{◌≡◌, refl, sym, ap, subst, ◌∙◌}
use mathlib.Core.Bool.{Bool, true, false, true≢false, and-eq-true_iff, and-false, ◌&&◌, cond}
use mathlib.Core.List.{List, [], ◌∷◌}
use native.Mathlib.Omega.{arith}
use lib.Dec.{eqb, ltb}
use lib.ListN.{length, take}
use lib.Seq.{length-take-le, take_all, take-take}
use borrow.Author.Tests.{ltb-true, ltb-false}
use Rattle.queue.specs.Queue.{Sums, slot_says, kind_of, slot_first, slot_of, end_first}
use Rattle.queue.specs.Lines.{slot_line, last_line, most}
use Rattle.queue.specs.Steps.{added, takes, step_totals, step_prints, wanted}

-- ---- a front of the input

-- it has the kind
kind_front : (n : ℕ) (input : List ℕ) → kind_of (take (suc n) input) ≡ kind_of input
kind_front n [] = refl
kind_front n (b ∷ rest) = refl

-- so it ends the queue or does not, alike
end_front : (n : ℕ) (input : List ℕ) → end_first (take (suc n) input) ≡ end_first input
unfolding end_first
end_front n input = rw (kind_front n input)

-- 768 bytes have the slot, if it is whole
slot_front : (input : List ℕ) → slot_of (take 768 input) ≡ slot_of input
unfolding slot_of
slot_front [] = refl
slot_front (b ∷ rest) = take-take 767 767 rest (omega arith)

-- a front of 768 bytes is as long if they are there
long_front : (input : List ℕ) → ltb 767 (length (take 768 input)) ≡ ltb 767 (length input)
long_front input = go (ltb 767 (length input)) refl
  where
    go : (b : Bool) → ltb 767 (length input) ≡ b → ltb 767 (length (take 768 input)) ≡ ltb 767 (length input)
    go true e = rw (length-take-le 768 input (ltb-true 767 (length input) e)) (sym e)
    go false e = ap (λ (l : List ℕ). ltb 767 (length l)) (take_all 768 input (omega (arith, ltb-false 767 (length input) e)))

-- so a whole slot stands in front of both, or of neither
first_front : (input : List ℕ) → slot_first (take 768 input) ≡ slot_first input
unfolding slot_first
first_front input = rw (kind_front 767 input, long_front input)

-- a slot in front is whole
pub first-long : (input : List ℕ) → slot_first input ≡ true → 768 ≤ length input
unfolding slot_first
first-long input e = ltb-true 767 (length input) ((and-eq-true_iff (eqb (kind_of input) 0x30) (ltb 767 (length input))).0 e).1

-- ---- what a step reads

module _ (t : Sums) (input : List ℕ) where
  abbrev pub piece : List ℕ
  piece = take (wanted t.sheets (kind_of input)) input

  -- a front that is enough
  record Enough (p : List ℕ) : Type 0 where
    takes_it : takes t p ≡ takes t input
    ends : end_first p ≡ end_first input
    slot : takes t input ≡ true → slot_of p ≡ slot_of input
    long : takes t input ≡ true → length p ≡ 768

  -- where nothing is taken
  idle : (n : ℕ) → takes t (take (suc n) input) ≡ false → takes t input ≡ false → Enough (take (suc n) input)
  idle n e f =
      record {
        takes_it = e ∙ sym f;
        ends = end_front n input;
        slot = λ h. absurd (true≢false (sym h ∙ f));
        long = λ h. absurd (true≢false (sym h ∙ f));
      }

  -- nothing is taken if no slot may come, or none stands in front
  over : ltb t.sheets most ≡ false → (l : List ℕ) → takes t l ≡ false
  unfolding takes
  over e l = rw e

  other : (l : List ℕ) → eqb (kind_of l) 0x30 ≡ false → takes t l ≡ false
  unfolding takes slot_first
  other l e = rw e (and-false (ltb t.sheets most))

  -- an input of which a slot is taken has all of it
  pub takes-long : takes t input ≡ true → 768 ≤ length input
  unfolding takes
  takes-long e = first-long input ((and-eq-true_iff (ltb t.sheets most) (slot_first input)).0 e).1

  -- what a step reads is enough
  enough : Enough piece
  unfolding wanted
  enough =
      let whole : wanted 0 0x30 ≡ 768 = refl in
      subst (λ (n : ℕ). Enough (take (cond (eqb (kind_of input) 0x30 && ltb t.sheets most) n 1) input)) (sym whole)
      (go (eqb (kind_of input) 0x30) (ltb t.sheets most) refl refl)
    where
      go : (a b : Bool) → eqb (kind_of input) 0x30 ≡ a → ltb t.sheets most ≡ b → Enough (take (cond (a && b) 768 1) input)
      go true true p q =
          record {
            takes_it = unfold takes in rw (first_front input);
            ends = end_front 767 input;
            slot = λ h. slot_front input;
            long = λ h. length-take-le 768 input (takes-long h);
          }
      go true false p q = idle 0 (over q (take 1 input)) (over q input)
      go false b p q = idle 0 (other (take 1 input) (ap (λ (k : ℕ). eqb k 0x30) (kind_front 0 input) ∙ p)) (other input p)

  -- so it takes a slot, or none
  pub takes_front : takes t piece ≡ takes t input
  takes_front = enough.takes_it

  -- and a slot that is taken is read whole
  pub piece-long : takes t input ≡ true → length piece ≡ 768
  piece-long = enough.long

  -- comes to the same totals
  pub step_totals_front : step_totals t piece ≡ step_totals t input
  unfolding step_totals
  step_totals_front = rw takes_front (go (takes t input) refl)
    where
      go : (b : Bool) → takes t input ≡ b → cond b (added t (slot_says (slot_of piece))) t ≡ cond b (added t (slot_says (slot_of input))) t
      go true e = rw (enough.slot e)
      go false e = refl

  -- and prints the same line
  pub step_prints_front : step_prints t piece ≡ step_prints t input
  unfolding step_prints
  step_prints_front = rw takes_front (go (takes t input) refl)
    where
      go : (b : Bool) → takes t input ≡ b
          → cond b (slot_line t.sheets (slot_says (slot_of piece))) (last_line (end_first piece) t)
          ≡ cond b (slot_line t.sheets (slot_says (slot_of input))) (last_line (end_first input) t)
      go true e = rw (enough.slot e)
      go false e = rw enough.ends
