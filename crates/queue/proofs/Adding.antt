-- Totals: one answer more is added at the end, the three kinds of answer make up the sheets, and what slots that may come add up
-- to is small.
use Prim.Native.Nat.{ℕ, ◌+◌, ◌*◌, ◌≤◌, ◌<◌}
use mathlib.Core.Path.{◌≡◌, refl, sym, ap, ◌∙◌}
use mathlib.Core.List.{List, [], ◌∷◌, ◌++◌, map}
use native.Mathlib.Omega.{arith}
use lib.ListN.{length, length-append, length-map}
use Rattle.queue.specs.declared.slots.SlotAnswer.{SlotAnswer}
use Rattle.queue.specs.declared.slots.SlotAnswer.TheVariants.{Met, Unmet, Refused}
use Rattle.queue.specs.Queue.{Sums, slot_says, met_in, unmet_in, refused_in, survivors_in, sum, totals_of}
use Rattle.queue.specs.Lines.{most}
use Rattle.queue.specs.Steps.{added, Reached, Small}
use Rattle.queue.proofs.Alone.{slot_survivors}

-- ---- one answer more

-- a sum with one more at the end
sum_added : (f : SlotAnswer → ℕ) (answers : List SlotAnswer) (a : SlotAnswer) → sum f (answers ++ (a ∷ [])) ≡ sum f answers + f a
unfolding sum
sum_added f [] a = omega arith
sum_added f (b ∷ rest) a = omega (arith, sum_added f rest a)

-- the totals of answers with one more are the totals with it added
pub totals-added : (answers : List SlotAnswer) (a : SlotAnswer) → totals_of (answers ++ (a ∷ [])) ≡ added (totals_of answers) a
unfolding totals_of added
totals-added answers a =
    let n : length (answers ++ (a ∷ [])) ≡ (added (totals_of answers) a).sheets = omega (arith, length-append answers (a ∷ [])) in
    λ i. record {
      sheets = n i;
      met = sum_added met_in answers a i;
      unmet = sum_added unmet_in answers a i;
      refused = sum_added refused_in answers a i;
      survivors = sum_added survivors_in answers a i;
    }

-- ---- the sheets

-- every answer is of one kind
counted_one : (a : SlotAnswer) → met_in a + unmet_in a + refused_in a ≡ 1
unfolding met_in unmet_in refused_in
counted_one (Met s) = refl
counted_one (Unmet s) = refl
counted_one (Refused n) = refl

-- so met, unmet and refused are the sheets
pub totals_counted : (answers : List SlotAnswer)
    → (totals_of answers).met + (totals_of answers).unmet + (totals_of answers).refused ≡ (totals_of answers).sheets
unfolding totals_of sum
totals_counted [] = refl
totals_counted (a ∷ rest) = omega (arith, counted_one a, totals_counted rest)

-- ---- the slots that came

-- what a function gives for one more at the end
map-added : {A B : Type 0} (f : A → B) (xs : List A) (x : A) → map f (xs ++ (x ∷ [])) ≡ map f xs ++ (f x ∷ [])
map-added f [] x = refl
map-added f (y ∷ ys) x = ap (λ l. f y ∷ l) (map-added f ys x)

-- one more, if it may come
pub reached-added : (t : Sums) (slot : List ℕ) → Reached t → t.sheets < most → Reached (added t (slot_says slot))
reached-added t slot r h =
    let n : t.sheets ≡ length r.slots =
    ap (λ (u : Sums). u.sheets) r.totals ∙ unfold totals_of in length-map r.slots slot_says in
    record {
      slots = r.slots ++ (slot ∷ []);
      few = omega (arith, length-append r.slots (slot ∷ []));
      totals =
          ap (λ (u : Sums). added u (slot_says slot)) r.totals ∙ sym (totals-added (map slot_says r.slots) (slot_says slot))
          ∙ ap totals_of (sym (map-added slot_says r.slots slot));
    }

-- ---- no total wraps

-- each survivor count is small, so their sum is
survivors-small : (slots : List (List ℕ)) → sum survivors_in (map slot_says slots) ≤ 262144 * length slots
unfolding sum
survivors-small [] = omega arith
survivors-small (slot ∷ rest) = omega (arith, slot_survivors slot, survivors-small rest)

-- at most 4,096 of each kind, and 2^18 survivors for each sheet
pub reached-small : (t : Sums) → Reached t → Small t
reached-small t r =
    let answers : List SlotAnswer = map slot_says r.slots in
    let n : (totals_of answers).sheets ≡ length r.slots = unfold totals_of in length-map r.slots slot_says in
    let s : (totals_of answers).survivors ≤ 262144 * length r.slots = unfold totals_of in survivors-small r.slots in
    let c = totals_counted answers in
    let few = r.few in
    let small : Small (totals_of answers) =
    record { sheets = omega arith; met = omega arith; unmet = omega arith; refused = omega arith; survivors = omega arith } in
    rw r.totals small
