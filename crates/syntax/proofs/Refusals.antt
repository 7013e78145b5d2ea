-- The numbers and places of the reader's refusals.
use Prim.Native.Nat.{ℕ, suc, ◌+◌, ◌≤◌}
use native.Mathlib.Omega.{arith}
use native.Mathlib.Decide.{ℕ_discrete}
use mathlib.Core.Path.{◌≡◌, refl, ◌∙◌}
use mathlib.Core.Logic.{◌⊎◌, inl, inr, ⊎_elim, ◌↔◌}
use mathlib.Core.Bool.{Bool, true, false, cond, ◌||◌}
use mathlib.Core.List.{List}
use lib.ListN.{length}
use lib.Dec.{eqb, leb}
use borrow.Author.Tests.{eqb-true, eq-eqb, leb-true, leb-false}
use Rattle.records.specs.Scan.{Scanning, refused, whole, scan_sheet}
use Rattle.records.specs.Places.{is_record_fault, is_reference_fault, Placed}
use Rattle.records.proofs.Places.{either_is, record_faults, reference_faults, FaultPlaced, sheet-placed, fault-place, place_none}
use Rattle.syntax.specs.Reading.{Kb, refusal, kb, kb_of, parts_of, admit, reading, read_kb, is_read_refusal}

-- ---- the numbers: those of an interval, and 16 and 17

-- one number more
pub one_more : (b : Bool) (n m : ℕ) → ((b || eqb n m) ≡ true) ↔ ((b ≡ true) ⊎ (n ≡ m))
one_more b n m =
    let w = either_is b (eqb n m) in
    (λ e. ⊎_elim inl (λ f. inr (eqb-true n m f)) (w.0 e), λ h. w.1 (⊎_elim inl (λ f. inr (eq-eqb n m f)) h))

-- n is one of 1 to last, or 16 or 17
abbrev pub UpTo : ℕ → ℕ → Type 0
UpTo last n = ((1 ≤ n) × (n ≤ last)) ⊎ ((16 ≤ n) × (n ≤ 17))

pub one_wider : (P : ℕ → Bool) (last n : ℕ) → ((P n ≡ true) ↔ UpTo last n) → ((P n || eqb n (suc last)) ≡ true) ↔ UpTo (suc last) n
one_wider P last n f = (λ e. ⊎_elim (λ g. wider (f.0 g)) (λ g. inl (omega arith, omega arith)) ((one_more (P n) n (suc last)).0 e), λ h. (one_more (P n) n (suc last)).1 (back (ℕ_discrete n (suc last)) h))
  where
    wider : UpTo last n → UpTo (suc last) n
    wider (inl h) = inl (h.0, omega (arith, h.1))
    wider (inr h) = inr h

    back : Dec (n ≡ suc last) → UpTo (suc last) n → (P n ≡ true) ⊎ (n ≡ suc last)
    back (yes q) h = inr q
    back (no q) (inl h) = inl (f.1 (inl (h.0, omega (arith, h.1))))
    back (no q) (inr h) = inl (f.1 (inr h))

-- the faults of records and references
pub faults : (n : ℕ) → ((is_record_fault n || is_reference_fault n) ≡ true) ↔ UpTo 8 n
faults n = (
  λ e. ⊎_elim (λ f. of_record ((record_faults n).0 f)) (λ f. of_reference ((reference_faults n).0 f)) ((either_is (is_record_fault n) (is_reference_fault n)).0 e),
  λ h. (either_is (is_record_fault n) (is_reference_fault n)).1 (back h),
)
  where
    of_record : ((1 ≤ n) × (n ≤ 4)) ⊎ (n ≡ 8) → UpTo 8 n
    of_record (inl h) = inl (h.0, omega (arith, h.1))
    of_record (inr h) = inl (omega arith, omega arith)

    of_reference : ((5 ≤ n) × (n ≤ 7)) ⊎ ((16 ≤ n) × (n ≤ 17)) → UpTo 8 n
    of_reference (inl h) = inl (omega (arith, h.0), omega (arith, h.1))
    of_reference (inr h) = inr h

    back : UpTo 8 n → (is_record_fault n ≡ true) ⊎ (is_reference_fault n ≡ true)
    back (inr h) = inr ((reference_faults n).1 (inr h))
    back (inl h) = low (leb n 4) refl (ℕ_discrete n 8)
      where
        low : (b : Bool) → leb n 4 ≡ b → Dec (n ≡ 8) → (is_record_fault n ≡ true) ⊎ (is_reference_fault n ≡ true)
        low true q d = inl ((record_faults n).1 (inl (h.0, leb-true n 4 q)))
        low false q (yes d) = inl ((record_faults n).1 (inr d))
        low false q (no d) = inr ((reference_faults n).1 (inl (leb-false n 4 q, omega (arith, h.1))))

pub read_refusals : (n : ℕ) → (is_read_refusal n ≡ true) ↔ UpTo 9 n
unfolding is_read_refusal
read_refusals n = one_wider (λ n. is_record_fault n || is_reference_fault n) 8 n (faults n)

-- ---- the places

-- a knowledge base is refused with 9 alone
pub admit-nine : (limit n p : ℕ) (k : Kb) → admit limit k ≡ refusal n p → (n ≡ 9) × (p ≡ 0)
unfolding admit
admit-nine limit n p k = go (leb (length (parts_of k) + k.roles) limit)
  where
    go : (b : Bool) → cond b (kb k) (refusal 9 0) ≡ refusal n p → (n ≡ 9) × (p ≡ 0)
    go true h = let z : ◌≡◌ {A = ℕ} 0 1 = cc in absurd (omega arith)
    go false h = (cc, cc)

module _ (limit : ℕ) (sheet : List ℕ) {n p : ℕ} (e : read_kb limit sheet ≡ refusal n p) where
  -- a refusal is a fault in the sheet, or 9
  pub refusal_cases : FaultPlaced sheet n p ⊎ ((n ≡ 9) × (p ≡ 0))
  unfolding read_kb reading
  refusal_cases = go (scan_sheet sheet) refl e
    where
      go : (s : Scanning) → scan_sheet sheet ≡ s → reading limit s ≡ refusal n p → FaultPlaced sheet n p ⊎ ((n ≡ 9) × (p ≡ 0))
      go (refused m r) q h =
          let i : refused m r ≡ refused n p = cc in
          inl (sheet-placed sheet n p (q ∙ i))
      go (whole st) q h = inr (admit-nine limit n p (kb_of st) h)

  pub refusal-number : is_read_refusal n ≡ true
  unfolding is_read_refusal
  refusal-number = (one_more (is_record_fault n || is_reference_fault n) n 9).1 (⊎_elim (λ f. inl ((either_is (is_record_fault n) (is_reference_fault n)).1 (⊎_elim (λ g. inl g.0) (λ g. inr g.0) f))) (λ f. inr f.0) refusal_cases)

  pub refusal-placed : Placed sheet n p
  unfolding is_record_fault is_reference_fault
  refusal-placed = ⊎_elim (fault-place sheet n p) (λ f. rw (f.0, f.1) (place_none sheet 9 refl refl)) refusal_cases
