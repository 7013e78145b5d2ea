-- The numbers and places of the scan's faults.
use Prim.Native.Nat.{ℕ, zero, suc, ◌+◌, ◌-◌, ◌≤◌, ◌<◌}
use native.Mathlib.Omega.{arith}
use mathlib.Core.Path.{◌≡◌, refl, sym, ap, ◌∙◌}
use mathlib.Core.Logic.{◌⊎◌, inl, inr, ⊎_elim, ◌↔◌}
use mathlib.Core.Bool.{Bool, true, false, cond, not, ◌&&◌, ◌||◌}
use mathlib.Core.List.{List}
use lib.ListN.{length, get_or}
use lib.Dec.{eqb, leb, ltb}
use borrow.Author.Tests.{eqb-true, eqb-false, eq-eqb, leb-true, leb-false, le-leb, ltb-true, ltb-false}
use Rattle.records.specs.Shapes.{Shape}
use Rattle.records.specs.Entries.{Entry}
use Rattle.records.specs.Scan.{Fault}
use Rattle.records.specs.Shapes.{within, needs_restricted_lem}
use Rattle.records.specs.Scan.{State, start, record_at_lem, fault_at_lem, or_else, number_fault_lem, sort_fault_lem, again_fault_lem, reference_fault_lem, name, empty_fault_lem, body_fault, shape_at, record_fault, record_after, refused, whole, scan, scan_sheet}
use Rattle.records.specs.Places.{start_of, Start, wanted_at, Reference, wanted_by, named_shape, Misnames, is_record_fault, is_reference_fault, Placed}
use Rattle.records.proofs.KindTable.{Bounds, bounds}
use Rattle.records.proofs.Faultless.{body_at}
use Rattle.records.proofs.Namings.{Named, Reached, starts, own, kind-read, reference-at, second_next, reached-start, reached-next}

-- ---- the numbers

apart : {A : Type 0} {b : Bool} → b ≡ true → b ≡ false → A
apart p q = let z : ◌≡◌ {A = ℕ} 0 1 = cc in absurd (omega arith)

pub within-is : (lo hi n : ℕ) → (within lo hi n ≡ true) ↔ ((lo ≤ n) × (n ≤ hi))
within-is lo hi n = (λ e. split (leb lo n) (leb n hi) refl refl e, λ h. rw (le-leb lo n h.0, le-leb n hi h.1))
  where
    split : (a b : Bool) → leb lo n ≡ a → leb n hi ≡ b → (a && b) ≡ true → (lo ≤ n) × (n ≤ hi)
    split true true p q e = (leb-true lo n p, leb-true n hi q)
    split true false p q e = apart e refl
    split false b p q e = apart e refl

pub either_is : (a b : Bool) → ((a || b) ≡ true) ↔ ((a ≡ true) ⊎ (b ≡ true))
either_is true b = (λ e. inl refl, λ h. refl)
either_is false b = (inr, ⊎_elim (λ e. apart e refl) (λ e. e))

pub record_faults : (n : ℕ) → (is_record_fault n ≡ true) ↔ (((1 ≤ n) × (n ≤ 4)) ⊎ (n ≡ 8))
unfolding is_record_fault
record_faults n =
    let w = either_is (within 1 4 n) (eqb n 8) in
    let i = within-is 1 4 n in
    (λ e. ⊎_elim (λ f. inl (i.0 f)) (λ f. inr (eqb-true n 8 f)) (w.0 e), λ h. w.1 (⊎_elim (λ f. inl (i.1 f)) (λ f. inr (eq-eqb n 8 f)) h))

pub reference_faults : (n : ℕ) → (is_reference_fault n ≡ true) ↔ (((5 ≤ n) × (n ≤ 7)) ⊎ ((16 ≤ n) × (n ≤ 17)))
unfolding is_reference_fault
reference_faults n =
    let w = either_is (within 5 7 n) (within 16 17 n) in
    let i = within-is 5 7 n in
    let j = within-is 16 17 n in
    (λ e. ⊎_elim (λ f. inl (i.0 f)) (λ f. inr (j.0 f)) (w.0 e), λ h. w.1 (⊎_elim (λ f. inl (i.1 f)) (λ f. inr (j.1 f)) h))

-- no number is both
pub one_or_other : (n : ℕ) → is_record_fault n ≡ true → is_reference_fault n ≡ true → ⊥
one_or_other n e f =
    ⊎_elim (λ h. ⊎_elim (λ k. omega (arith, h, k)) (λ k. omega (arith, h, k)) ((reference_faults n).0 f))
    (λ h. ⊎_elim (λ k. omega (arith, h, k)) (λ k. omega (arith, h, k)) ((reference_faults n).0 f))
    ((record_faults n).0 e)

-- ---- the fault of a reference

-- the number of naming a record of a sort that is not wanted
abbrev wrong : ℕ → ℕ
wrong found = cond (eqb found 1) 16 (cond (eqb found 2) 6 17)

data Wrong (found g : ℕ) : Type 0 where
  is_concept : found ≡ 1 → g ≡ 16 → Wrong found g
  is-role : found ≡ 2 → g ≡ 6 → Wrong found g
  is_axiom : (found ≡ 1 → ⊥) → (found ≡ 2 → ⊥) → g ≡ 17 → Wrong found g

wrong_is : (found : ℕ) → Wrong found (wrong found)
wrong_is found = go (eqb found 1) refl (eqb found 2) refl
  where
    go : (b : Bool) → eqb found 1 ≡ b → (c : Bool) → eqb found 2 ≡ c → Wrong found (cond b 16 (cond c 6 17))
    go true p c q = is_concept (eqb-true found 1 p) refl
    go false p true q = is-role (eqb-true found 2 q) refl
    go false p false q = is_axiom (eqb-false found 1 p) (eqb-false found 2 q) refl

wrong_first : (found g : ℕ) → or_else (wrong found) g ≡ wrong found
wrong_first found g = go (eqb found 1) (eqb found 2)
  where
    go : (b c : Bool) → or_else (cond b 16 (cond c 6 17)) g ≡ cond b 16 (cond c 6 17)
    go true c = refl
    go false true = refl
    go false false = refl

-- why a reference r, where a sort is wanted, has the fault g
data Cause (es : List Entry) (wanted r g : ℕ) : Type 0 where
  not_earlier : length es ≤ r → g ≡ 5 → Cause es wanted r g
  other_sort : r < length es → ((record_at_lem es r).sort ≡ wanted → ⊥) → Wrong (record_at_lem es r).sort g → Cause es wanted r g
  named_again : r < length es → (record_at_lem es r).sort ≡ wanted → (record_at_lem es r).named ≡ true → (record_at_lem es r).leaf ≡ false → g ≡ 7 → Cause es wanted r g

abbrev Caused : List Entry → ℕ → ℕ → ℕ → Type 0
Caused es wanted r g = (g ≡ 0) ⊎ Cause es wanted r g

caused : (es : List Entry) (wanted r : ℕ) →
    (reference_fault_lem es wanted r ≡ 0) ⊎ ((wanted ≡ 0 → ⊥) × Cause es wanted r (reference_fault_lem es wanted r))
unfolding reference_fault_lem
caused es wanted r = none (eqb wanted 0) refl
  where
    e : Entry
    e = record_at_lem es r

    again : r < length es → e.sort ≡ wanted → (b c : Bool) → e.named ≡ b → e.leaf ≡ c → Caused es wanted r (cond (b && not c) 7 0)
    again h d false c p q = inl refl
    again h d true true p q = inl refl
    again h d true false p q = inr (named_again h d p q refl)

    sorted : r < length es → (b : Bool) → eqb e.sort wanted ≡ b → Caused es wanted r (or_else (cond b 0 (wrong e.sort)) (again_fault_lem e))
    sorted h true q = again h (eqb-true e.sort wanted q) e.named e.leaf refl refl
    sorted h false q = inr (other_sort h (eqb-false e.sort wanted q) (rw (wrong_first e.sort (again_fault_lem e)) (wrong_is e.sort)))

    within : (b : Bool) → leb (length es) r ≡ b → Caused es wanted r (cond b 5 (or_else (sort_fault_lem wanted e.sort) (again_fault_lem e)))
    within true q = inr (not_earlier (leb-true (length es) r q) refl)
    within false q = sorted (leb-false (length es) r q) (eqb e.sort wanted) refl

    none : (b : Bool) → eqb wanted 0 ≡ b →
        (cond b 0 (cond (leb (length es) r) 5 (or_else (sort_fault_lem wanted e.sort) (again_fault_lem e))) ≡ 0)
        ⊎ ((wanted ≡ 0 → ⊥) × Cause es wanted r (cond b 0 (cond (leb (length es) r) 5 (or_else (sort_fault_lem wanted e.sort) (again_fault_lem e)))))
    none true q = inl refl
    none false q = ⊎_elim inl (λ c. inr (eqb-false wanted 0 q, c)) (within (leb (length es) r) refl)

cause_number : (es : List Entry) (wanted r g : ℕ) → Cause es wanted r g → is_reference_fault g ≡ true
unfolding is_reference_fault
cause_number es wanted r g (not_earlier h e) = ap is_reference_fault e
cause_number es wanted r g (other_sort h n (is_concept f e)) = ap is_reference_fault e
cause_number es wanted r g (other_sort h n (is-role f e)) = ap is_reference_fault e
cause_number es wanted r g (other_sort h n (is_axiom f i e)) = ap is_reference_fault e
cause_number es wanted r g (named_again h d k l e) = ap is_reference_fault e

-- ---- the fault of a record of shape s with the body a, b

module _ (es : List Entry) (s : Shape) (a b : ℕ) where
  data Known (f : Fault) : Type 0 where
    no_fault : f.number ≡ 0 → Known f
    at-start : is_record_fault f.number ≡ true → f.offset ≡ 0 → Known f
    at_first : (s.first ≡ 0 → ⊥) → Cause es s.first a f.number → f.offset ≡ 1 → Known f
    at_second : (s.second ≡ 0 → ⊥) → reference_fault_lem es s.first a ≡ 0 → Cause (name es s.first a) s.second b f.number → f.offset ≡ 2 → Known f

  either : {f g : Fault} (n : ℕ) → (n ≡ 0 → Known f) → Known g → Known (cond (eqb n 0) f g)
  either {f = f} {g = g} n h k = pick (eqb n 0) refl
    where
      pick : (b : Bool) → eqb n 0 ≡ b → Known (cond b f g)
      pick true q = h (eqb-true n 0 q)
      pick false q = k

  number-known : Known (fault_at_lem 0 (number_fault_lem s a))
  unfolding number_fault_lem is_record_fault
  number-known = pick (eqb s.limit 0) (leb s.limit a)
    where
      pick : (b c : Bool) → Known (fault_at_lem 0 (cond b 0 (cond c 4 0)))
      pick true c = no_fault refl
      pick false true = at-start refl refl
      pick false false = no_fault refl

  empty_known : Known (fault_at_lem 0 (empty_fault_lem es s a))
  unfolding empty_fault_lem is_record_fault
  empty_known = pick (needs_restricted_lem s && (record_at_lem es a).vacuous)
    where
      pick : (b : Bool) → Known (fault_at_lem 0 (cond b 8 0))
      pick true = at-start refl refl
      pick false = no_fault refl

  first-known : Known (fault_at_lem 1 (reference_fault_lem es s.first a))
  first-known = ⊎_elim no_fault (λ f. at_first f.0 f.1 refl) (caused es s.first a)

  second_known : reference_fault_lem es s.first a ≡ 0 → Known (fault_at_lem 2 (reference_fault_lem (name es s.first a) s.second b))
  second_known z = ⊎_elim no_fault (λ f. at_second f.0 z f.1 refl) (caused (name es s.first a) s.second b)

  body-known : Known (body_fault es s a b)
  unfolding body_fault
  body-known =
      either (number_fault_lem s a)
      (λ _. either (reference_fault_lem es s.first a)
      (λ z. either (reference_fault_lem (name es s.first a) s.second b)
      (λ _. either (empty_fault_lem es s a) (λ _. no_fault refl) empty_known)
      (second_known z))
      first-known)
      number-known

-- ---- the record at a state's place

-- where a reference has a fault, the body is there whole
record Told (sheet : List ℕ) (st : State) (f : Fault) : Type 0 where
  known : Known st.records (shape_at sheet st.at) (body_at sheet st 1) (body_at sheet st 2) f
  whole : is_reference_fault f.number ≡ true → (shape_at sheet st.at).body ≤ length sheet - (st.at + 1)

record_told : (sheet : List ℕ) (st : State) → Told sheet st (record_fault sheet st)
unfolding record_fault is_record_fault is_reference_fault
record_told sheet st = go (eqb s.sort 0) refl (ltb (length sheet - (st.at + 1)) s.body) refl
  where
    s : Shape
    s = shape_at sheet st.at

    go : (b : Bool) → eqb s.sort 0 ≡ b → (c : Bool) → ltb (length sheet - (st.at + 1)) s.body ≡ c →
        Told sheet st (cond b (fault_at_lem 0 1) (cond c (fault_at_lem 0 2) (body_fault st.records s (body_at sheet st 1) (body_at sheet st 2))))
    go true p c q = record { known = at-start refl refl; whole = λ e. apart e refl }
    go false p true q = record { known = at-start refl refl; whole = λ e. apart e refl }
    go false p false q =
        record {
          known = body-known st.records s (body_at sheet st 1) (body_at sheet st 2);
          whole = λ e. ltb-false (length sheet - (st.at + 1)) s.body q;
        }

-- ---- the scan

abbrev pub FaultPlaced : List ℕ → ℕ → ℕ → Type 0
FaultPlaced sheet f p = ((is_record_fault f ≡ true) × (r : ℕ) × Start sheet r p)
    ⊎ ((is_reference_fault f ≡ true) × (r : Reference sheet p) × Misnames sheet f p r)

module _ (sheet : List ℕ) (n : ℕ) (st : State) (r : Reached sheet n st) where
  -- what is wrong with a reference x of the record n that wants the sort w, by the cause of its fault g in the records es before it
  module _ (p w g : ℕ) (es : List Entry) (t : Named sheet n p es) (some : w ≡ 0 → ⊥) (low : w ≤ 2) (x : Reference sheet p) (e : x.number ≡ n)
      (d : wanted_by x ≡ w) where
    abbrev m : ℕ
    m = get_or sheet p 0

    -- an earlier record, of another sort or named again
    module _ (h : m < length es) where
      below : m < n
      below = omega (arith, t.count)

      found : (named_shape sheet p).sort ≡ (record_at_lem es m).sort
      found = sym (t.sorts m below)

      axiom_left : ((record_at_lem es m).sort ≡ 1 → ⊥) → ((record_at_lem es m).sort ≡ 2 → ⊥) → (named_shape sheet p).sort ≡ 3
      axiom_left a b = omega (arith, a, b, found, r.known m below, (bounds (get_or sheet (start_of sheet m) 0)).sort)

      other : ((record_at_lem es m).sort ≡ w → ⊥) → Wrong (record_at_lem es m).sort g → Misnames sheet g p x
      other i (is_concept f j) =
          record {
            later = λ q. absurd (omega arith);
            earlier = λ q. omega (arith, e, below);
            a-role = λ q. absurd (omega arith);
            a_concept = λ q. (omega (arith, d, some, low, i, f), found ∙ f);
            an_axiom = λ q. absurd (omega arith);
            again = λ q. absurd (omega arith);
          }
      other i (is-role f j) =
          record {
            later = λ q. absurd (omega arith);
            earlier = λ q. omega (arith, e, below);
            a-role = λ q. (omega (arith, d, some, low, i, f), found ∙ f);
            a_concept = λ q. absurd (omega arith);
            an_axiom = λ q. absurd (omega arith);
            again = λ q. absurd (omega arith);
          }
      other i (is_axiom a b j) =
          record {
            later = λ q. absurd (omega arith);
            earlier = λ q. omega (arith, e, below);
            a-role = λ q. absurd (omega arith);
            a_concept = λ q. absurd (omega arith);
            an_axiom = λ q. axiom_left a b;
            again = λ q. absurd (omega arith);
          }

      repeated : (record_at_lem es m).sort ≡ w → (record_at_lem es m).named ≡ true → (record_at_lem es m).leaf ≡ false → g ≡ 7 → Misnames sheet g p x
      repeated i k l j =
          record {
            later = λ q. absurd (omega arith);
            earlier = λ q. omega (arith, e, below);
            a-role = λ q. absurd (omega arith);
            a_concept = λ q. absurd (omega arith);
            an_axiom = λ q. absurd (omega arith);
            again = λ q. (found ∙ i ∙ sym d, sym (t.leaves m below) ∙ l, (t.flags m below).0 k);
          }

    misnamed : Cause es w m g → Misnames sheet g p x
    misnamed (not_earlier h j) =
        record {
          later = λ q. omega (arith, e, h, t.count);
          earlier = λ q. absurd (q j);
          a-role = λ q. absurd (omega arith);
          a_concept = λ q. absurd (omega arith);
          an_axiom = λ q. absurd (omega arith);
          again = λ q. absurd (omega arith);
        }
    misnamed (other_sort h i f) = other h i f
    misnamed (named_again h i k l j) = repeated h i k l j

  module _ (inside : st.at < length sheet) where
    abbrev here : Shape
    here = shape_at sheet st.at

    -- the fault of the reference at byte i of the body, by its cause
    module _ (f : Fault) (t : Told sheet st f) (i : ℕ) (o : (i ≡ 1) ⊎ (i ≡ 2)) (b : i ≤ here.body) (low : wanted_at here i ≤ 2)
        (u : wanted_at here i ≡ 0 → ⊥) (es : List Entry) (c : Cause es (wanted_at here i) (body_at sheet st i) f.number) where
      number_is : is_reference_fault f.number ≡ true
      number_is = cause_number es (wanted_at here i) (body_at sheet st i) f.number c

      full : here.body ≤ length sheet - (st.at + 1)
      full = t.whole number_is

      byte-is : body_at sheet st i ≡ get_or sheet (st.at + i) 0
      byte-is = rw (le-leb i here.body b)

      of_byte : Named sheet n (st.at + i) es → FaultPlaced sheet f.number (st.at + i)
      of_byte k =
          let x : Reference sheet (st.at + i) = reference-at sheet n st r inside full i o b u in
          let w = own sheet n st r i b x in
          inr (number_is, x, misnamed (st.at + i) (wanted_at here i) f.number es k u low x w.0 w.2 (rw byte-is at c))

    fault-placed : (f : Fault) → Told sheet st f → (f.number ≡ 0 → ⊥) → FaultPlaced sheet f.number (st.at + f.offset)
    fault-placed f t x = go t.known
      where
        kind : Bounds here
        kind = bounds (get_or sheet st.at 0)

        go : Known st.records here (body_at sheet st 1) (body_at sheet st 2) f → FaultPlaced sheet f.number (st.at + f.offset)
        go (no_fault z) = absurd (x z)
        go (at-start i o) = inl (i, n, rw (o, nothing_more) (starts sheet n st r inside))
          where
            nothing_more : st.at + 0 ≡ st.at
            nothing_more = omega arith
        go (at_first u c o) = rw o (of_byte f t 1 (inl refl) (kind.one u) kind.first u st.records c (kind-read sheet n st r))
        go (at_second u z c o) =
            let es : List Entry = name st.records here.first (body_at sheet st 1) in
            let w = full f t 2 (inr refl) (kind.two u) kind.second u es c in
            rw o (of_byte f t 2 (inr refl) (kind.two u) kind.second u es c (second_next sheet n st r inside w z (kind.two u)))

scan-placed : (sheet : List ℕ) (room n : ℕ) (st : State) → Reached sheet n st → (f p : ℕ) → scan room sheet st ≡ refused f p → FaultPlaced sheet f p
unfolding scan is_record_fault
scan-placed sheet zero n st r f p e = go (ltb st.at (length sheet)) refl e
  where
    go : (b : Bool) → ltb st.at (length sheet) ≡ b → cond b (refused 3 st.at) (whole st) ≡ refused f p → FaultPlaced sheet f p
    go true q h =
        let i : f ≡ 3 = cc in
        let j : st.at ≡ p = cc in
        inl (ap is_record_fault i, n, rw (← j) (starts sheet n st r (ltb-true st.at (length sheet) q)))
    go false q h = let z : ◌≡◌ {A = ℕ} 0 1 = cc in absurd (omega arith)
scan-placed sheet (suc room) n st r f p e =
    go (ltb st.at (length sheet)) refl (record_fault sheet st) refl (eqb (record_fault sheet st).number 0) refl
    (λ l z. scan-placed sheet room (suc n) (record_after sheet st) (reached-next sheet n st r l z) f p) e
  where
    go : (b : Bool) → ltb st.at (length sheet) ≡ b → (g : Fault) → record_fault sheet st ≡ g → (c : Bool) → eqb g.number 0 ≡ c →
        (st.at < length sheet → (record_fault sheet st).number ≡ 0 → scan room sheet (record_after sheet st) ≡ refused f p → FaultPlaced sheet f p) →
        cond b (cond c (scan room sheet (record_after sheet st)) (refused g.number (st.at + g.offset))) (whole st) ≡ refused f p → FaultPlaced sheet f p
    go true q g u true v on h = on (ltb-true st.at (length sheet) q) (ap (λ (x : Fault). x.number) u ∙ eqb-true g.number 0 v) h
    go true q g u false v on h =
        let i : g.number ≡ f = cc in
        let j : st.at + g.offset ≡ p = cc in
        rw (← i, ← j) (fault-placed sheet n st r (ltb-true st.at (length sheet) q) g (rw u at (record_told sheet st)) (eqb-false g.number 0 v))
    go false q g u c v on h = let z : ◌≡◌ {A = ℕ} 0 1 = cc in absurd (omega arith)

-- a fault is one of a record, at its start, or one of a reference, at its byte
pub sheet-placed : (sheet : List ℕ) (f p : ℕ) → scan_sheet sheet ≡ refused f p → FaultPlaced sheet f p
unfolding scan_sheet
sheet-placed sheet f p e = scan-placed sheet 255 0 start (reached-start sheet) f p e

-- so its place is where it belongs
pub fault-place : (sheet : List ℕ) (f p : ℕ) → FaultPlaced sheet f p → Placed sheet f p
fault-place sheet f p (inl h) =
    record {
      of_record = λ e. (h.1, h.2);
      of_reference = λ e. absurd (one_or_other f h.0 e);
      nowhere = λ e d. apart h.0 e;
    }
fault-place sheet f p (inr h) =
    record {
      of_record = λ e. absurd (one_or_other f e h.0);
      of_reference = λ e. (h.1, h.2);
      nowhere = λ e d. apart h.0 d;
    }

-- a number that is no fault of a record or of a reference has the place 0
pub place_none : (sheet : List ℕ) (n : ℕ) → is_record_fault n ≡ false → is_reference_fault n ≡ false → Placed sheet n 0
place_none sheet n e d = record { of_record = λ t. apart t e; of_reference = λ t. apart t d; nowhere = λ s t. refl }
