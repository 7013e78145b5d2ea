-- Laws of the definitions of faults, one for each way through the tests.
use Prim.Native.Nat.{ℕ, ◌+◌, ◌-◌, ◌≤◌, ◌<◌}
use mathlib.Core.Path.{◌≡◌, refl, sym, ap, ◌∙◌}
use mathlib.Core.Bool.{Bool, true, false, cond}
use mathlib.Core.List.{List, map}
use lib.ListN.{length, get_or, set, get_or-map, length-set}
use lib.Seq.{set_out, map-set_same}
use lib.Dec.{eqb}
use borrow.Author.Tests.{eq-eqb, eqb-true, ne_eqb, le-leb, lt-leb, lt-ltb, le-ltb}
use Rattle.records.specs.Entries.{Entry}
use Rattle.records.specs.Shapes.{Shape}
use Rattle.records.specs.Shapes.{shape_of}
use Rattle.records.specs.Scan.{Fault, State, blank, record_at_lem, fault_at_lem, or_else, name, naming, sort_fault_lem, again_fault_lem, reference_fault_lem, number_fault_lem, empty_fault_lem, body_fault, record_fault, body_byte_lem}

-- ---- naming a record

pub name-none : (es : List Entry) (sort r : ℕ) → sort ≡ 0 → name es sort r ≡ es
unfolding name
name-none es sort r e = simp (eq-eqb sort 0 e)

pub name-past : (es : List Entry) (sort r : ℕ) → length es ≤ r → name es sort r ≡ es
unfolding name
name-past es sort r h = go (eqb sort 0)
  where
    go : (b : Bool) → cond b es (set es r (naming (record_at_lem es r))) ≡ es
    go true = refl
    go false = set_out es r _ h

pub name-at : (es : List Entry) (sort r : ℕ) → (sort ≡ 0 → ⊥) → set es r (naming (record_at_lem es r)) ≡ name es sort r
unfolding name
name-at es sort r z = simp (ne_eqb sort 0 z)

-- it changes nothing else
pub name-keeps : {B : Type 0} (f : Entry → B) → ((e : Entry) → f (naming e) ≡ f e) → (es : List Entry) (wanted r i : ℕ) →
    f (record_at_lem (name es wanted r) i) ≡ f (record_at_lem es i)
unfolding name
name-keeps f k es wanted r i =
    sym (get_or-map f (name es wanted r) i blank) ∙ ap (λ (l : List _). get_or l i (f blank)) (go (eqb wanted 0)) ∙ get_or-map f es i blank
  where
    go : (b : Bool) → map f (cond b es (set es r (naming (record_at_lem es r)))) ≡ map f es
    go true = refl
    go false = map-set_same f es r (naming (record_at_lem es r)) blank (k (record_at_lem es r))

pub name-long : (es : List Entry) (wanted r : ℕ) → length (name es wanted r) ≡ length es
unfolding name
name-long es wanted r = go (eqb wanted 0)
  where
    go : (b : Bool) → length (cond b es (set es r (naming (record_at_lem es r)))) ≡ length es
    go true = refl
    go false = length-set es r (naming (record_at_lem es r))

-- ---- a reference

pub reference-none : (es : List Entry) (sort r : ℕ) → sort ≡ 0 → 0 ≡ reference_fault_lem es sort r
unfolding reference_fault_lem
reference-none es sort r z = simp (eq-eqb sort 0 z)

pub reference-past : (es : List Entry) (sort r : ℕ) → (sort ≡ 0 → ⊥) → length es ≤ r → 5 ≡ reference_fault_lem es sort r
unfolding reference_fault_lem
reference-past es sort r z h = simp (ne_eqb sort 0 z, le-leb (length es) r h)

-- to an earlier record e
pub reference-within : (es : List Entry) (sort r : ℕ) (e : Entry) (f g : ℕ) → (sort ≡ 0 → ⊥) → r < length es → e ≡ record_at_lem es r →
    f ≡ sort_fault_lem sort e.sort → g ≡ again_fault_lem e → or_else f g ≡ reference_fault_lem es sort r
unfolding reference_fault_lem
reference-within es sort r e f g z h pe pf pg = rw (pf, pg, pe) (simp (ne_eqb sort 0 z, lt-leb (length es) r h))

-- to an earlier record of another sort, and of the sort wanted
module _ (es : List Entry) (sort r : ℕ) (e : Entry) (z : sort ≡ 0 → ⊥) (h : r < length es) (p : record_at_lem es r ≡ e) where
  pub reference-sort : sort_fault_lem sort e.sort ≡ 0 → again_fault_lem e ≡ reference_fault_lem es sort r
  reference-sort s = reference-within es sort r e 0 (again_fault_lem e) z h (sym p) (sym s) refl

  pub reference-other : (sort_fault_lem sort e.sort ≡ 0 → ⊥) → sort_fault_lem sort e.sort ≡ reference_fault_lem es sort r
  reference-other n = sym (simp (ne_eqb (sort_fault_lem sort e.sort) 0 n)) ∙ reference-within es sort r e _ _ z h (sym p) refl refl

-- ---- the first fault of a body

module _ (es : List Entry) (s : Shape) (a b : ℕ) where
  abbrev pub second : ℕ
  second = reference_fault_lem (name es s.first a) s.second b

  pub body-number : (number_fault_lem s a ≡ 0 → ⊥) → fault_at_lem 0 (number_fault_lem s a) ≡ body_fault es s a b
  unfolding body_fault
  body-number z = simp (ne_eqb (number_fault_lem s a) 0 z)

  module _ (e : number_fault_lem s a ≡ 0) where
    pub body-first : (reference_fault_lem es s.first a ≡ 0 → ⊥) → fault_at_lem 1 (reference_fault_lem es s.first a) ≡ body_fault es s a b
    unfolding body_fault
    body-first z = simp (eq-eqb (number_fault_lem s a) 0 e, ne_eqb (reference_fault_lem es s.first a) 0 z)

    module _ (d : reference_fault_lem es s.first a ≡ 0) where
      pub body_second : (second ≡ 0 → ⊥) → fault_at_lem 2 second ≡ body_fault es s a b
      unfolding body_fault
      body_second z = simp (eq-eqb (number_fault_lem s a) 0 e, eq-eqb (reference_fault_lem es s.first a) 0 d, ne_eqb second 0 z)

      pub body_last : second ≡ 0 → fault_at_lem 0 (empty_fault_lem es s a) ≡ body_fault es s a b
      unfolding body_fault
      body_last z =
          simp (eq-eqb (number_fault_lem s a) 0 e, eq-eqb (reference_fault_lem es s.first a) 0 d, eq-eqb second 0 z, none_or (empty_fault_lem es s a))
        where
          none_or : (l : ℕ) → cond (eqb l 0) (fault_at_lem 0 0) (fault_at_lem 0 l) ≡ fault_at_lem 0 l
          none_or l = go (eqb l 0) refl
            where
              go : (b : Bool) → eqb l 0 ≡ b → cond b (fault_at_lem 0 0) (fault_at_lem 0 l) ≡ fault_at_lem 0 l
              go true q = rw (eqb-true l 0 q)
              go false q = refl

-- ---- the fault of a record whose shape is s
module _ (sheet : List ℕ) (st : State) (s : Shape) (ps : s ≡ shape_of (get_or sheet st.at 0)) where
  pub unknown-kind : s.sort ≡ 0 → fault_at_lem 0 1 ≡ record_fault sheet st
  unfolding record_fault
  unknown-kind z = simp (← ps, eq-eqb _ _ z)

  pub cut_off : (s.sort ≡ 0 → ⊥) → length sheet - (st.at + 1) < s.body → fault_at_lem 0 2 ≡ record_fault sheet st
  unfolding record_fault
  cut_off n h = simp (← ps, ne_eqb _ _ n, lt-ltb _ _ h)

  pub of_body : (s.sort ≡ 0 → ⊥) → s.body ≤ length sheet - (st.at + 1) → (a b : ℕ) (f : Fault) → a ≡ body_byte_lem sheet st.at s 1 →
      b ≡ body_byte_lem sheet st.at s 2 → f ≡ body_fault st.records s a b → f ≡ record_fault sheet st
  unfolding record_fault
  of_body n h a b f pa pb pf = pf ∙ simp (pa, pb, ← ps, ne_eqb _ _ n, le-ltb _ _ h)
