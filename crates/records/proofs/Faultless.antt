-- What a record without fault is like, and what holds at the end of a scan that meets no fault.
use Prim.Native.Nat.{ℕ, zero, suc, ◌+◌, ◌-◌, ◌≤◌, ◌<◌}
use native.Mathlib.Omega.{arith}
use mathlib.Core.Path.{◌≡◌, refl}
use mathlib.Core.Bool.{Bool, true, false, cond, not, ◌&&◌}
use mathlib.Core.List.{List, [], ◌∷◌}
use lib.ListN.{length}
use lib.Dec.{eqb, leb, ltb}
use borrow.Author.Tests.{eqb-true, eqb-false, leb-false, ltb-true, ltb-false}
use Rattle.records.specs.Shapes.{Shape}
use Rattle.records.specs.Entries.{Entry}
use Rattle.records.specs.Scan.{Fault}
use Rattle.records.specs.Scan.{State, record_at_lem, fault_at_lem, first_of, fault_place, or_else, number_fault_lem, sort_fault_lem, again_fault_lem, reference_fault_lem, name, empty_fault_lem, body_fault, body_byte_lem, shape_at, record_fault, record_after, refused, whole, scan}

-- no fault of two; of several; of a body's four
neither : (f g : ℕ) → or_else f g ≡ 0 → (f ≡ 0) × (g ≡ 0)
neither f g = go (eqb f 0) refl
  where
    go : (b : Bool) → eqb f 0 ≡ b → cond b g f ≡ 0 → (f ≡ 0) × (g ≡ 0)
    go true q p = (eqb-true f 0 q, p)
    go false q p = absurd (eqb-false f 0 q p)

none_first : (i f : ℕ) (fs : List Fault) → (first_of (fault_at_lem i f ∷ fs)).number ≡ 0 → (f ≡ 0) × ((first_of fs).number ≡ 0)
none_first i f fs = go (eqb f 0) refl
  where
    go : (b : Bool) → eqb f 0 ≡ b → (cond b (first_of fs) (fault_at_lem i f)).number ≡ 0 → (f ≡ 0) × ((first_of fs).number ≡ 0)
    go true q p = (eqb-true f 0 q, p)
    go false q p = absurd (eqb-false f 0 q p)

pub none_of_body : (es : List Entry) (s : Shape) (a b : ℕ) → (body_fault es s a b).number ≡ 0 →
    (number_fault_lem s a ≡ 0) × (reference_fault_lem es s.first a ≡ 0) × (reference_fault_lem (name es s.first a) s.second b ≡ 0)
    × (empty_fault_lem es s a ≡ 0)
unfolding body_fault
none_of_body es s a b p =
    four (number_fault_lem s a) (reference_fault_lem es s.first a) (reference_fault_lem (name es s.first a) s.second b) (empty_fault_lem es s a) p
  where
    four : (f g h l : ℕ) → (first_of (fault_at_lem 0 f ∷ fault_at_lem 1 g ∷ fault_at_lem 2 h ∷ fault_at_lem 0 l ∷ [])).number ≡ 0 →
        (f ≡ 0) × (g ≡ 0) × (h ≡ 0) × (l ≡ 0)
    four f g h l p =
        let w = none_first 0 f (fault_at_lem 1 g ∷ fault_at_lem 2 h ∷ fault_at_lem 0 l ∷ []) p in
        let x = none_first 1 g (fault_at_lem 2 h ∷ fault_at_lem 0 l ∷ []) w.1 in
        let y = none_first 2 h (fault_at_lem 0 l ∷ []) x.1 in
        (w.0, x.0, y.0, (none_first 0 l [] y.1).0)

sort_same : (wanted found : ℕ) → sort_fault_lem wanted found ≡ 0 → found ≡ wanted
sort_same wanted found = go (eqb found wanted) refl (eqb found 1) (eqb found 2)
  where
    go : (a : Bool) → eqb found wanted ≡ a → (b c : Bool) → ◌≡◌ {A = ℕ} (cond a 0 (cond b 16 (cond c 6 17))) 0 → found ≡ wanted
    go true q b c p = eqb-true found wanted q
    go false q true c p = absurd (omega arith)
    go false q false true p = absurd (omega arith)
    go false q false false p = absurd (omega arith)

again_leaf : (e : Entry) → again_fault_lem e ≡ 0 → e.named ≡ true → e.leaf ≡ true
again_leaf e p q = go e.leaf (rw q at p)
  where
    go : (l : Bool) → ◌≡◌ {A = ℕ} (cond (true && not l) 7 0) 0 → l ≡ true
    go true p = refl
    go false p = absurd (omega arith)

-- a reference without fault names an earlier record of the sort wanted, which is a leaf if it was named before
pub reference-right : (es : List Entry) (wanted r : ℕ) → reference_fault_lem es wanted r ≡ 0 → (wanted ≡ 0 → ⊥) →
    (r < length es) × ((record_at_lem es r).sort ≡ wanted) × ((record_at_lem es r).named ≡ true → (record_at_lem es r).leaf ≡ true)
unfolding reference_fault_lem
reference-right es wanted r p n = go (eqb wanted 0) refl (leb (length es) r) refl p
  where
    go : (b : Bool) → eqb wanted 0 ≡ b → (c : Bool) → leb (length es) r ≡ c →
        cond b 0 (cond c 5 (or_else (sort_fault_lem wanted (record_at_lem es r).sort) (again_fault_lem (record_at_lem es r)))) ≡ 0 →
        (r < length es) × ((record_at_lem es r).sort ≡ wanted) × ((record_at_lem es r).named ≡ true → (record_at_lem es r).leaf ≡ true)
    go true q c k p = absurd (n (eqb-true wanted 0 q))
    go false q true k p = absurd (omega arith)
    go false q false k p =
        let w = neither (sort_fault_lem wanted (record_at_lem es r).sort) (again_fault_lem (record_at_lem es r)) p in
        (leb-false (length es) r k, sort_same wanted (record_at_lem es r).sort w.0, again_leaf (record_at_lem es r) w.1)

-- byte i of the body of the record at a state's place
abbrev pub body_at : List ℕ → State → ℕ → ℕ
body_at sheet st i = body_byte_lem sheet st.at (shape_at sheet st.at) i

-- a record without fault has a known kind, and its body is there whole and has no fault
pub record_right : (sheet : List ℕ) (st : State) → (record_fault sheet st).number ≡ 0 →
    ((shape_at sheet st.at).sort ≡ 0 → ⊥) × ((shape_at sheet st.at).body ≤ length sheet - (st.at + 1))
    × ((body_fault st.records (shape_at sheet st.at) (body_at sheet st 1) (body_at sheet st 2)).number ≡ 0)
unfolding record_fault
record_right sheet st p =
    go (shape_at sheet st.at) (body_fault st.records (shape_at sheet st.at) (body_at sheet st 1) (body_at sheet st 2))
    (eqb (shape_at sheet st.at).sort 0) refl (ltb (length sheet - (st.at + 1)) (shape_at sheet st.at).body) refl p
  where
    go : (s : Shape) (f : Fault) (b : Bool) → eqb s.sort 0 ≡ b → (c : Bool) → ltb (length sheet - (st.at + 1)) s.body ≡ c →
        (cond b (fault_at_lem 0 1) (cond c (fault_at_lem 0 2) f)).number ≡ 0 →
        (s.sort ≡ 0 → ⊥) × (s.body ≤ length sheet - (st.at + 1)) × (f.number ≡ 0)
    go s f true q c k p = absurd (omega arith)
    go s f false q true k p = absurd (omega arith)
    go s f false q false k p = (eqb-false s.sort 0 q, ltb-false (length sheet - (st.at + 1)) s.body k, p)

-- what each record without fault keeps, with room for so many records more, holds at the end
module _ (P : ℕ → State → Type 0) (sheet : List ℕ)
    (keeps : (room : ℕ) (st : State) → st.at < length sheet → (record_fault sheet st).number ≡ 0 → P (suc room) st →
    P room (record_after sheet st)) where
  abbrev Ends : State → Type 0
  Ends u = (n : ℕ) × P n u × (length sheet ≤ u.at)

  pub scan-keeps : (room : ℕ) (st u : State) → P room st → scan room sheet st ≡ whole u → Ends u
  unfolding scan
  scan-keeps zero st u h e = go (ltb st.at (length sheet)) refl e
    where
      go : (b : Bool) → ltb st.at (length sheet) ≡ b → cond b (refused 3 st.at) (whole st) ≡ whole u → Ends u
      go true l p = let z : ◌≡◌ {A = ℕ} 0 1 = cc in absurd (omega arith)
      go false l p = let q : st ≡ u = cc in (zero, rw q at h, rw q at (ltb-false st.at (length sheet) l))
  scan-keeps (suc room) st u h e =
      go (ltb st.at (length sheet)) refl (eqb (record_fault sheet st).number 0) refl
      (λ l q. scan-keeps room (record_after sheet st) u (keeps room st l q h)) e
    where
      go : (b : Bool) → ltb st.at (length sheet) ≡ b → (c : Bool) → eqb (record_fault sheet st).number 0 ≡ c →
          (st.at < length sheet → (record_fault sheet st).number ≡ 0 → scan room sheet (record_after sheet st) ≡ whole u → Ends u) →
          cond b
          (cond c (scan room sheet (record_after sheet st)) (refused (record_fault sheet st).number (fault_place st (record_fault sheet st))))
          (whole st) ≡ whole u → Ends u
      go true l true t i p = i (ltb-true st.at (length sheet) l) (eqb-true (record_fault sheet st).number 0 t) p
      go true l false t i p = let z : ◌≡◌ {A = ℕ} 0 1 = cc in absurd (omega arith)
      go false l c t i p = let q : st ≡ u = cc in (suc room, rw q at h, rw q at (ltb-false st.at (length sheet) l))
