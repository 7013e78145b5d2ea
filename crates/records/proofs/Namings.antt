-- Which records the references read so far name.
use Prim.Native.Nat.{ℕ, zero, suc, ◌+◌, ◌-◌, ◌≤◌, ◌<◌, min}
use native.Mathlib.Omega.{arith}
use native.Mathlib.Decide.{ℕ_discrete}
use mathlib.Core.Path.{◌≡◌, refl, sym, ap, ◌∙◌}
use mathlib.Core.Logic.{◌⊎◌, inl, inr, ⊎_elim, ◌↔◌}
use mathlib.Core.Bool.{Bool, true, false, cond}
use mathlib.Core.List.{List, [], ◌∷◌, ◌++◌}
use lib.ListN.{length, get_or, length-append, get_or-append}
use lib.Seq.{get_or_at, get_or-set_same, get_or-set_other}
use lib.Dec.{eqb, leb}
use borrow.Author.Tests.{ne_eqb, le-leb, leb-true, leb-false}
use Rattle.records.specs.Shapes.{Shape}
use Rattle.records.specs.Entries.{Entry}
use Rattle.records.specs.Shapes.{is_leaf_lem}
use Rattle.records.specs.Scan.{State, start, blank, record_at_lem, naming, name, entry_for, reference_fault_lem, after, shape_at, record_fault, record_after, whole, scan_sheet}
use Rattle.records.specs.Places.{start_of, KnownBefore, Start, wanted_at, Reference, wanted_by, named_shape, NamedBefore, NamedRightly}
use Rattle.records.proofs.KindTable.{Bounds, bounds}
use Rattle.records.proofs.Faults.{name-none, name-keeps, name-long}
use Rattle.records.proofs.Faultless.{none_of_body, reference-right, body_at, record_right, scan-keeps}

-- ---- naming a record

module _ (es : List Entry) (wanted r : ℕ) where
  name_sort : (i : ℕ) → (record_at_lem (name es wanted r) i).sort ≡ (record_at_lem es i).sort
  name_sort i = name-keeps (λ e. e.sort) (λ e. refl) es wanted r i

  name_leaf : (i : ℕ) → (record_at_lem (name es wanted r) i).leaf ≡ (record_at_lem es i).leaf
  name_leaf i = name-keeps (λ e. e.leaf) (λ e. refl) es wanted r i

  name_here : (wanted ≡ 0 → ⊥) → r < length es → (record_at_lem (name es wanted r) r).named ≡ true
  unfolding name
  name_here n h = rw (ne_eqb wanted 0 n, get_or-set_same es r (naming (record_at_lem es r)) blank h) refl

  name_other : (wanted ≡ 0 → ⊥) → (i : ℕ) → (i ≡ r → ⊥) → record_at_lem (name es wanted r) i ≡ record_at_lem es i
  unfolding name
  name_other n i h = rw (ne_eqb wanted 0 n) (get_or-set_other es r i (naming (record_at_lem es r)) blank h)

-- ---- the record that a reference stands in

module _ (sheet : List ℕ) where
  start-later : (n m : ℕ) → n ≤ m → start_of sheet n ≤ start_of sheet m
  unfolding start_of
  start-later n zero h = let e : n ≡ 0 = omega arith in rw e (omega arith)
  start-later n (suc m) h = pick (ℕ_discrete n (suc m)) (λ l. start-later n m l)
    where
      pick : Dec (n ≡ suc m) → (n ≤ m → start_of sheet n ≤ start_of sheet m) → start_of sheet n ≤ start_of sheet (suc m)
      pick (yes q) i = rw q (omega arith)
      pick (no q) i = omega (arith, i (omega arith))

  module _ {p : ℕ} (r : Reference sheet p) where
    after-start : r.from < p
    after-start = ⊎_elim (λ e. omega arith) (λ e. omega arith) r.place

    before-next : p < start_of sheet (suc r.number)
    unfolding start_of
    before-next = rw (← r.start.place) (omega (arith, r.body))

    not-before : (n : ℕ) → start_of sheet n ≤ p → r.number < n → ⊥
    not-before n h l = omega (arith, before-next, start-later (suc r.number) n l)

    not_after : (n : ℕ) → p < start_of sheet (suc n) → n < r.number → ⊥
    not_after n h l = omega (arith, after-start, r.start.place, start-later (suc n) r.number l)

    number_is : (n : ℕ) → start_of sheet n ≤ p → p < start_of sheet (suc n) → r.number ≡ n
    number_is n h k = omega (arith, not-before n h, not_after n k)

    inside-sheet : p < length sheet
    inside-sheet = omega (arith, r.body, r.whole)

-- ---- the records, and what the references before byte p have named

pub record Named (sheet : List ℕ) (n p : ℕ) (es : List Entry) : Type 0 where
  pub count : length es ≡ n
  pub sorts : (m : ℕ) → m < n → (record_at_lem es m).sort ≡ (shape_at sheet (start_of sheet m)).sort
  pub leaves : (m : ℕ) → m < n → (record_at_lem es m).leaf ≡ is_leaf_lem (shape_at sheet (start_of sheet m))
  pub flags : (m : ℕ) → m < n → ((record_at_lem es m).named ≡ true) ↔ NamedBefore sheet m p
  pub once : (q r : ℕ) → Reference sheet q → Reference sheet r → q < p → r < p → get_or sheet q 0 ≡ get_or sheet r 0 →
      is_leaf_lem (named_shape sheet q) ≡ false → q ≡ r
  pub right : (q : ℕ) → q < p → (r : Reference sheet q) → (get_or sheet q 0 < r.number) × ((named_shape sheet q).sort ≡ wanted_by r)

named-later : {sheet : List ℕ} {m : ℕ} (p q : ℕ) → p ≤ q → NamedBefore sheet m p → NamedBefore sheet m q
named-later p q h b = record { by = b.by; reference = b.reference; before = omega (arith, b.before); names = b.names }

-- what holds of a reference below p and at p
at_or_below : (sheet : List ℕ) (p : ℕ) (P : ℕ → Type 0) → ((q : ℕ) → q < p → Reference sheet q → P q) → (Reference sheet p → P p) →
    (q : ℕ) → q < suc p → Reference sheet q → P q
at_or_below sheet p P f g q h = pick (ℕ_discrete q p)
  where
    pick : Dec (q ≡ p) → Reference sheet q → P q
    pick (yes e) = rw e g
    pick (no e) = f q (omega arith)

named_sooner : (sheet : List ℕ) (m p : ℕ) → (Reference sheet p → get_or sheet p 0 ≡ m → ⊥) → NamedBefore sheet m (suc p) → NamedBefore sheet m p
named_sooner sheet m p none b =
    at_or_below sheet p (λ q. get_or sheet q 0 ≡ m → NamedBefore sheet m p)
    (λ q h x e. record { by = q; reference = x; before = h; names = e }) (λ x e. absurd (none x e)) b.by b.before b.reference b.names

module _ (sheet : List ℕ) (n p : ℕ) (es : List Entry) (t : Named sheet n p es) where
  -- a byte that is no reference
  named_past : (Reference sheet p → ⊥) → Named sheet n (suc p) es
  named_past none =
      record {
        count = t.count;
        sorts = t.sorts;
        leaves = t.leaves;
        flags = λ m l. (
          λ e. named-later p (suc p) (omega arith) ((t.flags m l).0 e),
          λ b. (t.flags m l).1 (named_sooner sheet m p (λ x e. none x) b),
        );
        once = λ q r x y h k. t.once q r x y (below q h x) (below r k y);
        right = λ q h x. t.right q (below q h x) x;
      }
    where
      below : (q : ℕ) → q < suc p → Reference sheet q → q < p
      below = at_or_below sheet p (λ q. q < p) (λ q h x. h) (λ x. absurd (none x))

  -- a reference of the record n that wants the sort w, and has no fault
  module _ (w : ℕ) (some : w ≡ 0 → ⊥) (x : Reference sheet p) (own : (r : Reference sheet p) → (r.number ≡ n) × (wanted_by r ≡ w))
      (z : reference_fault_lem es w (get_or sheet p 0) ≡ 0) where
    abbrev to : ℕ
    to = get_or sheet p 0

    low : to < n
    low = omega (arith, (reference-right es w to z some).0, t.count)

    sort_is : (named_shape sheet p).sort ≡ w
    sort_is = sym (t.sorts to low) ∙ (reference-right es w to z some).1

    -- a reference before it that names the same record names a leaf
    leaf_before : NamedBefore sheet to p → is_leaf_lem (named_shape sheet p) ≡ true
    leaf_before b = sym (t.leaves to low) ∙ (reference-right es w to z some).2 ((t.flags to low).1 b)

    no_other : (q : ℕ) → q < p → Reference sheet q → get_or sheet q 0 ≡ to → is_leaf_lem (named_shape sheet p) ≡ false → ⊥
    no_other q h y e l =
        let b : is_leaf_lem (named_shape sheet p) ≡ true = leaf_before (record { by = q; reference = y; before = h; names = e }) in
        let u : ◌≡◌ {A = ℕ} 0 1 = cc in
        omega arith

    flag_is : (m : ℕ) → m < n → Dec (m ≡ to) → ((record_at_lem (name es w to) m).named ≡ true) ↔ NamedBefore sheet m (suc p)
    flag_is m l (yes e) = (
      λ f. record { by = p; reference = x; before = omega arith; names = sym e },
      λ b. rw e (name_here es w to some (omega (arith, low, t.count))),
    )
    flag_is m l (no e) = (
      λ f. named-later p (suc p) (omega arith) ((t.flags m l).0 (rw (name_other es w to some m e) at f)),
      λ b. rw (name_other es w to some m e) ((t.flags m l).1 (named_sooner sheet m p (λ y q. e (sym q)) b)),
    )

    named-once : (q r : ℕ) → Reference sheet q → Reference sheet r → q < suc p → r < suc p → get_or sheet q 0 ≡ get_or sheet r 0 →
        is_leaf_lem (named_shape sheet q) ≡ false → q ≡ r
    named-once q r y y' h k e l = pick (ℕ_discrete q p) (ℕ_discrete r p)
      where
        pick : Dec (q ≡ p) → Dec (r ≡ p) → q ≡ r
        pick (yes i) (yes j) = i ∙ sym j
        pick (yes i) (no j) = absurd (no_other r (omega arith) y' (rw i at (sym e)) (rw i at l))
        pick (no i) (yes j) = absurd (no_other q (omega arith) y (rw j at e) (rw (e, j) at l))
        pick (no i) (no j) = t.once q r y y' (omega arith) (omega arith) e l

    named-next : Named sheet n (suc p) (name es w to)
    named-next =
        record {
          count = name-long es w to ∙ t.count;
          sorts = λ m l. name_sort es w to m ∙ t.sorts m l;
          leaves = λ m l. name_leaf es w to m ∙ t.leaves m l;
          flags = λ m l. flag_is m l (ℕ_discrete m to);
          once = named-once;
          right = λ q h y. at_or_below sheet p
              (λ q. (r : Reference sheet q) → (get_or sheet q 0 < r.number) × ((named_shape sheet q).sort ≡ wanted_by r))
              (λ q h y. t.right q h) (λ y r. (omega (arith, low, (own r).0), sort_is ∙ sym (own r).1)) q h y y;
        }

  -- one record more, which no reference before p names, as each names an earlier record
  module _ (e : Entry) (free : e.named ≡ false) (sort : e.sort ≡ (shape_at sheet (start_of sheet n)).sort)
      (leaf : e.leaf ≡ is_leaf_lem (shape_at sheet (start_of sheet n))) (end : p ≡ start_of sheet (suc n)) where
    old_at : (m : ℕ) → m < n → record_at_lem (es ++ (e ∷ [])) m ≡ record_at_lem es m
    old_at m l = get_or-append es (e ∷ []) blank m (omega (arith, t.count))

    new_at : (m : ℕ) → m ≡ n → record_at_lem (es ++ (e ∷ [])) m ≡ e
    new_at m q = get_or_at es e [] blank m (t.count ∙ sym q)

    unnamed : (m : ℕ) → m ≡ n → NamedBefore sheet m p → ⊥
    unnamed m q b =
        not_after sheet b.reference n (omega (arith, b.before, end))
        (omega (arith, (t.right b.by b.before b.reference).0, b.names))

    flag_new : (m : ℕ) → m ≡ n → ((record_at_lem (es ++ (e ∷ [])) m).named ≡ true) ↔ NamedBefore sheet m p
    flag_new m q = (λ f. let u : ◌≡◌ {A = ℕ} 0 1 = off (rw (new_at m q) at f) in absurd (omega arith), λ b. absurd (unnamed m q b))
      where
        off : e.named ≡ true → ◌≡◌ {A = ℕ} 0 1
        off f = cc

    each : (P : ℕ → Type 0) → ((m : ℕ) → m < n → P m) → ((m : ℕ) → m ≡ n → P m) → (m : ℕ) → m < suc n → P m
    each P h k m l = pick (ℕ_discrete m n)
      where
        pick : Dec (m ≡ n) → P m
        pick (yes q) = k m q
        pick (no q) = h m (omega arith)

    named_more : Named sheet (suc n) p (es ++ (e ∷ []))
    named_more =
        record {
          count = omega (arith, length-append es (e ∷ []), t.count);
          sorts = each (λ m. (record_at_lem (es ++ (e ∷ [])) m).sort ≡ (shape_at sheet (start_of sheet m)).sort)
              (λ m l. rw (old_at m l) (t.sorts m l)) (λ m q. rw (new_at m q, q) sort);
          leaves = each (λ m. (record_at_lem (es ++ (e ∷ [])) m).leaf ≡ is_leaf_lem (shape_at sheet (start_of sheet m)))
              (λ m l. rw (old_at m l) (t.leaves m l)) (λ m q. rw (new_at m q, q) leaf);
          flags = each (λ m. ((record_at_lem (es ++ (e ∷ [])) m).named ≡ true) ↔ NamedBefore sheet m p)
              (λ m l. rw (old_at m l) (t.flags m l)) flag_new;
          once = t.once;
          right = t.right;
        }

-- ---- the scan

-- n records have been read
pub record Reached (sheet : List ℕ) (n : ℕ) (st : State) : Type 0 where
  pub at : st.at ≡ start_of sheet n
  pub known : KnownBefore sheet n
  pub named : Named sheet n st.at st.records

module _ (sheet : List ℕ) (n : ℕ) (st : State) (r : Reached sheet n st) where
  abbrev here : Shape
  here = shape_at sheet st.at

  pub starts : st.at < length sheet → Start sheet n st.at
  starts h = record { place = r.at; inside = h; known = r.known }

  past : (i : ℕ) → st.at + i - st.at ≡ i
  past i = omega arith

  ends : start_of sheet (suc n) ≡ st.at + 1 + here.body
  unfolding start_of
  ends = rw (← r.at)

  -- a reference among the record's bytes is one of its own
  pub own : (i : ℕ) → i ≤ here.body → (x : Reference sheet (st.at + i)) →
      (x.number ≡ n) × (x.from ≡ st.at) × (wanted_by x ≡ wanted_at here i)
  own i h x =
      let e : x.number ≡ n = number_is sheet x n (omega (arith, r.at)) (omega (arith, ends)) in
      let f : x.from ≡ st.at = x.start.place ∙ ap (start_of sheet) e ∙ sym r.at in
      (e, f, ap (λ (a : ℕ). wanted_at (shape_at sheet a) (st.at + i - a)) f ∙ ap (wanted_at here) (past i))

  bring : (es : List Entry) (p q : ℕ) → p ≡ q → Named sheet n p es → Named sheet n q es
  bring es p q e t = rw e at t

  pub kind-read : Named sheet n (st.at + 1) st.records
  kind-read =
      bring st.records (suc st.at) (st.at + 1) (omega arith) (named_past sheet n st.at st.records r.named no_reference)
    where
      none : st.at + 0 ≡ st.at
      none = omega arith

      no_reference : Reference sheet st.at → ⊥
      no_reference x = let y : Reference sheet (st.at + 0) = rw none x in omega (arith, after-start sheet y, (own 0 (omega arith) y).1)

  module _ (inside : st.at < length sheet) (full : here.body ≤ length sheet - (st.at + 1)) where
    -- the reference at byte i of the body
    pub reference-at : (i : ℕ) → (i ≡ 1) ⊎ (i ≡ 2) → i ≤ here.body → (wanted_at here i ≡ 0 → ⊥) → Reference sheet (st.at + i)
    reference-at i o b u =
        record {
          number = n;
          from = st.at;
          start = starts inside;
          place = ⊎_elim (λ e. inl (omega arith)) (λ e. inr (omega arith)) o;
          body = omega arith;
          whole = omega arith;
          wanted = rw (past i) u;
        }

    -- the end of the first i bytes of the body
    abbrev up_to : ℕ → ℕ
    up_to i = st.at + 1 + min i here.body

    -- byte suc j of the body, which is a reference, or is none, or is not there
    body-read : (j : ℕ) → (suc j ≡ 1) ⊎ (suc j ≡ 2) → ((wanted_at here (suc j) ≡ 0 → ⊥) → suc j ≤ here.body) → (es : List Entry) →
        Named sheet n (up_to j) es → reference_fault_lem es (wanted_at here (suc j)) (body_at sheet st (suc j)) ≡ 0 →
        Named sheet n (up_to (suc j)) (name es (wanted_at here (suc j)) (body_at sheet st (suc j)))
    body-read j o fits es t z = pick (ℕ_discrete (wanted_at here (suc j)) 0) (leb (suc j) here.body) refl
      where
        w : ℕ
        w = wanted_at here (suc j)

        before : suc j ≤ here.body → Named sheet n (st.at + suc j) es
        before h = bring es (up_to j) (st.at + suc j) (omega arith) t

        pick : Dec (w ≡ 0) → (b : Bool) → leb (suc j) here.body ≡ b → Named sheet n (up_to (suc j)) (name es w (body_at sheet st (suc j)))
        pick (yes q) true k =
            let h : suc j ≤ here.body = leb-true (suc j) here.body k in
            rw (name-none es w (body_at sheet st (suc j)) q)
            (bring es (suc (st.at + suc j)) (up_to (suc j)) (omega arith)
            (named_past sheet n (st.at + suc j) es (before h) (λ x. x.wanted ((own (suc j) h x).2 ∙ q))))
        pick (yes q) false k =
            let h : here.body < suc j = leb-false (suc j) here.body k in
            rw (name-none es w (body_at sheet st (suc j)) q) (bring es (up_to j) (up_to (suc j)) (omega arith) t)
        pick (no q) b k =
            let h : suc j ≤ here.body = fits q in
            let e : body_at sheet st (suc j) ≡ get_or sheet (st.at + suc j) 0 = rw (le-leb (suc j) here.body h) in
            rw e
            (bring (name es w (get_or sheet (st.at + suc j) 0)) (suc (st.at + suc j)) (up_to (suc j)) (omega arith)
            (named-next sheet n (st.at + suc j) es (before h) w q (reference-at (suc j) o h q)
            (λ x. let y = own (suc j) h x in (y.0, y.2)) (rw e at z)))

    kind : Bounds here
    kind = bounds (get_or sheet st.at 0)

    abbrev first_named : List Entry
    first_named = name st.records here.first (body_at sheet st 1)

    abbrev both_named : List Entry
    both_named = name first_named here.second (body_at sheet st 2)

    module _ (y : reference_fault_lem st.records here.first (body_at sheet st 1) ≡ 0) where
      first_read : Named sheet n (up_to 1) first_named
      first_read = body-read 0 (inl refl) kind.one st.records (bring st.records (st.at + 1) (up_to 0) (omega arith) kind-read) y

      -- before a second reference
      pub second_next : 2 ≤ here.body → Named sheet n (st.at + 2) first_named
      second_next h = bring first_named (up_to 1) (st.at + 2) (omega arith) first_read

      second_read : reference_fault_lem first_named here.second (body_at sheet st 2) ≡ 0 → Named sheet n (st.at + 1 + here.body) both_named
      second_read z =
          bring both_named (up_to 2) (st.at + 1 + here.body) (omega (arith, kind.body))
          (body-read 1 (inr refl) kind.two first_named first_read z)

  pub reached-next : st.at < length sheet → (record_fault sheet st).number ≡ 0 → Reached sheet (suc n) (record_after sheet st)
  unfolding record_after after start_of
  reached-next inside z =
      let w = record_right sheet st z in
      let f = none_of_body st.records here (body_at sheet st 1) (body_at sheet st 2) w.2 in
      let e : Entry = entry_for st.records (get_or sheet st.at 0) (body_at sheet st 1) (body_at sheet st 2) in
      record {
        at = rw (← r.at);
        known = known_next w.0;
        named = named_more sheet n (st.at + 1 + here.body) (both_named inside w.1) (second_read inside w.1 f.1 f.2) e refl
            (rw (← r.at) refl) (rw (← r.at) refl) (sym ends);
      }
    where
      known_next : (here.sort ≡ 0 → ⊥) → KnownBefore sheet (suc n)
      known_next u m l = pick (ℕ_discrete m n)
        where
          pick : Dec (m ≡ n) → (shape_at sheet (start_of sheet m)).sort ≡ 0 → ⊥
          pick (yes q) e = u (rw (q, ← r.at) at e)
          pick (no q) e = r.known m (omega arith) e

pub reached-start : (sheet : List ℕ) → Reached sheet 0 start
unfolding start_of
reached-start sheet =
    record {
      at = refl;
      known = λ m l. absurd (omega arith);
      named =
          record {
            count = refl;
            sorts = λ m l. absurd (omega arith);
            leaves = λ m l. absurd (omega arith);
            flags = λ m l. absurd (omega arith);
            once = λ q r x y h. absurd (omega arith);
            right = λ q h. absurd (omega arith);
          };
    }

-- a sheet without fault: its references name records rightly
pub read_named : (sheet : List ℕ) (st : State) → scan_sheet sheet ≡ whole st → NamedRightly sheet st.records
unfolding scan_sheet
read_named sheet st e =
    record {
      earlier = λ p r. t.right p (read p r) r;
      once = λ p q x y. t.once p q x y (read p x) (read q y);
      no_axiom = λ p r z. low_sort r (sym (t.right p (read p r) r).1 ∙ z);
      flag = λ m l. (
        λ f. within-sheet ((t.flags m (omega (arith, t.count))).0 f),
        λ b. (t.flags m (omega (arith, t.count))).1 (named-later (length sheet) st.at end b),
      );
    }
  where
    reached : (room : ℕ) × ((n : ℕ) × Reached sheet n st) × (length sheet ≤ st.at)
    reached =
        scan-keeps (λ room st. (n : ℕ) × Reached sheet n st) sheet (λ room st l z r. (suc r.0, reached-next sheet r.0 st r.1 l z))
        255 start st (0, reached-start sheet) e

    end : length sheet ≤ st.at
    end = reached.2

    t : Named sheet reached.1.0 st.at st.records
    t = reached.1.1.named

    read : (p : ℕ) → Reference sheet p → p < st.at
    read p r = omega (arith, inside-sheet sheet r, end)

    within-sheet : {m : ℕ} → NamedBefore sheet m st.at → NamedBefore sheet m (length sheet)
    within-sheet b = record { by = b.by; reference = b.reference; before = inside-sheet sheet b.reference; names = b.names }

    low_sort : {p : ℕ} (r : Reference sheet p) → wanted_by r ≡ 3 → ⊥
    low_sort {p = p} r = pick (eqb (p - r.from) 1) (eqb (p - r.from) 2)
      where
        s : Shape
        s = shape_at sheet r.from

        k : Bounds s
        k = bounds (get_or sheet r.from 0)

        pick : (b c : Bool) → cond b s.first (cond c s.second 0) ≡ 3 → ⊥
        pick true c e = omega (arith, k.first)
        pick false true e = omega (arith, k.second)
        pick false false e = omega arith
