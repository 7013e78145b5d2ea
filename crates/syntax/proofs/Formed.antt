-- What the records of a sheet that is read are like.
use Prim.Native.Nat.{ℕ, zero, suc, ◌+◌, ◌*◌, ◌≤◌, ◌<◌, max}
use mathlib.Core.Path.{◌≡◌, refl, sym, ap, ◌∙◌}
use mathlib.Core.Logic.{◌⊎◌, ⊎_elim}
use mathlib.Core.Bool.{Bool, true, false, not, cond, ◌&&◌}
use mathlib.Core.List.{List, [], ◌∷◌, ◌++◌, map, map-append}
use lib.ListN.{length, get_or, take, set, length-append, length-map, length-take, get_or-append, get_or-map, get_or-eq_default}
use lib.Seq.{take-append-le, take_at, get_or_at, get_or-take, length-take-le, map-set_same}
use lib.Dec.{eqb, leb, ltb}
use native.Mathlib.Omega.{arith}
use borrow.Author.Tests.{eqb-true, eqb-false, leb-false, ltb-true, ltb-false}
use Rattle.bitset.specs.Bits.{bit}
use Rattle.bitset.proofs.Laws.{bit_past}
use Rattle.records.specs.Shapes.{Shape}
use Rattle.records.specs.Entries.{Entry}
use Rattle.records.specs.Shapes.{shape_of, is_leaf_lem, needs_restricted_lem}
use Rattle.records.specs.Scan.{State, start, blank, record_at_lem, number_fault_lem, reference_fault_lem, naming, name, empty_fault_lem, body_fault, vacuous_of_lem, entry_for, names_after_lem, roles_after_lem, after, record_fault, record_after, whole, scan_sheet}
use Rattle.syntax.specs.Concepts.{Node, as_role, no_node, role_at, node_of, nodes_of}
use Rattle.syntax.specs.Truth.{role_on}
use Rattle.bitset.proofs.Facts.{and_r_lem}
use Rattle.records.proofs.KindTable.{kind_cases, vacuous_unknown}
use Rattle.records.proofs.Faultless.{none_of_body, reference-right, body_at, record_right, scan-keeps}
use Rattle.syntax.proofs.Trees.{node_by, node_is, node_unknown}

-- a record as written, without the flag that a later one names it
abbrev unnamed : Entry → Entry
unnamed e = record { kind = e.kind; first = e.first; second = e.second; named = false; vacuous = e.vacuous; sort = e.sort; leaf = e.leaf }

abbrev bare : List Entry → List Entry
bare es = map unnamed es

bare_at : (es : List Entry) (r : ℕ) → record_at_lem (bare es) r ≡ unnamed (record_at_lem es r)
bare_at es r = get_or-map unnamed es r blank

-- naming changes nothing else
pub name_bare : (es : List Entry) (wanted r : ℕ) → bare (name es wanted r) ≡ bare es
unfolding name
name_bare es wanted r = go (eqb wanted 0)
  where
    go : (b : Bool) → bare (cond b es (set es r (naming (record_at_lem es r)))) ≡ bare es
    go true = refl
    go false = map-set_same unnamed es r (naming (record_at_lem es r)) blank refl

-- what holds of each record and those before it
abbrev Each : (List Entry → Entry → Type 0) → List Entry → Type 0
Each P es = (r : ℕ) → r < length es → P (take r es) (record_at_lem es r)

each_snoc : (P : List Entry → Entry → Type 0) (es : List Entry) (e : Entry) → Each P es → P es e → Each P (es ++ (e ∷ []))
each_snoc P es e h p r l = go (ltb r (length es)) refl
  where
    go : (b : Bool) → ltb r (length es) ≡ b → P (take r (es ++ (e ∷ []))) (record_at_lem (es ++ (e ∷ [])) r)
    go true q =
        let i : r < length es = ltb-true r (length es) q in
        rw (take-append-le r es (e ∷ []) (omega arith), get_or-append es (e ∷ []) blank r i) (h r i)
    go false q =
        let i : length es ≡ r = omega (arith, ltb-false r (length es) q, length-append es (e ∷ [])) in
        rw (take_at es (e ∷ []) r i, get_or_at es e [] blank r i) p

-- a reference of a wanted sort names one of so many records, and that has the sort
abbrev pub Finds : List Entry → ℕ → ℕ → ℕ → Type 0
Finds es below wanted r = (wanted ≡ 0 → ⊥) → (r < below) × ((shape_of (record_at_lem es r).kind).sort ≡ wanted)

-- a record, its number and the records it may name
pub record FormedAt (es : List Entry) (r : ℕ) (e : Entry) : Type 0 where
  pub sort : e.sort ≡ (shape_of e.kind).sort
  pub leaf : e.leaf ≡ is_leaf_lem (shape_of e.kind)
  pub known : (shape_of e.kind).sort ≡ 0 → ⊥
  pub number : number_fault_lem (shape_of e.kind) e.first ≡ 0
  pub first : Finds es r (shape_of e.kind).first e.first
  pub second : Finds es r (shape_of e.kind).second e.second
  pub restricted : needs_restricted_lem (shape_of e.kind) ≡ true → (record_at_lem es e.first).vacuous ≡ false

pub record Formed (es : List Entry) : Type 0 where
  pub few : length es ≤ 255
  pub each : (r : ℕ) → r < length es → FormedAt es r (record_at_lem es r)

-- a record and those before it
record Right (es : List Entry) (e : Entry) : Type 0 where
  formed : FormedAt es (length es) e
  vacuous : e.vacuous ≡ vacuous_of_lem es e.kind e.first e.second

-- the numbers in a record are counted
pub record Counted (names roles : ℕ) (e : Entry) : Type 0 where
  pub name : e.kind ≡ 0x03 → e.first < names
  pub named : e.kind ≡ 0x10 → e.first < roles
  pub inverse : e.kind ≡ 0x11 → e.first < roles

-- what reading keeps, with room for so many records more
record Good (room : ℕ) (st : State) : Type 0 where
  few : length st.records + room ≤ 255
  right : Each Right (bare st.records)
  counted : Each (λ xs e. Counted st.names st.roles e) (bare st.records)
  names : st.names ≤ 12
  roles : st.roles ≤ 4

-- each record has the sort of its kind
abbrev Sorted : List Entry → Type 0
Sorted es = (r : ℕ) → r < length es → (record_at_lem es r).sort ≡ (shape_of (record_at_lem es r).kind).sort

reference_finds : (es xs : List Entry) → bare es ≡ xs → Sorted xs → (wanted r : ℕ) → reference_fault_lem es wanted r ≡ 0 → Finds xs (length xs) wanted r
reference_finds es xs x s wanted r p n = (within, sym (s r within) ∙ rw (← x, bare_at es r) (reference-right es wanted r p n).1)
  where
    within : r < length xs
    within = rw (← x, length-map) (reference-right es wanted r p n).0

empty_restricted : (es xs : List Entry) → bare es ≡ xs → (s : Shape) (a : ℕ) → empty_fault_lem es s a ≡ 0 → needs_restricted_lem s ≡ true → (record_at_lem xs a).vacuous ≡ false
unfolding empty_fault_lem
empty_restricted es xs x s a p q = rw (← x, bare_at es a) (go (record_at_lem es a).vacuous (rw q at p))
  where
    go : (v : Bool) → ◌≡◌ {A = ℕ} (cond (true && v) 8 0) 0 → v ≡ false
    go true p = absurd (omega arith)
    go false p = refl

vacuous_bare : (es xs : List Entry) → bare es ≡ xs → (k a b : ℕ) → vacuous_of_lem es k a b ≡ vacuous_of_lem xs k a b
unfolding vacuous_of_lem
vacuous_bare es xs x k a b = rw (← x, bare_at es a, bare_at es b)

-- a record without fault, after those that were read
new_right : (es xs : List Entry) → bare es ≡ xs → Sorted xs → (k a b : ℕ) → ((shape_of k).sort ≡ 0 → ⊥) → (body_fault es (shape_of k) a b).number ≡ 0 → Right xs (entry_for es k a b)
new_right es xs x s k a b n p =
    let w = none_of_body es (shape_of k) a b p in
    record {
      formed =
          record {
            sort = refl;
            leaf = refl;
            known = n;
            number = w.0;
            first = reference_finds es xs x s (shape_of k).first a w.1;
            second = reference_finds (name es (shape_of k).first a) xs (name_bare es (shape_of k).first a ∙ x) s (shape_of k).second b w.2;
            restricted = empty_restricted es xs x (shape_of k) a w.3;
          };
      vacuous = vacuous_bare es xs x k a b;
    }

-- a number in range
number-low : (limit a : ℕ) → ◌≡◌ {A = ℕ} (cond (leb limit a) 4 0) 0 → a < limit
number-low limit a = go (leb limit a) refl
  where
    go : (b : Bool) → leb limit a ≡ b → ◌≡◌ {A = ℕ} (cond b 4 0) 0 → a < limit
    go true q p = absurd (omega arith)
    go false q p = leb-false limit a q

-- a count grows from n to m and stays within a limit
abbrev Most : ℕ → ℕ → ℕ → Type 0
Most limit n m = (n ≤ m) × (n ≤ limit → m ≤ limit)

names-after : (n k a : ℕ) → number_fault_lem (shape_of k) a ≡ 0 → Most 12 n (names_after_lem n k a) × (k ≡ 0x03 → a < names_after_lem n k a)
unfolding names_after_lem number_fault_lem shape_of
names-after n k a p = go (eqb k 0x03) refl
  where
    go : (b : Bool) → eqb k 0x03 ≡ b → Most 12 n (cond b (max n (a + 1)) n) × (k ≡ 0x03 → a < cond b (max n (a + 1)) n)
    go true q =
        let e : k ≡ 0x03 = eqb-true k 0x03 q in
        let l : a < 12 = number-low 12 a (rw e at p) in
        ((omega arith, λ h. omega arith), λ _. omega arith)
    go false q = ((omega arith, λ h. h), λ e. absurd (eqb-false k 0x03 q e))

roles-after : (n k a : ℕ) → number_fault_lem (shape_of k) a ≡ 0 →
    Most 4 n (roles_after_lem n k a) × (k ≡ 0x10 → a < roles_after_lem n k a) × (k ≡ 0x11 → a < roles_after_lem n k a)
unfolding roles_after_lem number_fault_lem shape_of
roles-after n k a p = go (eqb k 0x10) refl (eqb k 0x11) refl
  where
    m : Bool → Bool → ℕ
    m b c = cond b (max n (a + 1)) (cond c (max n (a + 1)) n)

    up : a < 4 → Most 4 n (max n (a + 1)) × (k ≡ 0x10 → a < max n (a + 1)) × (k ≡ 0x11 → a < max n (a + 1))
    up l = ((omega arith, λ h. omega arith), (λ _. omega arith), (λ _. omega arith))

    go : (b : Bool) → eqb k 0x10 ≡ b → (c : Bool) → eqb k 0x11 ≡ c → Most 4 n (m b c) × (k ≡ 0x10 → a < m b c) × (k ≡ 0x11 → a < m b c)
    go true q c t = up (number-low 4 a (rw (eqb-true k 0x10 q) at p))
    go false q true t = up (number-low 4 a (rw (eqb-true k 0x11 t) at p))
    go false q false t = ((omega arith, λ h. h), (λ e. absurd (eqb-false k 0x10 q e)), (λ e. absurd (eqb-false k 0x11 t e)))

more_counted : {e : Entry} (m n p q : ℕ) → m ≤ p → n ≤ q → Counted m n e → Counted p q e
more_counted m n p q h i c =
    record {
      name = λ k. let l = c.name k in omega arith;
      named = λ k. let l = c.named k in omega arith;
      inverse = λ k. let l = c.inverse k in omega arith;
    }

bare_after : (st : State) (k a b : ℕ) → bare (after st k a b).records ≡ bare st.records ++ (entry_for st.records k a b ∷ [])
unfolding after
bare_after st k a b =
    map-append unnamed (name (name st.records (shape_of k).first a) (shape_of k).second b) (entry_for st.records k a b ∷ []) ∙
    ap (λ (l : List Entry). l ++ (entry_for st.records k a b ∷ []))
    (name_bare (name st.records (shape_of k).first a) (shape_of k).second b ∙ name_bare st.records (shape_of k).first a)

after-good : (room : ℕ) (st : State) (k a b : ℕ) → ((shape_of k).sort ≡ 0 → ⊥) → (body_fault st.records (shape_of k) a b).number ≡ 0 → Good (suc room) st → Good room (after st k a b)
unfolding after
after-good room st k a b n p g =
    record {
      few = omega (arith, ap length (bare_after st k a b), length-map (after st k a b).records unnamed, length-map st.records unnamed, length-append (bare st.records) (e ∷ []), g.few);
      right = rw (bare_after st k a b) (each_snoc Right (bare st.records) e g.right new);
      counted = rw (bare_after st k a b) (each_snoc (λ xs e. Counted names roles e) (bare st.records) e old now);
      names = more.0.1 g.names;
      roles = most.0.1 g.roles;
    }
  where
    e : Entry
    e = entry_for st.records k a b

    names : ℕ
    names = names_after_lem st.names k a

    roles : ℕ
    roles = roles_after_lem st.roles k a

    new : Right (bare st.records) e
    new = new_right st.records (bare st.records) refl (λ r l. (g.right r l).formed.sort) k a b n p

    more : Most 12 st.names names × (k ≡ 0x03 → a < names)
    more = names-after st.names k a new.formed.number

    most : Most 4 st.roles roles × (k ≡ 0x10 → a < roles) × (k ≡ 0x11 → a < roles)
    most = roles-after st.roles k a new.formed.number

    old : Each (λ xs e. Counted names roles e) (bare st.records)
    old r l = more_counted st.names st.roles names roles more.0.0 most.0.0 (g.counted r l)

    now : Counted names roles e
    now = record { name = more.1; named = most.1; inverse = most.2 }

record_good : (sheet : List ℕ) (room : ℕ) (st : State) → (record_fault sheet st).number ≡ 0 → Good (suc room) st → Good room (record_after sheet st)
unfolding record_after
record_good sheet room st p g =
    let w = record_right sheet st p in
    after-good room st (get_or sheet st.at 0) (body_at sheet st 1) (body_at sheet st 2) w.0 w.2 g

read-good : (sheet : List ℕ) (st : State) → scan_sheet sheet ≡ whole st → (n : ℕ) × Good n st
unfolding scan_sheet
read-good sheet st e = let w = scan-keeps Good sheet (λ room st l. record_good sheet room st) 255 start st first e in (w.0, w.1)
  where
    first : Good 255 start
    first = record { few = omega arith; right = λ r l. absurd (omega arith); counted = λ r l. absurd (omega arith); names = omega arith; roles = omega arith }

-- the records before r, as written
before_at : (es : List Entry) (r i : ℕ) → i < r → record_at_lem (take r (bare es)) i ≡ unnamed (record_at_lem es i)
before_at es r i h = get_or-take r (bare es) i blank h ∙ bare_at es i

-- where a restricted role is needed, the first reference is a role
pub restricted-role : (s : Shape) → needs_restricted_lem s ≡ true → s.first ≡ 2
unfolding needs_restricted_lem
restricted-role s p = eqb-true s.first 2 (and_r_lem (not (eqb s.sort 2)) (eqb s.first 2) p)

before_finds : (es : List Entry) (r wanted to : ℕ) → Finds (take r (bare es)) r wanted to → Finds es r wanted to
before_finds es r wanted to f n = let w = f n in (w.0, rw (before_at es r to w.0) at w.1)

before_formed : (es : List Entry) (r : ℕ) (e : Entry) → FormedAt (take r (bare es)) r (unnamed e) → FormedAt es r e
before_formed es r e f =
    record {
      sort = f.sort;
      leaf = f.leaf;
      known = f.known;
      number = f.number;
      first = before_finds es r (shape_of e.kind).first e.first f.first;
      second = before_finds es r (shape_of e.kind).second e.second f.second;
      restricted = λ q. rw (before_at es r e.first (f.first (λ z. omega (arith, restricted-role (shape_of e.kind) q))).0) at (f.restricted q);
    }

-- what holds of each tree if it does of those before it
pub all_nodes : (P : ℕ → Node → Type 0) (es : List Entry) →
    ((r : ℕ) → r < length es → ((i : ℕ) → i < r → P i (get_or (take r (nodes_of es)) i no_node)) → P r (node_by es r (record_at_lem es r))) →
    (r : ℕ) → r < length es → P r (get_or (nodes_of es) r no_node)
all_nodes P es f r l = go (length es) r l l
  where
    go : (n r : ℕ) → r < n → r < length es → P r (get_or (nodes_of es) r no_node)
    go zero r h l = absurd (omega arith)
    go (suc n) r h l = rw (node_is es r (record_at_lem es r) refl) (f r l (λ i k. rw (get_or-take r (nodes_of es) i no_node k) (go n i (omega arith) (omega arith))))

-- no role is in the empty role set
empty_bit : (k : ℕ) → bit 0 k ≡ false
empty_bit k = bit_past 0 0 k (omega arith) (omega arith)

-- whether a tree's role holds on the empty role set
abbrev on_none : Node → Bool
on_none n = role_on (as_role n) 0

-- a record's flag says what its tree says, if those of the records before do
new_flag : (es : List Entry) (ns : List Node) → ((i : ℕ) → (record_at_lem es i).vacuous ≡ role_on (role_at ns i) 0) → (n k a b : ℕ) →
    vacuous_of_lem es k a b ≡ on_none (node_of ns n k a b)
unfolding vacuous_of_lem node_of role_on
new_flag es ns h n k a b =
    kind_cases (λ k. vacuous_of_lem es k a b ≡ on_none (node_of ns n k a b))
    refl refl refl refl refl refl refl refl (sym (empty_bit (2 * a))) (sym (empty_bit (2 * a + 1))) (rw (h a)) (rw (h a, h b)) (rw (h a, h b)) refl refl
    k (λ u. vacuous_unknown k u es a b ∙ sym (ap on_none (node_unknown k u ns n a b)))

-- past the first r stands the default
past : {A : Type 0} (r : ℕ) (l : List A) (d : A) (i : ℕ) → r ≤ i → get_or (take r l) i d ≡ d
past r l d i h = get_or-eq_default (take r l) d (omega (arith, length-take r l))

-- flags of the records before r; past them stand no records and no roles
before_flags : (es : List Entry) (r : ℕ) → ((i : ℕ) → i < r → (record_at_lem es i).vacuous ≡ on_none (get_or (take r (nodes_of es)) i no_node)) →
    (i : ℕ) → (record_at_lem (take r (bare es)) i).vacuous ≡ role_on (role_at (take r (nodes_of es)) i) 0
unfolding role_on
before_flags es r h i = go (ltb i r) refl
  where
    go : (b : Bool) → ltb i r ≡ b → (record_at_lem (take r (bare es)) i).vacuous ≡ role_on (role_at (take r (nodes_of es)) i) 0
    go true q = let k : i < r = ltb-true i r q in rw (before_at es r i k) (h i k)
    go false q = let k : r ≤ i = ltb-false i r q in rw (past r (bare es) blank i k, past r (nodes_of es) no_node i k)

module _ (sheet : List ℕ) (st : State) (e : scan_sheet sheet ≡ whole st) where
  abbrev es : List Entry
  es = st.records

  right-at : (r : ℕ) → r < length es → Right (take r (bare es)) (unnamed (record_at_lem es r))
  right-at r l = rw (bare_at es r) at ((read-good sheet st e).1.right r (rw length-map l))

  pub read_formed : Formed es
  read_formed =
      record {
        few = let w = (read-good sheet st e).1.few in omega arith;
        each = λ r l. before_formed es r (record_at_lem es r) (rw (length-take-le r (bare es) (rw length-map (omega arith))) at (right-at r l).formed);
      }

  pub read-few : (st.names ≤ 12) × (st.roles ≤ 4)
  read-few = ((read-good sheet st e).1.names, (read-good sheet st e).1.roles)

  pub read_counted : (r : ℕ) → r < length es → Counted st.names st.roles (record_at_lem es r)
  read_counted r l =
      let c = rw (bare_at es r) at ((read-good sheet st e).1.counted r (rw length-map l)) in
      record { name = c.name; named = c.named; inverse = c.inverse }

  -- a record's flag says whether its role holds on the empty role set
  pub read_flags : (r : ℕ) → r < length es → (record_at_lem es r).vacuous ≡ role_on (role_at (nodes_of es) r) 0
  read_flags =
      all_nodes (λ r n. (record_at_lem es r).vacuous ≡ on_none n) es
      (λ r l h.
      (right-at r l).vacuous ∙
      new_flag (take r (bare es)) (take r (nodes_of es)) (before_flags es r h) r
      (record_at_lem es r).kind (record_at_lem es r).first (record_at_lem es r).second)

  -- the role of a restriction, and the first of a role inclusion, fails on the empty role set
  pub restricted-fails : (r : ℕ) → r < length es → needs_restricted_lem (shape_of (record_at_lem es r).kind) ≡ true →
      role_on (role_at (nodes_of es) (record_at_lem es r).first) 0 ≡ false
  restricted-fails r l q =
      let f = read_formed.each r l in
      let i : (record_at_lem es r).first < r = (f.first (λ z. omega (arith, restricted-role (shape_of (record_at_lem es r).kind) q))).0 in
      sym (read_flags (record_at_lem es r).first (omega arith)) ∙ f.restricted q

  pub read_restricted : (r : ℕ) → r < length es →
      ((record_at_lem es r).kind ≡ 0x07) ⊎ ((record_at_lem es r).kind ≡ 0x08) ⊎ ((record_at_lem es r).kind ≡ 0x21) →
      role_on (role_at (nodes_of es) (record_at_lem es r).first) 0 ≡ false
  unfolding needs_restricted_lem shape_of
  read_restricted r l k = restricted-fails r l (⊎_elim (λ e. rw e) (⊎_elim (λ e. rw e) (λ e. rw e)) k)
