-- The records of individuals and of the connections between them: they have no fault, and draw just these.
use Prim.Native.Nat.{ℕ, zero, suc, ◌+◌, ◌*◌, ◌/◌, ◌%◌, ◌≤◌, ◌<◌}
use native.Mathlib.Omega.{arith}
use mathlib.Core.Path.{◌≡◌, refl, sym, ap, ap₂, subst, ◌∙◌}
use mathlib.Core.Logic.{⊎_elim}
use mathlib.Core.Bool.{Bool, true, false, not, ◌&&◌, ◌||◌, cond, false≢true, or_assoc}
use mathlib.Core.List.{List, [], ◌∷◌, ◌++◌, append-nil}
use lib.Dec.{eqb}
use lib.ListN.{length, get_or, length-append, get_or-append}
use lib.Seq.{get_or_at}
use borrow.Author.Tests.{eq-eqb, eqb-true, lt-leb, ne_eqb}
use Rattle.bitset.specs.Bits.{Set, bit}
use Rattle.bitset.proofs.Laws.{word_ext}
use Rattle.bitset.proofs.Facts.{and_l, and_r_lem, and_i, or_case, or_l, or_r_lem, iff_eq, below_suc}
use Rattle.elimination.specs.Sets.{every}
use Rattle.syntax.specs.Bounds.{All}
use Rattle.syntax.proofs.Promised.{all_append}
use Rattle.semantics.specs.Projection.{role_bit, role_set}
use Rattle.drawings.specs.Entries.{Connection, Entry, individual, connection, unreadable, individuals_after, entry_fault, first_fault, names_of, connections_of}
use Rattle.drawings.specs.Checking.{connects}
use Rattle.drawings.specs.Laid.{FitsBytes, in_turn, individual_entries, connection_entries, drawn_entries}
use Rattle.drawings.proofs.EntryLaws.{fault_later, fault_none}

-- ---- lists one after another

names_append : (a b : List Entry) → names_of (a ++ b) ≡ names_of a ++ names_of b
unfolding names_of
names_append [] b = refl
names_append (individual m ∷ a) b = ap (λ (l : List ℕ). m ∷ l) (names_append a b)
names_append (connection c ∷ a) b = names_append a b
names_append (unreadable ∷ a) b = names_append a b

connections_append : (a b : List Entry) → connections_of (a ++ b) ≡ connections_of a ++ connections_of b
unfolding connections_of
connections_append [] b = refl
connections_append (individual m ∷ a) b = connections_append a b
connections_append (connection c ∷ a) b = ap (λ (l : List Connection). c ∷ l) (connections_append a b)
connections_append (unreadable ∷ a) b = connections_append a b

connects_append : (a b : List Connection) (k x y : ℕ) → connects (a ++ b) k x y ≡ (connects a k x y || connects b k x y)
unfolding connects
connects_append [] b k x y = refl
connects_append (c ∷ a) b k x y =
    let here : Bool = eqb c.role k && (eqb c.from x && eqb c.to y) in
    ap (λ (z : Bool). here || z) (connects_append a b k x y) ∙ sym (or_assoc here (connects a k x y) (connects b k x y))

turn_each : {A : Type 0} (P : A → Type 0) (n : ℕ) (f : ℕ → List A) → ((x : ℕ) → x < n → All P (f x)) → All P (in_turn n f)
unfolding in_turn
turn_each P zero f h = tt
turn_each P (suc n) f h = all_append P (in_turn n f) (f n) (turn_each P n f (λ x l. h x (omega arith))) (h n (omega arith))

turn_connects : (n : ℕ) (f : ℕ → List Entry) (k x y z : ℕ) → z < n → connects (connections_of (f z)) k x y ≡ true
    → connects (connections_of (in_turn n f)) k x y ≡ true
unfolding in_turn
turn_connects zero f k x y z l h = absurd (omega arith)
turn_connects (suc n) f k x y z l h =
    rw (connections_append (in_turn n f) (f n), connects_append (connections_of (in_turn n f)) (connections_of (f n)) k x y)
    (below_suc z n l (λ e. or_r_lem (connects (connections_of (in_turn n f)) k x y) (rw e at h))
    (λ i. or_l (connects (connections_of (f n)) k x y) (turn_connects n f k x y z i h)))

-- ---- the connections

-- a record of one of them
module _ (n L : ℕ) (J : ℕ → ℕ → ℕ → Bool) where
  abbrev Joining : Entry → Type 0
  Joining (individual m) = ⊥
  Joining (connection c) = (c.from < n) × (c.to < n) × (c.role < L) × (J c.role c.from c.to ≡ true)
  Joining unreadable = ⊥

  joining : All Joining (connection_entries n L J)
  unfolding connection_entries
  joining =
      turn_each Joining n _ (λ x lx. turn_each Joining n _ (λ y ly. turn_each Joining L _ (λ k lk. go x y k lx ly lk (J k x y) refl)))
    where
      go : (x y k : ℕ) → x < n → y < n → k < L → (b : Bool) → J k x y ≡ b
          → All Joining (cond b (connection (record { from = x; to = y; role = k }) ∷ []) [])
      go x y k lx ly lk true e = ((lx, ly, lk, e), tt)
      go x y k lx ly lk false e = tt

  -- such records have no marks
  joining_names : (es : List Entry) → All Joining es → names_of es ≡ []
  unfolding names_of
  joining_names [] h = refl
  joining_names (individual m ∷ es) h = absurd h.0
  joining_names (connection c ∷ es) h = joining_names es h.1
  joining_names (unreadable ∷ es) h = absurd h.0

  abbrev Joined : ℕ → ℕ → ℕ → Type 0
  Joined k x y = (x < n) × (y < n) × (k < L) × (J k x y ≡ true)

  one_found : (c : Connection) → Joining (connection c) → (k x y : ℕ)
      → (eqb c.role k && (eqb c.from x && eqb c.to y)) ≡ true → Joined k x y
  one_found c h k x y e =
      let q = and_r_lem (eqb c.role k) (eqb c.from x && eqb c.to y) e in
      rw (
        ← eqb-true c.role k (and_l (eqb c.role k) _ e),
        ← eqb-true c.from x (and_l (eqb c.from x) _ q),
        ← eqb-true c.to y (and_r_lem (eqb c.from x) _ q),
      ) h

  joining_found : (es : List Entry) → All Joining es → (k x y : ℕ) → connects (connections_of es) k x y ≡ true → Joined k x y
  unfolding connects connections_of
  joining_found [] h k x y e = absurd (false≢true e)
  joining_found (individual m ∷ es) h k x y e = absurd h.0
  joining_found (connection c ∷ es) h k x y e =
      ⊎_elim (one_found c h.0 k x y) (joining_found es h.1 k x y) (or_case (eqb c.role k && (eqb c.from x && eqb c.to y)) _ e)
  joining_found (unreadable ∷ es) h k x y e = absurd h.0

  recorded_found : (x y k : ℕ) → x < n → y < n → k < L → J k x y ≡ true
      → connects (connections_of (connection_entries n L J)) k x y ≡ true
  unfolding connection_entries connects connections_of
  recorded_found x y k lx ly lk e =
      turn_connects n _ k x y x lx (turn_connects n _ k x y y ly (turn_connects L _ k x y k lk
      (rw e (or_l false (and_i (eq-eqb k k refl) (and_i (eq-eqb x x refl) (eq-eqb y y refl)))))))

  connections_join : (k x y : ℕ) → k < L → x < n → y < n → connects (connections_of (connection_entries n L J)) k x y ≡ J k x y
  connections_join k x y lk lx ly =
      iff_eq (connects (connections_of (connection_entries n L J)) k x y) (J k x y)
      (λ e. (joining_found (connection_entries n L J) joining k x y e).3) (recorded_found x y k lx ly lk)

-- ---- the individuals

turn_length : (n : ℕ) (g : ℕ → ℕ) → length (in_turn n (λ x. g x ∷ [])) ≡ n
unfolding in_turn
turn_length zero g = refl
turn_length (suc n) g = omega (arith, length-append (in_turn n (λ x. g x ∷ [])) (g n ∷ []), turn_length n g)

turn_at : (n : ℕ) (g : ℕ → ℕ) (x : ℕ) → x < n → get_or (in_turn n (λ x. g x ∷ [])) x 0 ≡ g x
unfolding in_turn
turn_at zero g x h = absurd (omega arith)
turn_at (suc n) g x h =
    let l : List ℕ = in_turn n (λ x. g x ∷ []) in
    below_suc x n h (λ e. rw e (get_or_at l (g n) [] 0 n (turn_length n g)))
    (λ i. get_or-append l (g n ∷ []) 0 x (omega (arith, turn_length n g)) ∙ turn_at n g x i)

individual_names : (n : ℕ) (names : ℕ → ℕ) → names_of (individual_entries n names) ≡ in_turn n (λ x. names x ∷ [])
unfolding individual_entries in_turn names_of
individual_names zero names = refl
individual_names (suc n) names =
    names_append (individual_entries n names) (individual (names n) ∷ [])
    ∙ ap (λ (l : List ℕ). l ++ (names n ∷ [])) (individual_names n names)

individuals_counted : (n : ℕ) (names : ℕ → ℕ) → 0 + length (names_of (individual_entries n names)) ≡ n
individuals_counted n names = let e = ap length (individual_names n names) in omega (arith, e, turn_length n names)

individual_connections : (n : ℕ) (names : ℕ → ℕ) → connections_of (individual_entries n names) ≡ []
unfolding individual_entries in_turn connections_of
individual_connections zero names = refl
individual_connections (suc n) names =
    connections_append (individual_entries n names) (individual (names n) ∷ [])
    ∙ ap (λ (l : List Connection). l ++ []) (individual_connections n names)

-- ---- both

module _ (n L : ℕ) (names : ℕ → ℕ) (J : ℕ → ℕ → ℕ → Bool) where
  recorded_names : names_of (drawn_entries n L names J) ≡ in_turn n (λ x. names x ∷ [])
  unfolding drawn_entries
  recorded_names =
      names_append (individual_entries n names) (connection_entries n L J)
      ∙ ap (λ (l : List ℕ). names_of (individual_entries n names) ++ l) (joining_names n L J (connection_entries n L J) (joining n L J))
      ∙ append-nil (names_of (individual_entries n names)) ∙ individual_names n names

  pub recorded_length : length (names_of (drawn_entries n L names J)) ≡ n
  recorded_length = ap length recorded_names ∙ turn_length n names

  pub recorded_name : (x : ℕ) → x < n → get_or (names_of (drawn_entries n L names J)) x 0 ≡ names x
  recorded_name x h = ap (λ (l : List ℕ). get_or l x 0) recorded_names ∙ turn_at n names x h

  pub recorded_connections : connections_of (drawn_entries n L names J) ≡ connections_of (connection_entries n L J)
  unfolding drawn_entries
  recorded_connections =
      connections_append (individual_entries n names) (connection_entries n L J)
      ∙ ap (λ (l : List Connection). l ++ connections_of (connection_entries n L J)) (individual_connections n names)

  -- what J joins, and nothing else
  pub recorded_joins : (k x y : ℕ) → k < L → x < n → y < n → connects (connections_of (drawn_entries n L names J)) k x y ≡ J k x y
  recorded_joins k x y lk lx ly =
      ap (λ (l : List Connection). connects l k x y) recorded_connections ∙ connections_join n L J k x y lk lx ly

  pub recorded_joined : (k x y : ℕ) → connects (connections_of (drawn_entries n L names J)) k x y ≡ true → Joined n L J k x y
  recorded_joined k x y e =
      joining_found n L J (connection_entries n L J) (joining n L J) k x y
      (ap (λ (l : List Connection). connects l k x y) (sym recorded_connections) ∙ e)

  pub recorded_roles : (x y : ℕ) → x < n → y < n
      → role_set L J x y ≡ role_set L (connects (connections_of (drawn_entries n L names J))) x y
  unfolding role_set role_bit
  recorded_roles x y lx ly =
      word_ext (2 * L) _ _ (λ b l. ap₂ (cond (eqb (b % 2) 0))
      (sym (recorded_joins (b / 2) x y (omega (arith, l)) lx ly)) (sym (recorded_joins (b / 2) y x (omega (arith, l)) ly lx)))

  -- the numbers fit
  pub recorded_fits : n ≤ 65536 → L ≤ 256 → ((x : ℕ) → x < n → names x < 65536) → All FitsBytes (drawn_entries n L names J)
  unfolding drawn_entries individual_entries
  recorded_fits hn hl hm =
      all_append FitsBytes (individual_entries n names) (connection_entries n L J)
      (turn_each FitsBytes n (λ x. individual (names x) ∷ []) (λ x l. (hm x l, tt)))
      (fits (connection_entries n L J) (joining n L J))
    where
      fits : (es : List Entry) → All (Joining n L J) es → All FitsBytes es
      fits [] h = tt
      fits (individual m ∷ es) h = absurd h.0
      fits (connection c ∷ es) h = let w = h.0 in ((omega (arith, w.0), omega (arith, w.1), omega (arith, w.2)), fits es h.1)
      fits (unreadable ∷ es) h = absurd h.0

  -- no record has a fault
  module _ (plain : Set) (few : n ≤ 1024) (each : (x : ℕ) → x < n → every 16 (λ k. not (bit (names x) k) || plain k) ≡ true) where
    -- none of the records after i individuals
    abbrev Clean : ℕ → List Entry → Type 0
    Clean i [] = Unit
    Clean i (e ∷ es) = (entry_fault plain L i e ≡ 0) × Clean (individuals_after i e) es

    clean_append : (i m : ℕ) (a b : List Entry) → i + length (names_of a) ≡ m → Clean i a → Clean m b → Clean i (a ++ b)
    unfolding names_of individuals_after
    clean_append i m [] b q h g = let e : m ≡ i = omega arith in subst (λ (z : ℕ). Clean z b) e g
    clean_append i m (individual w ∷ a) b q h g = (h.0, clean_append (i + 1) m a b (omega arith) h.1 g)
    clean_append i m (connection c ∷ a) b q h g = (h.0, clean_append i m a b q h.1 g)
    clean_append i m (unreadable ∷ a) b q h g = (h.0, clean_append i m a b q h.1 g)

    clean_faultless : (i : ℕ) (es : List Entry) → 0 < i + length (names_of es) → Clean i es → first_fault plain L i es ≡ 0
    unfolding names_of individuals_after first_fault
    clean_faultless i [] l h = rw (ne_eqb i 0 (λ q. omega arith)) refl
    clean_faultless i (individual w ∷ es) l h = fault_later plain L i (individual w) es h.0 ∙ clean_faultless (i + 1) es (omega arith) h.1
    clean_faultless i (connection c ∷ es) l h = fault_later plain L i (connection c) es h.0 ∙ clean_faultless i es l h.1
    clean_faultless i (unreadable ∷ es) l h = fault_later plain L i unreadable es h.0 ∙ clean_faultless i es l h.1

    individuals_clean : (i : ℕ) → i ≤ n → Clean 0 (individual_entries i names)
    unfolding individual_entries in_turn entry_fault
    individuals_clean zero h = tt
    individuals_clean (suc i) h =
        clean_append 0 i (individual_entries i names) (individual (names i) ∷ [])
        (individuals_counted i names) (individuals_clean i (omega arith))
        (rw (lt-leb 1024 i (omega arith), each i (omega arith)) refl, tt)

    connections_clean : (es : List Entry) → All (Joining n L J) es → Clean n es
    unfolding individuals_after
    connections_clean [] h = tt
    connections_clean (individual m ∷ es) h = absurd h.0
    connections_clean (connection c ∷ es) h = let w = h.0 in (fault_none plain L n c w.0 w.1 w.2, connections_clean es h.1)
    connections_clean (unreadable ∷ es) h = absurd h.0

    pub recorded_faultless : 0 < n → first_fault plain L 0 (drawn_entries n L names J) ≡ 0
    unfolding drawn_entries
    recorded_faultless pos =
        clean_faultless 0 (drawn_entries n L names J) (omega (arith, recorded_length))
        (clean_append 0 n (individual_entries n names) (connection_entries n L J)
        (individuals_counted n names) (individuals_clean n (omega arith))
        (connections_clean (connection_entries n L J) (joining n L J)))
