-- The members of a set in rising order: each of them, all of them, strictly rising; and so the dominoes of a set.
use Prim.Native.Nat.{ℕ, zero, suc, ◌≤◌, ◌<◌}
use native.Mathlib.Omega.{arith}
use native.Mathlib.Decide.{dec_le, ℕ_discrete}
use lib.ListN.{length, get_or, length-append, get_or-append}
use lib.Seq.{get_or-append_seam}
use mathlib.Core.Path.{◌≡◌, refl, sym, ap, ◌∙◌, subst}
use mathlib.Core.Logic.{◌⊎◌, inl, inr}
use mathlib.Core.Bool.{true, false, cond, false≢true}
use mathlib.Core.List.{List, [], ◌∷◌, ◌++◌, append-nil}
use Rattle.bitset.specs.Bits.{Set, size}
use Rattle.bitset.proofs.Facts.{dec, below_suc}
use Rattle.elimination.specs.Sets.{Same}
use Rattle.semantics.specs.Dominoes.{Dominoes, total, number, left_of, roles_of, right_of_lem, unnumbered}
use Rattle.semantics.specs.Conditions.{View, InRange, dominoes, canon, canon_dominoes}
use Rattle.semantics.specs.Layers.{Enumerates, rising}
use Rattle.semantics.proofs.Numbers.{number_lt, left-number, roles-number, right-number}
use Rattle.semantics.proofs.Canonical.{dominoes_of, of_unnumbered, canon-largest}

-- one more number is a member, or not
pub with_one : (S : Set) (n : ℕ) → S n ≡ true → rising S (suc n) ≡ rising S n ++ (n ∷ [])
unfolding rising
with_one S n e = rw e

pub with_none : (S : Set) (n : ℕ) → S n ≡ false → rising S (suc n) ≡ rising S n
unfolding rising
with_none S n e = rw e (append-nil (rising S n))

-- what holds of the empty list, and of one with its next member at the end, holds of the members below n
listed : (S : Set) (P : ℕ → List ℕ → Type 0) → P 0 []
    → ((n : ℕ) (l : List ℕ) → P n l → S n ≡ true → P (suc n) (l ++ (n ∷ [])))
    → ((n : ℕ) (l : List ℕ) → P n l → S n ≡ false → P (suc n) l)
    → (n : ℕ) → P n (rising S n)
listed S P none more same zero = unfold rising in none
listed S P none more same (suc n) = pick (listed S P none more same n) (dec (S n))
  where
    pick : P n (rising S n) → (S n ≡ true) ⊎ (S n ≡ false) → P (suc n) (rising S (suc n))
    pick h (inl e) = subst (P (suc n)) (sym (with_one S n e)) (more n (rising S n) h e)
    pick h (inr e) = subst (P (suc n)) (sym (with_none S n e)) (same n (rising S n) h e)

-- a place in a list with one number put at its end
at_end : {C : Type 0} (l : List ℕ) (n i : ℕ) → i < length (l ++ (n ∷ []))
    → (i < length l → get_or (l ++ (n ∷ [])) i 0 ≡ get_or l i 0 → C) → (i ≡ length l → get_or (l ++ (n ∷ [])) i 0 ≡ n → C) → C
at_end {C} l n i h f g = pick (dec_le (suc i) (length l))
  where
    pick : Dec (suc i ≤ length l) → C
    pick (yes k) = f k (get_or-append l (n ∷ []) 0 i k)
    pick (no k) =
        let e : i ≡ length l = omega (arith, length-append l (n ∷ [])) in
        g e (ap (λ (z : ℕ). get_or (l ++ (n ∷ [])) z 0) e ∙ get_or-append_seam l n [] 0)

abbrev Good : Set → ℕ → List ℕ → Type 0
Good S n l = (i : ℕ) → i < length l → (get_or l i 0 < n) × (S (get_or l i 0) ≡ true)

abbrev Has : Set → ℕ → List ℕ → Type 0
Has S n l = (k : ℕ) → k < n → S k ≡ true → (i : ℕ) × (i < length l) × (get_or l i 0 ≡ k)

abbrev Up : ℕ → List ℕ → Type 0
Up n l = ((i : ℕ) → i < length l → get_or l i 0 < n) × ((i j : ℕ) → i < j → j < length l → get_or l i 0 < get_or l j 0)

-- each is a member below n
pub rising-each : (S : Set) (n i : ℕ) → i < length (rising S n) → (get_or (rising S n) i 0 < n) × (S (get_or (rising S n) i 0) ≡ true)
rising-each S n = listed S (Good S) (λ i h. absurd (omega arith)) more (λ n l h e i k. (omega (arith, (h i k).0), (h i k).1)) n
  where
    more : (n : ℕ) (l : List ℕ) → Good S n l → S n ≡ true → Good S (suc n) (l ++ (n ∷ []))
    more n l h e i k =
        at_end l n i k (λ low q. (omega (arith, (h i low).0), ap S q ∙ (h i low).1)) (λ p q. (omega arith, ap S q ∙ e))

-- every member below n is there
pub rising-every : (S : Set) (n k : ℕ) → k < n → S k ≡ true → (i : ℕ) × (i < length (rising S n)) × (get_or (rising S n) i 0 ≡ k)
rising-every S n = listed S (Has S) (λ k h e. absurd (omega arith)) more same n
  where
    more : (n : ℕ) (l : List ℕ) → Has S n l → S n ≡ true → Has S (suc n) (l ++ (n ∷ []))
    more n l h e k low t = pick (ℕ_discrete k n)
      where
        pick : Dec (k ≡ n) → (i : ℕ) × (i < length (l ++ (n ∷ []))) × (get_or (l ++ (n ∷ [])) i 0 ≡ k)
        pick (yes q) = (length l, omega (arith, length-append l (n ∷ [])), get_or-append_seam l n [] 0 ∙ sym q)
        pick (no q) =
            let w = h k (omega arith) t in
            (w.0, omega (arith, length-append l (n ∷ []), w.1), get_or-append l (n ∷ []) 0 w.0 w.1 ∙ w.2)

    same : (n : ℕ) (l : List ℕ) → Has S n l → S n ≡ false → Has S (suc n) l
    same n l h e k low t = pick (ℕ_discrete k n)
      where
        pick : Dec (k ≡ n) → (i : ℕ) × (i < length l) × (get_or l i 0 ≡ k)
        pick (yes q) = absurd (false≢true (sym e ∙ ap S (sym q) ∙ t))
        pick (no q) = h k (omega arith) t

-- in rising order
pub rising_strict : (S : Set) (n i j : ℕ) → i < j → j < length (rising S n) → get_or (rising S n) i 0 < get_or (rising S n) j 0
rising_strict S n i j l h = all_up.1 i j l h
  where
    more : (n : ℕ) (l : List ℕ) → Up n l → S n ≡ true → Up (suc n) (l ++ (n ∷ []))
    more n l h e = (
      λ i k. at_end l n i k (λ low q. omega (arith, h.0 i low)) (λ p q. omega arith),
      λ i j r k. at_end l n j k
          (λ low q. omega (arith, h.1 i j r low, get_or-append l (n ∷ []) 0 i (omega arith)))
          (λ p q. omega (arith, h.0 i (omega arith), get_or-append l (n ∷ []) 0 i (omega arith))),
    )

    all_up : Up n (rising S n)
    all_up =
        listed S Up (λ i h. absurd (omega arith), λ i j l h. absurd (omega arith)) more (λ n l h e. (λ i k. omega (arith, h.0 i k), h.1)) n

-- the dominoes with the numbers l enumerate D
abbrev pub Lists : View → Dominoes → List ℕ → Type 0
Lists v D l =
    Enumerates D (length l) (λ i. left_of v.parts v.roles (get_or l i 0))
    (λ i. roles_of v.parts v.roles (get_or l i 0)) (λ i. right_of_lem v.parts (get_or l i 0))

-- so do the numbers of a set's dominoes in rising order
pub rising_enumerates : (v : View) (D : Dominoes) → InRange v D → (S : Set)
    → ((n : ℕ) → n < total v.parts v.roles → S n ≡ unnumbered v.parts v.roles D n)
    → Lists v D (rising S (total v.parts v.roles))
unfolding unnumbered InRange
rising_enumerates v D inside S same =
    let c : ℕ = v.parts in let L : ℕ = v.roles in
    let l : List ℕ = rising S (total c L) in
    record {
      each = λ i h. let w = rising-each S (total c L) i h in sym (same (get_or l i 0) w.0) ∙ w.1;
      all = λ A R B e.
          let d = inside A R B e in
          let la = left-number c L A R B d in
          let lr = roles-number c L A R B d in
          let lb = right-number c L A R B d in
          let low = number_lt c L A R B d in
          let w = rising-every S (total c L) (number c L A R B) low (same (number c L A R B) low ∙ rw (la, lr, lb) e) in
          (w.0, w.1, ap (left_of c L) w.2 ∙ la, ap (roles_of c L) w.2 ∙ lr, ap (right_of_lem c) w.2 ∙ lb);
    }

-- in particular those of the canonical set
pub canon_enumerates : (v : View) → Lists v (canon_dominoes v) (rising (canon v) (dominoes v))
unfolding canon_dominoes dominoes_of
canon_enumerates v =
    rising_enumerates v (canon_dominoes v) (canon-largest v).inside (canon v) (λ n h. sym (of_unnumbered v (canon v) n h))

-- ---- of numbers that are none, and how many there are

module _ (S : Set) where
  pub rising_size : (n : ℕ) → length (rising S n) ≡ size n S
  unfolding size
  rising_size = listed S (λ n l. length l ≡ size n S) refl
      (λ n l h e. rw e (omega (arith, length-append l (n ∷ []), h))) (λ n l h e. rw e (omega (arith, h)))

  -- numbers that are none
  pub rising_over : (m n : ℕ) → m ≤ n → ((k : ℕ) → m ≤ k → k < n → S k ≡ false) → rising S n ≡ rising S m
  rising_over m zero h f = let e : 0 ≡ m = omega arith in ap (rising S) e
  rising_over m (suc n) h f =
      below_suc m (suc n) (omega arith) (λ e. ap (rising S) (sym e))
      (λ l. with_none S n (f n (omega arith) (omega arith)) ∙ rising_over m n (omega arith) (λ k i j. f k i (omega arith)))

  pub rising_le : (m n : ℕ) → m ≤ n → length (rising S m) ≤ length (rising S n)
  unfolding rising
  rising_le m zero h = let e : m ≡ 0 = omega arith in rw e (omega arith)
  rising_le m (suc n) h =
      below_suc m (suc n) (omega arith) (λ e. rw e (omega arith))
      (λ l. omega (arith, length-append (rising S n) (cond (S n) (n ∷ []) []), rising_le m n (omega arith)))

  -- as many as rising members that are named
  pub rising_many : (f : ℕ → ℕ) (k n : ℕ) → ((i : ℕ) → i < k → (f i < n) × (S (f i) ≡ true))
      → ((i j : ℕ) → i < j → j < k → f i < f j) → k ≤ length (rising S n)
  rising_many f zero n each up = omega arith
  rising_many f (suc k) n each up =
      let w = each k (omega arith) in
      omega (
        arith,
        rising_many f k (f k) (λ i l. (up i k l (omega arith), (each i (omega (arith, l))).1)) (λ i j l h. up i j l (omega (arith, h))),
        length-append (rising S (f k)) (f k ∷ []),
        ap length (with_one S (f k) w.1),
        rising_le (suc (f k)) n w.0,
      )

-- and sets with the same have them in the same order
pub rising_same : (S T : Set) (n : ℕ) → Same n S T → rising S n ≡ rising T n
unfolding rising
rising_same S T zero e = refl
rising_same S T (suc n) e = rw (rising_same S T n (λ i l. e i (omega (arith, l))), e n (omega arith)) refl
