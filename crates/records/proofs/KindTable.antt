-- The rules of the table of kinds: what each row's shape passes, and a kind is one of the table's or its record stands for nothing.
use Prim.Native.Nat.{ℕ, zero, suc, ◌+◌, ◌-◌, ◌*◌, ◌≤◌, ◌<◌}
use mathlib.Core.Path.{◌≡◌, refl}
use mathlib.Core.Bool.{Bool, true, false, cond, ◌&&◌, ◌||◌}
use mathlib.Core.List.{List, [], ◌∷◌}
use lib.Dec.{T, eqb, leb, ltb, eqb→eq, leb→le}
use native.Mathlib.Omega.{arith}
use borrow.Author.Tests.{eqb-true, eqb-false, leb-true}
use Rattle.records.specs.Shapes.{Shape}
use Rattle.records.specs.Entries.{Entry}
use Rattle.records.specs.Shapes.{Row, rows, rowed, unknown, within, shaped, shape_of, is_leaf_lem, needs_restricted_lem}
use Rattle.records.specs.Scan.{vacuous_of_lem}

left : (a b : Bool) → T (a && b) → T a
left true b t = tt
left false b t = t

right : (a b : Bool) → T (a && b) → T b
right true b t = t
right false b t = absurd t

-- a test of shapes that each row passes, and none: one computed test, then it holds at every kind
abbrev pub every : (Shape → Bool) → List Row → Bool
every f [] = f unknown
every f (r ∷ rs) = f r.shape && every f rs

pub shape_rule : (f : Shape → Bool) → T (every f rows) → (k : ℕ) → T (f (shape_of k))
unfolding shape_of
shape_rule f t k = go rows t
  where
    pick : (x y : Shape) (b : Bool) → T (f x) → T (f y) → T (f (cond b x y))
    pick x y true p q = p
    pick x y false p q = q

    go : (rs : List Row) → T (every f rs) → T (f (rowed rs k))
    go [] t = t
    go (r ∷ rs) t =
        pick r.shape (rowed rs k) (within r.from r.to k) (left (f r.shape) (every f rs) t) (go rs (right (f r.shape) (every f rs) t))

-- the table's bounds; a leaf, which has no first reference, has no second
pub record Bounds (s : Shape) : Type 0 where
  pub sort : s.sort ≤ 3
  pub body : s.body ≤ 2
  pub limit : s.limit ≤ 12
  pub first : s.first ≤ 2
  pub second : s.second ≤ 2
  pub leaf : s.first ≡ 0 → s.second ≡ 0
  -- a reference is a byte of the body
  pub one : (s.first ≡ 0 → ⊥) → 1 ≤ s.body
  pub two : (s.second ≡ 0 → ⊥) → 2 ≤ s.body

pub bounds : (k : ℕ) → Bounds (shape_of k)
bounds k =
    record {
      sort = leb→le (shape_of k).sort 3 (shape_rule (λ s. leb s.sort 3) tt k);
      body = leb→le (shape_of k).body 2 (shape_rule (λ s. leb s.body 2) tt k);
      limit = leb→le (shape_of k).limit 12 (shape_rule (λ s. leb s.limit 12) tt k);
      first = leb→le (shape_of k).first 2 (shape_rule (λ s. leb s.first 2) tt k);
      second = leb→le (shape_of k).second 2 (shape_rule (λ s. leb s.second 2) tt k);
      leaf = λ z. omega (arith, z, leb→le (shape_of k).second (2 * (shape_of k).first) (shape_rule (λ s. leb s.second (2 * s.first)) tt k));
      one = λ n. omega (arith, n, leb→le (shape_of k).first (2 * (shape_of k).body) (shape_rule (λ s. leb s.first (2 * s.body)) tt k));
      two = λ n. omega (arith, n, leb→le (shape_of k).second (2 * ((shape_of k).body - 1)) (shape_rule (λ s. leb s.second (2 * (s.body - 1))) tt k));
    }

-- a shape that antt computes at each of n kinds, from lo on
abbrev pub same : Shape → Shape → Bool
same s t = eqb s.sort t.sort && (eqb s.body t.body && (eqb s.limit t.limit && (eqb s.first t.first && eqb s.second t.second)))

abbrev pub shapes : Shape → ℕ → ℕ → Bool
shapes s lo zero = true
shapes s lo (suc n) = same s (shape_of lo) && shapes s (suc lo) n

five : (a b c d e : Bool) → T (a && (b && (c && (d && e)))) → T a × T b × T c × T d × T e
five true true true true e t = (tt, tt, tt, tt, t)
five true true true false e t = absurd t
five true true false d e t = absurd t
five true false c d e t = absurd t
five false b c d e t = absurd t

same_is : (s t : Shape) → T (same s t) → s ≡ t
same_is s t p =
    let w =
    five (eqb s.sort t.sort) (eqb s.body t.body) (eqb s.limit t.limit) (eqb s.first t.first) (eqb s.second t.second) p in
    fields t s.sort s.body s.limit s.first s.second (eqb→eq s.sort t.sort w.0) (eqb→eq s.body t.body w.1)
    (eqb→eq s.limit t.limit w.2) (eqb→eq s.first t.first w.3) (eqb→eq s.second t.second w.4)
  where
    fields : (t : Shape) (a b c d e : ℕ) → a ≡ t.sort → b ≡ t.body → c ≡ t.limit → d ≡ t.first → e ≡ t.second → shaped a b c d e ≡ t
    fields t a b c d e p q r u v = rw (p, q, r, u, v)

pub shape_at : (s : Shape) (lo n k : ℕ) → T (shapes s lo n) → lo ≤ k → k < lo + n → s ≡ shape_of k
shape_at s lo zero k t h l = absurd (omega arith)
shape_at s lo (suc n) k t h l =
    go (eqb k lo) refl (λ e. shape_at s (suc lo) n k (right (same s (shape_of lo)) (shapes s (suc lo) n) t) (omega arith) (omega arith))
  where
    go : (b : Bool) → eqb k lo ≡ b → ((k ≡ lo → ⊥) → s ≡ shape_of k) → s ≡ shape_of k
    go true q f = rw (eqb-true k lo q) (same_is s (shape_of lo) (left (same s (shape_of lo)) (shapes s (suc lo) n) t))
    go false q f = f (eqb-false k lo q)

-- a kind is c or another
try : (P : ℕ → Type 0) (k c : ℕ) → P c → (eqb k c ≡ false → P k) → P k
try P k c p f = go (eqb k c) refl
  where
    go : (b : Bool) → eqb k c ≡ b → P k
    go true q = rw (eqb-true k c q) p
    go false q = f q

-- none of one kind, and neither of two neighbours
outside1 : (c k : ℕ) → eqb k c ≡ false → within c c k ≡ false
outside1 c k p = go (leb c k) refl (leb k c) refl
  where
    go : (b : Bool) → leb c k ≡ b → (d : Bool) → leb k c ≡ d → b && d ≡ false
    go true l true h = absurd (eqb-false k c p (omega (arith, leb-true c k l, leb-true k c h)))
    go true l false h = refl
    go false l d h = refl

outside : (lo k : ℕ) → eqb k lo ≡ false → eqb k (suc lo) ≡ false → within lo (suc lo) k ≡ false
outside lo k p q = go (leb lo k) refl (leb k (suc lo)) refl
  where
    go : (b : Bool) → leb lo k ≡ b → (c : Bool) → leb k (suc lo) ≡ c → b && c ≡ false
    go true l true h =
        absurd (eqb-false k lo p (omega (arith, leb-true lo k l, leb-true k (suc lo) h, eqb-false k (suc lo) q)))
    go true l false h = refl
    go false l c h = refl

pub kind_cases : (P : ℕ → Type 0) → P 0x01 → P 0x02 → P 0x03 → P 0x04 → P 0x05 → P 0x06 → P 0x07 → P 0x08 → P 0x10 → P 0x11 → P 0x12 → P 0x13 →
    P 0x14 → P 0x20 → P 0x21 → (k : ℕ) → ((shape_of k).sort ≡ 0 → P k) → P k
unfolding shape_of
kind_cases P p1 p2 p3 p4 p5 p6 p7 p8 p10 p11 p12 p13 p14 p20 p21 k none =
    try P k 0x01 p1 (λ e1. try P k 0x02 p2 (λ e2. try P k 0x03 p3 (λ e3. try P k 0x04 p4 (λ e4. try P k 0x05 p5 (λ e5. try P k 0x06 p6 (λ e6.
    try P k 0x07 p7 (λ e7. try P k 0x08 p8 (λ e8. try P k 0x10 p10 (λ e10. try P k 0x11 p11 (λ e11. try P k 0x12 p12 (λ e12. try P k 0x13 p13 (λ e13.
    try P k 0x14 p14 (λ e14. try P k 0x20 p20 (λ e20. try P k 0x21 p21 (λ e21.
    none (rw (
      outside 0x01 k e1 e2,
      outside1 0x03 k e3,
      outside1 0x04 k e4,
      outside 0x05 k e5 e6,
      outside 0x07 k e7 e8,
      outside 0x10 k e10 e11,
      outside1 0x12 k e12,
      outside 0x13 k e13 e14,
      outside1 0x20 k e20,
      outside1 0x21 k e21,
    )))))))))))))))))

-- a known kind is one of the table's
pub known_cases : (P : ℕ → Type 0) → P 0x01 → P 0x02 → P 0x03 → P 0x04 → P 0x05 → P 0x06 → P 0x07 → P 0x08 → P 0x10 → P 0x11 → P 0x12 → P 0x13 →
    P 0x14 → P 0x20 → P 0x21 → (k : ℕ) → ((shape_of k).sort ≡ 0 → ⊥) → P k
known_cases P p1 p2 p3 p4 p5 p6 p7 p8 p10 p11 p12 p13 p14 p20 p21 k known =
    kind_cases P p1 p2 p3 p4 p5 p6 p7 p8 p10 p11 p12 p13 p14 p20 p21 k (λ u. absurd (known u))

-- "Records of kinds 01, 02, 03, 10, 11 may be named often": of the known kinds, the leaves
pub leaf_kinds : (k : ℕ) → ((shape_of k).sort ≡ 0 → ⊥) → is_leaf_lem (shape_of k) ≡ (within 0x01 0x03 k || within 0x10 0x11 k)
unfolding shape_of is_leaf_lem
leaf_kinds =
    known_cases (λ k. is_leaf_lem (shape_of k) ≡ (within 0x01 0x03 k || within 0x10 0x11 k))
    refl refl refl refl refl refl refl refl refl refl refl refl refl refl refl

-- "the link of a some or only must fail on the empty set of links", "8 also for kind 21": of the known kinds, those that need a
-- restricted role
pub restricted_kinds : (k : ℕ) → ((shape_of k).sort ≡ 0 → ⊥) → needs_restricted_lem (shape_of k) ≡ (within 0x07 0x08 k || within 0x21 0x21 k)
unfolding shape_of needs_restricted_lem
restricted_kinds =
    known_cases (λ k. needs_restricted_lem (shape_of k) ≡ (within 0x07 0x08 k || within 0x21 0x21 k))
    refl refl refl refl refl refl refl refl refl refl refl refl refl refl refl

-- an unknown kind is none of those with a row
pub other : (k c : ℕ) → (shape_of k).sort ≡ 0 → T (ltb 0 (shape_of c).sort) → eqb k c ≡ false
other k c u t = go (eqb k c) refl
  where
    go : (b : Bool) → eqb k c ≡ b → b ≡ false
    go true q = absurd (no (shape_of c).sort (rw (eqb-true k c q) at u) t)
      where
        no : (s : ℕ) → s ≡ 0 → T (ltb 0 s) → ⊥
        no s e t = rw e at t
    go false q = refl

pub vacuous_unknown : (k : ℕ) → (shape_of k).sort ≡ 0 → (es : List Entry) (a b : ℕ) → vacuous_of_lem es k a b ≡ false
unfolding shape_of vacuous_of_lem
vacuous_unknown k u es a b = rw (other k 0x12 u tt, other k 0x13 u tt, other k 0x14 u tt)
