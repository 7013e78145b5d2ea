-- Laws of `every` and `some`, the tests of each number below n.
use mathlib.Core.Path.{◌≡◌, refl, sym, ap, ap₂, subst, ◌∙◌}
use mathlib.Core.Bool.{Bool, true, false, not, ◌&&◌, ◌||◌, cond, false≢true, and-true, and_assoc, and_comm}
use Prim.Native.Nat.{ℕ, zero, suc, ◌+◌, ◌^◌, ◌<◌}
use native.Mathlib.Nat.{zero-add, add-zero, add-suc, not-suc-le-zero, le_refl}
use native.Mathlib.Numerals.{add-one}
use native.Mathlib.Omega.{arith}
use lib.Dec.{T, eqb}
use lib.Pow.{pow_pos}
use borrow.Author.Tests.{ne_eqb}
use Rattle.bitset.specs.Bits.{bit, word}
use Rattle.bitset.proofs.Laws.{word_bits}
use Rattle.bitset.proofs.Facts.{is_true, of_true, either, and_left, and_right, and_both, not_and_right, or_cases, or_left, or_right, is_false, not_or, not_and, and_swap, below_suc}
use Rattle.elimination.specs.Sets.{every, some}

-- ---- as `T b`

pub every-at : (n : ℕ) (f : ℕ → Bool) → T (every n f) → (p : ℕ) → p < n → T (f p)
unfolding every
every-at zero f t p h = absurd (not-suc-le-zero h)
every-at (suc n) f t p h =
    below_suc p n h (λ e. subst (λ (k : ℕ). T (f k)) (sym e) (and_left (f n) (every n f) t))
    (every-at n f (and_right (f n) (every n f) t) p)

pub every-by : (n : ℕ) (f : ℕ → Bool) → ((p : ℕ) → p < n → T (f p)) → T (every n f)
unfolding every
every-by zero f h = tt
every-by (suc n) f h = and_both (f n) (every n f) (h n (le_refl (suc n))) (every-by n f (λ p l. h p (omega arith)))

-- a test that does not pass everywhere fails somewhere
pub every-not : (n : ℕ) (f : ℕ → Bool) → T (not (every n f)) → (p : ℕ) × (p < n) × T (not (f p))
unfolding every
every-not zero f t = absurd t
every-not (suc n) f t =
    either (f n)
    (λ s. let r = every-not n f (not_and_right (f n) (every n f) s t) in (r.0, omega (arith, r.1), r.2))
    (λ s. (n, le_refl (suc n), s))

pub some_at : (n : ℕ) (f : ℕ → Bool) → T (some n f) → (p : ℕ) × (p < n) × T (f p)
unfolding some
some_at zero f t = absurd t
some_at (suc n) f t =
    or_cases (f n) (some n f) t (λ u. (n, le_refl (suc n), u))
    (λ u. let r = some_at n f u in (r.0, omega (arith, r.1), r.2))

pub some-by : (n : ℕ) (f : ℕ → Bool) (p : ℕ) → p < n → T (f p) → T (some n f)
unfolding some
some-by zero f p h t = absurd (not-suc-le-zero h)
some-by (suc n) f p h t =
    below_suc p n h (λ e. or_left (f n) (some n f) (subst (λ (k : ℕ). T (f k)) e t))
    (λ l. or_right (f n) (some n f) (some-by n f p l t))

-- ---- as `b ≡ true`

pub all-at : (n : ℕ) (p : ℕ → Bool) → every n p ≡ true → (k : ℕ) → k < n → p k ≡ true
all-at n p e k h = is_true (p k) (every-at n p (of_true e) k h)

pub all_intro : (n : ℕ) (p : ℕ → Bool) → ((k : ℕ) → k < n → p k ≡ true) → every n p ≡ true
all_intro n p h = is_true (every n p) (every-by n p (λ k l. of_true (h k l)))

pub any_intro : (n : ℕ) (p : ℕ → Bool) (k : ℕ) → k < n → p k ≡ true → some n p ≡ true
any_intro n p k h e = is_true (some n p) (some-by n p k h (of_true e))

pub any_found : (n : ℕ) (p : ℕ → Bool) → some n p ≡ true → (k : ℕ) × (k < n) × (p k ≡ true)
any_found n p e = let w = some_at n p (of_true e) in (w.0, w.1, is_true (p w.0) w.2)

pub not_any : (n : ℕ) (p : ℕ → Bool) → not (some n p) ≡ every n (λ k. not (p k))
unfolding every some
not_any zero p = refl
not_any (suc n) p = not_or (p n) (some n p) ∙ ap (λ (z : Bool). not (p n) && z) (not_any n p)

pub not-all : (n : ℕ) (p : ℕ → Bool) → not (every n p) ≡ some n (λ k. not (p k))
unfolding every some
not-all zero p = refl
not-all (suc n) p = not_and (p n) (every n p) ∙ ap (λ (z : Bool). not (p n) || z) (not-all n p)

pub every-fails : (f : ℕ → Bool) (n k : ℕ) → k < n → f k ≡ false → every n f ≡ false
every-fails f n k l e = is_false (every n f) (λ t. false≢true (sym e ∙ all-at n f t k l))

pub every_and : (n : ℕ) (f g : ℕ → Bool) → (every n f && every n g) ≡ every n (λ k. f k && g k)
unfolding every
every_and zero f g = refl
every_and (suc n) f g = and_swap (f n) (every n f) (g n) (every n g) ∙ ap (λ (z : Bool). (f n && g n) && z) (every_and n f g)

-- the numbers below m, and n numbers after them
pub every_split : (m n : ℕ) (f : ℕ → Bool) → every (m + n) f ≡ (every m f && every n (λ k. f (m + k)))
unfolding every
every_split m zero f = ap (λ (x : ℕ). every x f) (add-zero m) ∙ sym (and-true (every m f))
every_split m (suc n) f =
    ap (λ (x : ℕ). every x f) (add-suc m n) ∙ ap (λ (x : Bool). f (m + n) && x) (every_split m n f)
    ∙ sym (and_assoc (f (m + n)) (every m f) (every n (λ k. f (m + k))))
    ∙ ap (λ (x : Bool). x && every n (λ k. f (m + k))) (and_comm (f (m + n)) (every m f))
    ∙ and_assoc (every m f) (f (m + n)) (every n (λ k. f (m + k)))

-- tests that agree below n
pub all_same : (n : ℕ) (f g : ℕ → Bool) → ((k : ℕ) → k < n → f k ≡ g k) → every n f ≡ every n g
unfolding every
all_same zero f g h = refl
all_same (suc n) f g h = ap₂ ◌&&◌ (h n (le_refl (suc n))) (all_same n f g (λ k l. h k (omega arith)))

pub any_same : (n : ℕ) (f g : ℕ → Bool) → ((k : ℕ) → k < n → f k ≡ g k) → some n f ≡ some n g
unfolding some
any_same zero f g h = refl
any_same (suc n) f g h = ap₂ ◌||◌ (h n (le_refl (suc n))) (any_same n f g (λ k l. h k (omega arith)))

-- a test that does not look at the number
pub and_some : (n : ℕ) (x : Bool) (f : ℕ → Bool) → (x && some n f) ≡ some n (λ k. x && f k)
unfolding some
and_some n true f = refl
and_some zero false f = refl
and_some (suc n) false f = and_some n false f

-- ---- the bits of a number

word_some : (n : ℕ) (D : ℕ → Bool) → not (eqb (word n D) 0) ≡ some n D
unfolding word some
word_some zero D = refl
word_some (suc n) D = go (D n) (word_some n D)
  where
    go : (b : Bool) → not (eqb (word n D) 0) ≡ some n D → not (eqb (cond b (2 ^ n) 0 + word n D) 0) ≡ (b || some n D)
    go true e = ap not (ne_eqb (2 ^ n + word n D) 0 (λ z. omega (arith, pow_pos n)))
    go false e = ap (λ (x : ℕ). not (eqb x 0)) (zero-add (word n D)) ∙ e

-- a number has a bit exactly if it is not 0
pub some_bit : (n x : ℕ) → x < 2 ^ n → not (eqb x 0) ≡ some n (bit x)
some_bit n x h = ap (λ (y : ℕ). not (eqb y 0)) (sym (word_bits n x h)) ∙ word_some n (bit x)

-- ---- a walk from number to number: what is known so far, and one number more

pub some-none : (f : ℕ → Bool) → some 0 f ≡ false
unfolding some
some-none f = refl

pub some_more : (f : ℕ → Bool) (n : ℕ) → some n f ≡ false → f n ≡ false → some (n + 1) f ≡ false
unfolding some
some_more f n p q = rw (add-one n, q, p)

pub every-none : (f : ℕ → Bool) → every 0 f ≡ true
unfolding every
every-none f = refl

pub every_more : (f : ℕ → Bool) (n : ℕ) → every n f ≡ true → f n ≡ true → every (n + 1) f ≡ true
unfolding every
every_more f n p q = rw (add-one n, q, p)
