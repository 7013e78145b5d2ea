-- Laws of the word of a set: its bits are the set, and the operations on words are those on sets.
use mathlib.Core.Path.{◌≡◌, refl, sym, ap, ap₂, subst, ◌∙◌}
use mathlib.Core.Bool.{Bool, true, false, cond, not, ◌&&◌, ◌||◌}
use Prim.Native.Nat.{ℕ, zero, suc, ◌+◌, ◌-◌, ◌*◌, ◌/◌, ◌%◌, ◌^◌, ◌≤◌, ◌<◌, min, max}
use native.Mathlib.Nat.{add-zero, mod-lt, pow-suc, le_refl, lt_of_le_of_lt, lt_of_lt_of_le, div-eq_of_lt}
use native.Mathlib.Decide.{ℕ_discrete}
use native.Mathlib.Omega.{arith}
use lib.Dec.{eqb, ltb, ltb→lt, nltb→le}
use lib.Pow.{pow_pos, pow_mono, high, low, split, field, mod-mod-pow, shr_lt, shl-shr, shr-shr}
use lib.Bits.{bit_and, bit_or, and_le_l, and_block, or_block, and_shr, and_step, or_shr, or_step}
use borrow.Author.Tests.{lt-ltb, le-ltb}
use Rattle.bitset.specs.Bits.{bit, word, word_at}
use Rattle.bitset.proofs.Facts.{either, and_in, and_out}

-- ---- one digit

top : (b : Bool) (m : ℕ) → cond b m 0 ≡ cond b 1 0 * m
top true m = omega arith
top false m = omega arith

top_le : (b : Bool) (m : ℕ) → cond b m 0 ≤ m
top_le true m = omega arith
top_le false m = omega arith

top_not : (b : Bool) (m : ℕ) → cond b m 0 + cond (not b) m 0 ≡ m
top_not true m = omega arith
top_not false m = omega arith

top_and : (a b : Bool) → bit_and (cond a 1 0) (cond b 1 0) ≡ cond (a && b) 1 0
top_and true true = refl
top_and true false = refl
top_and false b = refl

top_or : (a b : Bool) → bit_or (cond a 1 0) (cond b 1 0) ≡ cond (a || b) 1 0
top_or true true = refl
top_or true false = refl
top_or false b = refl

top_back : (b : Bool) → eqb (cond b 1 0 % 2) 1 ≡ b
top_back true = refl
top_back false = refl

top_of : (q : ℕ) → q < 2 → cond (eqb (q % 2) 1) 1 0 ≡ q
top_of zero h = refl
top_of (suc zero) h = refl
top_of (suc (suc q)) h = omega arith

-- ---- words of n bits

-- the top bit and the rest
pub word-suc : (n : ℕ) (D : ℕ → Bool) → word (suc n) D ≡ cond (D n) 1 0 * 2 ^ n + word n D
unfolding word
word-suc n D = ap (λ (x : ℕ). x + word n D) (top (D n) (2 ^ n))

pub word_lt : (n : ℕ) (D : ℕ → Bool) → word n D < 2 ^ n
unfolding word
word_lt zero D = omega arith
word_lt (suc n) D = omega (arith, pow-suc 2 n, top_le (D n) (2 ^ n), word_lt n D)

pub word_ext : (n : ℕ) (D E : ℕ → Bool) → ((k : ℕ) → k < n → D k ≡ E k) → word n D ≡ word n E
unfolding word
word_ext zero D E e = refl
word_ext (suc n) D E e =
    ap₂ (λ (b : Bool) (r : ℕ). cond b (2 ^ n) 0 + r) (e n (le_refl (suc n))) (word_ext n D E (λ k l. e k (omega arith)))

pub word-not : (n : ℕ) (D : ℕ → Bool) → 2 ^ n - 1 - word n D ≡ word n (λ k. not (D k))
unfolding word
word-not zero D = refl
word-not (suc n) D = omega (arith, pow-suc 2 n, top_not (D n) (2 ^ n), word_lt n D, word-not n D)

pub word_and : (n : ℕ) (D E : ℕ → Bool) → bit_and (word n D) (word n E) ≡ word n (λ k. D k && E k)
unfolding word
word_and zero D E = refl
word_and (suc n) D E =
    ap₂ bit_and (word-suc n D) (word-suc n E)
    ∙ and_block n (cond (D n) 1 0) (cond (E n) 1 0) (word n D) (word n E) (word_lt n D) (word_lt n E)
    ∙ ap₂ (λ (x y : ℕ). x * 2 ^ n + y) (top_and (D n) (E n)) (word_and n D E)
    ∙ sym (word-suc n (λ k. D k && E k))

pub word_or : (n : ℕ) (D E : ℕ → Bool) → bit_or (word n D) (word n E) ≡ word n (λ k. D k || E k)
unfolding word
word_or zero D E = refl
word_or (suc n) D E =
    ap₂ bit_or (word-suc n D) (word-suc n E)
    ∙ or_block n (cond (D n) 1 0) (cond (E n) 1 0) (word n D) (word n E) (word_lt n D) (word_lt n E)
    ∙ ap₂ (λ (x y : ℕ). x * 2 ^ n + y) (top_or (D n) (E n)) (word_or n D E)
    ∙ sym (word-suc n (λ k. D k || E k))

pub word-all : (n : ℕ) → word n (λ k. true) ≡ 2 ^ n - 1
unfolding word
word-all zero = refl
word-all (suc n) = omega (arith, pow-suc 2 n, pow_pos n, word-all n)

pub word_none : (n : ℕ) → word n (λ k. false) ≡ 0
unfolding word
word_none zero = refl
word_none (suc n) = omega (arith, word_none n)

-- a lower bit does not see what stands above
pub bit-low : (x y n k : ℕ) → y < 2 ^ n → k < n → bit (x * 2 ^ n + y) k ≡ bit y k
bit-low x y n k h l =
    ap (λ (q : ℕ). eqb q 1)
    (sym (field (x * 2 ^ n + y) 1 k)
    ∙ ap (λ (q : ℕ). q / 2 ^ k)
    (sym (mod-mod-pow (x * 2 ^ n + y) (n - (1 + k)) (1 + k))
    ∙ ap (λ (m : ℕ). (x * 2 ^ n + y) % 2 ^ m % 2 ^ (1 + k)) (omega arith)
    ∙ ap (λ (r : ℕ). r % 2 ^ (1 + k)) (low x n h))
    ∙ field y 1 k)

-- and so does one of the lowest bits alone
pub bit_mod : (x n k : ℕ) → k < n → bit (x % 2 ^ n) k ≡ bit x k
bit_mod x n k h =
    sym (bit-low (x / 2 ^ n) (x % 2 ^ n) n k (mod-lt x (pow_pos n)) h) ∙ ap (λ (y : ℕ). bit y k) (split x n)

-- the bits of a number of n bits, and bit n above them
pub bit_lower : (n x k : ℕ) → x < 2 ^ n → k < n → bit (2 ^ n + x) k ≡ bit x k
bit_lower n x k h l = ap (λ (y : ℕ). bit y k) (omega arith) ∙ bit-low 1 x n k h l

pub bit_top : (n x : ℕ) → x < 2 ^ n → bit (2 ^ n + x) n ≡ true
bit_top n x h =
    let e : 2 ^ n + x ≡ 1 * 2 ^ n + x = omega arith in
    ap (λ (y : ℕ). bit y n) e ∙ ap (λ (q : ℕ). eqb (q % 2) 1) (high 1 n h)

-- the bits of the word of a set are the set
pub bit_word : (n : ℕ) (D : ℕ → Bool) (k : ℕ) → k < n → bit (word n D) k ≡ D k
bit_word zero D k h = absurd (omega arith)
bit_word (suc n) D k h = rw (word-suc n D) (go (ℕ_discrete k n) (bit_word n D k))
  where
    go : Dec (k ≡ n) → (k < n → bit (word n D) k ≡ D k) → bit (cond (D n) 1 0 * 2 ^ n + word n D) k ≡ D k
    go (yes q) r = rw (q, high (cond (D n) 1 0) n (word_lt n D)) (top_back (D n))
    go (no q) r =
        let l : k < n = omega arith in
        bit-low (cond (D n) 1 0) (word n D) n k (word_lt n D) l ∙ r l

-- a number is the word of its bits
pub word_bits : (n x : ℕ) → x < 2 ^ n → word n (bit x) ≡ x
unfolding word
word_bits zero x h = omega arith
word_bits (suc n) x h =
    let l : x % 2 ^ n < 2 ^ n = mod-lt x (pow_pos n) in
    let same : word n (bit x) ≡ word n (bit (x % 2 ^ n)) = word_ext n (bit x) (bit (x % 2 ^ n)) (λ k i. sym (bit_mod x n k i)) in
    word-suc n (bit x)
    ∙ ap₂ (λ (d r : ℕ). d * 2 ^ n + r)
    (top_of (x / 2 ^ n) (shr_lt 1 n (subst (λ (m : ℕ). x < 2 ^ m) (omega arith) h)))
    (same ∙ word_bits n (x % 2 ^ n) l)
    ∙ split x n

-- ---- words of 64

pub bit_word_at : (D : ℕ → Bool) (w k : ℕ) → k < 64 → bit (word_at D w) k ≡ D (64 * w + k)
unfolding word_at
bit_word_at D w k h = bit_word 64 (λ k. D (64 * w + k)) k h

pub word_at_lt : (D : ℕ → Bool) (w : ℕ) → word_at D w < 2 ^ 64
unfolding word_at
word_at_lt D w = word_lt 64 (λ k. D (64 * w + k))

-- the first word of a set
pub bit_first : (D : ℕ → Bool) (x k : ℕ) → x ≡ word_at D 0 → k < 64 → bit x k ≡ D k
bit_first D x k e h = ap (λ (y : ℕ). bit y k) e ∙ bit_word_at D 0 k h ∙ ap D (omega arith)

-- sets with the same numbers of word w
pub word_at_same : (D E : ℕ → Bool) (w : ℕ) → ((k : ℕ) → k < 64 → D (64 * w + k) ≡ E (64 * w + k)) → word_at D w ≡ word_at E w
unfolding word_at
word_at_same D E w e = word_ext 64 (λ k. D (64 * w + k)) (λ k. E (64 * w + k)) e

pub word_at_ext : (D E : ℕ → Bool) (w : ℕ) → ((n : ℕ) → D n ≡ E n) → word_at D w ≡ word_at E w
word_at_ext D E w e = word_at_same D E w (λ k l. e (64 * w + k))

pub word_at_all : (w : ℕ) → word_at (λ n. true) w ≡ 18446744073709551615
unfolding word_at
word_at_all w = word-all 64

pub word_at_none : (w : ℕ) → word_at (λ n. false) w ≡ 0
unfolding word_at
word_at_none w = word_none 64

pub word_at_not : (D : ℕ → Bool) (w : ℕ) → 18446744073709551615 - word_at D w ≡ word_at (λ n. not (D n)) w
unfolding word_at
word_at_not D w = word-not 64 (λ k. D (64 * w + k))

pub word_at_and : (D E : ℕ → Bool) (w : ℕ) → bit_and (word_at D w) (word_at E w) ≡ word_at (λ n. D n && E n) w
unfolding word_at
word_at_and D E w = word_and 64 (λ k. D (64 * w + k)) (λ k. E (64 * w + k))

pub word_at_or : (D E : ℕ → Bool) (w : ℕ) → bit_or (word_at D w) (word_at E w) ≡ word_at (λ n. D n || E n) w
unfolding word_at
word_at_or D E w = word_or 64 (λ k. D (64 * w + k)) (λ k. E (64 * w + k))

-- ---- the numbers that have bit p

-- the six low bits of a number say where it stands in its word
pub column_low : (p w : ℕ) → p < 6 → word_at (λ n. bit n p) w ≡ word 64 (λ k. bit k p)
unfolding word_at
column_low p w h =
    word_ext 64 (λ k. bit (64 * w + k) p) (λ k. bit k p)
    (λ k l. ap (λ (x : ℕ). bit (x + k) p) (omega arith) ∙ bit-low w k 6 p l h)

-- the others are those of the word's number
pub column_high : (p w : ℕ) → 6 ≤ p → word_at (λ n. bit n p) w ≡ word_at (λ n. bit w (p - 6)) 0
unfolding word_at
column_high p w h =
    word_ext 64 (λ k. bit (64 * w + k) p) (λ k. bit w (p - 6))
    (λ k l.
    let e : 6 + (p - 6) ≡ p = omega arith in
    let f : (64 * w + k) / 2 ^ 6 ≡ w = omega arith in
    ap (λ (m : ℕ). bit (64 * w + k) m) (sym e)
    ∙ ap (λ (q : ℕ). eqb (q % 2) 1) (sym (shr-shr (64 * w + k) 6 (p - 6)) ∙ ap (λ (y : ℕ). y / 2 ^ (p - 6)) f))

-- a number of n bits has no bit from n on
pub bit_past : (n x k : ℕ) → x < 2 ^ n → n ≤ k → bit x k ≡ false
bit_past n x k h l = ap (λ (q : ℕ). eqb (q % 2) 1) (div-eq_of_lt (lt_of_lt_of_le h (pow_mono l)))

pub bit_none : (k : ℕ) → bit 0 k ≡ false
bit_none k = bit_past 0 0 k (omega arith) (omega arith)

-- a number moved up by s digits has nothing below, and its own digits from there on
pub bit_under : (x s k : ℕ) → k < s → bit (x * 2 ^ s) k ≡ false
bit_under x s k h =
    ap (λ (y : ℕ). bit y k) (sym (add-zero (x * 2 ^ s))) ∙ bit-low x 0 s k (pow_pos s) h ∙ bit_none k

pub bit-over : (x s k : ℕ) → s ≤ k → bit (x * 2 ^ s) k ≡ bit x (k - s)
bit-over x s k h =
    let e : s + (k - s) ≡ k = omega arith in
    ap (bit (x * 2 ^ s)) (sym e)
    ∙ ap (λ (y : ℕ). eqb (y % 2) 1) (sym (shr-shr (x * 2 ^ s) s (k - s)) ∙ ap (λ (y : ℕ). y / 2 ^ (k - s)) (shl-shr x s))

-- and no more than they were
pub bit_beside : (n x s k : ℕ) → x < 2 ^ n → (s ≤ k → k < s + n → ⊥) → bit (x * 2 ^ s) k ≡ false
bit_beside n x s k h out =
    either (ltb k s) (λ t. bit_under x s k (ltb→lt k s t))
    (λ t.
    let l : s ≤ k = nltb→le k s t in
    bit-over x s k l
    ∙ bit_past n x (k - s) h
    (either (ltb k (s + n)) (λ u. absurd (out l (ltb→lt k (s + n) u))) (λ u. omega (arith, nltb→le k (s + n) u))))

pub column_past : (p w : ℕ) → w < 2 ^ 64 → 70 ≤ p → word_at (λ n. bit n p) w ≡ 0
column_past p w h l =
    column_high p w (omega arith)
    ∙ word_at_ext (λ n. bit w (p - 6)) (λ n. false) 0 (λ n. bit_past 64 w (p - 6) h (omega arith))
    ∙ word_at_none 0

-- ---- the bits of two numbers, and the lowest bits alone

both : (x y : ℕ) → x < 2 → y < 2 → eqb (min x y) 1 ≡ (eqb x 1 && eqb y 1)
both zero y h k = let e : min 0 y ≡ 0 = omega arith in ap (λ (z : ℕ). eqb z 1) e
both (suc zero) zero h k = refl
both (suc zero) (suc zero) h k = refl
both (suc zero) (suc (suc y)) h k = absurd (omega arith)
both (suc (suc x)) y h k = absurd (omega arith)

pub bit_and_lem : (x y k : ℕ) → bit (bit_and x y) k ≡ (bit x k && bit y k)
bit_and_lem x y k =
    let e : bit_and x y / 2 ^ k % 2 ≡ min (x / 2 ^ k % 2) (y / 2 ^ k % 2) =
    rw (and_shr x y k) (omega (arith, and_step (x / 2 ^ k) (y / 2 ^ k))) in
    ap (λ (z : ℕ). eqb z 1) e ∙ both (x / 2 ^ k % 2) (y / 2 ^ k % 2) (omega arith) (omega arith)

pub low_bits : (w n k : ℕ) → bit (w % 2 ^ n) k ≡ (bit w k && ltb k n)
low_bits w n k =
    either (ltb k n)
    (λ t.
    let l = ltb→lt k n t in
    bit_mod w n k l ∙ sym (and_in (bit w k) (ltb k n) (lt-ltb k n l)))
    (λ t.
    let l : n ≤ k = nltb→le k n t in
    bit_past n (w % 2 ^ n) k (mod-lt w (pow_pos n)) l ∙ sym (and_out (bit w k) (ltb k n) (le-ltb k n l)))

either_bit : (x y : ℕ) → x < 2 → y < 2 → eqb (max x y) 1 ≡ (eqb x 1 || eqb y 1)
either_bit zero y h k = let e : max 0 y ≡ y = omega arith in ap (λ (z : ℕ). eqb z 1) e
either_bit (suc zero) y h k = let e : max 1 y ≡ 1 = omega arith in ap (λ (z : ℕ). eqb z 1) e
either_bit (suc (suc x)) y h k = absurd (omega arith)

pub bit_or_lem : (x y k : ℕ) → bit (bit_or x y) k ≡ (bit x k || bit y k)
bit_or_lem x y k =
    let e : bit_or x y / 2 ^ k % 2 ≡ max (x / 2 ^ k % 2) (y / 2 ^ k % 2) =
    rw (or_shr x y k) (omega (arith, or_step (x / 2 ^ k) (y / 2 ^ k))) in
    ap (λ (z : ℕ). eqb z 1) e ∙ either_bit (x / 2 ^ k % 2) (y / 2 ^ k % 2) (omega arith) (omega arith)

-- the bits of the complement of a number of n bits
pub bit_not : (n x k : ℕ) → x < 2 ^ n → k < n → bit (2 ^ n - 1 - x) k ≡ not (bit x k)
bit_not n x k h l =
    ap (λ (y : ℕ). bit (2 ^ n - 1 - y) k) (sym (word_bits n x h))
    ∙ ap (λ (y : ℕ). bit y k) (word-not n (bit x))
    ∙ bit_word n (λ k. not (bit x k)) k l

pub bit_and_lt : (n x y : ℕ) → x < 2 ^ n → bit_and x y < 2 ^ n
bit_and_lt n x y h = lt_of_le_of_lt (and_le_l x y) h

-- the bits of a number that another has not
pub bit_and_not : (n w x k : ℕ) → x < 2 ^ n → k < n → bit (bit_and w (2 ^ n - 1 - x)) k ≡ (bit w k && not (bit x k))
bit_and_not n w x k h l = bit_and_lem w (2 ^ n - 1 - x) k ∙ ap (λ (b : Bool). bit w k && b) (bit_not n x k h l)

-- a set with nothing from n on has the same word in more bits
pub word_past : (n m : ℕ) (D : ℕ → Bool) → n ≤ m → ((k : ℕ) → n ≤ k → k < m → D k ≡ false) → word m D ≡ word n D
unfolding word
word_past n zero D h e = let i : n ≡ 0 = omega arith in rw i refl
word_past n (suc m) D h e = go (ℕ_discrete n (suc m)) (word_past n m D)
  where
    go : Dec (n ≡ suc m) → (n ≤ m → ((k : ℕ) → n ≤ k → k < m → D k ≡ false) → word m D ≡ word n D) → word (suc m) D ≡ word n D
    go (yes q) r = rw q refl
    go (no q) r =
        let out : cond (D m) (2 ^ m) 0 ≡ 0 = ap (λ (b : Bool). cond b (2 ^ m) 0) (e m (omega (arith, q)) (omega arith)) in
        omega (arith, out, r (omega (arith, q)) (λ k i j. e k i (omega arith)))
