-- The numbers of dominoes: each domino has one below the total, each number below the total is that of one domino; and the
-- inverse of a role set.
use mathlib.Core.Path.{◌≡◌, sym, ap, subst, ◌∙◌}
use Prim.Native.Nat.{ℕ, zero, suc, ◌+◌, ◌*◌, ◌/◌, ◌%◌, ◌^◌, ◌<◌}
use native.Mathlib.Nat.{mod-lt, add_assoc, mul_assoc, add-mul}
use native.Mathlib.Omega.{arith}
use lib.Arith.{digits_lt}
use lib.Dec.{eqb}
use lib.Pow.{pow_pos, pow-add, high, low, split, shr_lt, shr-shr, mod-pow-add}
use Rattle.bitset.specs.Bits.{bit}
use Rattle.semantics.specs.Dominoes.{total, number, left_of, roles_of, right_of_lem, inverse, Domino}

row_is : (c L : ℕ) → 2 ^ (2 * L + c) ≡ 2 ^ (2 * L) * 2 ^ c
row_is c L = pow-add 2 (2 * L) c

total-is : (c L : ℕ) → total c L ≡ 2 ^ c * 2 ^ (2 * L + c)
total-is c L = ap (λ (x : ℕ). 2 ^ x) (omega arith) ∙ pow-add 2 c (2 * L + c)

module _ (c L A R B : ℕ) (d : Domino c L A R B) where
  -- the place of a domino among those with its left label
  pub run_lt : R * 2 ^ c + B < 2 ^ (2 * L + c)
  run_lt = rw (row_is c L) (digits_lt {q = R} {m = 2 ^ (2 * L)} d.roles d.right)

  pub by_left : number c L A R B ≡ A * 2 ^ (2 * L + c) + (R * 2 ^ c + B)
  unfolding number
  by_left = add_assoc _ _ _

  by_right : number c L A R B ≡ (A * 2 ^ (2 * L) + R) * 2 ^ c + B
  by_right =
      by_left ∙ ap (λ (x : ℕ). A * x + (R * 2 ^ c + B)) (row_is c L)
      ∙ rw (add-mul (A * 2 ^ (2 * L)) R (2 ^ c), mul_assoc A (2 ^ (2 * L)) (2 ^ c), add_assoc (A * (2 ^ (2 * L) * 2 ^ c)) (R * 2 ^ c) B)

  pub number_lt : number c L A R B < total c L
  number_lt = rw (by_left, total-is c L) (digits_lt {q = A} {m = 2 ^ c} d.left run_lt)

  pub left-number : left_of c L (number c L A R B) ≡ A
  unfolding left_of
  left-number = rw by_left (high A (2 * L + c) run_lt)

  pub roles-number : roles_of c L (number c L A R B) ≡ R
  unfolding roles_of
  roles-number = rw (by_right, high (A * 2 ^ (2 * L) + R) c d.right) (low A (2 * L) d.roles)

  pub right-number : right_of_lem c (number c L A R B) ≡ B
  unfolding right_of_lem
  right-number = rw by_right (low (A * 2 ^ (2 * L) + R) c d.right)

-- every number below the total is that of a domino
module _ (c L n : ℕ) (l : n < total c L) where
  pub domino_of : Domino c L (left_of c L n) (roles_of c L n) (right_of_lem c n)
  unfolding left_of roles_of right_of_lem
  domino_of = record {
    left = shr_lt c (2 * L + c) (subst (λ (x : ℕ). n < 2 ^ x) (omega arith) l);
    roles = mod-lt (n / 2 ^ c) (pow_pos (2 * L));
    right = mod-lt n (pow_pos c);
  }

  pub number_of : number c L (left_of c L n) (roles_of c L n) (right_of_lem c n) ≡ n
  unfolding number left_of roles_of right_of_lem
  number_of =
      add_assoc _ _ _
      ∙ ap (λ (x : ℕ). n / 2 ^ (2 * L + c) * 2 ^ (2 * L + c) + x) (sym (mod-pow-add n (2 * L) c))
      ∙ split n (2 * L + c)

-- ---- the inverse of a role set

pow_two : (L : ℕ) → 2 ^ (2 * suc L) ≡ 4 * 2 ^ (2 * L)
pow_two L = ap (λ (x : ℕ). 2 ^ x) (omega arith) ∙ pow-add 2 2 (2 * L)

pub inverse_lt : (L R : ℕ) → inverse L R < 2 ^ (2 * L)
unfolding inverse
inverse_lt zero R = omega arith
inverse_lt (suc L) R = omega (arith, inverse_lt L (R / 4), pow_two L)

-- the two low bits and the rest
rest_is : (u v q : ℕ) → u < 2 → v < 2 → (u + 2 * v + 4 * q) / 4 ≡ q
rest_is u v q h k = omega arith

pub inverse_twice : (L R : ℕ) → R < 2 ^ (2 * L) → inverse L (inverse L R) ≡ R
unfolding inverse
inverse_twice zero R l = omega arith
inverse_twice (suc L) R l =
    let i = inverse_twice L (R / 4) (omega (arith, pow_two L)) in
    rw (rest_is (R % 4 / 2) (R % 2) (inverse L (R / 4)) (omega arith) (omega arith), i)
    (turn (R % 4 / 2) (R % 2) (inverse L (R / 4)) (R / 4) (omega arith) (omega arith) ∙ omega arith)
  where
    turn : (u v q s : ℕ) → u < 2 → v < 2 → (u + 2 * v + 4 * q) % 4 / 2 + 2 * ((u + 2 * v + 4 * q) % 2) + 4 * s ≡ v + 2 * u + 4 * s
    turn u v q s h k =
        let x : (u + 2 * v + 4 * q) % 4 ≡ u + 2 * v = omega arith in
        let y : (u + 2 * v + 4 * q) % 2 ≡ u = omega arith in
        let z : (u + 2 * v) / 2 ≡ v = omega arith in
        rw (x, y, z)

-- two bits further is the same bit of a fourth
bit_up : (x k : ℕ) → bit x (2 + k) ≡ bit (x / 4) k
bit_up x k = ap (λ (q : ℕ). eqb (q % 2) 1) (sym (shr-shr x 2 k))

rest_bit : (L R k : ℕ) → bit (inverse (suc L) R) (2 + k) ≡ bit (inverse L (R / 4)) k
unfolding inverse
rest_bit L R k =
    bit_up (inverse (suc L) R) k
    ∙ ap (λ (x : ℕ). bit x k) (rest_is (R % 4 / 2) (R % 2) (inverse L (R / 4)) (omega arith) (omega arith))

-- it exchanges the bits 2k and 2k + 1
pub inverse_even : (L R k : ℕ) → k < L → bit (inverse L R) (2 * k) ≡ bit R (2 * k + 1)
unfolding inverse
inverse_even zero R k h = absurd (omega arith)
inverse_even (suc L) R zero h = ap (λ (x : ℕ). eqb x 1) (low-is (R % 4 / 2) (R % 2) (inverse L (R / 4)) (omega arith) ∙ back)
  where
    low-is : (u v q : ℕ) → u < 2 → (u + 2 * v + 4 * q) / 1 % 2 ≡ u
    low-is u v q h = omega arith

    back : R % 4 / 2 ≡ R / 2 % 2
    back = omega arith
inverse_even (suc L) R (suc k) h =
    ap (bit (inverse (suc L) R)) (omega arith) ∙ rest_bit L R (2 * k) ∙ inverse_even L (R / 4) k (omega arith)
    ∙ sym (bit_up R (2 * k + 1)) ∙ ap (bit R) (omega arith)

pub inverse-odd : (L R k : ℕ) → k < L → bit (inverse L R) (2 * k + 1) ≡ bit R (2 * k)
unfolding inverse
inverse-odd zero R k h = absurd (omega arith)
inverse-odd (suc L) R zero h = ap (λ (x : ℕ). eqb x 1) (high_is (R % 4 / 2) (R % 2) (inverse L (R / 4)) (omega arith) (omega arith) ∙ back)
  where
    high_is : (u v q : ℕ) → u < 2 → v < 2 → (u + 2 * v + 4 * q) / 2 % 2 ≡ v
    high_is u v q h k = omega arith

    back : R % 2 ≡ R / 1 % 2
    back = omega arith
inverse-odd (suc L) R (suc k) h =
    ap (bit (inverse (suc L) R)) (omega arith) ∙ rest_bit L R (2 * k + 1) ∙ inverse-odd L (R / 4) k (omega arith)
    ∙ sym (bit_up R (2 * k)) ∙ ap (bit R) (omega arith)
