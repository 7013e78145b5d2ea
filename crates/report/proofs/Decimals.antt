-- The decimal digits of a number are the kit's digits of it, of which there are fewest.
use Prim.Native.Nat.{ℕ, zero, suc, ◌+◌, ◌-◌, ◌/◌, ◌%◌, ◌^◌, ◌≤◌, ◌<◌}
use mathlib.Core.Path.{◌≡◌, refl, ap, ap₂, ◌∙◌}
use mathlib.Core.Bool.{Bool, true, false, cond}
use mathlib.Core.List.{List, [], ◌∷◌, ◌++◌}
use native.Mathlib.Nat.{pow-suc, pow-le-pow_right, mod-eq_of_lt}
use native.Mathlib.Omega.{arith}
use lib.Dec.{ltb}
use borrow.Author.Tests.{lt-ltb, ltb-true, ltb-false}
use Rattle.io.specs.Digits.{hex_digit_ascii, last_digits, IsDigitCount}
use Rattle.report.specs.Decimals.{decimal_in, decimal}

glyph_is : (d : ℕ) → d < 10 → hex_digit_ascii d ≡ 48 + d
glyph_is d h = ap (λ (b : Bool). cond b (48 + d) (87 + d)) (lt-ltb d 10 h)

ten_some : (k : ℕ) → 1 ≤ 10 ^ k
ten_some zero = omega arith
ten_some (suc k) = omega (arith, pow-suc 10 k, ten_some k)

-- ten to the number of digits less one
one_less : (k : ℕ) → 10 ^ (suc k - 1) ≡ 10 ^ k
one_less k = let e : suc k - 1 ≡ k = omega arith in ap (λ (i : ℕ). 10 ^ i) e

-- a number of one digit
single : (n k : ℕ) → n < 10 → IsDigitCount 10 1 n k → last_digits 10 k n ≡ (48 + n) ∷ []
single n zero h f = absurd (omega (arith, f.0))
single n (suc zero) h f = ap (λ (d : ℕ). d ∷ []) (ap hex_digit_ascii (mod-eq_of_lt h) ∙ glyph_is n h)
single n (suc (suc j)) h f = absurd (omega (arith, f.2 (omega arith), one_less (suc j), pow-suc 10 j, ten_some j))

-- a number of more: the digits of its tenth, then one
tenth : (n j : ℕ) → IsDigitCount 10 1 n (suc (suc j)) → IsDigitCount 10 1 (n / 10) (suc j)
tenth n j f = (
  omega arith,
  omega (arith, f.1, pow-suc 10 (suc j)),
  λ g. omega (arith, f.2 (omega arith), one_less (suc j), one_less j, pow-suc 10 j),
)

last : (n : ℕ) → hex_digit_ascii (n % 10) ≡ 48 + n % 10
last n = glyph_is (n % 10) (omega arith)

several : (n k : ℕ) (front : List ℕ) → 10 ≤ n → IsDigitCount 10 1 n k → ((j : ℕ) → IsDigitCount 10 1 (n / 10) j → last_digits 10 j (n / 10) ≡ front)
    → last_digits 10 k n ≡ front ++ ((48 + n % 10) ∷ [])
several n zero front g f ih = absurd (omega (arith, f.0))
several n (suc zero) front g f ih = absurd (omega (arith, f.1))
several n (suc (suc j)) front g f ih = ap₂ (λ (l : List ℕ) (d : ℕ). l ++ (d ∷ [])) (ih (suc j) (tenth n j f)) (last n)

by-steps : (steps n k : ℕ) → n ≤ steps → IsDigitCount 10 1 n k → last_digits 10 k n ≡ decimal_in steps n
unfolding decimal_in
by-steps zero n k h f = single n k (omega arith) f
by-steps (suc steps) n k h f = go (λ h j. by-steps steps (n / 10) j h) (ltb n 10) refl
  where
    go : (n / 10 ≤ steps → (j : ℕ) → IsDigitCount 10 1 (n / 10) j → last_digits 10 j (n / 10) ≡ decimal_in steps (n / 10)) → (b : Bool) → ltb n 10 ≡ b
        → last_digits 10 k n ≡ cond b ((48 + n) ∷ []) (decimal_in steps (n / 10) ++ ((48 + n % 10) ∷ []))
    go ih true e = single n k (ltb-true n 10 e) f
    go ih false e = several n k (decimal_in steps (n / 10)) (ltb-false n 10 e) f (ih (omega (arith, ltb-false n 10 e)))

pub digits_decimal : (n k : ℕ) → IsDigitCount 10 1 n k → last_digits 10 k n ≡ decimal n
unfolding decimal
digits_decimal n k f = by-steps n n k (omega arith) f

-- a number of 64 bits has at most 20 digits
pub few_digits : (n k : ℕ) → n < 0x1_0000_0000_0000_0000 → IsDigitCount 10 1 n k → k ≤ 20
few_digits n k h f = go (ltb 20 k) refl
  where
    go : (b : Bool) → ltb 20 k ≡ b → k ≤ 20
    go false e = ltb-false 20 k e
    go true e =
        let g : 20 ≤ k - 1 = omega (arith, ltb-true 20 k e) in
        absurd (omega (arith, f.2 (omega (arith, ltb-true 20 k e)), pow-le-pow_right {n = 10} (omega arith) {i = 20} {j = k - 1} g))
