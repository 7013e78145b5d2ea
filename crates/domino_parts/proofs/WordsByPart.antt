-- Words with a bit a part, made part by part.
use mathlib.Core.Path.{◌≡◌, ap, ◌∙◌}
use mathlib.Core.Bool.{Bool, true, false, cond}
use Prim.Native.Nat.{ℕ, suc, ◌+◌, ◌^◌, ◌≤◌, ◌<◌}
use native.Mathlib.Omega.{arith}
use native.Mathlib.Nat.{lt_of_lt_of_le}
use lib.Pow.{pow_mono}
use Rattle.bitset.specs.Bits.{word}
use Rattle.bitset.proofs.Laws.{word_lt}

module _ (k p : ℕ) (D : ℕ → Bool) (e : p ≡ word k D) where
  next : (b : Bool) → D k ≡ b → cond b (2 ^ k) 0 + p ≡ word (k + 1) D
  unfolding word
  next b f =
      let n : k + 1 ≡ suc k = omega arith in
      let g : cond (D k) (2 ^ k) 0 ≡ cond b (2 ^ k) 0 = ap (λ (x : Bool). cond x (2 ^ k) 0) f in
      let w : word (k + 1) D ≡ cond (D k) (2 ^ k) 0 + word k D = ap (λ (m : ℕ). word m D) n in
      omega (arith, e, g, w)

  -- part k is on, or off
  pub word_on : (q : ℕ) → q ≡ 2 ^ k → D k ≡ true → p + q ≡ word (k + 1) D
  word_on q i f = omega (arith, i, next true f)

  pub word_off : D k ≡ false → p ≡ word (k + 1) D
  word_off f = omega (arith, next false f)

  pub word_small : p < 2 ^ k
  word_small = omega (arith, e, word_lt k D)

  pub word_fits : k ≤ 12 → p < 65536
  word_fits h = lt_of_lt_of_le word_small (pow_mono {i = k} {j = 16} (omega arith))

  pub word_end : (n : ℕ) → k ≡ n → p ≡ word n D
  word_end n q = e ∙ ap (λ (m : ℕ). word m D) q
