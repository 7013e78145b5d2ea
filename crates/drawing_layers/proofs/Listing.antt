-- Laws of the members of a set in rising order, as far as they are listed: one more number, a word without members, and too many.
use Prim.Native.Nat.{ℕ, ◌+◌, ◌*◌, ◌/◌, ◌%◌, ◌≤◌, ◌<◌, min}
use native.Mathlib.Omega.{arith}
use mathlib.Core.Path.{◌≡◌, refl, sym, ap}
use mathlib.Core.Bool.{true, false}
use mathlib.Core.List.{List, [], ◌∷◌, ◌++◌}
use lib.ListN.{length, get_or, take, length-append}
use lib.Seq.{get_or-take}
use Rattle.std.proofs.Common.{add-one}
use Rattle.bitset.specs.Bits.{Set, look}
use Rattle.bitset.proofs.Laws.{bit_past}
use Rattle.semantics.specs.Layers.{rising}
use Rattle.semantics.proofs.Rising.{with_one, with_none, rising_over, rising_le}
use Rattle.drawing_layers.specs.Listing.{TooMany}

module _ (S : Set) where
  pub rising_none : (n : ℕ) → n ≡ 0 → rising S n ≡ []
  unfolding rising
  rising_none n e = rw e refl

  pub rising_with : (n : ℕ) → S n ≡ true → rising S (n + 1) ≡ rising S n ++ (n ∷ [])
  rising_with n e = rw add-one (with_one S n e)

  pub rising_without : (n : ℕ) → S n ≡ false → rising S (n + 1) ≡ rising S n
  rising_without n e = rw add-one (with_none S n e)

  pub too_many_more : (m n : ℕ) → m ≤ n → TooMany S m → TooMany S n
  too_many_more m n h t = omega (arith, rising_le S m n h)

  -- a member past 341 others
  pub too_many : (n m : ℕ) → n < m → S n ≡ true → 341 ≤ length (rising S n) → TooMany S m
  too_many n m h e l =
      omega (arith, rising_le S (n + 1) m (omega arith), ap length (rising_with n e), length-append (rising S n) (n ∷ []))

-- a word without members, of the first k
pub rising_past : (ws : List ℕ) (k w t : ℕ) → w < k → get_or (take k ws) w 0 ≡ 0
    → rising (look ws) (min (64 * w) t) ≡ rising (look ws) (min (64 * (w + 1)) t)
rising_past ws k w t h e =
    sym (rising_over (look ws) _ _ (omega arith)
    (λ n i j.
    let q : n / 64 ≡ w = omega arith in
    rw (q, ← get_or-take k ws w 0 h, e) (bit_past 0 0 (n % 64) (omega arith) (omega arith))))
