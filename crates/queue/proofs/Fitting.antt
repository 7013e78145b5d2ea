-- What a step looks for, by the tests that the code makes.
use Prim.Native.Nat.{ℕ, ◌≤◌, ◌<◌}
use mathlib.Core.Path.{◌≡◌, refl, ap}
use Rattle.std.specs.Prelude.{Option, Some, None, slice_get}
use Rattle.std.specs.Borrow.{Bor}
use Rattle.std.specs.Option.{option_copied, option_eq}
use mathlib.Core.Bool.{Bool, true, false, and-true, and-false, ◌&&◌, cond}
use mathlib.Core.List.{List, [], ◌∷◌}
use mathlib.Core.Logic.{◌⊎◌, inl, inr}
use native.Mathlib.Omega.{arith}
use lib.Dec.{eqb, ltb}
use lib.ListN.{length}
use borrow.Author.Tests.{lt-ltb, le-ltb}
use Rattle.queue.specs.Queue.{Sums, kind_of, slot_first, end_first}
use Rattle.queue.specs.Lines.{most}
use Rattle.queue.specs.Steps.{takes, wanted}

module _ (t : Sums) (input : List ℕ) where
  pub takes_late : most ≤ t.sheets → takes t input ≡ false
  unfolding takes
  takes_late h = rw (le-ltb t.sheets most h)

  pub takes-short : length input ≤ 767 → takes t input ≡ false
  unfolding takes slot_first
  takes-short h =
      rw (le-ltb 767 (length input) h, and-false (eqb (kind_of input) 0x30), and-false (ltb t.sheets most))

  pub takes_whole : t.sheets < most → 767 < length input → takes t input ≡ eqb (kind_of input) 0x30
  unfolding takes slot_first
  takes_whole h g = rw (lt-ltb t.sheets most h, lt-ltb 767 (length input) g, and-true (eqb (kind_of input) 0x30))

  -- where a slot more may come, but none stands whole in front; or none may come
  pub takes_nothing : (t.sheets < most × length input < 768) ⊎ (most ≤ t.sheets) → takes t input ≡ false
  takes_nothing (inl h) = takes-short (omega (arith, h.1))
  takes_nothing (inr h) = takes_late h

-- the first byte, if there is one, tells whether the queue ends
pub ends_front : (first : Option (Bor ℕ)) (input : List ℕ) (place : _) → option_copied first ≡ slice_get input 0
    → option_eq (λ x y. eqb x.now y.now) first (Some record { ref_ptr = place; now = 0x31 }) ≡ end_first input
unfolding end_first
ends_front None [] place e = refl
ends_front None (b ∷ rest) place e = cc
ends_front (Some x) [] place e = cc
ends_front (Some x) (b ∷ rest) place e = let i : x.now ≡ b = cc in ap (λ n. eqb n 0x31) i

-- a step reads a byte, or 768
pub wanted-some : (sheets kind n : ℕ) → n ≡ wanted sheets kind → 1 ≤ n
unfolding wanted
wanted-some sheets kind n e = rw e (go (eqb kind 0x30 && ltb sheets most))
  where
    go : (b : Bool) → 1 ≤ cond b 768 1
    go true = omega arith
    go false = omega arith

pub wanted-most : (sheets kind n : ℕ) → n ≡ wanted sheets kind → n ≤ 768
unfolding wanted
wanted-most sheets kind n e = rw e (go (eqb kind 0x30 && ltb sheets most))
  where
    go : (b : Bool) → cond b 768 1 ≤ 768
    go true = omega arith
    go false = omega arith
