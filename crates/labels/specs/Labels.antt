-- A set of labels as a set of dominoes: those with both labels in it that fit both ways. Which labels have their witnesses there.
use Rattle.std.specs.Prelude.{ℕ, ◌^◌, ◌<◌, ◌≡◌, Bool, true, ◌&&◌}
use Rattle.bitset.specs.Bits.{Set}
use Rattle.semantics.specs.Dominoes.{Dominoes, inverse, unnumbered}
use Rattle.semantics.specs.Conditions.{View, ex, uni, rbox, delex, deluni, canon_dominoes}

module _ (v : View) where
  -- conditions 2, 3 and 7 of the domino (A, R, B): those of 01's opening set but for the left label's own
  unfoldable pub fits : ℕ → ℕ → ℕ → Bool
  fits A R B = ex v A R B && (uni v A R B && rbox v R)

  -- of it and of its converse, 01's mirror
  unfoldable pub fits_both : ℕ → ℕ → ℕ → Bool
  fits_both A R B = fits A R B && fits B (inverse v.roles R) A

  -- the dominoes that a set of labels spans
  unfoldable pub spanned : Set → Dominoes
  spanned Λ A R B = Λ A && (Λ B && fits_both A R B)

  -- the same by their numbers
  unfoldable pub spanned_set : Set → Set
  spanned_set Λ = unnumbered v.parts v.roles (spanned Λ)

  -- conditions 4 and 5 of the label A among them: each part that wants a witness has one
  unfoldable pub supported : Set → ℕ → Bool
  supported Λ A = delex v (spanned Λ) A && deluni v (spanned Λ) A

  -- the set spans every canonical domino
  unfoldable pub Covers : Set → Type 0
  Covers Λ = (A R B : ℕ) → canon_dominoes v A R B ≡ true → spanned Λ A R B ≡ true

  -- every label in it is good: it meets condition 1
  abbrev pub AllGood : Set → Type 0
  AllGood Λ = (A : ℕ) → A < 2 ^ v.parts → Λ A ≡ true → v.good A ≡ true

  -- every label in it has its witnesses
  abbrev pub AllSupported : Set → Type 0
  AllSupported Λ = (A : ℕ) → A < 2 ^ v.parts → Λ A ≡ true → supported Λ A ≡ true
