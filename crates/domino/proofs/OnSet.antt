-- A call on a set, whichever it is: the sheet is refused, the set is too short, or the words are enough.
use Prim.Native.Nat.{ℕ, ◌≤◌, ◌<◌}
use native.Mathlib.Omega.{arith}
use mathlib.Core.Path.{◌≡◌, refl, ap₂}
use mathlib.Core.Logic.{◌⊎◌, inl, inr}
use mathlib.Core.Bool.{Bool, true, false, cond}
use mathlib.Core.List.{List, [], ◌∷◌}
use lib.Dec.{ltb}
use lib.ListN.{length}
use borrow.Author.Tests.{lt-ltb, le-ltb, ltb-true, ltb-false}
use Rattle.syntax.specs.Reading.{Kb, Reading, refusal, kb}
use Rattle.semantics.specs.Views.{kb_view}
use Rattle.semantics.specs.Conditions.{held}
use Rattle.domino.specs.Answers.{on_set, says_on_set, leaves_on_set}

module _ {A : Type 0} (refuse : ℕ → ℕ → A) (own : Kb → A) (words : ℕ) where
  pub on_refused : (n p : ℕ) → on_set refuse own (refusal n p) words ≡ refuse n p
  unfolding on_set
  on_refused n p = refl

  pub on_short : (k : Kb) → words < held (kb_view k) → on_set refuse own (kb k) words ≡ refuse 10 0
  unfolding on_set
  on_short k h = rw (lt-ltb words (held (kb_view k)) h)

  pub on_enough : (k : Kb) → held (kb_view k) ≤ words → on_set refuse own (kb k) words ≡ own k
  unfolding on_set
  on_enough k h = rw (le-ltb words (held (kb_view k)) h)

  -- what is refused for one call on a set is refused for all
  pub on_refusal : (s : Reading) (n p : ℕ) → on_set refusal kb s words ≡ refusal n p → on_set refuse own s words ≡ refuse n p
  unfolding on_set
  on_refusal (refusal m q) n p e =
      let i : m ≡ n = cc in
      let j : q ≡ p = cc in
      ap₂ refuse i j
  on_refusal (kb k) n p e = go (ltb words (held (kb_view k))) e
    where
      go : (b : Bool) → cond b (refusal 10 0) (kb k) ≡ refusal n p → cond b (refuse 10 0) (own k) ≡ refuse n p
      go true h =
          let i : 10 ≡ n = cc in
          let j : 0 ≡ p = cc in
          ap₂ refuse i j
      go false h = let z : ◌≡◌ {A = ℕ} 0 1 = cc in absurd (omega arith)

-- ---- every call refuses, or every call does its own part

pub on_why : (s : Reading) (words n p : ℕ) → on_set refusal kb s words ≡ refusal n p
    → (s ≡ refusal n p) ⊎ ((k : Kb) × (s ≡ kb k) × (words < held (kb_view k)) × (n ≡ 10) × (p ≡ 0))
unfolding on_set
on_why (refusal m q) words n p e = inl e
on_why (kb k) words n p e = go (ltb words (held (kb_view k))) refl e
  where
    go : (b : Bool) → ltb words (held (kb_view k)) ≡ b → cond b (refusal 10 0) (kb k) ≡ refusal n p
        → (kb k ≡ refusal n p) ⊎ ((j : Kb) × (kb k ≡ kb j) × (words < held (kb_view j)) × (n ≡ 10) × (p ≡ 0))
    go true q h = inr (k, refl, ltb-true words (held (kb_view k)) q, cc, cc)
    go false q h = inl h

pub on_cases : (s : Reading) (words : ℕ)
    → ((n : ℕ) × (p : ℕ) × (on_set refusal kb s words ≡ refusal n p)) ⊎ ((k : Kb) × (s ≡ kb k) × (held (kb_view k) ≤ words))
on_cases (refusal n p) words = inl (n, p, on_refused refusal kb words n p)
on_cases (kb k) words = go (ltb words (held (kb_view k))) refl
  where
    go : (b : Bool) → ltb words (held (kb_view k)) ≡ b
        → ((n : ℕ) × (p : ℕ) × (on_set refusal kb (kb k) words ≡ refusal n p)) ⊎ ((j : Kb) × (kb k ≡ kb j) × (held (kb_view j) ≤ words))
    go true q = inl (10, 0, on_short refusal kb words k (ltb-true words (held (kb_view k)) q))
    go false q = inr (k, refl, ltb-false words (held (kb_view k)) q)

-- ---- what is said, and what is left

module _ (own : Kb → List ℕ → List ℕ) (ws : List ℕ) where
  pub says-refused : (n p : ℕ) → says_on_set own (refusal n p) ws ≡ n ∷ p ∷ []
  unfolding says_on_set
  says-refused = on_refused (λ n p. n ∷ p ∷ []) (λ k. own k ws) (length ws)

  pub leaves-refused : (n p : ℕ) → leaves_on_set own (refusal n p) ws ≡ ws
  unfolding leaves_on_set
  leaves-refused = on_refused (λ n p. ws) (λ k. own k ws) (length ws)

  module _ (k : Kb) where
    pub says-short : length ws < held (kb_view k) → says_on_set own (kb k) ws ≡ 10 ∷ 0 ∷ []
    unfolding says_on_set
    says-short = on_short (λ n p. n ∷ p ∷ []) (λ k. own k ws) (length ws) k

    pub leaves-short : length ws < held (kb_view k) → leaves_on_set own (kb k) ws ≡ ws
    unfolding leaves_on_set
    leaves-short = on_short (λ n p. ws) (λ k. own k ws) (length ws) k

    pub says-enough : held (kb_view k) ≤ length ws → says_on_set own (kb k) ws ≡ own k ws
    unfolding says_on_set
    says-enough = on_enough (λ n p. n ∷ p ∷ []) (λ k. own k ws) (length ws) k

    pub leaves-enough : held (kb_view k) ≤ length ws → leaves_on_set own (kb k) ws ≡ own k ws
    unfolding leaves_on_set
    leaves-enough = on_enough (λ n p. ws) (λ k. own k ws) (length ws) k

  -- of a sheet that is refused for a set of so many words
  module _ (s : Reading) (n p : ℕ) (e : on_set refusal kb s (length ws) ≡ refusal n p) where
    pub says-refusal : says_on_set own s ws ≡ n ∷ p ∷ []
    unfolding says_on_set
    says-refusal = on_refusal (λ n p. n ∷ p ∷ []) (λ k. own k ws) (length ws) s n p e

    pub leaves-refusal : leaves_on_set own s ws ≡ ws
    unfolding leaves_on_set
    leaves-refusal = on_refusal (λ n p. ws) (λ k. own k ws) (length ws) s n p e
