-- Elimination: the defective members of a set of numbers below N are removed until none is left. What makes a number
-- defective is a parameter: nothing here knows what a knowledge base is.
use Rattle.std.specs.Prelude.{Bool, true, false, not, ◌&&◌, ◌||◌, List, [], ◌∷◌, ℕ, zero, suc, ◌<◌, T, ltb}
use Rattle.bitset.specs.Bits.{Set, without}
use Rattle.elimination.specs.Sets.{every, Sub}

-- the set without the numbers of a list, removed one after another
abbrev pub removed : List ℕ → Set → Set
removed [] D = D
removed (n ∷ ns) D = removed ns (without D n)

-- `defective D p`: p is defective in the set D. Document 01 calls this loose: "A pairing is loose in a set if it fails one of .."
module _ (N : ℕ) (defective : Set → ℕ → Bool) where
  -- no member is defective in the set. Document 01 calls this at rest: "A set is at rest if no pairing in it is loose in it."
  unfoldable pub is_stable : Set → Bool
  is_stable D = every N (λ p. not (D p && defective D p))

  -- 002, Definition 5: "Given a domino set 𝔻ᵢ, the set 𝔻ᵢ₊₁ consists of all dominoes in 𝔻ᵢ satisfying the following conditions"
  abbrev pub step : Set → Set
  step D p = D p && not (defective D p)

  -- Definition 5's 𝔻ᵢ, if D is 𝔻₀
  abbrev pub steps : ℕ → Set → Set
  steps zero D = D
  steps (suc i) D = steps i (step D)

  -- Definition 5: "The construction of domino sets 𝔻ᵢ₊₁ is continued until 𝔻ᵢ₊₁ = 𝔻ᵢ", for k steps at the most
  abbrev pub settling : ℕ → Set → Set
  settling zero D = D
  settling (suc k) D = elim (is_stable D) [ true ↦ D | false ↦ settling k (step D) ]

  -- N steps are enough: each but the last removes a member. Document 01, settle: "It leaves the largest subset of the set
  -- that has nothing loose." (`Largest`)
  unfoldable pub settled : Set → Set
  settled D = settling N D

  -- a smaller set has more that is defective: all that is asked of `defective`
  abbrev pub Monotone : Type 0
  Monotone = (D E : Set) → Sub N D E → (p : ℕ) → p < N → T (defective E p) → T (defective D p)

  -- E is the largest stable subset of D
  pub record Largest (D E : Set) : Type 0 where
    pub inside : Sub N E D
    pub stable : T (is_stable E)
    pub most : (F : Set) → Sub N F D → T (is_stable F) → Sub N F E

  -- what a loop that removes defective members in place keeps: W lies between what settling leaves of D, and D
  pub record Within (D W : Set) : Type 0 where
    pub holds : Sub N (settled D) W
    pub inside : Sub N W D

  -- each number of the list is below N, and defective when its turn comes
  abbrev pub removals : List ℕ → Set → Bool
  removals [] D = true
  removals (n ∷ ns) D = (ltb n N && defective D n) && removals ns (without D n)

-- a number is defective if it is not in the initial set, whatever the set, or if it lacks something in the set. Document 01:
-- "The opening set is all pairings that meet 1 to 3.", and 02's 7; `lacks` is the failure of one of the conditions 4 to 6
abbrev pub defective_by : Set → (Set → ℕ → Bool) → Set → ℕ → Bool
defective_by initial lacks D p = not (initial p) || lacks D p

-- the canonical set, 002's 𝔻_KB. Document 01 calls this what judging leaves: "the set of pairings in which none is loose and
-- of which every other such set is a part"
abbrev pub canonical : ℕ → Set → (Set → ℕ → Bool) → Set
canonical N initial lacks = settled N (defective_by initial lacks) initial
