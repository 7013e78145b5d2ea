-- Elimination that computes: each set is written to words before the next step.
use Rattle.std.specs.Prelude.{Bool, true, false, ◌&&◌, List, [], ◌∷◌, ℕ, zero, suc, eqb}
use Rattle.bitset.specs.Bits.{Set, look, words}
use Rattle.elimination.specs.Sets.{below}
use Rattle.elimination.specs.Elimination.{step}

-- two lists of words are equal
abbrev pub same_words : List ℕ → List ℕ → Bool
same_words [] [] = true
same_words [] (v ∷ vs) = false
same_words (w ∷ ws) [] = false
same_words (w ∷ ws) (v ∷ vs) = eqb w v && same_words ws vs

-- Definition 5's steps on sets of k words, until one changes nothing, or f of them
abbrev pub settling_words : ℕ → ℕ → (Set → ℕ → Bool) → ℕ → List ℕ → List ℕ
settling_words k N defective zero ws = ws
settling_words k N defective (suc f) ws =
    let vs = words k (step N defective (look ws)) in
    elim (same_words vs ws) [ true ↦ ws | false ↦ settling_words k N defective f vs ]

-- the words of what settling leaves of D
abbrev pub settled_words : ℕ → ℕ → (Set → ℕ → Bool) → Set → List ℕ
settled_words k N defective D = settling_words k N defective N (words k (below N D))
