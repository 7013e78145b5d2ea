-- A finite interpretation from m dominoes (a i, r i, b i): three layers of m individuals (02, N11).
use Rattle.std.specs.Prelude.{ℕ, zero, suc, ◌+◌, ◌*◌, ◌/◌, ◌%◌, ◌<◌, ◌≡◌, Bool, true, ◌&&◌, cond, List, [], ◌∷◌, ◌++◌, eqb}
use Rattle.bitset.specs.Bits.{Set, bit}
use Rattle.semantics.specs.Interpretations.{Interpretation}
use Rattle.semantics.specs.Dominoes.{Dominoes, inverse}

-- "item g × m + i, for g of 0, 1, 2, has the right-side traits and fresh marks of survivor i"
unfoldable pub label_at : ℕ → (ℕ → ℕ) → ℕ → ℕ
label_at m b x = b (x % m)

-- "Survivor j joins item g × m + i to item ((g + 1) mod 3) × m + j if the right set of i is the left set of j"
unfoldable pub leads : ℕ → (ℕ → ℕ) → (ℕ → ℕ) → ℕ → ℕ → Bool
leads m a b x y = eqb ((x / m + 1) % 3) (y / m) && eqb (b (x % m)) (a (y % m))

-- "with j's links, reversed bits giving connections back": the role set from x to y
unfoldable pub roles_at : ℕ → ℕ → (ℕ → ℕ) → (ℕ → ℕ) → (ℕ → ℕ) → ℕ → ℕ → ℕ
roles_at L m a r b x y = cond (leads m a b x y) (r (y % m)) (cond (leads m a b y x) (inverse L (r (x % m))) 0)

-- n individuals with labels and role sets
abbrev pub labelled : ℕ → (ℕ → ℕ) → (ℕ → ℕ → ℕ) → Interpretation
labelled n lab rs = record { individuals = n; has = λ x t. bit (lab x) t; joined = λ k x y. bit (rs x y) (2 * k) }

abbrev pub layered : ℕ → ℕ → (ℕ → ℕ) → (ℕ → ℕ) → (ℕ → ℕ) → Interpretation
layered L m a r b = labelled (3 * m) (label_at m b) (roles_at L m a r b)

-- the dominoes (a i, r i, b i), i below m, are those of the set D
pub record Enumerates (D : Dominoes) (m : ℕ) (a r b : ℕ → ℕ) : Type 0 where
  pub each : (i : ℕ) → i < m → D (a i) (r i) (b i) ≡ true
  pub all : (A R B : ℕ) → D A R B ≡ true → (i : ℕ) × (i < m) × (a i ≡ A) × (r i ≡ R) × (b i ≡ B)

-- "m survivors in rising order": the members of a set below n
unfoldable pub rising : Set → ℕ → List ℕ
rising S zero = []
rising S (suc n) = rising S n ++ cond (S n) (n ∷ []) []
