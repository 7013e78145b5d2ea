-- The records of a role set's connections: their bytes, and how many they are.
use Rattle.std.specs.Prelude.{ℕ, ◌+◌, ◌*◌, ◌≤◌, cond, List, [], ◌∷◌, length}
use Rattle.bitset.specs.Bits.{bit, size}
use Rattle.drawings.specs.Entries.{connection}
use Rattle.drawings.specs.Laid.{laid, in_turn}

-- bytes that fit into a buffer from a place on
abbrev pub Fits : List ℕ → ℕ → List ℕ → Type 0
Fits bytes at before = at + length bytes ≤ length before

-- the connections of the roles in R from x to y
unfoldable pub role_bytes : ℕ → ℕ → ℕ → ℕ → List ℕ
role_bytes L x y R = laid (in_turn L (λ k. cond (bit R (2 * k)) (connection (record { from = x; to = y; role = k }) ∷ []) []))

-- how many of the L roles are in R
unfoldable pub role_count : ℕ → ℕ → ℕ
role_count L R = size L (λ k. bit R (2 * k))
