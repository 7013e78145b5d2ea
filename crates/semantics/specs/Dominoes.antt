-- The numbers of dominoes (A, R, B), for c parts and L roles. 01 calls a domino a pairing.
use Rattle.std.specs.Prelude.{ℕ, zero, suc, ◌+◌, ◌*◌, ◌/◌, ◌%◌, ◌^◌, ◌<◌, ◌≡◌, Bool, true}
use Rattle.bitset.specs.Bits.{Set}

-- a set of dominoes: is (A, R, B) in it
abbrev pub Dominoes : Type 0
Dominoes = ℕ → ℕ → ℕ → Bool

-- the set has a member
abbrev pub Met : Dominoes → Type 0
Met D = (A : ℕ) × (R : ℕ) × (B : ℕ) × (D A R B ≡ true)

-- how many dominoes there are, "2^(2c+2L)"
abbrev pub total : ℕ → ℕ → ℕ
total c L = 2 ^ (2 * c + 2 * L)

-- "A pairing's number is A × 2^(2L+c) + R × 2^c + B"
unfoldable pub number : ℕ → ℕ → ℕ → ℕ → ℕ → ℕ
number c L A R B = A * 2 ^ (2 * L + c) + R * 2 ^ c + B

-- "a left mark set A, a link set R and a right mark set B", from the number
unfoldable pub left_of : ℕ → ℕ → ℕ → ℕ
left_of c L n = n / 2 ^ (2 * L + c)

unfoldable pub roles_of : ℕ → ℕ → ℕ → ℕ
roles_of c L n = n / 2 ^ c % 2 ^ (2 * L)

unfoldable pub right_of_lem : ℕ → ℕ → ℕ
right_of_lem c n = n % 2 ^ c

-- the inverse of a role set; 01: "The mirror of R exchanges these two for each k", the bits 2k and 2k + 1
unfoldable pub inverse : ℕ → ℕ → ℕ
inverse zero R = 0
inverse (suc L) R = R % 4 / 2 + 2 * (R % 2) + 4 * inverse L (R / 4)

-- a set of numbers as a set of dominoes, and the other way round
unfoldable pub numbered : ℕ → ℕ → Set → Dominoes
numbered c L S A R B = S (number c L A R B)

unfoldable pub unnumbered : ℕ → ℕ → Dominoes → Set
unnumbered c L D n = D (left_of c L n) (roles_of c L n) (right_of_lem c n)

-- A and B are labels, R is a role set
pub record Domino (c L A R B : ℕ) : Type 0 where
  pub left : A < 2 ^ c
  pub roles : R < 2 ^ (2 * L)
  pub right : B < 2 ^ c
