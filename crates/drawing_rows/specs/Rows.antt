-- The role sets between individuals as bytes of words: what is put in for a connection, and what rows hold.
use Rattle.std.specs.Prelude.{ℕ, ◌+◌, ◌*◌, ◌/◌, ◌%◌, ◌≤◌, ◌<◌, ◌≡◌, ◌&&◌, ◌||◌, List, [], ◌∷◌, eqb, length, T}
use Rattle.bitset.specs.Bits.{Set, look, word, are_words}
use Rattle.semantics.specs.Projection.{role_bit}
use Rattle.syntax.specs.Bounds.{All}
use Rattle.drawings.specs.Entries.{Connection}
use Rattle.drawings.specs.Checking.{connects}

-- a connection of at most 1,024 individuals and 4 roles
pub record Numbered (c : Connection) : Type 0 where
  pub from : c.from < 1024
  pub to : c.to < 1024
  pub role : c.role < 4

abbrev pub AllNumbered : List Connection → Type 0
AllNumbered = All Numbered

-- words of whole rows, for at most 128 of the individuals from `start` on
pub record Rows (start : ℕ) (ws : List ℕ) : Type 0 where
  pub few : start < 65536
  pub small : length ws ≤ 16384
  pub whole : length ws % 128 ≡ 0

-- byte p of words
unfoldable pub byte_at : List ℕ → ℕ → ℕ
byte_at ws p = word 8 (λ b. look ws (8 * p + b))

-- the numbers in words are those that were there and those of a set, as far as the words go
pub record Joins (D : Set) (before after : List ℕ) : Type 0 where
  pub long : length after ≡ length before
  pub are : T (are_words before) → T (are_words after)
  pub look : (n : ℕ) → n < 64 * length before → look after n ≡ (look before n || D n)

-- bit b of the pair (x, y), in rows from the individual `start` on
unfoldable pub bit_of_pair : ℕ → ℕ → ℕ → ℕ → Set
bit_of_pair start x y b n = eqb (start + n / 8192) x && (eqb (n % 8192 / 8) y && eqb (n % 8) b)

abbrev pub InSet : ℕ → ℕ → ℕ → ℕ → List ℕ → List ℕ → Type 0
InSet start x y b = Joins (bit_of_pair start x y b)

-- the bits of all pairs, by connections
unfoldable pub bits_of : ℕ → List Connection → Set
bits_of start cs n = role_bit (connects cs) (start + n / 8192) (n % 8192 / 8) (n % 8)

abbrev pub InRows : ℕ → Connection → List ℕ → List ℕ → Type 0
InRows start c = Joins (bits_of start (c ∷ []))

-- byte 1024 i + y is the role set of all role bits from individual start + i to y
pub record RowsFilled (start : ℕ) (cs : List Connection) (before after : List ℕ) : Type 0 where
  pub long : length after ≡ length before
  pub bytes : (p : ℕ) → p < 8 * length before
      → byte_at after p ≡ word 8 (role_bit (connects cs) (start + p / 1024) (p % 1024))
