-- Sets of numbers as binary digits: of one number, and of words of 64.
use Rattle.std.specs.Prelude.{ℕ, zero, suc, ◌+◌, ◌*◌, ◌/◌, ◌%◌, ◌^◌, Bool, true, cond, not, ◌&&◌, ◌||◌, List, [], ◌∷◌, get_or, set, eqb, ltb}
use Rattle.std.specs.Int.Count.{ones}

-- a set of numbers, as the test of its members
abbrev pub Set : Type 0
Set = ℕ → Bool

-- bit k of x, the lowest first
abbrev pub bit : ℕ → ℕ → Bool
bit x k = eqb (x / 2 ^ k % 2) 1

-- the number whose n low bits say which numbers are in a set
unfoldable pub word : ℕ → Set → ℕ
word zero D = 0
word (suc n) D = cond (D n) (2 ^ n) 0 + word n D

-- word w of a set of numbers, 64 to a word: bit k says whether 64 w + k is in it
unfoldable pub word_at : Set → ℕ → ℕ
word_at D w = word 64 (λ k. D (64 * w + k))

-- the members of a list of words: number n is bit n mod 64 of word n / 64
abbrev pub look : List ℕ → Set
look ws n = bit (get_or ws (n / 64) 0) (n % 64)

-- k words of a set, from word w on; from the first
unfoldable pub words_from : ℕ → ℕ → Set → List ℕ
words_from zero w D = []
words_from (suc k) w D = word_at D w ∷ words_from k (suc w) D

abbrev pub words : ℕ → Set → List ℕ
words k D = words_from k 0 D

-- each is a word
unfoldable pub are_words : List ℕ → Bool
are_words [] = true
are_words (w ∷ ws) = ltb w (2 ^ 64) && are_words ws

-- the set without one number
abbrev pub without : Set → ℕ → Set
without D n p = D p && not (eqb p n)

-- the set with one number more
abbrev pub with : Set → ℕ → Set
with D n p = D p || eqb p n

-- the words with number n taken out: one word changes
unfoldable pub cleared : List ℕ → ℕ → List ℕ
cleared ws n = set ws (n / 64) (word 64 (without (bit (get_or ws (n / 64) 0)) (n % 64)))

-- the words with number n put in
unfoldable pub inserted : List ℕ → ℕ → List ℕ
inserted ws n = set ws (n / 64) (word 64 (with (bit (get_or ws (n / 64) 0)) (n % 64)))

-- how many numbers below n are in the set
unfoldable pub size : ℕ → Set → ℕ
size zero D = 0
size (suc n) D = cond (D n) 1 0 + size n D

-- the ones in a list of words
unfoldable pub ones_of : List ℕ → ℕ
ones_of [] = 0
ones_of (w ∷ ws) = ones w + ones_of ws

-- the words that hold N numbers. 01: "Words needed: 2^(2c+2L) / 64, but at least 1"
abbrev pub words_for_lem : ℕ → ℕ
words_for_lem N = (N + 63) / 64
