-- Sets of numbers, of which only the members below a bound count.
use Rattle.std.specs.Prelude.{◌≡◌, Bool, true, false, ◌&&◌, ◌||◌, ℕ, zero, suc, ◌<◌, T, ltb}
use Rattle.bitset.specs.Bits.{Set}

-- the test passes at each number below n. The `let` waits: the search stops where the answer is known
unfoldable pub every : ℕ → (ℕ → Bool) → Bool
every zero f = true
every (suc n) f = let r = every n f in f n && r

-- it passes at one of them
unfoldable pub some : ℕ → (ℕ → Bool) → Bool
some zero f = false
some (suc n) f = let r = some n f in f n || r

-- the members below N alone
abbrev pub below : ℕ → Set → Set
below N D p = ltb p N && D p

-- each member of D below N is one of E
abbrev pub Sub : ℕ → Set → Set → Type 0
Sub N D E = (p : ℕ) → p < N → T (D p) → T (E p)

-- D and E have the same members below N
abbrev pub Same : ℕ → Set → Set → Type 0
Same N D E = (p : ℕ) → p < N → D p ≡ E p
