-- Bytes put into a lent buffer, and what a call that writes bytes answers and leaves (02, N7: "Every output, here and later, keeps the
-- bytes past what is written, and the length written is answered").
use Rattle.std.specs.Prelude.{ℕ, ◌+◌, ◌≤◌, ◌≡◌, cond, List, [], ◌∷◌, ◌++◌, ltb, length, take, drop, Result}
use Rattle.refusals.specs.declared.Refusal.{Refusal}
use Rattle.refusals.specs.Numbers.{numbers_of}

-- bytes put into a buffer from a place on, the others kept; the answer is the place after them
pub record Puts (bytes : List ℕ) (at : ℕ) (before after : List ℕ) (r : ℕ) : Type 0 where
  pub answer : r ≡ at + length bytes
  pub fits : r ≤ length before
  pub buffer : after ≡ take at before ++ bytes ++ drop r before

-- what a call is to write: a refusal's number and place, or bytes
pub data Output : Type 0 where
  refuse : ℕ → ℕ → Output
  write : List ℕ → Output

-- "then 21, output too short, place 0"; "the length written is answered": the refusal's number (0 for none), its place, then the length
unfoldable pub output_says : Output → List ℕ → List ℕ
output_says (refuse n p) out = n ∷ p ∷ []
output_says (write b) out = cond (ltb (length out) (length b)) (21 ∷ 0 ∷ []) (0 ∷ 0 ∷ length b ∷ [])

-- "keeps the bytes past what is written"; a refusal leaves "the output untouched"
unfoldable pub output_leaves : Output → List ℕ → List ℕ
output_leaves (refuse n p) out = out
output_leaves (write b) out = cond (ltb (length out) (length b)) out (b ++ drop (length b) out)

-- the number and values for each case of an answer
abbrev pub write_numbers : Result ℕ Refusal → List ℕ
write_numbers = numbers_of (λ n. n ∷ [])

-- the contract of a call: its answer and every byte of the output, for what it is to write and the output before
pub record Writes (o : Output) (before after : List ℕ) (r : Result ℕ Refusal) : Type 0 where
  pub answer : write_numbers r ≡ output_says o before
  pub output : after ≡ output_leaves o before
