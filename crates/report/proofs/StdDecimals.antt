-- The decimal digits of a number are those that std writes of it.
use Rattle.std.proofs.Common.{◌≡◌, ℕ, zero, suc, ◌+◌, ◌/◌, ◌%◌, ◌^◌, ◌<◌, ◌≤◌, List, [], ◌∷◌, ◌++◌, refl, ap, arith, le_refl}
use Rattle.std.specs.Fmt as std
use Rattle.std.proofs.lemmas.Fmt.{decimal_by_steps}
use borrow.Author.Tests.{lt-ltb, le-ltb}
use Rattle.report.specs.Decimals.{decimal_in, decimal}

-- digits in any number of steps that is enough
abbrev In : ℕ → List ℕ → Type 0
In n digits = (steps : ℕ) → n ≤ steps → digits ≡ decimal_in steps n

one : (n : ℕ) → n < 10 → In n ((48 + n) ∷ [])
unfolding decimal_in
one n h zero enough = refl
one n h (suc steps) enough = rw (lt-ltb n 10 h) refl

more : (n : ℕ) (digits : List ℕ) → 10 ≤ n → In (n / 10) digits → In n (digits ++ ((48 + n % 10) ∷ []))
unfolding decimal_in
more n digits h front zero enough = absurd (omega arith)
more n digits h front (suc steps) enough = rw (le-ltb n 10 h) (ap (λ l. l ++ ((48 + n % 10) ∷ [])) (front steps (omega arith)))

pub std_decimal : (n : ℕ) → n < 2 ^ 64 → std.decimal n ≡ decimal n
unfolding decimal
std_decimal n h = decimal_by_steps In one more n h n (le_refl n)
