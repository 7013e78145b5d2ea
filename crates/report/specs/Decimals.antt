-- Numbers in decimal digits, as bytes.
use Rattle.std.specs.Prelude.{ℕ, zero, suc, ◌+◌, ◌/◌, ◌%◌, cond, List, [], ◌∷◌, ◌++◌, ltb}
use Prim.Native.String.{String}
use Rattle.output.specs.Text.{text}

-- n in decimal digits, the first one not 0 save for 0 itself, in steps of a digit, of which n are always enough
unfoldable pub decimal_in : ℕ → ℕ → List ℕ
decimal_in zero n = (48 + n) ∷ []
decimal_in (suc steps) n = cond (ltb n 10) ((48 + n) ∷ []) (decimal_in steps (n / 10) ++ ((48 + n % 10) ∷ []))

unfoldable pub decimal : ℕ → List ℕ
decimal n = decimal_in n n

-- a text, then a number
abbrev pub labelled : String → ℕ → List ℕ
labelled label n = text label ++ decimal n
