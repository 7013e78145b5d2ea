-- Texts as bytes.
use Rattle.std.specs.Prelude.{ℕ, List, [], ◌∷◌}
use Prim.Native.Char.{code}
use Prim.Native.String.{String, [] as no_more, ◌∷◌ as ◌and_then◌}

-- a text in ASCII, a byte a character
unfoldable pub text : String → List ℕ
text no_more = []
text (c and_then s) = code c ∷ text s
