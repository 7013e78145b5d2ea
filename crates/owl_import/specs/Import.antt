-- What import is to write of a text (02, N7).
use Rattle.std.specs.Prelude.{ℕ, ◌-◌, cond, eqb, List, [], length}
use Rattle.output.specs.Output.{Output, refuse, write}
use Rattle.syntax.specs.Concepts.{Axiom}
use Rattle.syntax.specs.Laid.{laid}
use Rattle.owl_import.specs.Grammar.{Parsed, refused, done, parse}
use Rattle.owl_import.specs.RecordsOf.{put_axioms}

-- "3, over 255 records .. place 0"; any other at the byte where so many are left
abbrev pub place_of : List ℕ → ℕ → ℕ → ℕ
place_of s n l = cond (eqb n 3) 0 (length s - l)

-- the sheet of axioms
unfoldable pub sheet_of : List Axiom → List ℕ
sheet_of l = laid (put_axioms [] l)

unfoldable pub importing : List ℕ → Parsed (List Axiom) → Output
importing s (refused n l) = refuse n (place_of s n l)
importing s (done l room rest) = write (sheet_of l)

unfoldable pub imported : List ℕ → Output
imported s = importing s (parse s)
