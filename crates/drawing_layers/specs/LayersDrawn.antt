-- What the drawing of a domino set comes to (02, N11): a refusal, or the bytes of a file.
use Rattle.std.specs.Prelude.{ℕ, cond, eqb, ltb, length}
use Rattle.bitset.specs.Bits.{Set}
use Rattle.semantics.specs.Dominoes.{total}
use Rattle.semantics.specs.Layers.{rising}
use Rattle.output.specs.Output.{Output, refuse, write}
use Rattle.drawings.specs.Layered.{layered_file}

-- of a set of dominoes of c parts and L roles, of which `plain` says which parts are names or fresh names: "26, no survivors; 27, m above
-- 341", and place 0; else the file of its members "in rising order"
unfoldable pub set_output : ℕ → ℕ → Set → Set → Output
set_output c L plain S =
    let members = rising S (total c L) in
    cond (eqb (length members) 0) (refuse 26 0)
    (cond (ltb 341 (length members)) (refuse 27 0)
    (write (layered_file c L members plain)))
