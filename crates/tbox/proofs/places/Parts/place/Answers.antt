-- The number of a part that was found is a byte.
use Rattle.std.proofs.Common.{arith, rules}
use Rattle.tbox.proofs.PlacesFound.{found_low}
use Rattle.tbox.proofs.places.Parts.place.Goals as goal

pub overflow_cast-result : goal.overflow_cast-result
overflow_cast-result c = let l = found_low _ _ _ _ _ _ c.in_ok-j.ensures (search rules) in omega (arith, l)
