-- The bytes of a list of parts: three a part.
use Prim.Native.Nat.{◌*◌}
use mathlib.Core.Path.{◌≡◌, refl}
use mathlib.Core.List.{List, [], ◌∷◌}
use lib.ListN.{length, length-append}
use native.Mathlib.Omega.{arith}
use Rattle.syntax.specs.Flatten.{Part, name_p, fresh_p, exists_p, forall_p}
use Rattle.syntax.specs.Answers.{part_bytes, bytes_of}

part_three : (p : Part) → length (part_bytes p) ≡ 3
unfolding part_bytes
part_three (name_p t) = refl
part_three (fresh_p g c) = refl
part_three (exists_p g u f) = refl
part_three (forall_p g u f) = refl

pub bytes-long : (ps : List Part) → length (bytes_of ps) ≡ 3 * length ps
unfolding bytes_of
bytes-long [] = refl
bytes-long (p ∷ ps) = omega (arith, length-append (part_bytes p) (bytes_of ps), part_three p, bytes-long ps)
