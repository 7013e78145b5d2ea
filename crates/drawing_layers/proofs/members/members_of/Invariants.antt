-- The invariant: the members of the words up to this one are on the list.
use Prim.Native.Nat.{◌*◌, min}
use mathlib.Core.Path.{◌≡◌}
use Rattle.bitset.specs.Bits.{look}
use Rattle.semantics.specs.Layers.{rising}
use Rattle.drawing_layers.proofs.members.members_of.Given as goal

abbrev pub invariant-loop-w : goal.invariant-loop-w
invariant-loop-w l = record { listed : l.members.items ≡ rising (look l.set) (min (64 * l.w) l.total) }
