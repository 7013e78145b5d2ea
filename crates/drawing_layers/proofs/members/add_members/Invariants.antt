-- The invariant: the members below n are on the list.
use mathlib.Core.Path.{◌≡◌}
use Rattle.bitset.specs.Bits.{look}
use Rattle.semantics.specs.Layers.{rising}
use Rattle.drawing_layers.proofs.members.add_members.Given as goal

abbrev pub invariant-loop-n : goal.invariant-loop-n
invariant-loop-n l = record { listed : l.members.items ≡ rising (look l.set) l.n }
