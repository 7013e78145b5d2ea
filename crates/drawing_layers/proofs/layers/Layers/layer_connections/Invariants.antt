-- Those of the first i members.
use Rattle.std.proofs.Common.{◌≡◌}
use Rattle.drawing_layers.specs.Pieces.{summed, reach}
use Rattle.drawing_layers.proofs.layers.Layers.layer_connections.Given as goal

abbrev pub invariant-loop-i : goal.invariant-loop-i
invariant-loop-i l = l.count ≡ summed l.i (reach l.self)
