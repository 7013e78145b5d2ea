-- Those to the individuals of the first j members.
use Rattle.std.proofs.Common.{◌≡◌}
use Rattle.drawing_layers.specs.Pieces.{summed, reach_with}
use Rattle.drawing_layers.proofs.layers.Layers.reach.Given as goal

abbrev pub invariant-loop-j : goal.invariant-loop-j
invariant-loop-j l = l.count ≡ summed l.j (reach_with l.self.size.parts l.self.size.roles l.self.members.now l.i)
