-- Those of the first i members are put.
use Rattle.output.specs.Output.{Puts}
use Rattle.drawings.specs.Laid.{in_turn}
use Rattle.drawing_layers.specs.Pieces.{individual_bytes}
use Rattle.drawing_layers.proofs.layers.Layers.put_individuals.Given as goal

abbrev pub invariant-loop-i : goal.invariant-loop-i
invariant-loop-i l = Puts (in_turn l.i (individual_bytes l.self)) l.fn.at l.fn.out l.out l.at
