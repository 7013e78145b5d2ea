-- Those from the individuals of the first members are put.
use Rattle.output.specs.Output.{Puts}
use Rattle.drawings.specs.Laid.{in_turn}
use Rattle.drawing_layers.specs.Pieces.{number_of, row_bytes}
use Rattle.drawing_layers.proofs.layers.Layers.put_layer.Given as goal

abbrev pub invariant-loop-member : goal.invariant-loop-member
invariant-loop-member l = Puts (in_turn l.member (λ i. row_bytes l.self (number_of l.self l.layer i))) l.fn.at l.fn.out l.out l.at
