-- Those to the first layer, and then those to the next.
use Rattle.drawings.specs.Laid.{in_turn}
use Rattle.output.proofs.Putting.{puts_then}
use Rattle.drawing_layers.proofs.layers.Layers.put_row.Goals as goal

pub returns : goal.returns
unfolding in_turn
returns c = puts_then (puts_then c.put_to-at.ensures c.put_to-at-2.ensures) c.put_to.ensures
