-- The pieces one after another.
use Rattle.drawings.specs.Laid.{in_turn}
use Rattle.output.proofs.Putting.{puts_then}
use Rattle.drawing_layers.proofs.Pieces.{file_is}
use Rattle.drawing_layers.proofs.layers.Layers.put_file.Goals as goal

pub returns : goal.returns
unfolding in_turn
returns c =
    rw file_is
    (puts_then (puts_then (puts_then c.put_individuals-at.ensures c.put_individuals-at-2.ensures) c.put_individuals-at-3.ensures)
    (puts_then (puts_then c.put_layer-at.ensures c.put_layer-at-2.ensures) c.put_layer.ensures))
