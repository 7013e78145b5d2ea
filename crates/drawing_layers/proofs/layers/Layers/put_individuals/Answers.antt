-- That of one member more.
use Rattle.drawing_layers.proofs.PutInTurn.{turn_none, turn_fits, turn_put}
use Rattle.drawing_layers.proofs.layers.Layers.put_individuals.Goals as goal

pub loop-i-init : goal.loop-i-init
loop-i-init c = turn_none _ _ c.requires

pub put_individual-at-requires : goal.put_individual-at-requires
put_individual-at-requires c = rw c.names.ensures (turn_fits _ _ c.loop-i.invariant _ c.requires c.loop-i-test.true)

pub loop-i-preserved : goal.loop-i-preserved
loop-i-preserved c = turn_put _ _ c.loop-i.invariant (rw c.names.ensures at c.put_individual-at.ensures)
