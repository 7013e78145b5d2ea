-- Those from one individual more.
use Rattle.drawing_layers.proofs.PutInTurn.{turn_none, turn_fits, turn_put}
use Rattle.drawing_layers.proofs.layers.Layers.put_layer.Goals as goal

pub loop-member-init : goal.loop-member-init
loop-member-init c = turn_none _ _ c.requires.1

pub put_row-at-requires : goal.put_row-at-requires
put_row-at-requires c = ((c.requires.0, c.loop-member-test.true), turn_fits _ _ c.loop-member.invariant _ c.requires.1 c.loop-member-test.true)

pub loop-member-preserved : goal.loop-member-preserved
loop-member-preserved c = turn_put _ _ c.loop-member.invariant c.put_row-at.ensures
