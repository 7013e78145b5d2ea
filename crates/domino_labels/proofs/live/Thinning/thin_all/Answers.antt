use Rattle.domino_labels.proofs.ThinnedLaws.{some_none, some_more, some_last}
use Rattle.domino_labels.proofs.live.Thinning.thin_all.Goals as goal

pub loop-init : goal.loop-init
loop-init c = some_none _

pub loop-preserved : goal.loop-preserved
loop-preserved c = some_more _ _ _ c.loop.invariant c.thin.ensures

pub returns : goal.returns
returns c = some_last _ _ _ c.loop-test.false c.loop.invariant c.thin.ensures
