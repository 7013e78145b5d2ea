use Rattle.domino_settling.proofs.Sweeps.{some-none, some_more, some-last}
use Rattle.domino_settling.proofs.settling.Sweep.sweep_all.Goals as goal

pub loop-init : goal.loop-init
loop-init c = some-none _

pub loop-preserved : goal.loop-preserved
loop-preserved c = some_more _ _ _ c.loop.invariant c.sweep.ensures

pub returns : goal.returns
returns c = some-last _ _ _ c.loop-test.false c.loop.invariant c.sweep.ensures
