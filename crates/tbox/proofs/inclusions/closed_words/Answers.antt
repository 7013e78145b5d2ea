-- The records one by one.
use Rattle.std.proofs.Common.{arith}
use Rattle.syntax.specs.Concepts.{inclusions_of}
use Rattle.tbox.proofs.InclusionTruth.{closed_none, closed_next, closed_all}
use Rattle.tbox.proofs.inclusions.closed_words.Goals as goal

pub loop-i-init : goal.loop-i-init
unfolding inclusions_of
loop-i-init c = closed_none

pub loop-i-preserved : goal.loop-i-preserved
loop-i-preserved c = closed_next _ _ _ _ c.loop-i.invariant c.meet_inclusion.ensures

pub returns : goal.returns
returns c = closed_all _ _ (omega arith) _ c.loop-i.invariant
