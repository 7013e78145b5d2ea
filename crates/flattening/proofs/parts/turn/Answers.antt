-- A fresh part's filler is read plainly or under a not; any other part puts nothing on the queue.
use Rattle.std.proofs.Common.{true, false, refl}
use Rattle.flattening.proofs.QueueParts.{turn_nothing, turn_adds}
use Rattle.flattening.proofs.parts.turn.Goals as goal

pub returns-in_default : goal.returns-in_default
returns-in_default g c = turn_nothing _ _ _ c.in_default.not-Fresh _ refl

pub returns-then-source : goal.returns-then-source
returns-then-source g c = turn_adds _ _ _ _ _ c.in-Fresh.is true c.if-source.true _ _ (rw c.len.ensures.value at c.negated_parts.ensures)

pub returns : goal.returns
returns g c = turn_adds _ _ _ _ _ c.in-Fresh.is false c.if-source.false _ _ (rw c.len-2.ensures.value at c.plain_parts.ensures)
