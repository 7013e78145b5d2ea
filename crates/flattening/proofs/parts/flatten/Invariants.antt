-- The invariant: the parts before j have had their turn in the queue. There are as many as there is room for, at most.
use Rattle.std.proofs.Common.{◌-◌}
use Rattle.flattening.proofs.QueueParts.{Turning}
use Rattle.flattening.proofs.parts.flatten.Given as goal

abbrev pub invariant-loop-j : goal.invariant-loop-j
invariant-loop-j g l = Turning l.table l.names l.parts.items l.j

abbrev pub decreases-loop-j : goal.decreases-loop-j
decreases-loop-j g l = g.row.N - l.j
