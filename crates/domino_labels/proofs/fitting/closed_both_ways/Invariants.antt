-- The role sets passed are those closed both ways.
use Rattle.domino_conditions.specs.Tables.{view}
use Rattle.domino_labels.proofs.BothWays.{BothWaysTo}
use Rattle.domino_labels.proofs.fitting.closed_both_ways.Given as goal

abbrev pub invariant-loop-r : goal.invariant-loop-r
invariant-loop-r l = BothWaysTo (view l.base) l.r l.closed
