-- The successors among the individuals so far; where there are more, these are whole words of eight.
use Rattle.std.proofs.Common.{◌-◌, ◌≡◌, ◌<◌, ◌%◌, ◌≤◌}
use Rattle.interpretation.specs.Successors.{SuccessorsTo}
use Rattle.interpretation.proofs.individual_labels.successors_of.Given as goal

abbrev pub invariant-loop-from : goal.invariant-loop-from
invariant-loop-from l = SuccessorsTo l.tables l.row l.from l.successors × (l.from ≤ l.count) × (l.from < l.count → l.from % 8 ≡ 0)

abbrev pub decreases-loop-from : goal.decreases-loop-from
decreases-loop-from l = l.count - l.from
