-- The successors among the individuals before y, if those given were of the individuals before the first.
use Rattle.interpretation.specs.Successors.{SuccessorsTo}
use Rattle.interpretation.proofs.individual_labels.Successors.and_of.Given as goal

abbrev pub invariant-loop-y : goal.invariant-loop-y
invariant-loop-y l = SuccessorsTo l.tables l.row l.fn.from l.initial.successors → SuccessorsTo l.tables l.row l.y l.successors
