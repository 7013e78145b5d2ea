-- The invariant: the words before w are met, the others stay.
use Rattle.std.proofs.Common.{[], ◌∷◌}
use Rattle.tbox.specs.ClosedRoleSets.{inclusion_made}
use Rattle.tbox.proofs.InclusionTruth.{MetTo}
use Rattle.tbox.proofs.inclusions.meet_inclusion.Given as goal

abbrev pub invariant-loop-w : goal.invariant-loop-w
invariant-loop-w l = MetTo (inclusion_made l.left l.right ∷ []) l.fn.sets l.w l.sets
