use Rattle.domino_labels.specs.Thinnings.{ThinnedFrom}
use Rattle.domino_labels.proofs.live.Thinning.thin.Given as goal

abbrev pub invariant-loop-a : goal.invariant-loop-a
invariant-loop-a l = ThinnedFrom 0 l.a l.initial.self l.self l.moved
