-- The labels of the individuals before `start`.
use Rattle.std.proofs.Common.{◌-◌, ◌≤◌}
use Rattle.interpretation.specs.Drawings.{count_of, Labelled}
use Rattle.interpretation.proofs.drawing.Drawing.label_all.Given as goal

abbrev pub invariant-loop-start : goal.invariant-loop-start
invariant-loop-start l = Labelled l.self l.labels l.start × (l.start ≤ count_of l.self)

abbrev pub decreases-loop-start : goal.decreases-loop-start
decreases-loop-start l = count_of l.self - l.start
