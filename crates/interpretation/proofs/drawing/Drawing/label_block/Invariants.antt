-- The labels of the individuals before the block, if they were there, and of the first i of the block.
use Rattle.std.proofs.Common.{◌+◌}
use Rattle.interpretation.specs.Drawings.{Labelled}
use Rattle.interpretation.proofs.drawing.Drawing.label_block.Given as goal

abbrev pub invariant-loop-i : goal.invariant-loop-i
invariant-loop-i l = Labelled l.self l.initial.labels l.start → Labelled l.self l.labels (l.start + l.i)
