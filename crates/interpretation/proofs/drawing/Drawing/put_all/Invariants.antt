-- The dominoes of the individuals before `start` are in, and none of these begins a pair that breaks before the pair that is found.
use Rattle.std.proofs.Common.{◌≡◌, ◌≤◌, ◌-◌}
use Rattle.drawing_rows.specs.Rows.{Joins}
use Rattle.interpretation.specs.Answers.{finding_is}
use Rattle.interpretation.specs.Drawings.{view_of, drawn, count_of, rows_set}
use Rattle.drawings.specs.Checking.{pair_below}
use Rattle.interpretation.proofs.drawing.Drawing.put_all.Given as goal

abbrev pub invariant-loop-start : goal.invariant-loop-start
invariant-loop-start l =
    (l.start ≤ count_of l.self) × Joins (rows_set l.self l.start) l.initial.set l.set
    × (finding_is l.found ≡ pair_below (view_of l.self) (drawn l.self) l.start)

abbrev pub decreases-loop-start : goal.decreases-loop-start
decreases-loop-start l = count_of l.self - l.start
