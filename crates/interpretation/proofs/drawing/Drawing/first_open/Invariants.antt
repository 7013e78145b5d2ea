-- With none of the individuals before y.
use Rattle.std.proofs.Common.{◌≡◌}
use Rattle.drawings.specs.Checking.{least, breaks_between}
use Rattle.interpretation.specs.Drawings.{view_of, drawn}
use Rattle.interpretation.proofs.drawing.Drawing.first_open.Given as goal

abbrev pub invariant-loop-y : goal.invariant-loop-y
invariant-loop-y l = least l.y (breaks_between (view_of l.self) (drawn l.self) l.x) ≡ l.y
