-- No individual before x breaks an axiom.
use Rattle.std.proofs.Common.{◌≡◌}
use Rattle.drawings.specs.Checking.{least, breaks_at}
use Rattle.interpretation.specs.Drawings.{view_of, drawn}
use Rattle.interpretation.proofs.drawing.Drawing.first_bad.Given as goal

abbrev pub invariant-loop-x : goal.invariant-loop-x
invariant-loop-x l = least l.x (breaks_at (view_of l.self) (drawn l.self)) ≡ l.x
