-- The dominoes of x with each individual before y are in.
use Rattle.drawing_rows.specs.Rows.{Joins}
use Rattle.interpretation.proofs.Putting.{row_to}
use Rattle.interpretation.proofs.drawing.Drawing.put_row.Given as goal

abbrev pub invariant-loop-to : goal.invariant-loop-to
invariant-loop-to l = Joins (row_to l.self l.x l.to) l.initial.set l.set
