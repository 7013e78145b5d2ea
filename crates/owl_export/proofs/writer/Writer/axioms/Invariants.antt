-- The lines of the records before i are written.
use Rattle.owl_export.specs.Emitting.{Emitted}
use Rattle.owl_export.proofs.Lines.{lines_to}
use Rattle.owl_export.proofs.writer.Writer.axioms.Given as goal

abbrev pub invariant-loop-i : goal.invariant-loop-i
invariant-loop-i l = Emitted (lines_to l.table l.i) l.initial.self l.self
