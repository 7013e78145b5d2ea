-- The lines of the records before i, and then that of i.
use Prim.Native.Nat.{◌+◌}
use Rattle.std.specs.Prelude.{Some}
use Rattle.owl_export.specs.RecordText.{line_at}
use native.Mathlib.Omega.{arith}
use Rattle.owl_export.proofs.Emitted.{emits_nothing, emits_cut, emits_over, emits_then}
use Rattle.owl_export.proofs.Lines.{lines_to, lines_none, lines_next, lines_rest, lines_all}
use Rattle.owl_export.proofs.writer.Writer.axioms.Goals as goal

pub loop-i-init : goal.loop-i-init
loop-i-init c = rw (← lines_none _) (emits_nothing _)

pub returns-in_err-line : goal.returns-in_err-line
returns-in_err-line c =
    rw (c.from_residual.ensures, lines_rest c.args.table.now (c.loop-i.i + 1), ← lines_next c.args.table.now c.loop-i.i)
    (emits_cut _ _ c.args.self.now
    (emits_over (lines_to c.args.table.now c.loop-i.i) (line_at c.args.table.now c.loop-i.i) _ _ c.loop-i.invariant c.in_err-line.ensures))

pub loop-i-preserved : goal.loop-i-preserved
loop-i-preserved c =
    rw (← lines_next c.args.table.now c.loop-i.i)
    (emits_then (lines_to c.args.table.now c.loop-i.i) (line_at c.args.table.now c.loop-i.i) _ _ c.line.new.self c.loop-i.invariant
    (Some c.in_ok-line.field-0) c.in_ok-line.ensures)

pub returns : goal.returns
returns c = rw (← lines_all c.args.table.now c.loop-i.i (omega (arith, c.len-i-end.ensures.value))) c.loop-i.invariant
