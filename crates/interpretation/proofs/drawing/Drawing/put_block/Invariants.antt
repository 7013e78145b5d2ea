-- The dominoes of the block's individuals before the i-th are in, if those of the individuals before the block were.
use Rattle.std.proofs.Common.{ℕ, ◌+◌, List}
use Rattle.drawing_rows.specs.Rows.{Joins}
use Rattle.interpretation.specs.Drawings.{rows_set}
use Rattle.interpretation.proofs.drawing.Drawing.put_block.Given as goal

abbrev pub invariant-loop-i : goal.invariant-loop-i
invariant-loop-i l =
    (ws : List ℕ) → Joins (rows_set l.self l.start) ws l.initial.set → Joins (rows_set l.self (l.start + l.i)) ws l.set
