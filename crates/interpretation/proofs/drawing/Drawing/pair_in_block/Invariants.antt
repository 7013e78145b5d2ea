-- Nor does one of the block's individuals before the i-th begin one.
use Rattle.std.proofs.Common.{◌≡◌, ◌+◌}
use Rattle.drawings.specs.Checking.{pair_below, unbroken}
use Rattle.interpretation.specs.Drawings.{view_of, drawn}
use Rattle.interpretation.proofs.drawing.Drawing.pair_in_block.Given as goal

abbrev pub invariant-loop-i : goal.invariant-loop-i
invariant-loop-i l =
    pair_below (view_of l.self) (drawn l.self) l.start ≡ unbroken → pair_below (view_of l.self) (drawn l.self) (l.start + l.i) ≡ unbroken
