-- `drawing_rows::fill_rows` meets its contract. The invariant of the loop: the words lack only the connections of the records that are
-- left. The measure is what is left of the file.
use Prim.Native.Nat.{◌-◌}
use lib.ListN.{length}
use Rattle.drawing_rows.proofs.Filling.{FilledTo}
use Rattle.drawing_rows.proofs.fill_rows.Given as goal

abbrev pub invariant-loop-at : goal.invariant-loop-at
invariant-loop-at l = FilledTo l.start l.file l.at l.fn.words l.words

abbrev pub decreases-loop-at : goal.decreases-loop-at
decreases-loop-at l = length l.file - l.at
