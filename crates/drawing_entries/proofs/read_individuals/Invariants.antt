-- The invariant: reading on from here gives the whole result. The measure is what is left of the file.
use Rattle.std.proofs.Common.{◌-◌, length}
use Rattle.drawing_entries.proofs.Records.{Running}
use Rattle.drawing_entries.proofs.read_individuals.Given as goal

abbrev pub invariant-loop-at : goal.invariant-loop-at
invariant-loop-at l = Running l.plain l.roles l.file l.names l.at l.count

abbrev pub decreases-loop-at : goal.decreases-loop-at
decreases-loop-at l = length l.file - l.at
