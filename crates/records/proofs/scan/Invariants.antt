-- The invariant: scanning on from here gives the whole result. The measure is what is left of the sheet.
use Rattle.std.proofs.Common.{◌-◌, length}
use Rattle.records.proofs.Scanning.{Running}
use Rattle.records.proofs.scan.Given as goal

abbrev pub invariant-loop-p : goal.invariant-loop-p
invariant-loop-p l = Running l.sheet l.table l.p

abbrev pub decreases-loop-p : goal.decreases-loop-p
decreases-loop-p l = length l.sheet - l.p.at
