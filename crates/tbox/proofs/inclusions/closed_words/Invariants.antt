-- The invariant: the role inclusions of the records before i.
use Rattle.std.proofs.Common.{take}
use Rattle.syntax.specs.Concepts.{nodes_of, inclusions_of}
use Rattle.tbox.specs.ClosedRoleSets.{ClosedOf}
use Rattle.tbox.proofs.inclusions.closed_words.Given as goal

abbrev pub invariant-loop-i : goal.invariant-loop-i
invariant-loop-i l = ClosedOf (inclusions_of (take l.i (nodes_of l.table))) l.closed
