-- The invariant: the parts before the i-th are counted.
use Rattle.std.proofs.Common.{take}
use Rattle.tbox.specs.CountedParts.{CountsParts}
use Rattle.tbox.proofs.count_parts.Given as goal

abbrev pub invariant-loop-origin : goal.invariant-loop-origin
invariant-loop-origin l = CountsParts (take l.origin-index l.parts) l.roles l.counts
