-- The invariant: the parts before i.
use Rattle.tbox.specs.PlainData.{PartsAre}
use Rattle.tbox.proofs.loading.parts_of.Given as goal

abbrev pub invariant-loop-i : goal.invariant-loop-i
invariant-loop-i l = PartsAre l.table l.origins l.i l.parts.items
