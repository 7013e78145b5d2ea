-- No record before i calls for refusal 20, and i starts at the place.
use Rattle.owl_export.proofs.Beyond.{Passed}
use Rattle.owl_export.proofs.composed.first_beyond_text.Given as goal

abbrev pub invariant-loop-i : goal.invariant-loop-i
invariant-loop-i l = Passed l.table l.at l.i
