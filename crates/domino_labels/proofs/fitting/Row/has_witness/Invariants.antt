-- No role set before r, and no word before w of the labels in the run r, gives a witness.
use mathlib.Core.Path.{◌≡◌}
use mathlib.Core.Bool.{false}
use Rattle.elimination.specs.Sets.{some}
use Rattle.domino_labels.specs.Live.{any_live_lem}
use Rattle.domino_labels.proofs.Serving.{run_serves}
use Rattle.domino_labels.proofs.fitting.Row.has_witness.Given as goal

abbrev pub invariant-loop-w : goal.invariant-loop-w
invariant-loop-w l = (l.found ≡ false) × (some l.w (any_live_lem l.live l.low l.above) ≡ false)

abbrev pub invariant-search : goal.invariant-search
invariant-search l = (l.found ≡ false) × (some l.r (run_serves l.self l.live l.part l.fn.quantifier l.fn.filler) ≡ false)
