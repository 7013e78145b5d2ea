-- No slot adds up to nothing.
use mathlib.Core.Path.{refl}
use Rattle.queue.specs.Queue.{sum, totals_of}
use Rattle.queue.proofs.totals.TotalsDefault.default.Goals as goal

pub returns : goal.returns
unfolding sum totals_of
returns c = refl
