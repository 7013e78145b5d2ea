-- Slots so far, then the length, then the kind.
use mathlib.Core.Path.{sym, ap}
use Rattle.std.proofs.Common.{arith}
use Rattle.queue.specs.Queue.{Sums}
use Rattle.queue.proofs.Fitting.{takes_whole, takes_nothing}
use Rattle.queue.proofs.steps.takes.Goals as goal

pub returns-then-input-ge-WHOLE : goal.returns-then-input-ge-WHOLE
returns-then-input-ge-WHOLE c = let come = c.if-input-ge-WHOLE.true in rw (← c.t.view_is) (sym (takes_whole _ _ come.0 come.1))

pub returns-else-input-ge-WHOLE : goal.returns-else-input-ge-WHOLE
returns-else-input-ge-WHOLE c =
    let few = ap (λ (s : Sums). s.sheets) c.t.view_is in
    grind (arith, takes_nothing c.args.t c.args.input.now (rw few at c.if-input-ge-WHOLE.either))
