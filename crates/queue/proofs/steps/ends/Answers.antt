-- The kind at the front, if there is any byte.
use mathlib.Core.Path.{◌∙◌}
use Rattle.queue.proofs.Fitting.{ends_front}
use Rattle.queue.proofs.steps.ends.Goals as goal

pub returns : goal.returns
returns c = c.eq.ensures ∙ ends_front c.first.result c.args.input.now _ c.first.ensures.value
