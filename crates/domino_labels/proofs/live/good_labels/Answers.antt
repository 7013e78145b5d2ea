use mathlib.Core.Path.{refl}
use Rattle.domino_conditions.specs.Tables.{view}
use Rattle.domino_labels.proofs.ThinnedLaws.{good_trimmed}
use Rattle.domino_labels.proofs.live.good_labels.Goals as goal

pub returns : goal.returns
returns c = good_trimmed (view c.args.base.now) _ _ (λ A. refl) c.trimmed.ensures
