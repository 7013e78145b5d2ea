-- (Not left) or right.
use Rattle.std.proofs.Common.{◌∙◌}
use Rattle.tbox.proofs.InclusionTruth.{inclusion_holds}
use Rattle.tbox.proofs.inclusions.inclusion_word.Goals as goal

pub returns : goal.returns
returns c = c.join.ensures _ _ _ (c.complement.ensures _ _ c.role_word-x.ensures) c.role_word-y.ensures ∙ inclusion_holds _ _ _
