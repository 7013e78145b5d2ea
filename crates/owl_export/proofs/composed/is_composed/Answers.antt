use mathlib.Core.Path.{◌∙◌}
use Rattle.owl_export.proofs.Beyond.{composed_past, composed_role}
use Rattle.owl_export.proofs.composed.is_composed.Goals as goal

pub returns-in_default : goal.returns-in_default
returns-in_default c = composed_past _ _ _ c.in_default.ensures

pub returns : goal.returns
returns c = c.makes_role.ensures ∙ composed_role _ _ _ _ c.in-Some.ensures
