-- `defect` meets its contract: the domino is read from its number.
use mathlib.Core.Path.{◌∙◌}
use Rattle.bitset.specs.Bits.{look}
use Rattle.domino_conditions.specs.Tables.{view}
use Rattle.domino_conditions.proofs.Defects.{defect-read, domino_read}
use Rattle.domino_conditions.proofs.conditions.DominoSet.defect.Goals as goal

pub domino_defect-requires : goal.domino_defect-requires
domino_defect-requires c = domino_read _ _ _ _ _ _ c.requires c.left_of-a.ensures c.roles_of-r.ensures c.right_of-b.ensures

pub returns : goal.returns
returns c = c.domino_defect.ensures ∙ defect-read (view c.args.self.now.base.now) (look c.args.self.now.set.now) _ _ _ _ c.left_of-a.ensures c.roles_of-r.ensures c.right_of-b.ensures
