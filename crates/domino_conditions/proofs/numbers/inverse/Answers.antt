use Rattle.domino_conditions.proofs.Shifts.{inverse-is}
use Rattle.domino_conditions.proofs.numbers.inverse.Goals as goal

pub returns : goal.returns
returns c = inverse-is _ _ c.requires.0 c.requires.1
