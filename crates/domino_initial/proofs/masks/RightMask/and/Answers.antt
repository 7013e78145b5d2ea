-- `and` meets its contract.
use Rattle.domino_initial.proofs.MaskBits.{allows_both}
use Rattle.domino_initial.proofs.masks.RightMask.and.Goals as goal

pub returns : goal.returns
returns c = allows_both c.args.self c.args.other
