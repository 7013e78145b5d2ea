-- `put_part` meets its contract.
use Rattle.domino_initial.specs.RightMasks.{allows}
use Rattle.domino_labels.proofs.PutRuns.{part_put}
use Rattle.domino_labels.proofs.writing.put_part.Goals as goal

pub returns : goal.returns
returns c = part_put (allows c.args.mask) _ _ _ _ _ _ c.requires.0 c.requires.1 c.requires.2 c.first_word.ensures c.from.ensures
