use lib.Bits.{and_mask}
use Rattle.semantics.specs.Dominoes.{right_of_lem}
use Rattle.domino_conditions.proofs.numbers.right_of.Goals as goal

pub returns : goal.returns
unfolding right_of_lem
returns c = rw c.labels.ensures (and_mask c.args.n c.args.size.parts)
