use lib.Bits.{and_mask}
use Rattle.semantics.specs.Dominoes.{roles_of}
use Rattle.domino_conditions.proofs.numbers.roles_of.Goals as goal

pub returns : goal.returns
unfolding roles_of
returns c = rw c.role_sets.ensures (and_mask _ _)
