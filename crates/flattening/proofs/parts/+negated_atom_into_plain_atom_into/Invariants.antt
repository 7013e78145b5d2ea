-- The measure is the number that the record is below.
use Rattle.flattening.proofs.parts.+negated_atom_into_plain_atom_into.Given as goal

abbrev pub decreases-negated_atom_into : goal.decreases-negated_atom_into
decreases-negated_atom_into l = l.below

abbrev pub decreases-plain_atom_into : goal.decreases-plain_atom_into
decreases-plain_atom_into l = l.below
