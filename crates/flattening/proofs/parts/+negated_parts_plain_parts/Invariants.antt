-- The measure is the number that the record is below.
use Rattle.flattening.proofs.parts.+negated_parts_plain_parts.Given as goal

abbrev pub decreases-negated_parts : goal.decreases-negated_parts
decreases-negated_parts g l = l.below

abbrev pub decreases-plain_parts : goal.decreases-plain_parts
decreases-plain_parts g l = l.below
