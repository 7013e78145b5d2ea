-- The measure is the number that the first record is below.
use Rattle.flattening.proofs.sharing.+same_role.Given as goal

abbrev pub decreases-same_role : goal.decreases-same_role
decreases-same_role l = l.left_below
