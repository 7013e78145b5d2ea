-- The measure is the number that the record is below.
use Rattle.owl_export.proofs.composed.+has_composed.Given as goal

abbrev pub decreases-has_composed : goal.decreases-has_composed
decreases-has_composed l = l.tree.below
