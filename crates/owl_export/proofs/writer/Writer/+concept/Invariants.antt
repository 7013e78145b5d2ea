-- The measure is the number that a record is below; a form has it of its operands, which are read below their own record.
use Rattle.std.specs.Prelude.{◌+◌, ◌*◌, max}
use Rattle.owl_export.proofs.writer.Writer.+concept.Given as goal

abbrev pub decreases-concept : goal.decreases-concept
decreases-concept l = 2 * l.tree.below

abbrev pub decreases-pair : goal.decreases-pair
decreases-pair l = 2 * max l.left.below l.right.below + 1

abbrev pub decreases-restriction : goal.decreases-restriction
decreases-restriction l = 2 * l.filler.below + 1
