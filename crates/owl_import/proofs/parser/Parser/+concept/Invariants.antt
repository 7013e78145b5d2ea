use Rattle.std.proofs.Common.{◌+◌, ◌*◌}
use Rattle.owl_import.proofs.parser.Parser.+concept.Given as goal

-- a form's operands begin once there is room for one record less
abbrev pub decreases-concept : goal.decreases-concept
decreases-concept l = 2 * l.self.now.room + 1

abbrev pub decreases-pair : goal.decreases-pair
decreases-pair l = 2 * l.self.now.room

abbrev pub decreases-restriction : goal.decreases-restriction
decreases-restriction l = 2 * l.self.now.room
