-- The invariant: the records of the first k roles are put.
use Rattle.output.specs.Output.{Puts}
use Rattle.drawings.specs.Laid.{in_turn}
use Rattle.drawing_layers.proofs.RoleRecords.{role_line}
use Rattle.drawing_layers.proofs.entries.put_roles.Given as goal

abbrev pub invariant-loop-k : goal.invariant-loop-k
invariant-loop-k l = Puts (in_turn l.k (role_line l.x l.y l.roles)) l.fn.at l.fn.out l.out l.at
