-- The role sets before r are closed.
use Rattle.std.proofs.Common.{◌≡◌}
use mathlib.Core.Bool.{true}
use Rattle.elimination.specs.Sets.{every}
use Rattle.domino_conditions.specs.Tables.{view}
use Rattle.interpretation.proofs.dominoes.all_closed.Given as goal

abbrev pub invariant-loop-r : goal.invariant-loop-r
invariant-loop-r l = every l.r (view l.base).closed ≡ true
