-- The tables by role set, and the individuals before y.
use Rattle.domino_conditions.specs.Tables.{view}
use Rattle.interpretation.specs.Successors.{TablesTo}
use Rattle.interpretation.proofs.tables.Tables.of.Given as goal

abbrev pub invariant-loop-y : goal.invariant-loop-y
invariant-loop-y l = TablesTo (view l.base) l.names l.tables l.y
