-- The parts of each quantifier; the role sets before r.
use Rattle.domino_conditions.specs.Tables.{view}
use Rattle.domino_parts.specs.PartTables.{PartTablesTo}
use Rattle.domino_parts.proofs.tables.PartTables.of.Given as goal

abbrev pub invariant-loop-r : goal.invariant-loop-r
invariant-loop-r l = PartTablesTo (view l.base) l.tables l.r
