-- The labels of six bits before s; then those of higher bits alone before s.
use Rattle.std.proofs.Common.{◌^◌}
use Rattle.std.specs.Prelude.{min}
use Rattle.domino_conditions.specs.Tables.{view}
use Rattle.domino_parts.specs.FillerTables.{FillersTo}
use Rattle.domino_parts.proofs.tables.FillerTables.of.Given as goal

abbrev pub invariant-loop-s : goal.invariant-loop-s
invariant-loop-s l = FillersTo (view l.base) l.tables l.s 0

abbrev pub invariant-loop-s-2 : goal.invariant-loop-s-2
invariant-loop-s-2 l = FillersTo (view l.base) l.tables (min (2 ^ l.base.size.parts) 64) l.s
