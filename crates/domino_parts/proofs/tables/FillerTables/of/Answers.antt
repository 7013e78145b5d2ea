use Rattle.domino_parts.proofs.Fillers.{high_room, high_more}
use Rattle.domino_parts.proofs.tables.FillerTables.of.Goals as goal

pub bounds-tables-s-in-loop-s-2 : goal.bounds-tables-s-in-loop-s-2
bounds-tables-s-in-loop-s-2 c = high_room c.args.base.now _ _ c.labels-count.ensures c.loop-s-2-test.true

pub loop-s-2-preserved : goal.loop-s-2-preserved
loop-s-2-preserved c =
    high_more c.args.base.now _ _ c.labels-count.ensures c.loop-s-2-test.true c.loop-s-2.tables _ _ c.loop-s-2.invariant
    c.parts_filled-in-loop-s-2.ensures
