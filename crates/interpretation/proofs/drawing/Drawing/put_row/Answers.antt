use native.Mathlib.Omega.{arith}
use Rattle.interpretation.proofs.RowsOf.{count_few}
use Rattle.interpretation.proofs.Putting.{pair_read, pair_domino, pair_room, row_none, row_next, row_all}
use Rattle.interpretation.proofs.drawing.Drawing.put_row.Goals as goal

pub bounds-labels-x : goal.bounds-labels-x
bounds-labels-x c = omega (arith, count_few c.args.self.now)

pub loop-to-init : goal.loop-to-init
loop-to-init c = row_none _ _ _

pub byte-requires : goal.byte-requires
byte-requires c = omega (arith, count_few c.args.self.now)

pub bounds-labels-to : goal.bounds-labels-to
bounds-labels-to c = omega (arith, count_few c.args.self.now)

pub index-requires : goal.index-requires
index-requires c =
    let r = c.requires in
    let p =
    pair_read c.args.self.now _ _ c.args.x c.loop-to.to _ _ _ r.0 r.2 r.1 c.loop-to-test.true
    c.from-a.ensures c.byte.ensures c.from.ensures in
    pair_domino _ _ _ _ _ _ p

pub insert-requires : goal.insert-requires
insert-requires c =
    let r = c.requires in
    let p =
    pair_read c.args.self.now _ _ c.args.x c.loop-to.to _ _ _ r.0 r.2 r.1 c.loop-to-test.true
    c.from-a.ensures c.byte.ensures c.from.ensures in
    pair_room _ _ _ _ _ _ p _ _ c.index.ensures (omega arith)

pub loop-to-preserved : goal.loop-to-preserved
loop-to-preserved c =
    let r = c.requires in
    let p =
    pair_read c.args.self.now _ _ c.args.x c.loop-to.to _ _ _ r.0 r.2 r.1 c.loop-to-test.true
    c.from-a.ensures c.byte.ensures c.from.ensures in
    rw c.insert.ensures (row_next _ _ _ _ _ _ _ _ _ c.loop-to.invariant p c.index.ensures (omega arith))

pub returns : goal.returns
returns c = row_all _ _ _ _ _ (omega arith) c.loop-to.invariant
