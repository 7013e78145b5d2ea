-- `domino_defect` meets its contract: the conditions in their order.
use Rattle.bitset.specs.Bits.{look}
use Rattle.domino_conditions.specs.Tables.{view}
use Rattle.domino_conditions.proofs.Rows.{few_sets}
use Rattle.domino_conditions.proofs.Defects.{label-few, converse_here, member_here, fails-1, fails-2, fails-3, fails-7, fails-last}
use Rattle.domino_conditions.proofs.conditions.DominoSet.domino_defect.Goals as goal

pub is_good-requires : goal.is_good-requires
is_good-requires c = label-few c.args.self.now _ _ _ c.requires

pub returns-then-not-is_good : goal.returns-then-not-is_good
returns-then-not-is_good c = fails-1 (view c.args.self.now.base.now) (look c.args.self.now.set.now) _ _ _ _ c.is_good.ensures c.if-not-is_good.true

pub returns-then-not-right_fits : goal.returns-then-not-right_fits
returns-then-not-right_fits c = fails-2 (view c.args.self.now.base.now) (look c.args.self.now.set.now) _ _ _ _ c.is_good.ensures c.if-not-is_good.false
    _ c.right_fits.ensures c.if-not-right_fits.true

pub returns-then-not-right_fits-2 : goal.returns-then-not-right_fits-2
returns-then-not-right_fits-2 c = fails-3 (view c.args.self.now.base.now) (look c.args.self.now.set.now) _ _ _ _ c.is_good.ensures c.if-not-is_good.false
    _ c.right_fits.ensures c.if-not-right_fits.false _ c.right_fits-2.ensures c.if-not-right_fits-2.true

pub is_closed-requires : goal.is_closed-requires
is_closed-requires c = few_sets c.args.self.now.base.now.size.roles c.args.r c.args.self.now.base.now.few c.requires.roles

pub returns-then-not-is_closed : goal.returns-then-not-is_closed
returns-then-not-is_closed c = fails-7 (view c.args.self.now.base.now) (look c.args.self.now.set.now) _ _ _ _ c.is_good.ensures c.if-not-is_good.false
    _ c.right_fits.ensures c.if-not-right_fits.false _ c.right_fits-2.ensures c.if-not-right_fits-2.false _ c.is_closed.ensures c.if-not-is_closed.true

pub index-converse-requires : goal.index-converse-requires
index-converse-requires c = converse_here c.args.self.now _ _ _ c.requires _ c.inverse.ensures

pub member-requires : goal.member-requires
member-requires c = member_here c.args.self.now _ _ _ c.requires _ c.inverse.ensures _ c.index-converse.ensures

pub returns : goal.returns
returns c = rw (c.or.ensures, c.then_some-sym.ensures)
    (fails-last (view c.args.self.now.base.now) (look c.args.self.now.set.now) _ _ _ _ c.is_good.ensures c.if-not-is_good.false
    _ c.right_fits.ensures c.if-not-right_fits.false _ c.right_fits-2.ensures c.if-not-right_fits-2.false
    _ c.row_defect-row.result _ _ _ c.is_closed.ensures c.if-not-is_closed.false c.row_defect-row.ensures c.inverse.ensures c.index-converse.ensures c.member.ensures)
