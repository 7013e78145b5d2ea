-- `row_defect` meets its contract: condition 4, then condition 5.
use mathlib.Core.Bool.{false}
use Rattle.domino_conditions.proofs.Witnesses.{row-4, row-5, row-0}
use Rattle.domino_conditions.proofs.conditions.DominoSet.row_defect.Goals as goal

pub returns-then-not-witnessed : goal.returns-then-not-witnessed
returns-then-not-witnessed c = row-4 _ _ _ _ false c.witnessed.ensures c.if-not-witnessed.true

pub returns-then-not-witnessed-2 : goal.returns-then-not-witnessed-2
returns-then-not-witnessed-2 c = row-5 _ _ _ _ _ c.witnessed.ensures c.if-not-witnessed.false c.witnessed-2.ensures c.if-not-witnessed-2.true

pub returns : goal.returns
returns c = row-0 _ _ _ _ _ c.witnessed.ensures c.if-not-witnessed.false c.witnessed-2.ensures c.if-not-witnessed-2.false
