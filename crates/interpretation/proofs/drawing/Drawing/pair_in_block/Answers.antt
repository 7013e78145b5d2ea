use mathlib.Core.Path.{ap, ◌∙◌}
use Prim.Native.Nat.{◌+◌}
use native.Mathlib.Omega.{arith}
use Rattle.drawings.specs.Checking.{pair_below}
use Rattle.interpretation.specs.Drawings.{view_of, drawn}
use Rattle.interpretation.proofs.RowsOf.{counted, row_of_block}
use Rattle.interpretation.proofs.Pairs.{pair_past, pair_here, pair_stays}
use Rattle.interpretation.proofs.drawing.Drawing.pair_in_block.Goals as goal

pub first_open-requires : goal.first_open-requires
first_open-requires c =
    row_of_block c.args.self.now _ _ _ c.requires c.told-block c.loop-i.i _ _ c.loop-i-test.true (omega arith) (omega arith)

pub returns-in-Some : goal.returns-in-Some
returns-in-Some c h =
    let d = c.args.self.now in
    let m = c.args.start + c.loop-i.i in
    pair_stays (view_of d) (drawn d) (m + 1) _ _ (omega arith) (λ e. cc)
    (pair_here (view_of d) (drawn d) m _ (c.loop-i.invariant h) (counted d) _ c.in-Some.ensures)

pub loop-i-preserved : goal.loop-i-preserved
loop-i-preserved c h =
    let d = c.args.self.now in
    let m = c.args.start + c.loop-i.i in
    ap (pair_below (view_of d) (drawn d)) (omega arith)
    ∙ pair_past (view_of d) (drawn d) m _ (c.loop-i.invariant h) (counted d) c.in_default.ensures
