use mathlib.Core.Path.{ap, ◌∙◌}
use mathlib.Core.Bool.{not}
use native.Mathlib.Omega.{arith}
use Rattle.drawings.specs.Checking.{breaks_at}
use Rattle.drawings.proofs.Breaches.{least_found, least_none, least_past}
use Rattle.interpretation.specs.Drawings.{view_of, drawn}
use Rattle.interpretation.proofs.RowsOf.{count_few}
use Rattle.interpretation.proofs.LabelTable.{label_small, breaks_as}
use Rattle.interpretation.proofs.drawing.Drawing.first_bad.Goals as goal

pub loop-x-init : goal.loop-x-init
loop-x-init c = least_none (breaks_at (view_of c.args.self.now) (drawn c.args.self.now))

pub bounds-labels-x : goal.bounds-labels-x
bounds-labels-x c = omega (arith, count_few c.args.self.now)

pub is_good-requires : goal.is_good-requires
is_good-requires c = label_small c.args.self.now c.loop-x.x _ _ _ c.requires c.loop-x-test.true c.from.ensures

pub returns-then-not-is_good : goal.returns-then-not-is_good
returns-then-not-is_good c = (
  c.loop-x-test.true,
  least_found _ _ _ c.loop-x.invariant c.loop-x-test.true
      (breaks_as c.args.self.now c.loop-x.x _ _ _ c.requires c.loop-x-test.true c.from.ensures _ c.is_good.ensures ∙ ap not c.if-not-is_good.true),
)

pub loop-x-preserved : goal.loop-x-preserved
loop-x-preserved c =
    least_past _ _ c.loop-x.invariant
    (breaks_as c.args.self.now c.loop-x.x _ _ _ c.requires c.loop-x-test.true c.from.ensures _ c.is_good.ensures ∙ ap not c.if-not-is_good.false)
