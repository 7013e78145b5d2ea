use mathlib.Core.Path.{ap, ◌∙◌}
use mathlib.Core.Bool.{not}
use native.Mathlib.Omega.{arith}
use Rattle.drawings.proofs.Breaches.{least_found, least_none, least_past}
use Rattle.interpretation.proofs.Successions.{byte_lt}
use Rattle.interpretation.proofs.RowsOf.{count_few}
use Rattle.interpretation.proofs.Pairs.{pair_breaks}
use Rattle.interpretation.proofs.drawing.Drawing.first_open.Goals as goal

pub loop-y-init : goal.loop-y-init
loop-y-init c = least_none _

pub byte-requires : goal.byte-requires
byte-requires c = omega (arith, count_few c.args.self.now)

pub is_closed-requires : goal.is_closed-requires
is_closed-requires c = omega (arith, c.byte.ensures, byte_lt c.args.row.now c.loop-y.y)

pub returns-then-not-is_closed : goal.returns-then-not-is_closed
returns-then-not-is_closed c =
    let t = c.loop-y-test.true in (
      t,
      least_found _ _ _ c.loop-y.invariant t
          (pair_breaks c.args.self.now _ _ c.requires _ t _ c.byte.ensures _ c.is_closed.ensures ∙ ap not c.if-not-is_closed.true),
    )

pub loop-y-preserved : goal.loop-y-preserved
loop-y-preserved c =
    least_past _ _ c.loop-y.invariant
    (pair_breaks c.args.self.now _ _ c.requires _ c.loop-y-test.true _ c.byte.ensures _ c.is_closed.ensures
    ∙ ap not c.if-not-is_closed.false)
