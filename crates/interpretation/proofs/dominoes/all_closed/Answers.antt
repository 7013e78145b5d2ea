use mathlib.Core.Path.{sym, ◌∙◌}
use native.Mathlib.Omega.{arith}
use Rattle.elimination.proofs.Quantifiers.{every-none, every_more, every-fails}
use Rattle.interpretation.proofs.dominoes.all_closed.Goals as goal

pub loop-r-init : goal.loop-r-init
loop-r-init c = every-none _

pub returns-then-not-is_closed : goal.returns-then-not-is_closed
returns-then-not-is_closed c =
    sym (every-fails _ _ c.loop-r.r (omega (arith, c.role_sets-r-end.ensures)) (sym c.is_closed.ensures ∙ c.if-not-is_closed.true))

pub loop-r-preserved : goal.loop-r-preserved
loop-r-preserved c = every_more _ _ c.loop-r.invariant (sym c.is_closed.ensures ∙ c.if-not-is_closed.false)
