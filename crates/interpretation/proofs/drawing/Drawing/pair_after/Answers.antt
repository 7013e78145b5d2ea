use mathlib.Core.Path.{sym, ap, ◌∙◌}
use native.Mathlib.Omega.{arith}
use Rattle.interpretation.specs.Answers.{finding_is}
use Rattle.interpretation.specs.Drawings.{view_of, drawn}
use Rattle.interpretation.proofs.Pairs.{found_breach, pair_stays, pair_closed}
use Rattle.interpretation.proofs.drawing.Drawing.pair_after.Goals as goal

pub returns-then-all_closed : goal.returns-then-all_closed
returns-then-all_closed c h =
    let d = c.args.self.now in
    ap finding_is c.in-Holds.is ∙ sym (pair_closed (view_of d) (drawn d) (sym c.all_closed.ensures ∙ c.if-all_closed.true) _)

pub returns-in_default : goal.returns-in_default
returns-in_default c h =
    let d = c.args.self.now in
    pair_stays (view_of d) (drawn d) _ _ _ (omega arith) (found_breach _ c.in_default.not-Holds) h
