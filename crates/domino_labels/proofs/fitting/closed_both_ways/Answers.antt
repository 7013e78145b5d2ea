use mathlib.Core.Path.{ap, ◌∙◌}
use native.Mathlib.Omega.{arith}
use Rattle.semantics.proofs.Numbers.{inverse_lt}
use Rattle.domino_conditions.specs.Tables.{view}
use Rattle.domino_conditions.proofs.Rows.{few_sets}
use Rattle.domino_labels.proofs.BothWays.{both_kept, both_cleared}
use Rattle.domino_labels.proofs.fitting.closed_both_ways.Goals as goal
use Rattle.domino_labels.proofs.fitting.closed_both_ways.Goals.{then-not-is_closed, else-not-is_closed}

pub is_closed-requires : goal.is_closed-requires
is_closed-requires c =
    let b = c.args.base.now in
    few_sets b.size.roles _ b.few (rw c.inverse.ensures (inverse_lt b.size.roles c.loop-r.r))

pub loop-r-preserved : goal.loop-r-preserved
loop-r-preserved c =
    let b = c.args.base.now in
    let f = c.is_closed.ensures ∙ ap (view b).closed c.inverse.ensures in
    let r = few_sets b.size.roles c.loop-r.r b.few (omega (arith, c.loop-r-test.true, c.role_sets-r-end.ensures)) in
    elim c.if-not-is_closed.branch [
      | then-not-is_closed w ↦ both_cleared (view b) _ _ _ c.loop-r.invariant _ (w.closed-is ∙ w.clear.ensures)
          (omega (arith, r, w.if-not-is_closed.array_long)) f w.if-not-is_closed.true
      | else-not-is_closed w ↦ both_kept (view b) _ _ _ c.loop-r.invariant _ w.closed-is f w.if-not-is_closed.false
    ]
