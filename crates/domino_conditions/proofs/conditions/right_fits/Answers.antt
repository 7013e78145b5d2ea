use mathlib.Core.Path.{◌∙◌}
use native.Mathlib.Omega.{arith}
use Rattle.domino_conditions.specs.Tables.{view}
use Rattle.domino_conditions.specs.Polarity.{wants}
use Rattle.domino_conditions.proofs.Polarity.{part_here, part_count, breaks-none, breaks_last, asked, not_asked, fits-none, fits_more, fits_stop, fits_end}
use Rattle.domino_conditions.proofs.conditions.right_fits.Goals as goal
use Rattle.domino_conditions.proofs.conditions.right_fits.Goals.{in-Some+else-as_wanted, in_default}

pub loop-k-init : goal.loop-k-init
loop-k-init c = fits-none (view c.args.base.now) (wants c.args.quantifier) c.args.a c.args.r c.args.b

pub returns-then-as_wanted : goal.returns-then-as_wanted
returns-then-as_wanted c =
    let b = c.args.base.now in
    let h = part_here b _ c.loop-k.k _ c.deref-part-items.ensures.0 c.loop-k-test.true in
    let e = asked b _ _ c.loop-k.k h c.args.a c.args.r _ c.in-Some.ensures in
    fits_stop (view b) _ c.args.a c.args.r c.args.b _ (omega (arith, part_count b _ c.deref-part-items.ensures.0))
    (breaks_last (view b) _ c.args.a c.args.r c.args.b _ _ _ e.0 (c.filler_in_label.ensures ∙ e.1 c.args.b) c.as_wanted.ensures
    ∙ c.if-as_wanted.true)

pub loop-k-preserved : goal.loop-k-preserved
loop-k-preserved c =
    let b = c.args.base.now in
    let h = part_here b _ c.loop-k.k _ c.deref-part-items.ensures.0 c.loop-k-test.true in
    fits_more (view b) _ c.args.a c.args.r c.args.b _ c.loop-k.invariant (elim c.match-asked_of_right.branch [
      | in-Some+else-as_wanted w ↦
          let e = asked b _ _ c.loop-k.k h c.args.a c.args.r _ w.in-Some.ensures in
          breaks_last (view b) _ c.args.a c.args.r c.args.b _ _ _ e.0 (w.filler_in_label.ensures ∙ e.1 c.args.b) w.as_wanted.ensures
          ∙ w.if-as_wanted.false
      | in_default w ↦ breaks-none (view b) _ c.args.a c.args.r c.args.b _ (not_asked b _ _ c.loop-k.k h c.args.a c.args.r w.in_default.ensures)
    ])

pub returns : goal.returns
returns c =
    let n = part_count c.args.base.now _ c.deref-part-items.ensures.0 in
    fits_end (view c.args.base.now) _ c.args.a c.args.r c.args.b _ (omega (arith, n)) (omega (arith, n)) c.loop-k.invariant
