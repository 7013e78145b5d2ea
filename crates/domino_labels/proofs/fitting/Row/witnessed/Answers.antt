-- No part before k lacks a witness.
use mathlib.Core.Path.{sym, ◌∙◌}
use native.Mathlib.Omega.{arith}
use Rattle.elimination.proofs.Quantifiers.{every-none}
use Rattle.domino_conditions.proofs.Polarity.{part_here, part_count, wanted, not_wanted}
use Rattle.domino_conditions.proofs.Witnesses.{served_not, served_has, served_stop, served_end}
use Rattle.domino_labels.specs.Fittings.{row_view}
use Rattle.domino_labels.proofs.Serving.{found_for}
use Rattle.domino_labels.proofs.fitting.Row.witnessed.Goals as goal
use Rattle.domino_labels.proofs.fitting.Row.witnessed.Goals.{in-Some+else-not-has_witness, in_default}

pub loop-k-init : goal.loop-k-init
loop-k-init c = every-none _

pub returns-then-not-has_witness : goal.returns-then-not-has_witness
returns-then-not-has_witness c =
    let row = c.args.self.now in
    let b = row.fitting.now.base.now in
    let h = part_here b _ c.loop-k.k _ c.deref-part-items.ensures.0 c.loop-k-test.true in
    let e = wanted b _ c.args.quantifier c.loop-k.k h row.label _ c.in-Some.ensures in
    served_stop (row_view row) _ _ _ _ (omega (arith, part_count b _ c.deref-part-items.ensures.0)) e.0
    (sym (c.has_witness.ensures ∙ found_for row c.args.live.now _ _ _ _ h e.1) ∙ c.if-not-has_witness.true)

pub loop-k-preserved : goal.loop-k-preserved
loop-k-preserved c =
    let row = c.args.self.now in
    let b = row.fitting.now.base.now in
    let q = c.args.quantifier in
    let k = c.loop-k.k in
    let h = part_here b _ k _ c.deref-part-items.ensures.0 c.loop-k-test.true in
    elim c.match-wanted_of_row.branch [
      | in-Some+else-not-has_witness w ↦ served_has (row_view row) _ _ _ _ c.loop-k.invariant
          (sym (w.has_witness.ensures ∙ found_for row c.args.live.now _ _ _ _ h (wanted b _ q k h row.label _ w.in-Some.ensures).1)
          ∙ w.if-not-has_witness.false)
      | in_default w ↦ served_not (row_view row) _ _ _ _ c.loop-k.invariant (not_wanted b _ q k h row.label w.in_default.ensures)
    ]

pub returns : goal.returns
returns c =
    let row = c.args.self.now in
    let n = part_count row.fitting.now.base.now _ c.deref-part-items.ensures.0 in
    served_end (row_view row) _ _ _ _ (omega (arith, n)) (omega (arith, n)) c.loop-k.invariant
