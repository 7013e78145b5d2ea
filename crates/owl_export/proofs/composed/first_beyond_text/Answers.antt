-- The records before i are passed, and the place is where i starts.
use mathlib.Core.Path.{refl, sym, ◌∙◌}
use native.Mathlib.Omega.{arith}
use Rattle.records.proofs.KindTable.{bounds}
use Rattle.records.specs.Nodes.{node_kind}
use Rattle.owl_export.proofs.Beyond.{passed_none, passed_found, passed_next, passed_end}
use Rattle.owl_export.proofs.composed.first_beyond_text.Goals as goal

pub loop-i-init : goal.loop-i-init
loop-i-init c = passed_none _

pub returns-then-calls_for_20 : goal.returns-then-calls_for_20
returns-then-calls_for_20 c = passed_found _ _ _ c.loop-i.invariant _ c.in-Some.ensures (sym c.calls_for_20.ensures ∙ c.if-calls_for_20.true)

pub overflow_add-at : goal.overflow_add-at
overflow_add-at c = omega (arith, c.body.ensures, (bounds (node_kind c.in-Some.node)).body)

pub overflow_add-at-in-loop-i : goal.overflow_add-at-in-loop-i
overflow_add-at-in-loop-i c =
    omega (arith, c.body.ensures, (bounds (node_kind c.in-Some.node)).body, c.loop-i.invariant.few, c.len-i-end.ensures.fits)

pub loop-i-preserved : goal.loop-i-preserved
loop-i-preserved c =
    passed_next _ _ _ c.loop-i.invariant _ c.in-Some.ensures (sym c.calls_for_20.ensures ∙ c.if-calls_for_20.false) _ (rw c.body.ensures refl)

pub returns : goal.returns
returns c = passed_end _ _ _ c.loop-i.invariant (omega (arith, c.len-i-end.ensures.value))
