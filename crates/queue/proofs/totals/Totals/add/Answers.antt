-- Each case of the answer adds to its own total; none wraps.
use mathlib.Core.Path.{ap}
use native.Mathlib.Omega.{arith}
use Rattle.queue.specs.Queue.{Sums}
use Rattle.queue.proofs.Cases.{added-met, added-unmet, added-refused, survivors-met, survivors-unmet}
use Rattle.queue.proofs.totals.Totals.add.Goals as goal

pub overflow_add-next-in-Met-2 : goal.overflow_add-next-in-Met-2
overflow_add-next-in-Met-2 c = omega (arith, survivors-met _ _ c.in-Met.is, c.next.invariant)

pub overflow_add-next-in-Unmet-2 : goal.overflow_add-next-in-Unmet-2
overflow_add-next-in-Unmet-2 c = omega (arith, survivors-unmet _ _ c.in-Unmet.is, c.next.invariant)

pub invariant_of-next : goal.invariant_of-next
invariant_of-next c =
    let n = ap (λ (s : Sums). s.sheets) c.next.view_is in
    let few = survivors-met _ _ c.in-Met.is in
    let h = c.next.invariant in
    (omega arith, omega arith, omega arith)

pub invariant_of-next-in-Unmet : goal.invariant_of-next-in-Unmet
invariant_of-next-in-Unmet c =
    let n = ap (λ (s : Sums). s.sheets) c.next.view_is in
    let few = survivors-unmet _ _ c.in-Unmet.is in
    let h = c.next.invariant in
    (omega arith, omega arith, omega arith)

pub returns-in-Met : goal.returns-in-Met
returns-in-Met c = rw (← c.next.view_is) (added-met _ _ _ c.in-Met.is)

pub returns-in-Unmet : goal.returns-in-Unmet
returns-in-Unmet c = rw (← c.next.view_is) (added-unmet _ _ _ c.in-Unmet.is)

pub returns-in-Refused : goal.returns-in-Refused
returns-in-Refused c = rw (← c.next.view_is) (added-refused _ _ _ c.in-Refused.is)
