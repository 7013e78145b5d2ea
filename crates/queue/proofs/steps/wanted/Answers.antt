-- A slot that may come, or a kind alone.
use mathlib.Core.Logic.{inl, inr}
use borrow.Author.Tests.{eq-eqb, ne_eqb, lt-ltb, le-ltb}
use Rattle.queue.specs.Steps.{wanted}
use Rattle.queue.proofs.steps.wanted.Goals as goal

pub returns-then-sheets-lt-MOST : goal.returns-then-sheets-lt-MOST
unfolding wanted
returns-then-sheets-lt-MOST c = simp (eq-eqb _ _ c.if-kind-eq-SLOT.true, lt-ltb _ _ c.if-sheets-lt-MOST.true)

pub returns-else-kind-eq-SLOT : goal.returns-else-kind-eq-SLOT
unfolding wanted
returns-else-kind-eq-SLOT c =
    elim c.else-kind-eq-SLOT.either [
      | inl h ↦ simp (eq-eqb _ _ h.0, le-ltb _ _ h.1)
      | inr h ↦ simp (ne_eqb _ _ h)
    ]
