use Rattle.std.proofs.Common.{sym, ap, arith, ◌∙◌}
use Rattle.refusals.specs.Numbers.{number}
use Rattle.drawings.proofs.EntryLaws.{fault_few}
use Rattle.drawing_entries.proofs.Records.{next, running_start, running_unreadable, running_fault, running_individual, running_connection, running_end, running_empty}
use Rattle.drawing_entries.proofs.read_individuals.Goals as goal
use Rattle.drawing_entries.proofs.read_individuals.Goals.{in-Individual, in_default-entry}

pub loop-at-init : goal.loop-at-init
loop-at-init c = running_start _ _ _ _

pub returns-in_default : goal.returns-in_default
returns-in_default c =
    (ap number c.of.ensures.0 ∙ running_unreadable _ _ _ _ _ _ c.loop-at.invariant c.loop-at-test.true c.in_default.ensures, c.of.ensures.1)

pub returns-in-Some-fault_of : goal.returns-in-Some-fault_of
returns-in-Some-fault_of c = (
  ap number c.of-in-Some-fault_of.ensures.0
      ∙ running_fault _ _ _ _ _ _ c.loop-at.invariant _ (next _ _ _ c.loop-at-test.true c.in-Some.ensures) _ c.in-Some-fault_of.ensures,
  c.of-in-Some-fault_of.ensures.1,
)

pub bounds-names-count : goal.bounds-names-count
bounds-names-count c = fault_few _ _ _ _ (sym (rw c.in-Individual.is at c.in_default-fault_of.ensures))

pub loop-at-preserved : goal.loop-at-preserved
loop-at-preserved c =
    elim c.match-entry.branch [
      | in-Individual w ↦
          rw (w.names-is, w.count-is, c.size-at.ensures, w.entry-is)
          (running_individual _ _ _ _ _ _ c.loop-at.invariant _ (omega arith)
          (next _ _ _ c.loop-at-test.true (rw w.in-Individual.is at c.in-Some.ensures))
          (sym (rw w.in-Individual.is at c.in_default-fault_of.ensures)))
      | in_default-entry w ↦
          rw (w.names-is, w.count-is, c.size-at.ensures, w.entry-is, w.in_default-entry.is)
          (running_connection _ _ _ _ _ _ c.loop-at.invariant _
          (next _ _ _ c.loop-at-test.true (rw w.in_default-entry.is at c.in-Some.ensures))
          (sym (rw w.in_default-entry.is at c.in_default-fault_of.ensures)))
    ]

pub returns-then-count-eq0 : goal.returns-then-count-eq0
returns-then-count-eq0 c = (
  ap number c.of-then-count-eq0.ensures.0
      ∙ running_empty _ _ _ _ _ _ c.loop-at.invariant c.loop-at-test.false c.if-count-eq0.true,
  c.of-then-count-eq0.ensures.1,
)

pub returns : goal.returns
returns c = running_end _ _ _ _ _ _ c.loop-at.invariant c.loop-at-test.false (omega arith)
