-- `drawing_rows::fill_rows` meets its contract.
use native.Mathlib.Omega.{arith}
use Rattle.drawing_entries.proofs.Records.{next}
use Rattle.drawing_rows.proofs.Filling.{filling_none, filled_end, filled_unreadable, filled_individual, filled_connection, filled_rows, next_numbered}
use Rattle.drawing_rows.proofs.fill_rows.Goals as goal
use Rattle.drawing_rows.proofs.fill_rows.Goals.{in-Connection, in_default-entry}

pub loop-at-init : goal.loop-at-init
loop-at-init c = (omega arith, filling_none _ _ _ _ _ c.requires.1 c.clear_words.ensures)

pub returns-in_default : goal.returns-in_default
returns-in_default c = filled_unreadable _ _ _ _ _ c.loop-at.invariant c.loop-at-test.true c.in_default.ensures

pub put_connection-requires : goal.put_connection-requires
put_connection-requires c = (
  filled_rows _ _ _ _ _ c.loop-at.invariant c.requires.0,
  next_numbered _ _ _ _ _ c.loop-at.invariant _ (next _ _ _ c.loop-at-test.true (rw c.in-Connection.is at c.in-Some.ensures)),
)

pub loop-at-preserved : goal.loop-at-preserved
loop-at-preserved c =
    elim c.match-entry.branch [
      | in-Connection w ↦
          rw (w.words-is, c.size-at.ensures, w.entry-is)
          (filled_connection _ _ _ _ _ c.loop-at.invariant _
          (next _ _ _ c.loop-at-test.true (rw w.in-Connection.is at c.in-Some.ensures)) _ w.put_connection.ensures)
      | in_default-entry w ↦
          rw (w.words-is, c.size-at.ensures, w.entry-is, w.in_default-entry.is)
          (filled_individual _ _ _ _ _ c.loop-at.invariant _
          (next _ _ _ c.loop-at-test.true (rw w.in_default-entry.is at c.in-Some.ensures)))
    ]

pub returns : goal.returns
returns c = filled_end _ _ _ _ _ c.loop-at.invariant c.loop-at-test.false
