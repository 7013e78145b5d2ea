-- `put_row` meets its contract. The invariant of the loop: of the runs passed, what is matched is put in.
use Rattle.domino_labels.specs.Writings.{matched, Puts, run_of}
use Rattle.domino_labels.proofs.writing.Writing.put_row.Given as goal

abbrev pub invariant-loop-r : goal.invariant-loop-r
invariant-loop-r l = Puts matched (run_of l.initial.self l.a 0) (run_of l.initial.self l.a l.r) l.initial.self l.self l.total
