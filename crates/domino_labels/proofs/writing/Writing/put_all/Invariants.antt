-- `put_all` meets its contract. The invariant of the loop: of the rows passed, what is spanned is put in.
use Rattle.labels.specs.Labels.{spanned_set}
use Rattle.domino_labels.specs.Writings.{Puts, run_of}
use Rattle.domino_labels.proofs.writing.Writing.put_all.Given as goal

abbrev pub invariant-loop-a : goal.invariant-loop-a
invariant-loop-a l = Puts spanned_set 0 (run_of l.initial.self l.a 0) l.initial.self l.self l.total
