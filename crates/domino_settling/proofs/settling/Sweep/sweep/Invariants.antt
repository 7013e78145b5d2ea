use Rattle.domino_settling.specs.Sweeps.{SweptFrom, row_of}
use Rattle.domino_settling.proofs.settling.Sweep.sweep.Given as goal

abbrev pub invariant-loop-a : goal.invariant-loop-a
invariant-loop-a l = SweptFrom 0 (row_of l.initial.self l.a) l.initial.self l.self l.moved
