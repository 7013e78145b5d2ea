use Rattle.semantics.specs.Dominoes.{number}
use Rattle.domino_settling.proofs.Converses.{Matched}
use Rattle.domino_settling.proofs.matching.Matching.match_row.Given as goal

abbrev pub invariant-loop-r : goal.invariant-loop-r
invariant-loop-r l =
    Matched l.size.parts l.size.roles (number l.size.parts l.size.roles l.a 0 0) (number l.size.parts l.size.roles l.a l.r 0)
    l.initial.set l.set l.moved
