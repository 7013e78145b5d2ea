use Rattle.std.proofs.Common.{◌+◌}
use Rattle.domino_settling.proofs.Converses.{Matched}
use Rattle.domino_settling.proofs.matching.Matching.match_some.Given as goal

abbrev pub invariant-loop-b : goal.invariant-loop-b
invariant-loop-b l = Matched l.run.size.parts l.run.size.roles (l.run.at + l.fn.from) (l.run.at + l.b) l.fn.self.set.now l.set l.moved
