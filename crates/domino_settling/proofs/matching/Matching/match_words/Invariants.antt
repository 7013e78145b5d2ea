use Rattle.std.proofs.Common.{◌*◌}
use Rattle.domino_settling.specs.Sweeps.{MatchedIn}
use Rattle.domino_settling.proofs.matching.Matching.match_words.Given as goal

abbrev pub invariant-loop-i : goal.invariant-loop-i
invariant-loop-i l = MatchedIn 0 (64 * l.i) l.initial.self l.self l.moved
