use Rattle.std.proofs.Common.{refl, arith}
use Rattle.owl_import.proofs.Stepping.{begins, full}
use Rattle.owl_import.proofs.parser.Parser.begin.Goals as goal

pub returns-then-self-eq0-clause-reads : goal.returns-then-self-eq0-clause-reads
returns-then-self-eq0-clause-reads c = full _ _ _ _ c.of.result c.if-self-eq0.true c.of.ensures.0 c.of.ensures.1

pub returns-clause-reads : goal.returns-clause-reads
returns-clause-reads c = begins _ _ _ _ (omega arith) refl refl
