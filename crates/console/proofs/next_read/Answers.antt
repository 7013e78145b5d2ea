-- A read that brought nothing.
use Rattle.console.proofs.Reading.{next-none}
use Rattle.console.proofs.next_read.Goals as goal

pub returns-then-n-eq0 : goal.returns-then-n-eq0
returns-then-n-eq0 c = next-none _ _ _ _ c.in_ok-n.was c.if-n-eq0.true
