-- The line of either verdict.
use Rattle.output.specs.Text.{text}
use Rattle.report.specs.Lines.{verdict_line}
use Rattle.report.proofs.put_verdict.Goals as goal

pub returns-then-met : goal.returns-then-met
unfolding text verdict_line
returns-then-met g c = rw c.if-met.true c.put_text.ensures

pub returns-else-met : goal.returns-else-met
unfolding text verdict_line
returns-else-met g c = rw c.if-met.false c.put_text-else-met.ensures
