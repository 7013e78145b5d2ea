-- Refusal 15 in place of the totals.
use Rattle.output.specs.Text.{text}
use Rattle.report.specs.Decimals.{decimal, decimal_in}
use Rattle.queue.proofs.lines.last_line.Goals as goal

pub returns-in-None-clause-cut_off : goal.returns-in-None-clause-cut_off
unfolding text decimal decimal_in
returns-in-None-clause-cut_off c = rw c.in-None.is (rw (c.from.ensures, c.number.ensures, c.new-line.ensures) at c.put_value.ensures)
