-- What report::evening says, for 4,096 words and an empty buffer.
use Rattle.report.specs.Lines.{printed}
use Rattle.evening.proofs.lines.Goals as goal

pub returns : goal.returns
unfolding printed
returns c = rw c.new-out.ensures at c.evening.ensures.lines
