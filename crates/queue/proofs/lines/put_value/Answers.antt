-- A word and a number, then the end of the line.
use Rattle.std.proofs.Common.{append_assoc}
use Rattle.output.specs.Text.{text}
use Rattle.queue.proofs.lines.put_value.Goals as goal

pub returns : goal.returns
unfolding text
returns c = rw (c.put_text.ensures, c.put_labelled.ensures.puts) (simp append_assoc)
