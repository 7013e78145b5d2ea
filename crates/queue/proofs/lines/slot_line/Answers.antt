-- The slot's number, then its word and value, by the answer's case.
use Rattle.std.proofs.Common.{append_assoc}
use Rattle.output.specs.Text.{text}
use Rattle.queue.specs.Lines.{slot_line}
use Rattle.queue.proofs.lines.slot_line.Goals as goal

pub returns-in-Met : goal.returns-in-Met
unfolding text slot_line
returns-in-Met c = rw (c.in-Met.is, c.put_value.ensures, c.put_number.ensures.puts, c.new-line.ensures) (simp append_assoc)

pub returns-in-Unmet : goal.returns-in-Unmet
unfolding text slot_line
returns-in-Unmet c = rw (c.in-Unmet.is, c.put_value-in-Unmet.ensures, c.put_number.ensures.puts, c.new-line.ensures) (simp append_assoc)

pub returns-in-Refused : goal.returns-in-Refused
unfolding text slot_line
returns-in-Refused c = rw (c.in-Refused.is, c.put_value-in-Refused.ensures, c.from.ensures, c.put_number.ensures.puts, c.new-line.ensures) (simp append_assoc)
