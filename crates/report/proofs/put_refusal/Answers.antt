-- The pieces of the line, one after another.
use Rattle.std.proofs.Common.{append_assoc}
use Rattle.output.specs.Text.{text}
use Rattle.report.specs.Lines.{refused_line}
use Rattle.report.proofs.put_refusal.Goals as goal

pub returns : goal.returns
unfolding text refused_line
returns g c = rw (c.put_text.ensures, c.put_labelled-2.ensures.puts, c.put_labelled.ensures.puts, c.from.ensures, c.number.ensures) (simp append_assoc)
