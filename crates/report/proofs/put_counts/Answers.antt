-- Five numbers, each behind its label, one after another.
use Rattle.output.specs.Text.{text}
use Rattle.tbox.specs.Answers.{part_counts}
use Rattle.report.proofs.Reporting.{counts_put}
use Rattle.report.proofs.put_counts.Goals as goal

pub returns-clause-puts : goal.returns-clause-puts
unfolding text
returns-clause-puts g c =
    rw (c.put_text.ensures, c.put_labelled-5.ensures.puts, c.put_labelled-4.ensures.puts, c.put_labelled-3.ensures.puts, c.put_labelled-2.ensures.puts, c.put_labelled.ensures.puts)
    (counts_put c.args.out.now.items (part_counts c.args.counts) c.args.counts.roles)
