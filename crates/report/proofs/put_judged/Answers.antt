-- A refusal's line, or the three lines one after another.
use Rattle.std.proofs.Common.{append_assoc}
use Rattle.tbox.specs.Answers.{part_counts}
use Rattle.report.proofs.Reporting.{lines_refused, lines_judged}
use Rattle.report.proofs.put_judged.Goals as goal

pub returns-in-Err : goal.returns-in-Err
returns-in-Err g c =
    let n = c.args.counts in
    rw (c.put_refusal.ensures, c.in-Err.is, ← lines_refused (part_counts n) n.roles c.in-Err.refusal)

pub returns-in-Ok : goal.returns-in-Ok
returns-in-Ok g c =
    let n = c.args.counts in
    let j = c.in-Ok.judgement in
    rw (c.put_verdict.ensures, c.is_met.ensures, c.put_sizes.ensures.puts, c.put_counts.ensures.puts, c.in-Ok.is, ← lines_judged (part_counts n) n.roles j)
    (simp append_assoc)
