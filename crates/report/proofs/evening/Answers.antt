-- Read's refusal, or the lines of what judge answers.
use Rattle.report.proofs.Reporting.{reports_refused, reports_judged}
use Rattle.report.proofs.evening.Goals as goal

pub returns-in-Err : goal.returns-in-Err
returns-in-Err g c = reports_refused _ _ _ _ _ c.in-Err.ensures.value c.put_refusal.ensures

pub returns-in-Ok : goal.returns-in-Ok
returns-in-Ok g c = reports_judged _ _ _ _ _ c.in-Ok.ensures.value _ _ c.judge-answer.ensures c.put_judged.ensures
