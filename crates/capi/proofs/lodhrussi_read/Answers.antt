-- A sheet that is refused has no counts.
use Rattle.syntax.proofs.Counting.{refused_sum}
use Rattle.capi.proofs.lodhrussi_read.Goals as goal

pub returns-in-Err-clause-sum : goal.returns-in-Err-clause-sum
returns-in-Err-clause-sum c = refused_sum _ _ _ _ c.in-Err.ensures.value
