-- What judge answers, by its cases.
use Rattle.queue.proofs.Cases.{alone-refused, alone-met, alone-unmet}
use Rattle.queue.proofs.slots.judge_alone.Goals as goal

pub returns-in-Err : goal.returns-in-Err
returns-in-Err c = rw c.number.ensures (alone-refused _ _ _ _ c.told-set c.judge.ensures _ c.in-Err.is)

pub returns-then-is_met : goal.returns-then-is_met
returns-then-is_met c = alone-met _ _ _ _ c.told-set c.judge.ensures _ _ c.in-Ok.is c.is_met.ensures c.if-is_met.true

pub returns-else-is_met : goal.returns-else-is_met
returns-else-is_met c = alone-unmet _ _ _ _ c.told-set c.judge.ensures _ _ c.in-Ok.is c.is_met.ensures c.if-is_met.false
