use native.Mathlib.Omega.{arith}
use Rattle.domino_conditions.proofs.Shifts.{index_is, index_fits}
use Rattle.domino_conditions.proofs.numbers.index.Goals as goal

pub overflow_add-result-3 : goal.overflow_add-result-3
overflow_add-result-3 c = omega (arith, index_fits _ _ _ _ _ c.args.size.within c.requires)

pub overflow_add-result-4 : goal.overflow_add-result-4
overflow_add-result-4 c = omega (arith, index_fits _ _ _ _ _ c.args.size.within c.requires)

pub returns : goal.returns
returns c = index_is _ _ _ _ _ c.args.size.within c.requires
