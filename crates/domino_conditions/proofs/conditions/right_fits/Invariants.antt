-- `right_fits` meets its contract: no part before k breaks what it asks.
use Rattle.domino_conditions.specs.Tables.{view}
use Rattle.domino_conditions.specs.Polarity.{wants}
use Rattle.domino_conditions.proofs.Polarity.{FitsTo}
use Rattle.domino_conditions.proofs.conditions.right_fits.Given as goal

abbrev pub invariant-loop-k : goal.invariant-loop-k
invariant-loop-k l = FitsTo (view l.base) (wants l.fn.quantifier) l.a l.r l.b l.k
