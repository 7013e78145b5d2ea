-- No part before k lacks a witness.
use Rattle.bitset.specs.Bits.{look}
use Rattle.labels.specs.Labels.{spanned}
use Rattle.domino_conditions.specs.Polarity.{wants}
use Rattle.domino_conditions.proofs.Witnesses.{Served}
use Rattle.domino_labels.specs.Fittings.{row_view}
use Rattle.domino_labels.proofs.fitting.Row.witnessed.Given as goal

abbrev pub invariant-loop-k : goal.invariant-loop-k
invariant-loop-k l = Served (row_view l.self) (wants l.fn.quantifier) (spanned (row_view l.self) (look l.live)) l.self.label l.k
