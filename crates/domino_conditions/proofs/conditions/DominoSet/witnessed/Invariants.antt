-- `witnessed` meets its contract: no part before k lacks a witness.
use Rattle.bitset.specs.Bits.{look}
use Rattle.semantics.specs.Dominoes.{numbered}
use Rattle.domino_conditions.specs.Tables.{view}
use Rattle.domino_conditions.specs.Polarity.{wants}
use Rattle.domino_conditions.proofs.Witnesses.{Served}
use Rattle.domino_conditions.proofs.conditions.DominoSet.witnessed.Given as goal

abbrev pub invariant-loop-k : goal.invariant-loop-k
invariant-loop-k l =
    Served (view l.self.base.now) (wants l.fn.quantifier) (numbered l.self.base.now.size.parts l.self.base.now.size.roles (look l.self.set.now)) l.a l.k
