use Rattle.bitset.specs.Bits.{look, size}
use Rattle.semantics.specs.Dominoes.{total}
use Rattle.domino_settling.proofs.Sweeps.{SweptSome}
use Rattle.domino_settling.proofs.settling.Sweep.sweep_all.Given as goal

abbrev pub invariant-loop : goal.invariant-loop
invariant-loop l = SweptSome l.initial.self l.self

abbrev pub decreases-loop : goal.decreases-loop
decreases-loop l = size (total l.self.base.now.size.parts l.self.base.now.size.roles) (look l.self.set.now)
