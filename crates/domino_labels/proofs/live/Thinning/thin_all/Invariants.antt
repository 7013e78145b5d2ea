use Prim.Native.Nat.{◌^◌}
use Rattle.bitset.specs.Bits.{look, size}
use Rattle.domino_labels.proofs.ThinnedLaws.{ThinnedSome}
use Rattle.domino_labels.proofs.live.Thinning.thin_all.Given as goal

abbrev pub invariant-loop : goal.invariant-loop
invariant-loop l = ThinnedSome l.initial.self l.self

abbrev pub decreases-loop : goal.decreases-loop
decreases-loop l = size (2 ^ l.self.fitting.now.base.now.size.parts) (look l.self.live.now)
