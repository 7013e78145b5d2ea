-- No role set before r, and no right label before b of the run r, gives a witness.
use mathlib.Core.Path.{◌≡◌}
use mathlib.Core.Bool.{false}
use Rattle.bitset.specs.Bits.{look}
use Rattle.elimination.specs.Sets.{some}
use Rattle.domino_conditions.proofs.Witnesses.{is_witness_lem, fits_filler, tried}
use Rattle.domino_conditions.proofs.conditions.DominoSet.has_witness.Given as goal

abbrev pub invariant-loop-b : goal.invariant-loop-b
invariant-loop-b l = (l.found ≡ false)
    × (some l.b (is_witness_lem l.self.base.now.size.parts l.self.base.now.size.roles l.a (fits_filler l.fn.quantifier l.fn.filler) (look l.self.set.now) l.r) ≡ false)

abbrev pub invariant-search : goal.invariant-search
invariant-search l = (l.found ≡ false) × (some l.r (tried l.self l.part l.fn.quantifier l.fn.filler l.a) ≡ false)
