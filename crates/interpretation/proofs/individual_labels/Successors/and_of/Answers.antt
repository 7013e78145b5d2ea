use mathlib.Core.Path.{refl, ap}
use Prim.Native.Nat.{ℕ}
use lib.ListN.{get_or}
use native.Mathlib.Omega.{arith}
use Rattle.interpretation.proofs.Successions.{byte_lt, successors_next}
use Rattle.interpretation.proofs.individual_labels.Successors.and_of.Goals as goal

pub offset_bounds-tables-byte : goal.offset_bounds-tables-byte
offset_bounds-tables-byte c = omega (arith, c.byte.ensures, byte_lt c.args.row.now c.loop-y.y)

pub bounds-tables-byte : goal.bounds-tables-byte
bounds-tables-byte c = omega (arith, c.byte.ensures, byte_lt c.args.row.now c.loop-y.y)

pub loop-y-preserved : goal.loop-y-preserved
loop-y-preserved c h = successors_next _ _ _ _ (c.loop-y.invariant h) _ _ (ap (λ (r : ℕ). get_or c.args.tables.now.parts.holds r 0) c.byte.ensures) refl (omega arith) (omega arith)
