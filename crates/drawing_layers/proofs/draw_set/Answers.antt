-- The members listed are few enough for three layers.
use Rattle.std.proofs.Common.{arith}
use Rattle.drawing_layers.proofs.draw_set.Goals as goal

pub invariant_of-layers : goal.invariant_of-layers
invariant_of-layers c = record { few = omega (arith, c.as_slice.ensures.fits); roles = c.requires.0 }
