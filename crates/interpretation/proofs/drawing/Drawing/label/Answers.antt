use mathlib.Core.Path.{refl}
use native.Mathlib.Omega.{arith}
use Rattle.interpretation.proofs.RowsOf.{count_few}
use Rattle.interpretation.proofs.Concluding.{label_concluded}
use Rattle.interpretation.proofs.drawing.Drawing.label.Goals as goal

pub successors_of-requires : goal.successors_of-requires
successors_of-requires c = let f = count_few c.args.self.now in (omega (arith, f), omega (arith, f, c.requires.1.long))

pub returns : goal.returns
returns c =
    label_concluded c.args.self.now _ c.requires.0 c.args.x _ c.requires.1 _ c.successors_of.ensures _ _ c.label.type_inv refl c.label.ensures
