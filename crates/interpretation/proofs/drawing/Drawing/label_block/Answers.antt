use mathlib.Core.Path.{◌≡◌, subst}
use Prim.Native.Nat.{◌+◌}
use native.Mathlib.Omega.{arith}
use Rattle.interpretation.specs.Drawings.{Labelled}
use Rattle.interpretation.proofs.RowsOf.{count_few, row_of_block}
use Rattle.interpretation.proofs.LabelTable.{labelled_next}
use Rattle.interpretation.proofs.drawing.Drawing.label_block.Goals as goal

pub label-requires : goal.label-requires
label-requires c =
    let b = c.requires.1 in
    let t = c.loop-i-test.true in (
      c.requires.0,
      row_of_block c.args.self.now _ _ _ b c.told-block c.loop-i.i _ _ t (omega (arith, b.room, t)) (omega (arith, b.room, t)),
      omega (arith, b.there, t),
    )

pub bounds-labels-start : goal.bounds-labels-start
bounds-labels-start c = omega (arith, c.requires.1.there, c.loop-i-test.true, count_few c.args.self.now)

pub loop-i-preserved : goal.loop-i-preserved
loop-i-preserved c h =
    let e : c.args.start + c.loop-i.i + 1 ≡ c.args.start + (c.loop-i.i + 1) = omega arith in
    subst (Labelled c.args.self.now _) e
    (labelled_next c.args.self.now _ _ _ (c.loop-i.invariant h)
    (omega (arith, c.requires.1.there, c.loop-i-test.true, count_few c.args.self.now)) c.label.ensures)
