use Prim.Native.Nat.{◌*◌, ◌%◌, ◌^◌}
use native.Mathlib.Omega.{arith}
use lib.Seq.{length-take-le}
use Rattle.interpretation.proofs.RowsOf.{count_few, drawn_numbered, filled_block}
use Rattle.interpretation.proofs.drawing.Drawing.fill.Goals as goal

pub fill_rows-requires : goal.fill_rows-requires
fill_rows-requires c =
    let m = c.min-count.ensures in
    let l = length-take-le (c.min-count.result * 128 % 2 ^ 64) c.args.block.now (omega (arith, m, c.told-block)) in (
      record { few = omega (arith, count_few c.args.self.now, c.requires); small = omega (arith, l, m); whole = omega (arith, l, m) },
      drawn_numbered c.args.self.now,
    )

pub returns : goal.returns
returns c =
    let m = c.min-count.ensures in
    let l = length-take-le (c.min-count.result * 128 % 2 ^ 64) c.args.block.now (omega (arith, m, c.told-block)) in
    filled_block c.args.self.now _ _ _ _ _ (omega (arith, m, c.requires)) (omega (arith, m)) (omega (arith, m, c.requires)) (omega (arith, l, m))
    c.fill_rows.ensures
