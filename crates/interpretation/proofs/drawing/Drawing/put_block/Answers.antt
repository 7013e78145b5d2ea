use mathlib.Core.Path.{subst}
use Prim.Native.Nat.{ℕ}
use native.Mathlib.Omega.{arith}
use Rattle.drawing_rows.specs.Rows.{Joins}
use Rattle.interpretation.specs.Drawings.{rows_set}
use Rattle.interpretation.proofs.RowsOf.{row_of_block}
use Rattle.interpretation.proofs.Putting.{rows_next}
use Rattle.interpretation.proofs.drawing.Drawing.put_block.Goals as goal

pub put_row-requires : goal.put_row-requires
put_row-requires c =
    let r = c.requires in (
      row_of_block c.args.self.now _ _ _ r.0 c.told-block c.loop-i.i _ _ c.loop-i-test.true (omega arith) (omega arith),
      omega arith,
      r.1,
      omega arith,
    )

pub loop-i-preserved : goal.loop-i-preserved
loop-i-preserved c ws j =
    subst (λ (m : ℕ). Joins (rows_set c.args.self.now m) ws c.put_row.new.set) (omega arith)
    (rows_next c.args.self.now _ ws _ _ (c.loop-i.invariant ws j) c.put_row.ensures)
