-- `put_row` meets its contract.
use mathlib.Core.Path.{refl}
use Prim.Native.Nat.{◌+◌}
use native.Mathlib.Omega.{arith}
use Rattle.domino_conditions.proofs.Rows.{few_sets}
use Rattle.domino_labels.specs.Writings.{matched}
use Rattle.domino_labels.proofs.PutRuns.{run_few, puts_le, puts_as, puts_none, run_skipped, row_put, run_more}
use Rattle.domino_labels.proofs.writing.Writing.put_row.Goals as goal
use Rattle.domino_labels.proofs.writing.Writing.put_row.Goals.{then-pairs, else-pairs}

pub loop-r-init : goal.loop-r-init
loop-r-init c = puts_none matched _ _ _ refl

pub pairs-requires : goal.pairs-requires
pairs-requires c =
    let b = c.args.self.now.fitting.now.base.now in
    few_sets b.size.roles c.loop-r.r b.few (omega (arith, c.role_sets-r-end.ensures))

pub overflow_add-total : goal.overflow_add-total
overflow_add-total c =
    let k = run_more _ _ _ c.args.a _ _ c.loop-r.r _ c.row-row.ensures.label c.loop-r.invariant c.put_run-total.ensures in
    omega (arith, puts_le k, run_few c.args.self.now c.args.a (c.loop-r.r + 1) c.requires.0 (omega (arith, c.role_sets-r-end.ensures)))

pub loop-r-preserved : goal.loop-r-preserved
loop-r-preserved c =
    elim c.if-pairs.branch [
      | then-pairs w ↦ puts_as _ _ _ _ w.self-is w.total-is
          (run_more _ _ _ c.args.a _ _ c.loop-r.r _ c.row-row.ensures.label c.loop-r.invariant w.put_run-total.ensures)
      | else-pairs w ↦ puts_as _ _ _ _ w.self-is w.total-is
          (run_skipped _ _ c.args.a c.loop-r.r _ c.requires.0 (omega (arith, c.role_sets-r-end.ensures)) _ c.pairs.ensures w.if-pairs.false
          c.loop-r.invariant)
    ]

pub returns : goal.returns
returns c =
    row_put _ _ c.args.a c.loop-r.r _ c.requires.0 (omega (arith, c.role_sets-r-end.ensures)) c.requires.1 c.loop-r.invariant
