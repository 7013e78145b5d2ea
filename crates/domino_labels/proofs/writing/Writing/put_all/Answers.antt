-- `put_all` meets its contract.
use mathlib.Core.Path.{◌≡◌, sym as flip}
use Prim.Native.Nat.{◌^◌}
use native.Mathlib.Omega.{arith}
use Rattle.labels.specs.Labels.{spanned_set}
use Rattle.domino_conditions.proofs.Rows.{few_labels, number-zero, last_row}
use Rattle.domino_labels.proofs.PutRuns.{row_few, puts_le, puts_as, puts_none, row_skipped, row_more}
use Rattle.domino_labels.proofs.writing.Writing.put_all.Goals as goal
use Rattle.domino_labels.proofs.writing.Writing.put_all.Goals.{then-member, else-member}

pub loop-a-init : goal.loop-a-init
loop-a-init c =
    puts_none spanned_set _ _ _
    (flip (number-zero c.args.self.now.fitting.now.base.now.size.parts c.args.self.now.fitting.now.base.now.size.roles))

pub member-requires : goal.member-requires
member-requires c =
    let few = few_labels c.args.self.now.fitting.now.base.now.size.parts c.loop-a.a (omega arith) (omega (arith, c.labels-a-end.ensures)) in
    omega arith

pub overflow_add-total : goal.overflow_add-total
overflow_add-total c =
    let k = row_more _ _ _ c.loop-a.a _ _ c.loop-a.invariant c.put_row-total.ensures in
    omega (arith, puts_le k, row_few c.args.self.now c.loop-a.a (omega (arith, c.labels-a-end.ensures)))

pub loop-a-preserved : goal.loop-a-preserved
loop-a-preserved c =
    elim c.if-member.branch [
      | then-member w ↦ puts_as _ _ _ _ w.self-is w.total-is (row_more _ _ _ c.loop-a.a _ _ c.loop-a.invariant w.put_row-total.ensures)
      | else-member w ↦ puts_as _ _ _ _ w.self-is w.total-is
          (row_skipped _ _ c.loop-a.a _ _ c.member.ensures w.if-member.false c.loop-a.invariant)
    ]

pub returns : goal.returns
returns c =
    let e : c.loop-a.a ≡ 2 ^ c.args.self.now.fitting.now.base.now.size.parts = omega (arith, c.labels-a-end.ensures) in
    rw (← last_row c.args.self.now.fitting.now.base.now.size.parts c.args.self.now.fitting.now.base.now.size.roles, ← e) c.loop-a.invariant
