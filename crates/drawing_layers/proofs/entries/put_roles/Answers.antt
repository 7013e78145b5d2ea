-- Role by role, those in the set.
use native.Mathlib.Omega.{arith}
use Rattle.drawings.specs.Laid.{entry_bytes}
use Rattle.drawing_layers.proofs.RoleRecords.{puts_none, role_lines, on, off}
use Rattle.drawing_layers.proofs.PutInTurn.{turn_none, turn_fits, turn_put, turn_all}
use Rattle.drawing_layers.proofs.entries.put_roles.Goals as goal
use Rattle.drawing_layers.proofs.entries.put_roles.Goals.{then-roles-k-eq1, else-roles-k-eq1}

pub loop-k-init : goal.loop-k-init
loop-k-init c = turn_none _ _ (rw role_lines at c.requires.3)

pub put_connection-at-requires : goal.put_connection-at-requires
unfolding entry_bytes
put_connection-at-requires c =
    let fits = turn_fits _ _ c.loop-k.invariant c.args.l (rw role_lines at c.requires.3) c.loop-k-test.true in
    (omega arith, omega arith, omega arith, rw (on _ _ c.if-roles-k-eq1.true) at fits)

pub loop-k-preserved : goal.loop-k-preserved
loop-k-preserved c =
    elim c.if-roles-k-eq1.branch [
      | then-roles-k-eq1 w ↦
          rw (w.out-is, w.at-is)
          (turn_put _ _ c.loop-k.invariant (rw (on _ _ w.if-roles-k-eq1.true) w.put_connection-at.ensures))
      | else-roles-k-eq1 w ↦
          rw (w.out-is, w.at-is)
          (turn_put _ _ c.loop-k.invariant (rw (off _ _ w.if-roles-k-eq1.false) (puts_none c.loop-k.at c.loop-k.out (omega arith))))
    ]

pub returns : goal.returns
returns c = rw role_lines (turn_all _ _ c.loop-k.invariant _ (omega arith) (omega arith))
