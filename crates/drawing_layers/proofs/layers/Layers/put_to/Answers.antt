-- Those to the individual of one member more.
use Rattle.std.proofs.Common.{arith, ◌∙◌}
use Rattle.std.proofs.lemmas.Bool.Decides.{nat_tests}
use Rattle.drawing_layers.proofs.RoleRecords.{role_bytes_none, puts_none}
use Rattle.drawing_layers.proofs.Pieces.{number_small, Chosen, to_own, to_other}
use Rattle.drawing_layers.proofs.PutInTurn.{turn_none, turn_fits, turn_put}
use Rattle.drawing_layers.proofs.layers.Layers.put_to.Goals as goal
use Rattle.drawing_layers.proofs.layers.Layers.put_to.Goals.{then-layer-eq0, else-layer-eq0, then-from-eq2, else-from-eq2, then-after, else-after, then-roles-ne0, else-roles-ne0}

pub returns-then-layer-from : goal.returns-then-layer-from
returns-then-layer-from c =
    rw (to_own c.args.self.now c.args.from c.requires.0 c.if-layer-from.true) (puts_none _ _ (omega arith))

pub loop-j-init : goal.loop-j-init
loop-j-init c = record {
  put = turn_none _ _ c.requires.2;
  side = elim c.if-from-eq2.branch [
    | then-from-eq2 w ↦ elim c.if-layer-eq0.branch [ then-layer-eq0 v ↦ grind (arith, nat_tests) | else-layer-eq0 v ↦ grind (arith, nat_tests) ]
    | else-from-eq2 w ↦ (let v = w.if-from-eq2.either in grind (arith, nat_tests))
  ];
}

pub put_roles-at-requires : goal.put_roles-at-requires
put_roles-at-requires c =
    let l = c.args.self.now in
    let x = c.args.from in
    let v = c.loop-j.invariant in
    let r : Chosen l c.if-from-eq2.after x.member c.loop-j.j c.if-after.roles = elim c.if-after.branch [
      | then-after w ↦ rw w.if-after.true (w.roles-is ∙ w.roles_after-roles.ensures x.member c.sides-sides.ensures)
      | else-after w ↦ rw w.if-after.false (w.roles-is ∙ w.roles_before-roles.ensures x.member c.sides-sides.ensures)
    ] in
    let e = to_other l x c.requires.0 c.requires.1 c.loop-j-test.true c.first.ensures c.first-start.ensures v.side
    c.if-layer-from.false r in (
      number_small l c.requires.0.0 c.requires.0.1 c.first.ensures,
      number_small l c.requires.1 c.loop-j-test.true c.first-start.ensures,
      l.roles,
      rw e at (turn_fits _ _ v.put _ c.requires.2 c.loop-j-test.true),
    )

pub loop-j-preserved : goal.loop-j-preserved
loop-j-preserved c =
    let l = c.args.self.now in
    let x = c.args.from in
    let v = c.loop-j.invariant in
    let r : Chosen l c.if-from-eq2.after x.member c.loop-j.j c.if-after.roles = elim c.if-after.branch [
      | then-after w ↦ rw w.if-after.true (w.roles-is ∙ w.roles_after-roles.ensures x.member c.sides-sides.ensures)
      | else-after w ↦ rw w.if-after.false (w.roles-is ∙ w.roles_before-roles.ensures x.member c.sides-sides.ensures)
    ] in
    let e = to_other l x c.requires.0 c.requires.1 c.loop-j-test.true c.first.ensures c.first-start.ensures v.side
    c.if-layer-from.false r in
    record {
      put = elim c.if-roles-ne0.branch [
        | then-roles-ne0 w ↦ rw (w.out-is, w.at-is) (turn_put _ _ v.put (rw e w.put_roles-at.ensures))
        | else-roles-ne0 w ↦ rw (w.out-is, w.at-is)
            (turn_put _ _ v.put (rw (e, w.if-roles-ne0.false, role_bytes_none) (puts_none _ _ (omega arith))))
      ];
      side = v.side;
    }
