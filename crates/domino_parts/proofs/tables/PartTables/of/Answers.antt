use native.Mathlib.Omega.{arith}
use Rattle.domino_conditions.specs.Tables.{view}
use Rattle.domino_conditions.proofs.Rows.{few_sets}
use Rattle.domino_parts.proofs.Making.{made_holds}
use Rattle.domino_parts.proofs.tables.PartTables.of.Goals as goal

pub loop-r-preserved : goal.loop-r-preserved
loop-r-preserved c =
    let b = c.args.base.now in
    let h = few_sets b.size.roles c.loop-r.r b.few (omega (arith, c.role_sets-r-end.ensures)) in
    made_holds (view b) _ _ _ c.loop-r.invariant h c.parts_on.ensures
