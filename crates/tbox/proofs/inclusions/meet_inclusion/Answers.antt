-- A role inclusion, or another record.
use Rattle.std.proofs.Common.{rules, ◌≡◌, refl, arith}
use Rattle.std.proofs.lemmas.Grind.{common_steps}
use Rattle.records.specs.Scan.{record_at_lem}
use Rattle.syntax.proofs.Trees.{inclusion-none}
use Rattle.tbox.proofs.InclusionTruth.{inclusion_said, inclusion_past, closes_none, met_none, met_next, met_all}
use Rattle.tbox.proofs.inclusions.meet_inclusion.Goals as goal

pub returns-in_default : goal.returns-in_default
returns-in_default c =
    let n : (record_at_lem c.args.table.now c.args.i).kind ≡ 33 → ⊥ = grind (arith, common_steps) in
    closes_none _ (inclusion-none _ _ _ refl n) _

pub returns-in_default-2 : goal.returns-in_default-2
returns-in_default-2 c = closes_none _ (inclusion_past _ _ (rw c.in_default.is at c.node.ensures)) _

pub loop-w-init : goal.loop-w-init
loop-w-init c = met_none _ _

pub loop-w-preserved : goal.loop-w-preserved
loop-w-preserved c = met_next c.loop-w.invariant (search rules) _ _ c.inclusion_word.ensures c.meet.ensures

pub returns : goal.returns
returns c = let at = c.in-Some-RoleInclusion in
    rw (inclusion_said _ _ _ _ (rw at.field-0-is at at.ensures.1))
    (rw (c.operand-left.ensures, c.operand-right.ensures) at (met_all c.loop-w.invariant c.loop-w-test.false))
