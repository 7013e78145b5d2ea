use Rattle.std.proofs.Common.{refl, arith}
use Rattle.std.proofs.lemmas.Result.{err_from_is_err_and}
use Rattle.records.proofs.Telling.{sort_some}
use Rattle.records.proofs.Scanning.{both-long, step-unknown, step-cut, step-body, step-none, step-next}
use Rattle.records.proofs.step_of_kind.Goals as goal

pub returns-in_default-clause-fault : goal.returns-in_default-clause-fault
returns-in_default-clause-fault c = step-unknown _ _ _ _ _ c.requires.2 c.in_default.ensures _ refl c.at.ensures.0 c.at.ensures.1

pub returns-then-left-from-clause-fault : goal.returns-then-left-from-clause-fault
returns-then-left-from-clause-fault c =
    step-cut _ _ _ _ _ c.requires.2 c.in-Some.ensures _ (sort_some c.in-Some.shape.sort) (omega arith)
    c.at-then-left-from.ensures.0 c.at-then-left-from.ensures.1

pub returns-in_err-check_body-clause-fault : goal.returns-in_err-check_body-clause-fault
returns-in_err-check_body-clause-fault c =
    let p = err_from_is_err_and c.from_residual.result c.from_residual.ensures.1 in
    rw (p.1, p.2)
    (step-body _ _ _ _ _ c.requires.2 c.in-Some.ensures (sort_some c.in-Some.shape.sort) (omega arith) _ _ c.body_byte-a.ensures c.body_byte-b.ensures _
    c.in_err-check_body.ensures.fault)

pub push-requires : goal.push-requires
push-requires c = rw (c.in_ok-check_body.ensures.named, both-long _ _ _ _ _) c.requires.0

pub returns-clause-fault : goal.returns-clause-fault
returns-clause-fault c =
    step-none _ _ _ _ _ c.requires.2 c.in-Some.ensures (sort_some c.in-Some.shape.sort) (omega arith) _ _ c.body_byte-a.ensures c.body_byte-b.ensures
    c.in_ok-check_body.ensures.fault

pub returns-clause-state : goal.returns-clause-state
returns-clause-state c =
    step-next _ _ _ _ _ c.requires.2 c.in-Some.ensures (sort_some c.in-Some.shape.sort) (omega arith) _ _ c.body_byte-a.ensures c.body_byte-b.ensures
    _ _ _ _ _ c.in-Some-node_of.ensures c.in_ok-check_body.ensures.named c.vacuous_of-vacuous.ensures c.push.ensures c.after.ensures.at
    c.after.ensures.names c.after.ensures.roles
