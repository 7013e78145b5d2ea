use Rattle.std.proofs.Common.{sym, ◌∙◌}
use Rattle.std.proofs.lemmas.Result.{err_from_is_err_and}
use Rattle.records.proofs.Telling.{tells-number, tells-one, tells_two, tells_empty, both-empty}
use Rattle.records.proofs.body.check_body.Goals as goal

pub returns-in_err-placed-clause-fault : goal.returns-in_err-placed-clause-fault
returns-in_err-placed-clause-fault c =
    let p = err_from_is_err_and c.from_residual.result c.from_residual.ensures.1 in
    rw (p.1, p.2) (tells-number _ _ _ _ _ _ (rw c.number_fault.ensures at c.in_err-placed.ensures))

pub returns-in_err-placed-2-clause-fault : goal.returns-in_err-placed-2-clause-fault
returns-in_err-placed-2-clause-fault c =
    let p = err_from_is_err_and c.from_residual-in_err-placed-2.result c.from_residual-in_err-placed-2.ensures.1 in
    rw (p.1, p.2)
    (tells-one _ _ _ _ _ (sym c.number_fault.ensures ∙ c.in_ok-placed.ensures) _ (rw c.reference_fault.ensures at c.in_err-placed-2.ensures))

pub returns-in_err-placed-3-clause-fault : goal.returns-in_err-placed-3-clause-fault
returns-in_err-placed-3-clause-fault c =
    let p = err_from_is_err_and c.from_residual-in_err-placed-3.result c.from_residual-in_err-placed-3.ensures.1 in
    rw (p.1, p.2)
    (tells_two _ _ _ _ _ (sym c.number_fault.ensures ∙ c.in_ok-placed.ensures) (sym c.reference_fault.ensures ∙ c.in_ok-placed-2.ensures) _
    (rw (c.reference_fault-2.ensures, c.name.ensures) at c.in_err-placed-3.ensures))

pub returns-clause-fault : goal.returns-clause-fault
returns-clause-fault c =
    tells_empty _ _ _ _ _ (sym c.number_fault.ensures ∙ c.in_ok-placed.ensures) (sym c.reference_fault.ensures ∙ c.in_ok-placed-2.ensures) _
    (rw c.name.ensures at (sym c.reference_fault-2.ensures ∙ c.in_ok-placed-3.ensures))
    (rw (c.empty_fault.ensures, c.name-2.ensures, c.name.ensures, both-empty _ _ _ _ _ _ _) at c.placed-4.ensures)
