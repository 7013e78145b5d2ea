use Rattle.std.proofs.Common.{refl, sym, ◌∙◌}
use Rattle.std.proofs.lemmas.Result.{err_from_is_err_and}
use Rattle.records.specs.Nodes.{entry_of}
use Rattle.refusals.proofs.Numbering.{number_not_zero}
use Rattle.records.proofs.Faults.{reference-sort, reference-other, reference-none, reference-past}
use Rattle.records.proofs.Telling.{sort_some}
use Rattle.records.proofs.body.reference_fault.Goals as goal

pub returns-in_default : goal.returns-in_default
returns-in_default c = rw c.in_default.is (reference-none _ 0 _ refl)

pub returns-in_default-record : goal.returns-in_default-record
returns-in_default-record c = rw c.in-Some.is (reference-past _ _ _ (sort_some c.in-Some.sort) c.in_default-record.ensures)

pub returns-in_err-sort_fault : goal.returns-in_err-sort_fault
unfolding entry_of
returns-in_err-sort_fault c =
    let p = err_from_is_err_and c.from_residual.result c.from_residual.ensures.1 in
    let f = rw c.sort-found.ensures at c.in_err-sort_fault.ensures in
    rw (c.in-Some.is, p.1, p.2)
    (f ∙ reference-other _ _ _ (entry_of c.in-Some-record.record) (sort_some c.in-Some.sort) c.in-Some-record.ensures.0 c.in-Some-record.ensures.1 (λ z. number_not_zero _ (f ∙ z)))

pub returns : goal.returns
unfolding entry_of
returns c =
    rw c.in-Some.is
    (c.again_fault.ensures
    ∙ reference-sort _ _ _ (entry_of c.in-Some-record.record) (sort_some c.in-Some.sort) c.in-Some-record.ensures.0 c.in-Some-record.ensures.1
    (sym (rw c.sort-found.ensures at c.in_ok-sort_fault.ensures)))
