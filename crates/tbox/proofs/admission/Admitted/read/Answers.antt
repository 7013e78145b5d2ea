-- A sheet is refused as the scan refuses it, or with 9 where parts and roles are above the limit; else it is read.
use Rattle.std.proofs.Common.{arith}
use Rattle.std.proofs.lemmas.Result.{err_from_is_err_and}
use Rattle.tbox.proofs.PartLists.{made-length}
use Rattle.tbox.proofs.SheetsRead.{scan-refused, scanned_few, parts_over, parts_fit}
use Rattle.tbox.proofs.admission.Admitted.read.Goals as goal

pub returns-in_err-scanned : goal.returns-in_err-scanned
returns-in_err-scanned c =
    let p = err_from_is_err_and c.from_residual.result c.from_residual.ensures.1 in
    rw (p.1, p.2) (scan-refused _ _ c.scan.result _ c.scan.ensures c.in_err-scanned.was)

pub returns-in_default : goal.returns-in_default
returns-in_default c = rw (c.of.ensures.0, c.of.ensures.1) (parts_over _ _ _ c.in_ok-scanned.ensures (omega (arith, c.in_default.ensures)))

pub overflow_add-len : goal.overflow_add-len
overflow_add-len c = omega (arith, scanned_few _ _ _ c.in_ok-scanned.ensures)

pub returns-then-len-scanned-gt-LIMIT : goal.returns-then-len-scanned-gt-LIMIT
returns-then-len-scanned-gt-LIMIT c =
    let over = c.of-then-len-scanned-gt-LIMIT in
    rw (over.ensures.0, over.ensures.1) (parts_over _ _ _ c.in_ok-scanned.ensures (omega (arith, made-length _ _ _ c.in-Ok.ensures)))

pub invariant_of-result : goal.invariant_of-result
invariant_of-result c = record { small = rw c.as_slice.ensures.value (omega arith); few = scanned_few _ _ _ c.in_ok-scanned.ensures }

pub returns : goal.returns
returns c = record { records = (_, c.in_ok-scanned.ensures); reading = parts_fit _ _ _ c.in_ok-scanned.ensures (omega (arith, made-length _ _ _ c.in-Ok.ensures)); parts = rw c.as_slice.ensures.value c.in-Ok.ensures }
