-- A sheet that is refused, a list that is too short, or the bytes of all parts.
use Rattle.std.proofs.Common.{refl, arith}
use Rattle.std.proofs.lemmas.Result.{err_from_is_err_and}
use Rattle.tbox.proofs.SheetsRead.{list-refused, list-short, list-whole}
use Rattle.tbox.proofs.list_marks.Goals as goal

pub returns-in_err-admitted : goal.returns-in_err-admitted
returns-in_err-admitted c =
    let p = err_from_is_err_and c.from_residual.result c.from_residual.ensures.1 in
    rw (p.1, p.2) (list-refused _ _ _ c.in_err-admitted.ensures)

pub returns-then-list-count : goal.returns-then-list-count
returns-then-list-count c = list-short _ _ _ c.in_ok-admitted.ensures _ _ c.of.ensures.0 c.of.ensures.1 (omega arith)

pub returns : goal.returns
returns c = list-whole _ _ _ c.in_ok-admitted.ensures _ _ refl (omega arith) _ c.write_parts.ensures
