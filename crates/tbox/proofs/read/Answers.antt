-- A sheet that is refused, or its counts.
use Rattle.std.proofs.lemmas.Result.{err_from_is_err_and}
use Rattle.tbox.proofs.SheetsRead.{read-refused, read_whole, read-sum}
use Rattle.tbox.proofs.read.Goals as goal

pub returns-in_err-admitted : goal.returns-in_err-admitted
returns-in_err-admitted c =
    let p = err_from_is_err_and c.from_residual.result c.from_residual.ensures.1 in
    rw (p.1, p.2) (record { value = read-refused _ _ c.in_err-admitted.ensures; sum = tt })

pub returns : goal.returns
returns c =
    let a = c.in_ok-admitted.ensures in
    record { value = read_whole _ _ _ a _ c.count_parts.ensures; sum = read-sum _ _ _ a _ c.count_parts.ensures }
