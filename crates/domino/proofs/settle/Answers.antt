use Rattle.std.proofs.lemmas.Result.{err_from_is_err_and}
use Rattle.domino.proofs.Answers.{settle-refused, settle-whole}
use Rattle.domino.proofs.settle.Goals as goal

pub returns-in_err-base : goal.returns-in_err-base
returns-in_err-base c =
    let p = err_from_is_err_and c.from_residual.result c.from_residual.ensures.1 in
    rw (p.1, p.2) (settle-refused _ _ _ c.in_err-base.ensures)

pub returns : goal.returns
returns c = settle-whole _ _ _ c.in_ok-base.ensures _ _ c.settle_set.ensures
