use Rattle.std.proofs.lemmas.Result.{err_from_is_err_and}
use Rattle.interpretation.proofs.DrawAnswers.{draw_refused, draw_whole}
use Rattle.interpretation.proofs.draw_plant.Goals as goal

pub returns-in_err-base : goal.returns-in_err-base
returns-in_err-base c =
    let p = err_from_is_err_and c.from_residual.result c.from_residual.ensures.1 in
    rw (p.1, p.2) (draw_refused _ _ _ _ c.in_err-base.ensures)

pub returns : goal.returns
returns c =
    draw_whole _ _ _ _ c.in_ok-base.ensures _ _ c.judge_set.ensures _ c.parts_of.ensures _ _ c.draw_set.ensures
