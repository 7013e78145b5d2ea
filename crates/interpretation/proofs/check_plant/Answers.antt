use mathlib.Core.Path.{◌∙◌}
use Rattle.std.proofs.lemmas.Result.{err_from_is_err_and}
use Rattle.interpretation.proofs.Answers.{read_sound, check_refused, file_refused, check_whole}
use Rattle.interpretation.proofs.check_plant.Goals as goal

pub returns-in_err-base : goal.returns-in_err-base
returns-in_err-base c =
    let p = err_from_is_err_and c.from_residual.result c.from_residual.ensures.1 in
    rw (p.1, p.2) (check_refused _ _ _ _ c.in_err-base.ensures)

pub returns-in_err-count : goal.returns-in_err-count
returns-in_err-count c =
    let p = err_from_is_err_and c.from_residual-in_err-count.result c.from_residual-in_err-count.ensures.1 in
    let q = c.from.ensures ∙ c.parts_of-plain.ensures in
    rw (p.1, p.2) (file_refused _ _ _ _ c.in_ok-base.ensures _ c.read_individuals.new.names _ q c.in_err-count.ensures)

pub invariant_of-drawing : goal.invariant_of-drawing
invariant_of-drawing c =
    let r = c.in_ok-count.ensures in
    record { sound = read_sound _ _ (c.from.ensures ∙ c.parts_of-plain.ensures) _ r.0; read = r.3 }

pub returns : goal.returns
returns c =
    let f = read_sound _ _ (c.from.ensures ∙ c.parts_of-plain.ensures) _ c.in_ok-count.ensures.0 in
    check_whole _ _ _ _ c.in_ok-base.ensures _ _ f c.check.ensures.finding c.check.ensures.set
