use Rattle.std.proofs.lemmas.Result.{err_from_is_err_and}
use Rattle.domino.proofs.Answers.{for_refused, for_short}
use Rattle.domino.proofs.load_for.Goals as goal

pub returns-in_err-base : goal.returns-in_err-base
returns-in_err-base c =
    let p = err_from_is_err_and c.from_residual.result c.from_residual.ensures.1 in
    rw (p.1, p.2) (for_refused _ c.args.words _ c.in_err-base.ensures)

pub returns-then-words-words_for : goal.returns-then-words-words_for
returns-then-words-words_for c =
    let l = c.in_ok-base.ensures in
    rw (c.of.ensures.0, c.of.ensures.1) (for_short _ c.args.words _ l.0 l.1 l.2 _ c.words_for.ensures c.if-words-words_for.true)
