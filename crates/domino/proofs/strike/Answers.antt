use native.Mathlib.Omega.{arith}
use mathlib.Core.Path.{ap}
use Rattle.refusals.specs.Numbers.{number}
use Rattle.std.proofs.lemmas.Result.{err_from_is_err_and}
use Rattle.domino.proofs.Answers.{strike-refused, strike-past, strike-whole}
use Rattle.domino.proofs.strike.Goals as goal

pub returns-in_err-base : goal.returns-in_err-base
returns-in_err-base c =
    let p = err_from_is_err_and c.from_residual.result c.from_residual.ensures.1 in
    rw (p.1, p.2) (strike-refused _ _ _ c.in_err-base.ensures c.args.number)

pub returns-then-number-dominoes : goal.returns-then-number-dominoes
returns-then-number-dominoes c =
    strike-past _ _ _ c.in_ok-base.ensures c.args.number _ (ap number c.of.ensures.0) c.of.ensures.1
    (omega (arith, c.dominoes.ensures, c.if-number-dominoes.true))

pub returns : goal.returns
returns c =
    strike-whole _ _ _ c.in_ok-base.ensures _ c.args.number _
    (omega (arith, c.dominoes.ensures, c.if-number-dominoes.false)) c.strike_set-verdict.ensures
