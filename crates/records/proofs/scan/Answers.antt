use Rattle.std.proofs.Common.{arith, sym}
use Rattle.std.proofs.lemmas.Result.{err_from_is_err_and}
use borrow.Author.Tests.{eqb-true, eqb-false}
use Rattle.records.proofs.Scanning.{running_start, running_full, running_fault, running_next, running_end, later}
use Rattle.records.proofs.scan.Goals as goal

pub loop-p-init : goal.loop-p-init
loop-p-init c = let d = c.default-p.ensures in running_start _ _ _ c.clear.ensures d.0 d.1.0 d.1.1

pub returns-then-is_full : goal.returns-then-is_full
returns-then-is_full c =
    running_full _ _ _ c.loop-p.invariant _ c.loop-p-test.true (eqb-true _ _ (sym c.if-is_full.ensures)) c.at.ensures.0 c.at.ensures.1

pub returns-in_err-p : goal.returns-in_err-p
returns-in_err-p c =
    let p = err_from_is_err_and c.from_residual.result c.from_residual.ensures.1 in
    rw (p.1, p.2)
    (running_fault _ _ _ c.loop-p.invariant _ c.in_err-p.ensures.fault c.loop-p-test.true (eqb-false _ _ (sym c.if-is_full.ensures)))

pub loop-p-smaller : goal.loop-p-smaller
loop-p-smaller c = omega (arith, later _ _ _ _ _ c.in_ok-p.ensures.state)

pub loop-p-preserved : goal.loop-p-preserved
loop-p-preserved c =
    running_next _ _ _ c.loop-p.invariant _ _ c.in_ok-p.ensures.fault c.in_ok-p.ensures.state c.loop-p-test.true
    (eqb-false _ _ (sym c.if-is_full.ensures))

pub returns : goal.returns
returns c = running_end _ _ _ c.loop-p.invariant c.loop-p-test.false
