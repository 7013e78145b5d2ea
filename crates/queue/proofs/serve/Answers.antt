-- Each turn that goes on comes to totals that are reached, with a sheet more.
use native.Mathlib.Omega.{arith}
use Rattle.queue.proofs.Adding.{reached-small}
use Rattle.queue.proofs.Stepping.{turned}
use Rattle.queue.proofs.serve.Goals as goal

pub loop-next-smaller : goal.loop-next-smaller
loop-next-smaller g c =
    let next = turned _ _ _ _ c.loop-next.invariant _ _ c.turn-turned.ensures c.in-Some.is in
    let e = next.1 in
    let s = (reached-small _ next.0).sheets in
    omega arith

pub loop-next-preserved : goal.loop-next-preserved
loop-next-preserved g c =
    (turned _ _ _ _ c.loop-next.invariant _ _ c.turn-turned.ensures c.in-Some.is).0
