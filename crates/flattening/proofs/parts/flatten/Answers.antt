-- The invariant: the parts before j have had their turn in the queue. There are as many as there is room for, at most.
use Rattle.std.proofs.Common.{List, get_or, ap, arith}
use Rattle.flattening.specs.declared.parts.Origin.{Origin}
use Rattle.flattening.proofs.QueueParts.{flattens_over, too-many-names, too_many_axioms, turning_start, turning_next, turning_over, turning_end}
use Rattle.flattening.proofs.parts.flatten.Goals as goal

pub returns-in_err-parts : goal.returns-in_err-parts
returns-in_err-parts g c = flattens_over _ _ _ c.from_residual.ensures.0 (too-many-names _ _ c.in_err-parts.ensures)

pub returns-in_err-axiom_parts : goal.returns-in_err-axiom_parts
returns-in_err-axiom_parts g c =
    flattens_over _ _ _ c.from_residual-in_err-axiom_parts.ensures.0 (too_many_axioms _ _ _ (c.in_ok-parts.ensures _) c.in_err-axiom_parts.ensures)

pub loop-j-init : goal.loop-j-init
loop-j-init g c = turning_start _ _ _ (c.in_ok-parts.ensures _) _ c.in_ok-axiom_parts.ensures

pub returns-in_err-turn : goal.returns-in_err-turn
returns-in_err-turn g c =
    flattens_over _ _ _ c.from_residual-in_err-turn.ensures.0
    (turning_over _ _ c.loop-j.parts.items _ c.loop-j.invariant _ _ (omega arith) (ap (λ (xs : List Origin). get_or xs c.loop-j.j _) c.deref.ensures.0) (c.in_err-turn.ensures _))

pub loop-j-preserved : goal.loop-j-preserved
loop-j-preserved g c =
    turning_next _ _ c.loop-j.parts.items _ c.loop-j.invariant _ _ (omega arith) (ap (λ (xs : List Origin). get_or xs c.loop-j.j _) c.deref.ensures.0) _ (c.in_ok-turn.ensures _)

pub returns : goal.returns
returns g c = turning_end _ _ _ _ c.loop-j.invariant (omega arith)
