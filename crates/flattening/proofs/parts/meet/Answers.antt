-- Two parts where the filler needs a fresh name; else one, or none where a part alike is there.
use Rattle.std.proofs.Common.{refl, ap, ◌∙◌, Ok, Err}
use Rattle.syntax.specs.Flatten.{atom}
use Rattle.flattening.specs.Trees.{nf_of}
use Rattle.flattening.specs.Adding.{MeetsAt}
use Rattle.flattening.specs.declared.trees.Tree.{Tree}
use Rattle.flattening.proofs.PartLists.{at_err, met_fresh, met_over, met_shared, met_new}
use Rattle.flattening.proofs.parts.meet.Goals as goal

pub returns-in_err-try_push-in-None : goal.returns-in_err-try_push-in-None
returns-in_err-try_push-in-None g c =
    met_over _ _ _ _ _ _ _ (c.in-None.ensures ∙ ap (λ (t : Tree). atom (nf_of c.args.odd t)) c.operand.ensures) c.from_residual.ensures.0 c.in_err-try_push-in-None.ensures.full

pub returns-in_err-try_push-in-None-2 : goal.returns-in_err-try_push-in-None-2
returns-in_err-try_push-in-None-2 g c =
    at_err (MeetsAt g.row.N c.args.tree c.args.odd c.args.quantifier c.args.filler c.args.parts.now.items c.try_push-in-None.new.self.items)
    c.from_residual-in_err-try_push-in-None-2.result c.from_residual-in_err-try_push-in-None-2.ensures.0
    (λ e. met_fresh _ _ _ _ _ _ _ c.try_push-in-None.new.self.items (Err e) (c.in-None.ensures ∙ ap (λ (t : Tree). atom (nf_of c.args.odd t)) c.operand.ensures)
    c.in_ok-try_push-in-None.ensures.ok tt c.in_err-try_push-in-None-2.ensures.full)

pub returns-in_ok-try_push-in-None-2 : goal.returns-in_ok-try_push-in-None-2
returns-in_ok-try_push-in-None-2 g c =
    met_fresh _ _ _ _ _ g.row.N _ _ (Ok tt) (c.in-None.ensures ∙ ap (λ (t : Tree). atom (nf_of c.args.odd t)) c.operand.ensures)
    c.in_ok-try_push-in-None.ensures.ok c.in_ok-try_push-in-None-2.ensures.ok tt

pub returns-in_err-try_push-in-None-first_alike : goal.returns-in_err-try_push-in-None-first_alike
returns-in_err-try_push-in-None-first_alike g c =
    at_err (MeetsAt g.row.N c.args.tree c.args.odd c.args.quantifier c.args.filler c.args.parts.now.items c.try_push-in-None-first_alike.new.self.items)
    c.from_residual-in_err-try_push-in-None-first_alike.result c.from_residual-in_err-try_push-in-None-first_alike.ensures.0
    (λ e. met_new _ _ _ _ _ _ _ c.try_push-in-None-first_alike.new.self.items (Err e) (c.in-Some.ensures ∙ ap (λ (t : Tree). atom (nf_of c.args.odd t)) c.operand.ensures)
    (rw (c.restricted_role-role.ensures.1, c.restricted_role-role.ensures.0, c.as_slice.ensures.value) at c.in-None-first_alike.ensures)
    tt c.in_err-try_push-in-None-first_alike.ensures.full)

pub returns-in_ok-try_push-in-None-first_alike : goal.returns-in_ok-try_push-in-None-first_alike
returns-in_ok-try_push-in-None-first_alike g c =
    met_new _ _ _ _ _ g.row.N _ _ (Ok tt) (c.in-Some.ensures ∙ ap (λ (t : Tree). atom (nf_of c.args.odd t)) c.operand.ensures)
    (rw (c.restricted_role-role.ensures.1, c.restricted_role-role.ensures.0, c.as_slice.ensures.value) at c.in-None-first_alike.ensures)
    c.in_ok-try_push-in-None-first_alike.ensures.ok tt

pub returns-in-Some-first_alike : goal.returns-in-Some-first_alike
returns-in-Some-first_alike g c =
    met_shared _ _ _ _ _ _ _ _ (c.in-Some.ensures ∙ ap (λ (t : Tree). atom (nf_of c.args.odd t)) c.operand.ensures)
    (rw (c.restricted_role-role.ensures.1, c.restricted_role-role.ensures.0, c.as_slice.ensures.value) at c.in-Some-first_alike.ensures) refl
