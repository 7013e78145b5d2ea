-- The line of a slot with the totals after it, or the last line.
use mathlib.Core.Path.{refl, sym, ap, ◌∙◌}
use Rattle.queue.specs.Queue.{Sums, slot_of}
use Rattle.queue.specs.Lines.{slot_line}
use Rattle.queue.proofs.Stepping.{judged-small, takes_early, said_last, step_last, step_slot}
use Rattle.queue.proofs.Fronts.{takes-long}
use Rattle.queue.proofs.steps.step.Goals as goal

pub slice_bounds-judge_slot-end : goal.slice_bounds-judge_slot-end
slice_bounds-judge_slot-end c = takes-long c.args.t _ (sym c.takes.ensures ∙ c.if-takes.true)

pub add-requires : goal.add-requires
add-requires c =
    (takes_early c.args.t _ (sym c.takes.ensures ∙ c.if-takes.true), judged-small _ _ _ _ c.judge_slot-answer.ensures)

pub returns-then-takes : goal.returns-then-takes
unfolding slot_of
returns-then-takes c =
    let whole = sym c.takes.ensures ∙ c.if-takes.true in
    let line = c.slot_line.ensures ∙ ap (λ (s : Sums). slot_line s.sheets c.judge_slot-answer.result) c.t.view_is in
    step_slot c.args.t _ _ _ _ _ _ whole c.judge_slot-answer.ensures refl line c.add.ensures

pub returns : goal.returns
returns c =
    let none = sym c.takes.ensures ∙ c.if-takes.false in
    let t = c.args.t in
    let line = said_last t _ _ _ c.then_some.ensures c.ends.ensures c.last_line.ensures.totals c.last_line.ensures.cut_off in
    step_last t _ _ _ none refl line
