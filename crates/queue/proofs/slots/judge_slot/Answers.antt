-- Refusal 14, or what judging its sheet says.
use Prim.Native.Nat.{◌≤◌, ◌<◌}
use mathlib.Core.Path.{◌∙◌}
use mathlib.Core.List.{[]}
use Rattle.std.proofs.Common.{arith}
use Rattle.std.proofs.lemmas.Grind.{common_steps}
use Rattle.queue.proofs.Cases.{sheet-cut, slot_refused, slot_judged}
use Rattle.queue.proofs.slots.judge_slot.Goals as goal

pub returns-in-Some : goal.returns-in-Some
returns-in-Some c =
    let slot = c.args.slot.now in
    let n = c.from-n in
    let found = c.in-Some.ensures.lookup in
    let few : n.result ≤ 765 = grind (arith, common_steps) in
    slot_judged slot _ _ n.result (n.ensures ∙ c.from_le_bytes.ensures) c.in-Some.sheet.now _ few (found.0.2 ∙ sheet-cut slot n.result (omega arith))
    c.judge_alone.ensures

pub returns-in-None : goal.returns-in-None
returns-in-None c =
    let n = c.from-n in
    let many : 765 < n.result = grind (arith, common_steps) in
    slot_refused c.args.slot.now c.args.set.now [] n.result (n.ensures ∙ c.from_le_bytes.ensures) c.number.result many c.number.ensures
