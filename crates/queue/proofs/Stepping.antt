-- From what a step's calls answer to what the step does, and from a step to the next.
use Prim.Native.Nat.{ℕ, ◌+◌, ◌≤◌, ◌<◌}
use mathlib.Core.Path.{◌≡◌, refl, sym, ap, subst, ◌∙◌}
use mathlib.Core.Bool.{Bool, true, false, and-eq-true_iff, cond}
use mathlib.Core.List.{List}
use lib.Dec.{ltb}
use borrow.Author.Tests.{ltb-true}
use Rattle.std.specs.Prelude.{Option, Some, None, IfSome, IfNone}
use Rattle.std.specs.Bool.{then_some}
use Rattle.output.specs.Text.{text}
use Rattle.queue.specs.declared.slots.SlotAnswer.{SlotAnswer}
use Rattle.queue.specs.declared.steps.Stepped.{Stepped}
use Rattle.queue.specs.declared.Turned.{Turned}
use Rattle.queue.specs.Queue.{Sums, slot_first, slot_of, slot_says, end_first, survivors_in}
use Rattle.queue.specs.Lines.{slot_line, totals_line, last_line, most}
use Rattle.queue.specs.Steps.{added, takes, step_totals, step_next, step_prints, step_leaves, Reached, JudgesSlot, Steps, Turns}
use Rattle.queue.proofs.Alone.{slot_survivors}
use Rattle.queue.proofs.Adding.{reached-added}

-- what a slot adds is small
pub judged-small : (slot words left : List ℕ) (a : SlotAnswer) → JudgesSlot slot words left a → survivors_in a ≤ 262144
judged-small slot words left a judged = subst (λ (x : SlotAnswer). survivors_in x ≤ 262144) (sym judged.answer) (slot_survivors slot)

-- the line of a queue that ended, or of one that was cut off
pub said_last : (t : Sums) (ended at_end : Bool) (line : List ℕ) {o : Option Sums} → o ≡ then_some ended t → ended ≡ at_end
    → IfSome o (λ u. line ≡ totals_line u) → IfNone o (line ≡ text "refused 15\n") → line ≡ last_line at_end t
unfolding last_line
said_last t ended at_end line e f whole cut = rw (← f) (go ended (rw e at whole) (rw e at cut))
  where
    go : (b : Bool) → IfSome (then_some b t) (λ u. line ≡ totals_line u) → IfNone (then_some b t) (line ≡ text "refused 15\n")
        → line ≡ cond b (totals_line t) (text "refused 15\n")
    go true whole cut = whole
    go false whole cut = cut

module _ (t : Sums) (input : List ℕ) where
  pub takes_early : takes t input ≡ true → t.sheets < most
  unfolding takes
  takes_early e = ltb-true t.sheets most ((and-eq-true_iff (ltb t.sheets most) (slot_first input)).0 e).0

  pub takes_adds : takes t input ≡ true → step_totals t input ≡ added t (slot_says (slot_of input))
  unfolding step_totals
  takes_adds e = rw e refl

  pub goes_on : takes t input ≡ true → step_next t input ≡ Some (added t (slot_says (slot_of input)))
  unfolding step_next
  goes_on e = rw (e, takes_adds e) refl

  -- the last step
  pub step_last : (words : List ℕ) (r : Stepped) → takes t input ≡ false → r.next ≡ None → r.line.items ≡ last_line (end_first input) t
      → Steps t input words words r
  unfolding step_next step_prints step_leaves
  step_last words r e none says = record { next = rw (e, none) refl; line = rw e says; set = rw e refl }

  -- a slot's step
  pub step_slot : (words left : List ℕ) (r : Stepped) (a : SlotAnswer) (u : Sums) → takes t input ≡ true
      → JudgesSlot (slot_of input) words left a → r.next ≡ Some u → r.line.items ≡ slot_line t.sheets a → u ≡ added t a
      → Steps t input words left r
  unfolding step_prints step_leaves
  step_slot words left r a u e judged next says more =
      record {
        next = next ∙ ap Some (more ∙ ap (added t) judged.answer) ∙ sym (goes_on e);
        line = rw e (says ∙ ap (slot_line t.sheets) judged.answer);
        set = rw e judged.set;
      }

-- what a test lets through
passed : {A : Type 0} (b : Bool) (o : Option A) (u : A) → cond b o None ≡ Some u → o ≡ Some u
passed true o u e = e
passed false o u e = cc

pub chosen : {A : Type 0} (b : Bool) (v u : A) → cond b (Some v) None ≡ Some u → (b ≡ true) × (v ≡ u)
chosen true v u e = (refl, cc)
chosen false v u e = cc

-- a turn that has more to come took a slot, and what it leads to is reached
module _ (t : Sums) (words left : List ℕ) (r : Turned) (reached : Reached t) where
  pub turned : (input : Option (List ℕ)) (u : Sums) → Turns t input words left r → r.next ≡ Some u
      → (Reached u) × (u.sheets ≡ t.sheets + 1)
  unfolding step_next
  turned None u turn g = let e = passed r.printed.whole None u (sym turn.next ∙ g) in cc
  turned (Some piece) u turn g =
      let next = passed r.printed.whole (step_next t piece) u (sym turn.next ∙ g) in
      let taken = chosen (takes t piece) (step_totals t piece) u next in
      let e : u ≡ added t (slot_says (slot_of piece)) = sym taken.1 ∙ takes_adds t piece taken.0 in (
        subst Reached (sym e) (reached-added t (slot_of piece) reached (takes_early t piece taken.0)),
        ap (λ (v : Sums). v.sheets) e ∙ unfold added in refl,
      )
