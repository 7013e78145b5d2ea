-- Turns that read the input one piece after another hand to standard output what is printed for it.
use Prim.Native.Nat.{ℕ, zero, suc, ◌+◌}
use mathlib.Core.Path.{◌≡◌, refl, sym, ap, ◌∙◌}
use mathlib.Core.Bool.{Bool, true, false, cond}
use mathlib.Core.List.{List, [], ◌∷◌}
use lib.ListN.{take, drop}
use native.Mathlib.Omega.{arith}
use Rattle.std.specs.Prelude.{Some, None}
use Rattle.console.specs.Output.{handed}
use Rattle.queue.specs.declared.Turned.{Turned}
use Rattle.queue.specs.Queue.{Sums, kind_of, totals_of}
use Rattle.queue.specs.Lines.{most, printed}
use Rattle.queue.specs.Steps.{added, takes, step_totals, step_next, step_prints, steps_print, wanted, TurnOn, TurnsOn, turns_print}
use Rattle.queue.proofs.Fronts.{takes_front, piece-long, step_totals_front, step_prints_front}
use Rattle.queue.proofs.Stepping.{chosen, takes_early, takes_adds}
use Rattle.queue.proofs.Running.{step-whole, steps_print_lem}

-- a turn does as the step on all of the input
module _ (t : Sums) (input : List ℕ) (r : Turned) (on : TurnOn t input r) where
  on_next : r.next ≡ step_next t input
  unfolding step_next
  on_next =
      on.turn.next ∙ ap (λ (b : Bool). cond b (step_next t (take (wanted t.sheets (kind_of input)) input)) None) on.whole
      ∙ rw (takes_front t input, step_totals_front t input)

  on_prints : handed r.printed ≡ step_prints t input
  on_prints = on.turn.line ∙ step_prints_front t input

  -- so it is the last if nothing is taken
  on-last : r.next ≡ None → takes t input ≡ false
  unfolding step_next
  on-last e = ended (takes t input) (sym on_next ∙ e)
    where
      ended : (b : Bool) → cond b (Some (step_totals t input)) None ≡ None → b ≡ false
      ended false f = refl
      ended true f = cc

  -- and else leads to the totals with one answer more
  on-more : (u : Sums) → r.next ≡ Some u → (takes t input ≡ true) × (step_totals t input ≡ u)
  unfolding step_next
  on-more u e = chosen (takes t input) (step_totals t input) u (sym on_next ∙ e)

-- with so many slots more that may come
turns_steps : (more : ℕ) (t : Sums) (input : List ℕ) (rs : List Turned) → t.sheets + more ≡ most → TurnsOn t input rs
    → turns_print rs ≡ steps_print (suc more) t input
unfolding TurnsOn turns_print
turns_steps more t input [] h on = absurd on
turns_steps more t input (r ∷ []) h on =
    let e : takes t input ≡ false = on-last t input r on.0 on.1 in
    rw (on_prints t input r on.0) (sym (step-whole more t input ∙ rw e refl))
turns_steps zero t input (r ∷ s ∷ rs) h on =
    let e = on-more t input r on.0 on.1.0 on.1.1 in
    absurd (omega (arith, takes_early t input e.0, h))
turns_steps (suc more) t input (r ∷ s ∷ rs) h on =
    let u = on.1.0 in
    let e = on-more t input r on.0 u on.1.1 in
    let n : u.sheets ≡ t.sheets + 1 = ap (λ (v : Sums). v.sheets) (sym e.1 ∙ takes_adds t input e.0) ∙ unfold added in refl in
    let next = turns_steps more u (drop 768 input) (s ∷ rs) (omega (arith, n, h)) on.1.2 in
    rw (on_prints t input r on.0, next, ← e.1) (sym (step-whole (suc more) t input ∙ rw (e.0, piece-long t input e.0) refl))

-- from the start, whatever the words and the buffers held
pub turns_print_lem : (input : List ℕ) (rs : List Turned) → TurnsOn (totals_of []) input rs → turns_print rs ≡ printed input
turns_print_lem input rs on = turns_steps most (totals_of []) input rs (unfold totals_of in refl) on ∙ steps_print_lem input
