-- Laws of lists put into a buffer one after another: the first j of n lists are put, the next fits, and it is put too.
use Prim.Native.Nat.{ℕ, ◌+◌, ◌≤◌, ◌<◌}
use native.Mathlib.Omega.{arith}
use mathlib.Core.Path.{◌≡◌, subst}
use mathlib.Core.List.{List}
use Rattle.output.specs.Output.{Puts}
use Rattle.output.proofs.Putting.{puts_then, puts_length}
use Rattle.drawings.specs.Laid.{in_turn}
use Rattle.drawings.proofs.InTurn.{turn_next, turn_within}
use Rattle.drawing_layers.specs.Records.{Fits}
use Rattle.drawing_layers.proofs.RoleRecords.{puts_none}

pub turn_none : (n : ℕ) (f : ℕ → List ℕ) {at : ℕ} {before : List ℕ} → Fits (in_turn n f) at before → Puts (in_turn 0 f) at before before at
unfolding in_turn
turn_none n f h = puts_none _ _ (omega arith)

module _ (f : ℕ → List ℕ) (j : ℕ) {at m : ℕ} {before mid : List ℕ} (p : Puts (in_turn j f) at before mid m) where
  pub turn_fits : (n : ℕ) → Fits (in_turn n f) at before → j < n → Fits (f j) m mid
  turn_fits n h l = omega (arith, p.answer, puts_length p, turn_within n j f l)

  pub turn_put : {r : ℕ} {after : List ℕ} → Puts (f j) m mid after r → Puts (in_turn (j + 1) f) at before after r
  turn_put q = rw turn_next (puts_then p q)

  pub turn_all : (n : ℕ) → j ≤ n → n ≤ j → Puts (in_turn n f) at before mid m
  turn_all n h k = let e : j ≡ n = omega arith in subst (λ (x : ℕ). Puts (in_turn x f) at before mid m) e p
