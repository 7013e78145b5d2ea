-- A knowledge base without role inclusions means what it meant before 02, N8: its models are those of its axioms, and condition 7 asks
-- nothing, so that the initial set and the first failing condition are those of 01's six conditions.
use Prim.Native.Nat.{ℕ}
use mathlib.Core.Path.{◌≡◌, refl}
use mathlib.Core.Bool.{Bool, true, false, ◌&&◌, cond}
use mathlib.Core.List.{[]}
use Rattle.syntax.specs.Truth.{rbox_on}
use Rattle.syntax.specs.Reading.{Kb}
use Rattle.semantics.specs.Interpretations.{Interpretation, satisfies_tbox, satisfies_rbox, models}
use Rattle.semantics.specs.Dominoes.{Dominoes}
use Rattle.semantics.specs.Conditions.{kb, ex, uni, rbox, delex, deluni, sym, defect, initially}
use Rattle.semantics.specs.Views.{kb_view}
use Rattle.semantics.proofs.Defects.{defect_cases}

all_true : (x : Bool) → (x && true) ≡ x
all_true true = refl
all_true false = refl

module _ (k : Kb) (none : k.inclusions ≡ []) where
  pub plain_models : (I : Interpretation) → models I k ≡ satisfies_tbox I k.axioms
  unfolding models satisfies_rbox
  plain_models I = rw none (all_true (satisfies_tbox I k.axioms))

  -- every role set is closed
  pub plain_rbox : (R : ℕ) → rbox (kb_view k) R ≡ true
  unfolding rbox rbox_on
  plain_rbox R = rw none refl

  pub plain_initially : (A R B : ℕ) → initially (kb_view k) A R B ≡ (kb (kb_view k) A && (ex (kb_view k) A R B && uni (kb_view k) A R B))
  unfolding initially
  plain_initially A R B = rw (plain_rbox R, all_true (uni (kb_view k) A R B)) refl

  pub plain_defect : (D : Dominoes) (A R B : ℕ)
      → defect (kb_view k) D A R B ≡ cond (kb (kb_view k) A) (cond (ex (kb_view k) A R B) (cond (uni (kb_view k) A R B)
      (cond (delex (kb_view k) D A) (cond (deluni (kb_view k) D A) (cond (sym (kb_view k) D A R B) 0 6) 5) 4) 3) 2) 1
  plain_defect D A R B = rw (defect_cases (kb_view k) D A R B, plain_rbox R) refl
