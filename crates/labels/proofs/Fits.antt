-- What fits: its role set is closed, and on a closed role set the conditions 2 and 3 decide.
use mathlib.Core.Path.{◌≡◌, sym as flip, ◌∙◌}
use mathlib.Core.Bool.{true, ◌&&◌, and_assoc}
use Prim.Native.Nat.{ℕ}
use Rattle.bitset.proofs.Facts.{and_l, and_r_lem, and_i, and_in}
use Rattle.semantics.specs.Dominoes.{inverse}
use Rattle.semantics.specs.Conditions.{View, ex, uni, rbox}
use Rattle.labels.specs.Labels.{fits, fits_both}

module _ (v : View) where
  fits_is : (A R B : ℕ) → fits v A R B ≡ ((ex v A R B && uni v A R B) && v.closed R)
  unfolding fits rbox
  fits_is A R B = flip (and_assoc (ex v A R B) (uni v A R B) (v.closed R))

  pub fits_where_closed : (A R B : ℕ) → v.closed R ≡ true → (ex v A R B && uni v A R B) ≡ fits v A R B
  fits_where_closed A R B t = flip (fits_is A R B ∙ and_in (ex v A R B && uni v A R B) (v.closed R) t)

  pub fits_closed : (A R B : ℕ) → fits v A R B ≡ true → v.closed R ≡ true
  fits_closed A R B e = and_r_lem (ex v A R B && uni v A R B) _ (flip (fits_is A R B) ∙ e)

  -- what fits both ways has a role set that is closed both ways
  pub both_closed : (A R B : ℕ) → fits_both v A R B ≡ true → (v.closed R && v.closed (inverse v.roles R)) ≡ true
  unfolding fits_both
  both_closed A R B e =
      and_i (fits_closed A R B (and_l (fits v A R B) _ e)) (fits_closed B (inverse v.roles R) A (and_r_lem (fits v A R B) _ e))
