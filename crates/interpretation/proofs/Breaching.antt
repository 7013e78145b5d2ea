-- The first breach, from the first individual that breaks an axiom, if any, and the first pair.
use mathlib.Core.Path.{◌≡◌, refl}
use Prim.Native.Nat.{ℕ, ◌<◌}
use native.Mathlib.Omega.{arith}
use borrow.Author.Tests.{lt-ltb, le-ltb}
use Rattle.drawings.specs.Checking.{at, least, breaks_at, pair_breach, breach}
use Rattle.interpretation.specs.declared.drawing.Drawing.{Drawing}
use Rattle.interpretation.specs.Drawings.{view_of, drawn, count_of}
use Rattle.interpretation.proofs.RowsOf.{counted}

module _ (d : Drawing) where
  pub found_at : (x : ℕ) → x < count_of d → least (count_of d) (breaks_at (view_of d) (drawn d)) ≡ x → at x ≡ breach (view_of d) (drawn d)
  unfolding breach
  found_at x h e = rw (counted d, e, lt-ltb x (count_of d) h) refl

  pub found_none : least (count_of d) (breaks_at (view_of d) (drawn d)) ≡ count_of d → pair_breach (view_of d) (drawn d) ≡ breach (view_of d) (drawn d)
  unfolding breach
  found_none e = rw (counted d, e, le-ltb (count_of d) (count_of d) (omega arith)) refl
