-- The role sets that are closed both ways, found one after another.
use mathlib.Core.Path.{◌≡◌, sym, ap, ◌∙◌}
use mathlib.Core.Bool.{Bool, true, false, ◌&&◌}
use mathlib.Core.List.{List}
use Prim.Native.Nat.{ℕ, ◌+◌, ◌/◌, ◌≤◌, ◌<◌}
use native.Mathlib.Decide.{ℕ_discrete}
use native.Mathlib.Omega.{arith}
use lib.ListN.{length}
use Rattle.bitset.specs.Bits.{look, cleared}
use Rattle.bitset.proofs.Facts.{and_in, and_out}
use Rattle.bitset.proofs.RunLaws.{look_same, look_other}
use Rattle.semantics.specs.Dominoes.{inverse}
use Rattle.semantics.specs.Conditions.{View}

module _ (v : View) where
  abbrev back : ℕ → Bool
  back R = v.closed (inverse v.roles R)

  -- the role sets below r are those closed both ways, and from r on the closed ones
  pub record BothWaysTo (r : ℕ) (ws : List ℕ) : Type 0 where
    pub past : (R : ℕ) → R < r → look ws R ≡ (v.closed R && back R)
    pub rest : (R : ℕ) → r ≤ R → look ws R ≡ v.closed R

  module _ (r : ℕ) (ws vs : List ℕ) (e : BothWaysTo r ws) where
    -- r alone may change
    next : ((R : ℕ) → (R ≡ r → ⊥) → look vs R ≡ look ws R) → look vs r ≡ (v.closed r && back r) → BothWaysTo (r + 1) vs
    next same at = record {
      past = λ R h. go R h (ℕ_discrete R r);
      rest = λ R h. same R (λ q. omega (arith, q)) ∙ e.rest R (omega arith);
    }
      where
        go : (R : ℕ) → R < r + 1 → Dec (R ≡ r) → look vs R ≡ (v.closed R && back R)
        go R h (yes q) = rw q at
        go R h (no n) = same R n ∙ e.past R (omega (arith, n))

    pub both_kept : (b : Bool) → vs ≡ ws → b ≡ back r → b ≡ true → BothWaysTo (r + 1) vs
    both_kept b s f t =
        let same : (R : ℕ) → look vs R ≡ look ws R = λ R. ap (λ (xs : List ℕ). look xs R) s in
        next (λ R n. same R) (same r ∙ e.rest r (omega arith) ∙ sym (and_in (v.closed r) (back r) (sym f ∙ t)))

    pub both_cleared : (b : Bool) → vs ≡ cleared ws r → r / 64 < length ws → b ≡ back r → b ≡ false → BothWaysTo (r + 1) vs
    both_cleared b s l f t =
        next (λ R n. ap (λ (xs : List ℕ). look xs R) s ∙ look_other ws r R (omega arith) n)
        (ap (λ (xs : List ℕ). look xs r) s ∙ look_same ws r (omega arith) ∙ sym (and_out (v.closed r) (back r) (sym f ∙ t)))
