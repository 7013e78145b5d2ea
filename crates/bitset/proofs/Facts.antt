-- Laws of Bool. That a test passes is said as `T b` or as `b ≡ true`: the laws of both, and the bridge between them.
use mathlib.Core.Path.{◌≡◌, refl, sym, ap, ap₂, subst, ◌∙◌}
use mathlib.Core.Logic.{◌⊎◌, inl, inr}
use mathlib.Core.Bool.{Bool, true, false, not, ◌&&◌, ◌||◌, false≢true, and-false}
use Prim.Native.Nat.{ℕ, suc, ◌<◌}
use native.Mathlib.Decide.{ℕ_discrete}
use native.Mathlib.Omega.{arith}
use lib.Dec.{T, T_not, not_T}

-- ---- the bridge

pub is_true : (b : Bool) → T b → b ≡ true
is_true true t = refl
is_true false t = absurd t

pub of_true : {b : Bool} → b ≡ true → T b
of_true e = subst T (sym e) tt

pub T_of : {a b : Bool} → a ≡ b → T a → T b
T_of e t = subst T e t

-- ---- as `T b`

-- a test passes or fails
pub either : {C : Type 0} (b : Bool) → (T b → C) → (T (not b) → C) → C
either true f g = f tt
either false f g = g tt

pub and_left : (a b : Bool) → T (a && b) → T a
and_left true b t = tt
and_left false b t = absurd t

pub and_right : (a b : Bool) → T (a && b) → T b
and_right true b t = t
and_right false b t = absurd t

pub and_both : (a b : Bool) → T a → T b → T (a && b)
and_both true b s t = t
and_both false b s t = absurd s

pub not_and_right : (a b : Bool) → T a → T (not (a && b)) → T (not b)
not_and_right true b s t = t
not_and_right false b s t = absurd s

pub not-not : (b : Bool) → T (not (not b)) → T b
not-not true t = tt
not-not false t = absurd t

pub or_cases : {C : Type 0} (a b : Bool) → T (a || b) → (T a → C) → (T b → C) → C
or_cases true b t f g = f tt
or_cases false b t f g = g t

pub or_left : (a b : Bool) → T a → T (a || b)
or_left true b t = tt
or_left false b t = absurd t

pub or_right : (a b : Bool) → T b → T (a || b)
or_right true b t = tt
or_right false b t = t

pub not_mono : (a b : Bool) → (T a → T b) → T (not b) → T (not a)
not_mono a b f t = not_T a (λ u. T_not b t (f u))

-- two tests that pass together are equal
pub T_same : (a b : Bool) → (T a → T b) → (T b → T a) → a ≡ b
T_same true true f g = refl
T_same true false f g = absurd (f tt)
T_same false true f g = absurd (g tt)
T_same false false f g = refl

-- ---- as `b ≡ true`

pub dec : (a : Bool) → (a ≡ true) ⊎ (a ≡ false)
dec true = inl refl
dec false = inr refl

pub is_false : (a : Bool) → (a ≡ true → ⊥) → a ≡ false
is_false true h = absurd (h refl)
is_false false h = refl

pub and_l : (a b : Bool) → (a && b) ≡ true → a ≡ true
and_l a b e = is_true a (and_left a b (of_true e))

pub and_r_lem : (a b : Bool) → (a && b) ≡ true → b ≡ true
and_r_lem a b e = is_true b (and_right a b (of_true e))

pub and_i : {a b : Bool} → a ≡ true → b ≡ true → (a && b) ≡ true
and_i p q = ap₂ ◌&&◌ p q

pub or_case : (a b : Bool) → (a || b) ≡ true → (a ≡ true) ⊎ (b ≡ true)
or_case a b e = or_cases a b (of_true e) (λ t. inl (is_true a t)) (λ t. inr (is_true b t))

pub or_l : {a : Bool} (b : Bool) → a ≡ true → (a || b) ≡ true
or_l b p = ap (λ (z : Bool). z || b) p

pub or_r_lem : (a : Bool) {b : Bool} → b ≡ true → (a || b) ≡ true
or_r_lem a {b} q = is_true (a || b) (or_right a b (of_true q))

-- implication as `not a || b`
pub imp_e : (a b : Bool) → (not a || b) ≡ true → a ≡ true → b ≡ true
imp_e true b e p = e
imp_e false b e p = absurd (false≢true p)

pub imp_i : (a b : Bool) → (a ≡ true → b ≡ true) → (not a || b) ≡ true
imp_i true b h = h refl
imp_i false b h = refl

-- two tests are equal if each gives the other
pub iff_eq : (a b : Bool) → (a ≡ true → b ≡ true) → (b ≡ true → a ≡ true) → a ≡ b
iff_eq a b f g = T_same a b (λ t. of_true (f (is_true a t))) (λ t. of_true (g (is_true b t)))

-- ---- equations

pub not_or : (a b : Bool) → not (a || b) ≡ (not a && not b)
not_or true b = refl
not_or false b = refl

pub not_and : (a b : Bool) → not (a && b) ≡ (not a || not b)
not_and true b = refl
not_and false b = refl

pub and_swap : (a b c d : Bool) → ((a && b) && (c && d)) ≡ ((a && c) && (b && d))
and_swap true b true d = refl
and_swap true b false d = and-false b
and_swap false b c d = refl

-- what a second test leaves of a first
pub and_out : (b c : Bool) → c ≡ false → (b && c) ≡ false
and_out true c e = e
and_out false c e = refl

pub and_in : (b c : Bool) → c ≡ true → (b && c) ≡ b
and_in true c e = e
and_in false c e = refl

-- the answer `g` of a walk that tests x, then y
pub and_went : (x y g : Bool) → x ≡ true → g ≡ y → g ≡ (x && y)
and_went x y g e h = h ∙ ap (λ (z : Bool). z && y) (sym e)

pub and_stopped : (x y g : Bool) → g ≡ x → g ≡ false → g ≡ (x && y)
and_stopped x y g e h = h ∙ ap (λ (z : Bool). z && y) (sym h ∙ e)

-- ---- numbers

-- below suc n: n itself, or below n
pub below_suc : {C : Type 0} (p n : ℕ) → p < suc n → (p ≡ n → C) → (p < n → C) → C
below_suc {C = C} p n h f g = go (ℕ_discrete p n)
  where
    go : Dec (p ≡ n) → C
    go (yes e) = f e
    go (no e) = g (omega arith)
