-- The number of the first condition that a domino fails, from what the tests say of it; and what the tests ask.
use mathlib.Core.Path.{◌≡◌, refl, sym as flip, ap, ◌∙◌}
use mathlib.Core.Bool.{Bool, true, false, not, cond}
use Prim.Native.Nat.{ℕ, ◌/◌, ◌<◌}
use native.Mathlib.Omega.{arith}
use lib.Dec.{eqb}
use lib.ListN.{length}
use Rattle.std.specs.Prelude.{Option, Some, None}
use Rattle.std.specs.Bool.{then_some}
use Rattle.std.specs.Option.{option_or}
use Rattle.bitset.specs.Bits.{Set}
use Rattle.semantics.specs.Dominoes.{Domino, total, left_of, roles_of, right_of_lem, inverse, number, numbered}
use Rattle.semantics.specs.Conditions.{View, kb, ex, uni, rbox, delex, deluni, sym, defect, defect_at}
use Rattle.semantics.proofs.Numbers.{domino_of}
use Rattle.semantics.proofs.Defects.{defect_cases}
use Rattle.domino_conditions.specs.Tables.{defect_number}
use Rattle.domino_conditions.specs.Sets.{IsDomino}
use Rattle.domino_conditions.specs.Polarity.{right_fits_lem, row_defect_lem}
use Rattle.domino_conditions.specs.declared.conditions.Condition.{Condition}
use Rattle.domino_conditions.specs.declared.conditions.Condition.TheVariants.{Kb, Ex, Uni, DelEx, DelUni, Sym, Rbox}
use Rattle.domino_conditions.specs.declared.conditions.DominoSet.{DominoSet}
use Rattle.domino_conditions.proofs.Rows.{few_labels, converse_of, converse-room, row_at}
use Rattle.domino_conditions.proofs.Polarity.{fits-ex, fits-uni, witnessed-delex, witnessed-deluni}

-- the first that fails of: good, ex, uni, closed, those of the left label, sym
abbrev first_of : Bool → Bool → Bool → Bool → ℕ → Bool → ℕ
first_of g e u z d m = cond g (cond e (cond u (cond z (cond (eqb d 0) (cond m 0 6) d) 7) 3) 2) 1

first-is : (g e u z x y m : Bool)
    → first_of g e u z (cond x (cond y 0 5) 4) m ≡ cond g (cond e (cond u (cond z (cond x (cond y (cond m 0 6) 5) 4) 7) 3) 2) 1
first-is false e u z x y m = refl
first-is true false u z x y m = refl
first-is true true false z x y m = refl
first-is true true true false x y m = refl
first-is true true true true false y m = refl
first-is true true true true true false m = refl
first-is true true true true true true m = refl

defect-is : (v : View) (S : Set) (a r b : ℕ)
    → first_of (v.good a) (right_fits_lem v true a r b) (right_fits_lem v false a r b) (v.closed r)
    (row_defect_lem v (numbered v.parts v.roles S) a) (S (number v.parts v.roles b (inverse v.roles r) a)) ≡ defect v (numbered v.parts v.roles S) a r b
unfolding kb rbox sym row_defect_lem numbered
defect-is v S a r b =
    rw (
      fits-ex v a r b,
      fits-uni v a r b,
      witnessed-delex v (numbered v.parts v.roles S) a,
      witnessed-deluni v (numbered v.parts v.roles S) a,
    )
    (first-is (v.good a) (ex v a r b) (uni v a r b) (v.closed r) (delex v (numbered v.parts v.roles S) a)
    (deluni v (numbered v.parts v.roles S) a) (S (number v.parts v.roles b (inverse v.roles r) a))
    ∙ flip (defect_cases v (numbered v.parts v.roles S) a r b))

-- the domino n, by the numbers that it is read from
pub defect-read : (v : View) (S : Set) (n a r b : ℕ) → a ≡ left_of v.parts v.roles n → r ≡ roles_of v.parts v.roles n → b ≡ right_of_lem v.parts n
    → defect v (numbered v.parts v.roles S) a r b ≡ defect_at v S n
unfolding defect_at
defect-read v S n a r b e f g = rw (e, f, g)

pub domino_read : (c l n a r b : ℕ) → n < total c l → a ≡ left_of c l n → r ≡ roles_of c l n → b ≡ right_of_lem c n → Domino c l a r b
domino_read c l n a r b h e f g = rw (e, f, g) (domino_of c l n h)

-- conditions 4 and 5, then condition 6; y says whether the converse is in the set
last_of : (o : Option Condition) (y : Bool) → defect_number (option_or o (then_some (not y) Sym)) ≡ cond (eqb (defect_number o) 0) (cond y 0 6) (defect_number o)
last_of None true = refl
last_of None false = refl
last_of (Some Kb) y = refl
last_of (Some Ex) y = refl
last_of (Some Uni) y = refl
last_of (Some DelEx) y = refl
last_of (Some DelUni) y = refl
last_of (Some Sym) y = refl
last_of (Some Rbox) y = refl

module _ (v : View) (S : Set) (a r b : ℕ) where
  abbrev answer : ℕ
  answer = defect v (numbered v.parts v.roles S) a r b

  -- g, e, u and z are the answers of the tests 1, 2, 3 and 7, o that of the tests 4 and 5, y that of test 6
  pub fails-1 : (g : Bool) → g ≡ v.good a → g ≡ false → 1 ≡ answer
  fails-1 g h k = rw (← defect-is v S a r b, ← h, k)

  module _ (g : Bool) (hg : g ≡ v.good a) (kg : g ≡ true) where
    pub fails-2 : (e : Bool) → e ≡ right_fits_lem v true a r b → e ≡ false → 2 ≡ answer
    fails-2 e h k = rw (← defect-is v S a r b, ← hg, kg, ← h, k)

    module _ (e : Bool) (he : e ≡ right_fits_lem v true a r b) (ke : e ≡ true) where
      pub fails-3 : (u : Bool) → u ≡ right_fits_lem v false a r b → u ≡ false → 3 ≡ answer
      fails-3 u h k = rw (← defect-is v S a r b, ← hg, kg, ← he, ke, ← h, k)

      module _ (u : Bool) (hu : u ≡ right_fits_lem v false a r b) (ku : u ≡ true) where
        pub fails-7 : (z : Bool) → z ≡ v.closed r → z ≡ false → 7 ≡ answer
        fails-7 z h k = rw (← defect-is v S a r b, ← hg, kg, ← he, ke, ← hu, ku, ← h, k)

        pub fails-last : (z : Bool) (o : Option Condition) (q m : ℕ) (y : Bool) → z ≡ v.closed r → z ≡ true
            → defect_number o ≡ row_defect_lem v (numbered v.parts v.roles S) a
            → q ≡ inverse v.roles r → m ≡ number v.parts v.roles b q a → y ≡ S m
            → defect_number (option_or o (then_some (not y) Sym)) ≡ answer
        fails-last z o q m y hz kz ho hq hm hy =
            let i : y ≡ S (number v.parts v.roles b (inverse v.roles r) a) =
            hy ∙ ap S (hm ∙ ap (λ (x : ℕ). number v.parts v.roles b x a) hq) in
            last_of o y ∙ rw (← defect-is v S a r b, ← hg, kg, ← he, ke, ← hu, ku, ← hz, kz, ← ho, ← i)

-- ---- what the tests ask
module _ (d : DominoSet) (a r b : ℕ) (o : IsDomino d a r b) where
  abbrev c : ℕ
  c = d.base.now.size.parts

  abbrev l : ℕ
  l = d.base.now.size.roles

  pub label-few : a < 4096
  label-few = few_labels c a (omega (arith, d.base.now.size.within)) o.left

  module _ (q : ℕ) (eq : q ≡ inverse l r) where
    pub converse_here : Domino c l b q a
    converse_here = converse_of c l a (length d.set.now) (row_at d a o.left) r b q o.right eq

    pub member_here : (m : ℕ) → m ≡ number c l b q a → m / 64 < length d.set.now
    member_here m e =
        converse-room c l a (length d.set.now) (row_at d a o.left) b q m (length d.set.now) o.right converse_here.roles e refl
