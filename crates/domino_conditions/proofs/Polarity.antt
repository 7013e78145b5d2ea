-- The two-way tests are the conditions 2 to 5; each part's share in them.
use mathlib.Core.Path.{◌≡◌, refl, sym as flip, ap, subst, ◌∙◌}
use mathlib.Core.Bool.{Bool, true, false, not, ◌&&◌, ◌||◌}
use Prim.Native.Nat.{ℕ, ◌+◌, ◌≤◌, ◌<◌}
use native.Mathlib.Omega.{arith}
use lib.Dec.{eqb}
use lib.ListN.{length, get_or}
use Rattle.std.specs.Prelude.{List, Some, None}
use Rattle.std.specs.Bool.{then_some}
use Rattle.std.proofs.lemmas.List.{get_or_default}
use Rattle.bitset.specs.Bits.{bit, look}
use Rattle.elimination.specs.Sets.{every}
use Rattle.elimination.proofs.Quantifiers.{all_same, every-none, every_more, every-fails}
use Rattle.semantics.specs.Dominoes.{Dominoes}
use Rattle.semantics.specs.Conditions.{View, ex, uni, witness, delex, deluni}
use Rattle.flattening.specs.declared.parts.Quantifier.{Quantifier}
use Rattle.flattening.specs.declared.parts.Quantifier.TheVariants.{Exists, Forall}
use Rattle.tbox.specs.declared.base.Filler.{Filler}
use Rattle.tbox.specs.declared.base.Kind.{Kind}
use Rattle.tbox.specs.declared.base.Kind.TheVariants.{Name, Fresh, Restriction}
use Rattle.tbox.specs.declared.base.Part.{Part}
use Rattle.tbox.specs.declared.base.Base.{Base}
use Rattle.tbox.specs.Promise.{kind_number, part_in, no_part}
use Rattle.domino_conditions.specs.Tables.{filler_in_label_lem, kind_has, view}
use Rattle.domino_conditions.specs.Polarity.{wants, as_wanted_lem, kind_for_lem, asks_of_right_lem, breaks, right_fits_lem, wants_witness_lem, has_witness_lem, witnessed, IsFillerOf, part_asks, AskedOfRight, part_wants, WantedOfRow}

-- ---- the conditions

-- a kind, in or out, a role and a filler
ex-one : (k a h f : Bool) → not ((k && (not a && h)) && f) ≡ (not (k && (h && f)) || a)
ex-one false a h f = refl
ex-one true true true true = refl
ex-one true true true false = refl
ex-one true true false f = refl
ex-one true false true true = refl
ex-one true false true false = refl
ex-one true false false f = refl

uni-one : (k a h f : Bool) → not ((k && (not (not a) && h)) && not f) ≡ (not (k && (a && h)) || f)
uni-one false a h f = refl
uni-one true true true true = refl
uni-one true true true false = refl
uni-one true true false f = refl
uni-one true false h f = refl

-- what is wanted and found
want_one : (a w : Bool) → not (a && not w) ≡ (not a || w)
want_one true true = refl
want_one true false = refl
want_one false w = refl

module _ (v : View) where
  pub fits-ex : (A R B : ℕ) → right_fits_lem v true A R B ≡ ex v A R B
  unfolding right_fits_lem breaks asks_of_right_lem ex
  fits-ex A R B = all_same v.parts _ _ (λ k h. ex-one (eqb (v.kind k) 2) (bit A k) (v.holds k R) (v.has k B))

  pub fits-uni : (A R B : ℕ) → right_fits_lem v false A R B ≡ uni v A R B
  unfolding right_fits_lem breaks asks_of_right_lem uni
  fits-uni A R B = all_same v.parts _ _ (λ k h. uni-one (eqb (v.kind k) 3) (bit A k) (v.holds k R) (v.has k B))

  pub witnessed-delex : (D : Dominoes) (A : ℕ) → witnessed v true D A ≡ delex v D A
  unfolding witnessed wants_witness_lem has_witness_lem delex
  witnessed-delex D A = all_same v.parts _ _ (λ k h. want_one (eqb (v.kind k) 2 && bit A k) (witness v D A k (v.has k)))

  pub witnessed-deluni : (D : Dominoes) (A : ℕ) → witnessed v false D A ≡ deluni v D A
  unfolding witnessed wants_witness_lem has_witness_lem deluni
  witnessed-deluni D A =
      all_same v.parts _ _ (λ k h. want_one (eqb (v.kind k) 3 && not (bit A k)) (witness v D A k (λ B. not (v.has k B))))

-- ---- one part's share

module _ (v : View) (w : Bool) (A R B k : ℕ) where
  pub breaks-none : asks_of_right_lem v w A R k ≡ false → breaks v w A R B k ≡ false
  unfolding breaks
  breaks-none h = ap (λ (x : Bool). x && as_wanted_lem w (v.has k B)) h

  pub breaks_last : (x y : Bool) → asks_of_right_lem v w A R k ≡ true → x ≡ v.has k B → y ≡ as_wanted_lem w x → breaks v w A R B k ≡ y
  unfolding breaks
  breaks_last x y h e f = rw h (ap (as_wanted_lem w) (flip e) ∙ flip f)

-- ---- what a part asks, by what the code tests

kind_is_for : (d : Kind) (q : Quantifier) (f : Filler) → IsFillerOf d q (Some f) → eqb (kind_number d) (kind_for_lem (wants q)) ≡ true
unfolding kind_number
kind_is_for d Exists f e = ap (λ (x : Kind). eqb (kind_number x) 2) e
kind_is_for d Forall f e = ap (λ (x : Kind). eqb (kind_number x) 3) e

kind_other : (d : Kind) (q : Quantifier) → IsFillerOf d q None → eqb (kind_number d) (kind_for_lem (wants q)) ≡ false
unfolding kind_number
kind_other Name Exists n = refl
kind_other Name Forall n = refl
kind_other Fresh Exists n = refl
kind_other Fresh Forall n = refl
kind_other (Restriction Exists f) Exists n = absurd (n f refl)
kind_other (Restriction Exists f) Forall n = refl
kind_other (Restriction Forall f) Exists n = refl
kind_other (Restriction Forall f) Forall n = absurd (n f refl)

-- the part that stands at k
pub part_here : (b : Base) (ps : List Part) (k : ℕ) (d : Part) → ps ≡ b.parts.items → k < length ps → part_in b k ≡ get_or ps k d
part_here b ps k d e h = flip (ap (λ (xs : List Part). get_or xs k no_part) e) ∙ get_or_default ps k no_part d h

pub part_count : (b : Base) (ps : List Part) → ps ≡ b.parts.items → length ps ≡ b.size.parts
part_count b ps e = ap (λ (xs : List Part). length xs) e ∙ b.all

module _ (p : Part) (q : Quantifier) (a k : ℕ) where
  pub wanted_none : IsFillerOf p.kind q None → WantedOfRow p q a k None
  wanted_none n = ap (λ (x : Bool). x && as_wanted_lem (wants q) (bit a k)) (kind_other p.kind q n)

  module _ (f : Filler) (x : Bool) (i : IsFillerOf p.kind q (Some f)) (g : x ≡ bit a k) where
    wanted_last : (y : Bool) → y ≡ as_wanted_lem (wants q) x → part_wants p q a k ≡ y
    wanted_last y h = rw (kind_is_for p.kind q f i) (ap (as_wanted_lem (wants q)) (flip g) ∙ flip h)

    pub wanted_if : (y : Bool) → y ≡ as_wanted_lem (wants q) x → WantedOfRow p q a k (then_some y f)
    wanted_if true h = (wanted_last true h, i)
    wanted_if false h = wanted_last false h

  module _ (r : ℕ) where
    pub asked_none : IsFillerOf p.kind q None → AskedOfRight p q a r k None
    asked_none n = ap (λ (x : Bool). x && (not (as_wanted_lem (wants q) (bit a k)) && look p.role r)) (kind_other p.kind q n)

    pub asked_on : (f : Filler) (x y z : Bool) → IsFillerOf p.kind q (Some f) → x ≡ bit a k → y ≡ as_wanted_lem (wants q) x → y ≡ false
        → z ≡ look p.role r → z ≡ true → AskedOfRight p q a r k (Some f)
    asked_on f x y z i g h e l m = (
      rw (kind_is_for p.kind q f i, ap (as_wanted_lem (wants q)) (flip g) ∙ flip h ∙ e) (flip l ∙ m),
      i,
    )

-- ---- the same of part k of a knowledge base

module _ (b : Base) (p : Part) (q : Quantifier) (k : ℕ) (e : part_in b k ≡ p) where
  filler_here : (f : Filler) → IsFillerOf p.kind q (Some f) → (B : ℕ) → filler_in_label_lem f B ≡ (view b).has k B
  unfolding kind_has
  filler_here f i B = flip (ap (λ (x : Part). kind_has x.kind B) e ∙ ap (λ (x : Kind). kind_has x B) i)

  module _ (a : ℕ) where
    pub not_wanted : WantedOfRow p q a k None → wants_witness_lem (view b) (wants q) a k ≡ false
    unfolding wants_witness_lem
    not_wanted h = ap (λ (x : Part). part_wants x q a k) e ∙ h

    pub wanted : (f : Filler) → WantedOfRow p q a k (Some f)
        → (wants_witness_lem (view b) (wants q) a k ≡ true) × ((B : ℕ) → filler_in_label_lem f B ≡ (view b).has k B)
    unfolding wants_witness_lem
    wanted f h = (ap (λ (x : Part). part_wants x q a k) e ∙ h.0, filler_here f h.1)

    pub not_asked : (r : ℕ) → AskedOfRight p q a r k None → asks_of_right_lem (view b) (wants q) a r k ≡ false
    unfolding asks_of_right_lem
    not_asked r h = ap (λ (x : Part). part_asks x q a r k) e ∙ h

    pub asked : (r : ℕ) (f : Filler) → AskedOfRight p q a r k (Some f)
        → (asks_of_right_lem (view b) (wants q) a r k ≡ true) × ((B : ℕ) → filler_in_label_lem f B ≡ (view b).has k B)
    unfolding asks_of_right_lem
    asked r f h = (ap (λ (x : Part). part_asks x q a r k) e ∙ h.0, filler_here f h.1)

-- ---- all parts, one after another

module _ (v : View) (w : Bool) (A R B : ℕ) where
  -- the first k parts break nothing
  abbrev pub FitsTo : ℕ → Type 0
  FitsTo k = every k (λ j. not (breaks v w A R B j)) ≡ true

  pub fits-none : FitsTo 0
  fits-none = every-none (λ j. not (breaks v w A R B j))

  pub fits_more : (k : ℕ) → FitsTo k → breaks v w A R B k ≡ false → FitsTo (k + 1)
  fits_more k p e = every_more (λ j. not (breaks v w A R B j)) k p (ap not e)

  pub fits_stop : (k : ℕ) → k < v.parts → breaks v w A R B k ≡ true → false ≡ right_fits_lem v w A R B
  unfolding right_fits_lem
  fits_stop k l e = flip (every-fails (λ j. not (breaks v w A R B j)) v.parts k l (ap not e))

  pub fits_end : (k : ℕ) → k ≤ v.parts → v.parts ≤ k → FitsTo k → true ≡ right_fits_lem v w A R B
  unfolding right_fits_lem
  fits_end k l m p =
      let e : k ≡ v.parts = omega arith in
      flip (subst (λ (n : ℕ). every n (λ j. not (breaks v w A R B j)) ≡ true) e p)
