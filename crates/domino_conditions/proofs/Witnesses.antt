-- The search for a part's witness in a row, by loops over role sets and right labels, and the walk over all parts.
use mathlib.Core.Path.{◌≡◌, refl, sym, ap, ap₂, subst, ◌∙◌}
use mathlib.Core.Bool.{Bool, true, false, not, ◌&&◌, and-false}
use Prim.Native.Nat.{ℕ, ◌+◌, ◌*◌, ◌^◌, ◌≤◌, ◌<◌}
use native.Mathlib.Omega.{arith}
use Rattle.bitset.specs.Bits.{Set, look}
use Rattle.elimination.specs.Sets.{every, some}
use Rattle.elimination.proofs.Quantifiers.{any_intro, any_same, some_more, every_more, every-fails}
use Rattle.semantics.specs.Dominoes.{Dominoes, number, numbered}
use Rattle.semantics.specs.Conditions.{View, witness}
use Rattle.flattening.specs.declared.parts.Quantifier.{Quantifier}
use Rattle.tbox.specs.declared.base.Filler.{Filler}
use Rattle.tbox.specs.declared.base.Part.{Part}
use Rattle.tbox.specs.Promise.{part_in}
use Rattle.tbox.specs.declared.base.Base.{Base}
use Rattle.domino_conditions.specs.Tables.{view, filler_in_label_lem, role_holds_on_lem}
use Rattle.domino_conditions.specs.Polarity.{wants, as_wanted_lem, wants_witness_lem, has_witness_lem, witnessed, row_defect_lem}
use Rattle.domino_conditions.specs.Sets.{view_of, dominoes_of, found}
use Rattle.domino_conditions.specs.declared.conditions.DominoSet.{DominoSet}
use Rattle.domino_conditions.proofs.Rows.{number_at}

-- ---- one run: t tests the right label, S the number
module _ (c l A : ℕ) (t : ℕ → Bool) (S : Set) where
  -- is (A, R, B) a witness
  unfoldable pub is_witness_lem : ℕ → ℕ → Bool
  is_witness_lem R B = t B && S (number c l A R B)

  pub witness-by : (R B at : ℕ) (g : Bool) → at ≡ number c l A R 0 → g ≡ (t B && S (at + B)) → g ≡ is_witness_lem R B
  unfolding is_witness_lem
  witness-by R B at g e h = h ∙ ap (λ (n : ℕ). t B && S n) (ap (λ (n : ℕ). n + B) e ∙ number_at c l A R B)

  pub witness_more : (R B at : ℕ) (g : Bool) → some B (is_witness_lem R) ≡ false → at ≡ number c l A R 0 → g ≡ (t B && S (at + B)) → g ≡ false
      → some (B + 1) (is_witness_lem R) ≡ false
  witness_more R B at g h e i q = some_more (is_witness_lem R) B h (sym (witness-by R B at g e i) ∙ q)

  -- ---- all runs: h tests the role set
  module _ (h : ℕ → Bool) where
    unfoldable pub run_has_witness : ℕ → Bool
    run_has_witness R = h R && some (2 ^ c) (is_witness_lem R)

    pub in_none : (R : ℕ) (y : Bool) → y ≡ h R → y ≡ false → run_has_witness R ≡ false
    unfolding run_has_witness
    in_none R y e q = ap (λ (x : Bool). x && some (2 ^ c) (is_witness_lem R)) (sym e ∙ q)

    pub in_end : (R B labels : ℕ) → labels ≡ 2 ^ c → B ≤ labels → labels ≤ B → some B (is_witness_lem R) ≡ false → run_has_witness R ≡ false
    unfolding run_has_witness
    in_end R B labels e u d q =
        let s : B ≡ 2 ^ c = omega arith in
        ap (λ (n : ℕ). h R && some n (is_witness_lem R)) (sym s) ∙ ap (λ (x : Bool). h R && x) q ∙ and-false (h R)

    pub in_hit : (R B labels : ℕ) (y : Bool) → labels ≡ 2 ^ c → B < labels → y ≡ h R → y ≡ true → is_witness_lem R B ≡ true → run_has_witness R ≡ true
    unfolding run_has_witness
    in_hit R B labels y e u i q g = ap₂ ◌&&◌ (sym i ∙ q) (any_intro (2 ^ c) (is_witness_lem R) B (omega arith) g)

-- ---- what the search answers

-- a right label with the filler f, or without it, as the quantifier wants
abbrev pub fits_filler : Quantifier → Filler → ℕ → Bool
fits_filler q f B = as_wanted_lem (wants q) (filler_in_label_lem f B)

-- among dominoes D it is of part k the witness of the conditions
pub search_for : (b : Base) (D : Dominoes) (A k : ℕ) (p : Part) (q : Quantifier) (f : Filler) → part_in b k ≡ p
    → ((B : ℕ) → filler_in_label_lem f B ≡ (view b).has k B)
    → some (2 ^ (2 * b.size.roles)) (λ R. role_holds_on_lem p R && some (2 ^ b.size.parts) (λ B. fits_filler q f B && D A R B))
    ≡ has_witness_lem (view b) (wants q) D A k
unfolding has_witness_lem witness
search_for b D A k p q f h e =
    any_same _ _ _ (λ R u. ap₂ ◌&&◌ (ap (λ (x : Part). look x.role R) (sym h))
    (any_same _ _ _ (λ B v. ap (λ (x : Bool). as_wanted_lem (wants q) x && D A R B) (e B))))

module _ (d : DominoSet) (p : Part) (q : Quantifier) (f : Filler) (a : ℕ) where
  abbrev pub tried : ℕ → Bool
  tried = run_has_witness d.base.now.size.parts d.base.now.size.roles a (fits_filler q f) (look d.set.now) (role_holds_on_lem p)

  found_is : found d p q f a ≡ some (2 ^ (2 * d.base.now.size.roles)) tried
  unfolding found numbered is_witness_lem run_has_witness
  found_is = refl

  pub found_none : (R sets : ℕ) → sets ≡ 2 ^ (2 * d.base.now.size.roles) → R ≤ sets → sets ≤ R → some R tried ≡ false → false ≡ found d p q f a
  found_none R sets g u v e =
      let s : R ≡ 2 ^ (2 * d.base.now.size.roles) = omega arith in
      sym (found_is ∙ ap (λ (n : ℕ). some n tried) (sym s) ∙ e)

  pub found_hit : (R sets : ℕ) → sets ≡ 2 ^ (2 * d.base.now.size.roles) → R < sets → tried R ≡ true → true ≡ found d p q f a
  found_hit R sets g u e = sym (found_is ∙ any_intro (2 ^ (2 * d.base.now.size.roles)) tried R (omega arith) e)

  pub found_for : (k : ℕ) → part_in d.base.now k ≡ p → ((B : ℕ) → filler_in_label_lem f B ≡ (view_of d).has k B)
      → found d p q f a ≡ has_witness_lem (view_of d) (wants q) (dominoes_of d) a k
  unfolding found
  found_for k h e = search_for d.base.now (dominoes_of d) a k p q f h e

-- ---- the walk over all parts

module _ (v : View) (w : Bool) (D : Dominoes) (A : ℕ) where
  -- part j does not lack a witness
  abbrev served : ℕ → Bool
  served j = not (wants_witness_lem v w A j && not (has_witness_lem v w D A j))

  abbrev pub Served : ℕ → Type 0
  Served k = every k served ≡ true

  pub served_not : (k : ℕ) → Served k → wants_witness_lem v w A k ≡ false → Served (k + 1)
  served_not k p e = every_more served k p (ap (λ (x : Bool). not (x && not (has_witness_lem v w D A k))) e)

  pub served_has : (k : ℕ) → Served k → has_witness_lem v w D A k ≡ true → Served (k + 1)
  served_has k p e =
      every_more served k p (ap (λ (x : Bool). not (wants_witness_lem v w A k && not x)) e ∙ ap not (and-false (wants_witness_lem v w A k)))

  pub served_stop : (k : ℕ) → k < v.parts → wants_witness_lem v w A k ≡ true → has_witness_lem v w D A k ≡ false → false ≡ witnessed v w D A
  unfolding witnessed
  served_stop k l e f = sym (every-fails served v.parts k l (ap₂ (λ (s t : Bool). not (s && not t)) e f))

  pub served_end : (k : ℕ) → k ≤ v.parts → v.parts ≤ k → Served k → true ≡ witnessed v w D A
  unfolding witnessed
  served_end k l m p = let e : k ≡ v.parts = omega arith in sym (subst Served e p)

-- ---- conditions 4 and 5 one after the other
module _ (v : View) (D : Dominoes) (A : ℕ) (y z : Bool) (e : y ≡ witnessed v true D A) where
  pub row-4 : y ≡ false → 4 ≡ row_defect_lem v D A
  unfolding row_defect_lem
  row-4 q = rw (← e, q)

  pub row-5 : y ≡ true → z ≡ witnessed v false D A → z ≡ false → 5 ≡ row_defect_lem v D A
  unfolding row_defect_lem
  row-5 q f r = rw (← e, q, ← f, r)

  pub row-0 : y ≡ true → z ≡ witnessed v false D A → z ≡ true → 0 ≡ row_defect_lem v D A
  unfolding row_defect_lem
  row-0 q f r = rw (← e, q, ← f, r)
