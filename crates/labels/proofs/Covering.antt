-- The dominoes that a set of labels spans: those of the good labels cover the canonical set, and still do when a label without all its
-- witnesses goes; where each label has them, they are the canonical set.
use mathlib.Core.Path.{◌≡◌, sym as flip, ap, ◌∙◌}
use mathlib.Core.Bool.{true, false, not, false≢true}
use Prim.Native.Nat.{ℕ, ◌*◌, ◌^◌, ◌<◌}
use lib.Dec.{eqb}
use borrow.Author.Tests.{eqb-true}
use Rattle.bitset.specs.Bits.{Set, without}
use Rattle.bitset.proofs.Facts.{and_l, and_r_lem, and_i, is_false, iff_eq}
use Rattle.elimination.specs.Sets.{Same}
use Rattle.semantics.specs.Dominoes.{Domino, number, left_of, roles_of, right_of_lem, inverse, unnumbered}
use Rattle.semantics.specs.Conditions.{View, kb, delex, deluni, sym, initially, sustained, Stable, InRange, dominoes, canon, canon_dominoes}
use Rattle.semantics.proofs.Numbers.{left-number, roles-number, right-number, inverse_twice, domino_of}
use Rattle.semantics.proofs.Defects.{defect-none, none-defect, sustained-within}
use Rattle.semantics.proofs.Canonical.{dominoes_of, of_domino, of_number, of_unnumbered, canon-largest, canon_range, canon-sym}
use Rattle.labels.specs.Labels.{fits, fits_both, spanned, spanned_set, supported, Covers, AllGood, AllSupported}

module _ (v : View) where
  -- ---- what is spanned

  spanned_left : (Λ : Set) (A R B : ℕ) → spanned v Λ A R B ≡ true → Λ A ≡ true
  unfolding spanned
  spanned_left Λ A R B = and_l (Λ A) _

  spanned_right : (Λ : Set) (A R B : ℕ) → spanned v Λ A R B ≡ true → Λ B ≡ true
  unfolding spanned
  spanned_right Λ A R B e = and_l (Λ B) _ (and_r_lem (Λ A) _ e)

  pub spanned_both : (Λ : Set) (A R B : ℕ) → spanned v Λ A R B ≡ true → fits_both v A R B ≡ true
  unfolding spanned
  spanned_both Λ A R B e = and_r_lem (Λ B) _ (and_r_lem (Λ A) _ e)

  spanned_fits : (Λ : Set) (A R B : ℕ) → spanned v Λ A R B ≡ true → fits v A R B ≡ true
  unfolding fits_both
  spanned_fits Λ A R B e = and_l (fits v A R B) _ (spanned_both Λ A R B e)

  spanned_back : (Λ : Set) (A R B : ℕ) → spanned v Λ A R B ≡ true → fits v B (inverse v.roles R) A ≡ true
  unfolding fits_both
  spanned_back Λ A R B e = and_r_lem (fits v A R B) _ (spanned_both Λ A R B e)

  -- it has the converse of each member
  spanned_sym : (Λ : Set) (A R B : ℕ) → R < 2 ^ (2 * v.roles) → spanned v Λ A R B ≡ true → spanned v Λ B (inverse v.roles R) A ≡ true
  unfolding spanned fits_both
  spanned_sym Λ A R B r e =
      rw (inverse_twice v.roles R r)
      (and_i (spanned_right Λ A R B e)
      (and_i (spanned_left Λ A R B e) (and_i (spanned_back Λ A R B e) (spanned_fits Λ A R B e))))

  -- its numbers are those of the same dominoes
  pub spanned_at : (Λ : Set) (A R B : ℕ) → Domino v.parts v.roles A R B → spanned_set v Λ (number v.parts v.roles A R B) ≡ spanned v Λ A R B
  unfolding spanned_set unnumbered
  spanned_at Λ A R B d =
      rw (left-number v.parts v.roles A R B d, roles-number v.parts v.roles A R B d, right-number v.parts v.roles A R B d)

  spanned_number : (Λ : Set) (A R B : ℕ) → Domino v.parts v.roles A R B → dominoes_of v (spanned_set v Λ) A R B ≡ spanned v Λ A R B
  spanned_number Λ A R B d = of_number v (spanned_set v Λ) A R B d ∙ spanned_at Λ A R B d

  -- ---- where every label is good and has its witnesses, what is spanned is stable

  module _ (Λ : Set) (g : AllGood v Λ) (w : AllSupported v Λ) where
    spanned_initially : (A R B : ℕ) → A < 2 ^ v.parts → spanned v Λ A R B ≡ true → initially v A R B ≡ true
    unfolding initially kb fits
    spanned_initially A R B a e = and_i (g A a (spanned_left Λ A R B e)) (spanned_fits Λ A R B e)

    spanned_sustained : (A R B : ℕ) → Domino v.parts v.roles A R B → spanned v Λ A R B ≡ true → sustained v (spanned v Λ) A R B ≡ true
    unfolding sustained supported sym
    spanned_sustained A R B d e =
        let c = w A d.left (spanned_left Λ A R B e) in
        and_i (and_l (delex v (spanned v Λ) A) _ c)
        (and_i (and_r_lem (delex v (spanned v Λ) A) _ c) (spanned_sym Λ A R B d.roles e))

    pub spanned_stable : Stable v (dominoes_of v (spanned_set v Λ))
    unfolding Stable
    spanned_stable A R B e =
        let d = of_domino v (spanned_set v Λ) A R B e in
        let m : spanned v Λ A R B ≡ true = flip (spanned_number Λ A R B d) ∙ e in
        none-defect v (dominoes_of v (spanned_set v Λ)) A R B (spanned_initially A R B d.left m)
        (sustained-within v (spanned v Λ) (dominoes_of v (spanned_set v Λ)) (λ X Q Y p q. spanned_number Λ X Q Y p ∙ q) A R B d.left d.right
        (spanned_sustained A R B d m))

    -- so it is part of the canonical set
    spanned_inside : (A R B : ℕ) → dominoes_of v (spanned_set v Λ) A R B ≡ true → canon_dominoes v A R B ≡ true
    unfolding InRange
    spanned_inside = (canon-largest v).most (dominoes_of v (spanned_set v Λ)) (of_domino v (spanned_set v Λ)) spanned_stable

  -- ---- the canonical set

  canon_passes : (A R B : ℕ) → canon_dominoes v A R B ≡ true → (initially v A R B ≡ true) × (sustained v (canon_dominoes v) A R B ≡ true)
  unfolding Stable
  canon_passes A R B e = defect-none v (canon_dominoes v) A R B ((canon-largest v).stable A R B e)

  canon_good : (A R B : ℕ) → canon_dominoes v A R B ≡ true → v.good A ≡ true
  unfolding initially kb
  canon_good A R B e = and_l (v.good A) _ (canon_passes A R B e).0

  canon_fits : (A R B : ℕ) → canon_dominoes v A R B ≡ true → fits v A R B ≡ true
  unfolding initially fits
  canon_fits A R B e = and_r_lem (kb v A) _ (canon_passes A R B e).0

  -- a set covers it that has the left label of each canonical domino
  covers_by : (Λ : Set) → ((A R B : ℕ) → canon_dominoes v A R B ≡ true → Λ A ≡ true) → Covers v Λ
  unfolding Covers spanned fits_both
  covers_by Λ f A R B e =
      let c = canon-sym v A R B e in
      and_i (f A R B e) (and_i (f B (inverse v.roles R) A c) (and_i (canon_fits A R B e) (canon_fits B (inverse v.roles R) A c)))

  covers_left : (Λ : Set) → Covers v Λ → (A R B : ℕ) → canon_dominoes v A R B ≡ true → Λ A ≡ true
  unfolding Covers
  covers_left Λ c A R B e = spanned_left Λ A R B (c A R B e)

  -- the left label of a canonical domino has its witnesses
  covers_supported : (Λ : Set) → Covers v Λ → (A R B : ℕ) → canon_dominoes v A R B ≡ true → supported v Λ A ≡ true
  unfolding Covers sustained supported
  covers_supported Λ c A R B e =
      let d = canon_range v A R B e in
      let s = sustained-within v (canon_dominoes v) (spanned v Λ) (λ X Q Y p. c X Q Y) A R B d.left d.right (canon_passes A R B e).1 in
      and_i (and_l (delex v (spanned v Λ) A) _ s)
      (and_l (deluni v (spanned v Λ) A) _ (and_r_lem (delex v (spanned v Λ) A) _ s))

  -- ---- sets of labels that cover it

  pub covers_good : Covers v v.good
  covers_good = covers_by v.good canon_good

  -- a label that lacks a witness may go
  pub covers_without : (Λ : Set) (A : ℕ) → Covers v Λ → supported v Λ A ≡ false → Covers v (without Λ A)
  covers_without Λ A c f =
      covers_by (without Λ A) (λ X R B e.
      and_i (covers_left Λ c X R B e)
      (ap not (is_false (eqb X A) (λ q.
      false≢true (flip f ∙ ap (supported v Λ) (flip (eqb-true X A q)) ∙ covers_supported Λ c X R B e)))))

  -- one that has only labels that are good and have their witnesses spans just the canonical set
  module _ (Λ : Set) (g : AllGood v Λ) (w : AllSupported v Λ) (c : Covers v Λ) where
    spanned_is : (A R B : ℕ) → Domino v.parts v.roles A R B → spanned v Λ A R B ≡ canon_dominoes v A R B
    unfolding Covers
    spanned_is A R B d =
        iff_eq (spanned v Λ A R B) (canon_dominoes v A R B) (λ e. spanned_inside Λ g w A R B (spanned_number Λ A R B d ∙ e)) (c A R B)

    pub spanned_canon : Same (dominoes v) (spanned_set v Λ) (canon v)
    unfolding spanned_set unnumbered canon_dominoes dominoes_of
    spanned_canon n h =
        let d = domino_of v.parts v.roles n h in
        spanned_is (left_of v.parts v.roles n) (roles_of v.parts v.roles n) (right_of_lem v.parts n) d
        ∙ of_unnumbered v (canon v) n h

  -- ---- sets with the same labels

  pub covers_below : (Λ M : Set) → ((A : ℕ) → A < 2 ^ v.parts → M A ≡ Λ A) → Covers v Λ → Covers v M
  covers_below Λ M same c = covers_by M (λ A R B e. same A (canon_range v A R B e).left ∙ covers_left Λ c A R B e)
