-- The domino projection of an interpretation whose labels fit is stable (002, Lemma 2).
use mathlib.Core.Path.{◌≡◌, refl, sym as flip, ap, ap₂, subst, ◌∙◌, fun_ext}
use mathlib.Core.Bool.{Bool, true, false, not, ◌&&◌, ◌||◌, cond, false≢true}
use mathlib.Core.List.{List, [], ◌∷◌}
use Prim.Native.Nat.{ℕ, zero, suc, ◌+◌, ◌*◌, ◌/◌, ◌%◌, ◌^◌, ◌≤◌, ◌<◌}
use native.Mathlib.Decide.{dec_lt}
use native.Mathlib.Omega.{arith}
use lib.Dec.{eqb}
use lib.ListN.{length}
use borrow.Author.Tests.{eqb-true, eq-eqb}
use Rattle.bitset.specs.Bits.{bit, word}
use Rattle.bitset.proofs.Laws.{word_lt, word_ext, word_bits, bit_word, bit_past}
use Rattle.bitset.proofs.Facts.{and_l, and_r_lem, and_i, imp_e, imp_i}
use Rattle.elimination.specs.Sets.{every}
use Rattle.elimination.proofs.Quantifiers.{all-at, all_intro, any_intro, any_found, not-all}
use Rattle.syntax.specs.Concepts.{Role, named, inverse as inverse_r, not_r, and_r, or_r, RoleInclusion}
use Rattle.syntax.specs.Flatten.{Part, name_p, fresh_p, exists_p, forall_p, Flat, part_at}
use Rattle.syntax.specs.Truth.{eval, kb_on, role_on, rbox_on}
use Rattle.syntax.specs.Parts.{kind_of, role_holds}
use Rattle.syntax.specs.Bounds.{All, RolesBelow, InclusionBelow, PartRole}
use Rattle.semantics.specs.Interpretations.{Interpretation, role_in, satisfies_inclusion, satisfies_rbox}
use Rattle.semantics.specs.Dominoes.{Dominoes, inverse}
use Rattle.semantics.specs.Conditions.{View, kb, ex, uni, rbox, witness, delex, deluni, sym, defect, initially, sustained, Stable, InRange}
use Rattle.semantics.specs.Views.{filler_in, has_filler, view_of}
use Rattle.semantics.specs.Projection.{role_bit, role_set, projection_of}
use Rattle.semantics.specs.Labelling.{Labelling}
use Rattle.semantics.proofs.Numbers.{inverse_lt, inverse_even, inverse-odd}
use Rattle.semantics.proofs.Defects.{none-defect, witness-by}

-- ---- the role set between two individuals

module _ (J : ℕ → ℕ → ℕ → Bool) (x y : ℕ) where
  role-bit : (b r q : ℕ) → b % 2 ≡ r → b / 2 ≡ q → role_bit J x y b ≡ cond (eqb r 0) (J q x y) (J q y x)
  unfolding role_bit
  role-bit b r q e f = rw (e, f)

  pub role_even : (k : ℕ) → role_bit J x y (2 * k) ≡ J k x y
  role_even k = role-bit (2 * k) 0 k (omega arith) (omega arith)

  pub role-odd : (k : ℕ) → role_bit J x y (2 * k + 1) ≡ J k y x
  role-odd k = role-bit (2 * k + 1) 1 k (omega arith) (omega arith)

  pub role_lt : (L : ℕ) → role_set L J x y < 2 ^ (2 * L)
  unfolding role_set
  role_lt L = word_lt (2 * L) (role_bit J x y)

  -- a role expression holds on it exactly if it holds between the two
  pub role_in_lem : (L : ℕ) (u : Role) → RolesBelow L u → role_on u (role_set L J x y) ≡ role_in J u x y
  unfolding role_on role_in role_set
  role_in_lem L (named k) h = bit_word (2 * L) (role_bit J x y) (2 * k) (omega arith) ∙ role_even k
  role_in_lem L (inverse_r k) h = bit_word (2 * L) (role_bit J x y) (2 * k + 1) (omega arith) ∙ role-odd k
  role_in_lem L (not_r u) h = ap not (role_in_lem L u h)
  role_in_lem L (and_r u v) h = ap₂ ◌&&◌ (role_in_lem L u h.0) (role_in_lem L v h.1)
  role_in_lem L (or_r u v) h = ap₂ ◌||◌ (role_in_lem L u h.0) (role_in_lem L v h.1)

-- its inverse is that of the two the other way round
pub role-inverse : (J : ℕ → ℕ → ℕ → Bool) (x y L : ℕ) → inverse L (role_set L J x y) ≡ role_set L J y x
unfolding role_set
role-inverse J x y L =
    flip (word_bits (2 * L) (inverse L (role_set L J x y)) (inverse_lt L (role_set L J x y)))
    ∙ word_ext (2 * L) (bit (inverse L (role_set L J x y))) (role_bit J y x) (λ b h. go b h (b % 2) (omega arith) refl)
  where
    go : (b : ℕ) → b < 2 * L → (r : ℕ) → r < 2 → b % 2 ≡ r → bit (inverse L (word (2 * L) (role_bit J x y))) b ≡ role_bit J y x b
    go b h zero l e =
        ap (bit (inverse L (role_set L J x y))) (omega arith) ∙ inverse_even L (role_set L J x y) (b / 2) (omega arith)
        ∙ bit_word (2 * L) (role_bit J x y) (2 * (b / 2) + 1) (omega arith) ∙ role-odd J x y (b / 2)
        ∙ flip (role-bit J y x b 0 (b / 2) e refl)
    go b h (suc zero) l e =
        ap (bit (inverse L (role_set L J x y))) (omega arith) ∙ inverse-odd L (role_set L J x y) (b / 2) (omega arith)
        ∙ bit_word (2 * L) (role_bit J x y) (2 * (b / 2)) (omega arith) ∙ role_even J x y (b / 2)
        ∙ flip (role-bit J y x b 1 (b / 2) e refl)
    go b h (suc (suc r)) l e = absurd (omega arith)

-- ---- the members of a projection

module _ (I : Interpretation) (L c : ℕ) (lab : ℕ → ℕ → Bool) where
  -- each pair of individuals gives one
  pub domino_in : (x y : ℕ) → x < I.individuals → y < I.individuals
      → projection_of I L c lab (word c (lab x)) (role_set L I.joined x y) (word c (lab y)) ≡ true
  unfolding projection_of
  domino_in x y lx ly =
      let A : ℕ = word c (lab x) in
      let R : ℕ = role_set L I.joined x y in
      let B : ℕ = word c (lab y) in
      any_intro I.individuals _ x lx
      (any_intro I.individuals (λ z. eqb A A && (eqb R (role_set L I.joined x z) && eqb B (word c (lab z)))) y ly
      (and_i (eq-eqb A A refl) (and_i (eq-eqb R R refl) (eq-eqb B B refl))))

  -- and there are no others
  pub domino_from : (A R B : ℕ) → projection_of I L c lab A R B ≡ true → (x : ℕ) × (y : ℕ) × (x < I.individuals) × (y < I.individuals)
      × (A ≡ word c (lab x)) × (R ≡ role_set L I.joined x y) × (B ≡ word c (lab y))
  unfolding projection_of
  domino_from A R B e =
      let w = any_found I.individuals _ e in
      let x : ℕ = w.0 in
      let u = any_found I.individuals (λ y. eqb A (word c (lab x)) && (eqb R (role_set L I.joined x y) && eqb B (word c (lab y)))) w.2 in
      let y : ℕ = u.0 in
      let p = and_l (eqb A (word c (lab x))) (eqb R (role_set L I.joined x y) && eqb B (word c (lab y))) u.2 in
      let q = and_r_lem (eqb A (word c (lab x))) (eqb R (role_set L I.joined x y) && eqb B (word c (lab y))) u.2 in (
        x,
        y,
        w.1,
        u.1,
        eqb-true _ _ p,
        eqb-true _ _ (and_l (eqb R (role_set L I.joined x y)) (eqb B (word c (lab y))) q),
        eqb-true _ _ (and_r_lem (eqb R (role_set L I.joined x y)) (eqb B (word c (lab y))) q),
      )

pub projection_range : (I : Interpretation) (L : ℕ) (incl : List RoleInclusion) (ps : List Part) (fs : List Flat) (lab : ℕ → ℕ → Bool)
    → InRange (view_of L incl fs ps) (projection_of I L (length ps) lab)
unfolding InRange
projection_range I L incl ps fs lab A R B e =
    let w = domino_from I L (length ps) lab A R B e in
    record {
      left = subst (λ (z : ℕ). z < 2 ^ length ps) (flip w.4) (word_lt (length ps) (lab w.0));
      roles = subst (λ (z : ℕ). z < 2 ^ (2 * L)) (flip w.5) (role_lt I.joined w.0 w.1 L);
      right = subst (λ (z : ℕ). z < 2 ^ length ps) (flip w.6) (word_lt (length ps) (lab w.1));
    }

-- the bits of a word are the set, if that has nothing past them
pub word-whole : (n : ℕ) (D : ℕ → Bool) → ((k : ℕ) → n ≤ k → D k ≡ false) → (k : ℕ) → bit (word n D) k ≡ D k
word-whole n D out k = go (dec_lt k n)
  where
    go : Dec (k < n) → bit (word n D) k ≡ D k
    go (yes h) = bit_word n D k h
    go (no h) = bit_past n (word n D) k (word_lt n D) (omega (arith, h)) ∙ flip (out k (omega (arith, h)))

-- where an implication fails
imp_fails : (a b : Bool) → not (not a || b) ≡ true → (a ≡ true) × (not b ≡ true)
imp_fails true b e = (refl, e)
imp_fails false b e = absurd (false≢true e)

-- ---- Lemma 2

module _ (I : Interpretation) (L : ℕ) (incl : List RoleInclusion) (ps : List Part) (fs : List Flat) (lab : ℕ → ℕ → Bool)
    (M : Labelling I (part_at ps) fs lab) (out : (x k : ℕ) → length ps ≤ k → lab x k ≡ false)
    (below : (k : ℕ) → PartRole (RolesBelow L) (part_at ps k)) (bounded : All (InclusionBelow L) incl)
    (includes_all : satisfies_rbox I incl ≡ true) where
  abbrev n : ℕ
  n = I.individuals

  abbrev v : View
  v = view_of L incl fs ps

  unfoldable D : Dominoes
  D = projection_of I L (length ps) lab

  -- the label of an individual, and the roles between two
  unfoldable label : ℕ → ℕ
  label x = word (length ps) (lab x)

  unfoldable roles : ℕ → ℕ → ℕ
  roles x y = role_set L I.joined x y

  label_at : (x k : ℕ) → bit (label x) k ≡ lab x k
  unfolding label
  label_at x k = word-whole (length ps) (lab x) (out x) k

  label_is : (x : ℕ) → bit (label x) ≡ lab x
  label_is x = fun_ext (label_at x)

  kb_on_lem : (gs : List Flat) (x : ℕ) → x < n → All (λ f. (x : ℕ) → x < n → eval (lab x) f ≡ true) gs → kb_on gs (label x) ≡ true
  unfolding kb_on
  kb_on_lem [] x l h = refl
  kb_on_lem (f ∷ gs) x l h = and_i (ap (λ (a : ℕ → Bool). eval a f) (label_is x) ∙ h.0 x l) (kb_on_lem gs x l h.1)

  role_on_lem : (x y : ℕ) (u : Role) → RolesBelow L u → role_on u (roles x y) ≡ role_in I.joined u x y
  unfolding roles
  role_on_lem x y u h = role_in_lem I.joined x y L u h

  -- the role inclusions hold between two individuals, so on their role set
  rbox_on_lem : (l : List RoleInclusion) → All (InclusionBelow L) l → satisfies_rbox I l ≡ true → (x y : ℕ) → x < n → y < n →
      rbox_on l (roles x y) ≡ true
  unfolding rbox_on satisfies_rbox satisfies_inclusion
  rbox_on_lem [] b h x y lx ly = refl
  rbox_on_lem (i ∷ l) b h x y lx ly =
      and_i (rw (role_on_lem x y i.left b.0.left, role_on_lem x y i.right b.0.right) holds) (rbox_on_lem l b.1 rest x y lx ly)
    where
      here : satisfies_inclusion I i ≡ true
      here = and_l (satisfies_inclusion I i) (satisfies_rbox I l) h

      rest : satisfies_rbox I l ≡ true
      rest = and_r_lem (satisfies_inclusion I i) (satisfies_rbox I l) h

      holds : (not (role_in I.joined i.left x y) || role_in I.joined i.right x y) ≡ true
      holds =
          all-at n (λ z. not (role_in I.joined i.left x z) || role_in I.joined i.right x z)
          (all-at n (λ w. every n (λ z. not (role_in I.joined i.left w z) || role_in I.joined i.right w z)) here x lx) y ly

  -- what is asked of part k, by what it is
  module _ (x y k : ℕ) (lx : x < n) (ly : y < n) where
    ex-at : (p : Part) → part_at ps k ≡ p → PartRole (RolesBelow L) p
        → (not (eqb (kind_of p) 2 && (role_holds p (roles x y) && has_filler p (label y))) || bit (label x) k) ≡ true
    unfolding kind_of role_holds has_filler
    ex-at (name_p t) e h = refl
    ex-at (fresh_p g c) e h = refl
    ex-at (exists_p g u f) e h =
        imp_i (role_on u (roles x y) && filler_in f (bit (label y))) (bit (label x) k) (λ p.
        label_at x k ∙ M.existentials x k g u f lx e
        ∙ any_intro n (λ y. role_in I.joined u x y && filler_in f (lab y)) y ly
        (flip (ap₂ ◌&&◌ (role_on_lem x y u h) (ap (filler_in f) (label_is y))) ∙ p))
    ex-at (forall_p g u f) e h = refl

    uni-at : (p : Part) → part_at ps k ≡ p → PartRole (RolesBelow L) p
        → (not (eqb (kind_of p) 3 && (bit (label x) k && role_holds p (roles x y))) || has_filler p (label y)) ≡ true
    unfolding kind_of role_holds has_filler
    uni-at (name_p t) e h = refl
    uni-at (fresh_p g c) e h = refl
    uni-at (exists_p g u f) e h = refl
    uni-at (forall_p g u f) e h =
        imp_i (bit (label x) k && role_on u (roles x y)) (filler_in f (bit (label y))) (λ p.
        ap (filler_in f) (label_is y)
        ∙ imp_e (role_in I.joined u x y) (filler_in f (lab y))
        (all-at n (λ y. not (role_in I.joined u x y) || filler_in f (lab y))
        (flip (M.universals x k g u f lx e) ∙ flip (label_at x k) ∙ and_l (bit (label x) k) (role_on u (roles x y)) p) y ly)
        (flip (role_on_lem x y u h) ∙ and_r_lem (bit (label x) k) (role_on u (roles x y)) p))

  -- the domino of x with some individual is a witness
  witness-at : (x y k : ℕ) → x < n → y < n → (test : ℕ → Bool) → v.holds k (roles x y) ≡ true → test (label y) ≡ true
      → witness v D (label x) k test ≡ true
  unfolding D label roles
  witness-at x y k lx ly test h t =
      witness-by v D (label x) k test (roles x y) (label y) (role_lt I.joined x y L) (word_lt (length ps) (lab y)) h t
      (domino_in I L (length ps) lab x y lx ly)

  module _ (x k : ℕ) (lx : x < n) where
    delex-at : (p : Part) → part_at ps k ≡ p → PartRole (RolesBelow L) p
        → (not (eqb (kind_of p) 2 && bit (label x) k) || witness v D (label x) k (v.has k)) ≡ true
    unfolding kind_of role_holds has_filler
    delex-at (name_p t) e h = refl
    delex-at (fresh_p g c) e h = refl
    delex-at (exists_p g u f) e h =
        imp_i (bit (label x) k) (witness v D (label x) k (v.has k)) (λ p.
        let w = any_found n (λ y. role_in I.joined u x y && filler_in f (lab y)) (flip (M.existentials x k g u f lx e) ∙ flip (label_at x k) ∙ p) in
        let y : ℕ = w.0 in
        witness-at x y k lx w.1 (v.has k)
        (ap (λ (q : Part). role_holds q (roles x y)) e ∙ role_on_lem x y u h ∙ and_l (role_in I.joined u x y) (filler_in f (lab y)) w.2)
        (ap (λ (q : Part). has_filler q (label y)) e ∙ ap (filler_in f) (label_is y) ∙ and_r_lem (role_in I.joined u x y) (filler_in f (lab y)) w.2))
    delex-at (forall_p g u f) e h = refl

    deluni-at : (p : Part) → part_at ps k ≡ p → PartRole (RolesBelow L) p
        → (not (eqb (kind_of p) 3 && not (bit (label x) k)) || witness v D (label x) k (λ B. not (v.has k B))) ≡ true
    unfolding kind_of role_holds has_filler
    deluni-at (name_p t) e h = refl
    deluni-at (fresh_p g c) e h = refl
    deluni-at (exists_p g u f) e h = refl
    deluni-at (forall_p g u f) e h =
        imp_i (not (bit (label x) k)) (witness v D (label x) k (λ B. not (v.has k B))) (λ p.
        let w = any_found n (λ y. not (not (role_in I.joined u x y) || filler_in f (lab y)))
        (flip (not-all n (λ y. not (role_in I.joined u x y) || filler_in f (lab y)))
        ∙ ap not (flip (M.universals x k g u f lx e) ∙ flip (label_at x k)) ∙ p) in
        let y : ℕ = w.0 in
        let q = imp_fails (role_in I.joined u x y) (filler_in f (lab y)) w.2 in
        witness-at x y k lx w.1 (λ B. not (v.has k B))
        (ap (λ (q : Part). role_holds q (roles x y)) e ∙ role_on_lem x y u h ∙ q.0)
        (ap (λ (q : Part). not (has_filler q (label y))) e ∙ ap (λ (a : ℕ → Bool). not (filler_in f a)) (label_is y) ∙ q.1))

  module _ (x y : ℕ) (lx : x < n) (ly : y < n) where
    at_first : initially v (label x) (roles x y) (label y) ≡ true
    unfolding initially kb ex uni rbox
    at_first =
        and_i (kb_on_lem fs x lx M.kb)
        (and_i (all_intro (length ps) _ (λ k l. ex-at x y k lx ly (part_at ps k) refl (below k)))
        (and_i (all_intro (length ps) _ (λ k l. uni-at x y k lx ly (part_at ps k) refl (below k)))
        (rbox_on_lem incl bounded includes_all x y lx ly)))

    converse_in : D (label y) (inverse L (roles x y)) (label x) ≡ true
    unfolding D label roles
    converse_in = ap (λ (R : ℕ). D (label y) R (label x)) (role-inverse I.joined x y L) ∙ domino_in I L (length ps) lab y x ly lx

    sustains : sustained v D (label x) (roles x y) (label y) ≡ true
    unfolding sustained delex deluni sym
    sustains =
        and_i (all_intro (length ps) _ (λ k l. delex-at x k lx (part_at ps k) refl (below k)))
        (and_i (all_intro (length ps) _ (λ k l. deluni-at x k lx (part_at ps k) refl (below k))) converse_in)

    fine : (A R B : ℕ) → A ≡ label x → R ≡ roles x y → B ≡ label y → defect v D A R B ≡ 0
    fine A R B p q r = rw (p, q, r) (none-defect v D (label x) (roles x y) (label y) at_first sustains)

  pub projection-stable : Stable v (projection_of I L (length ps) lab)
  unfolding Stable D label roles
  projection-stable A R B e =
      let w = domino_from I L (length ps) lab A R B e in
      fine w.0 w.1 w.2 w.3 A R B w.4 w.5 w.6
