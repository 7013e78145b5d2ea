-- An interpretation laid out from a stable domino set fits its labels (002, Lemma 1), and the three layers of 02, N11, are laid
-- out from their dominoes.
use Prim.Native.Nat.{ℕ, ◌+◌, ◌*◌, ◌/◌, ◌%◌, ◌≤◌, ◌<◌}
use native.Mathlib.Omega.{arith}
use native.Mathlib.Nat.{mod-lt, mul-le-mul_right}
use lib.Arith.{digits_div, digits_mod}
use lib.Pow.{pow_pos}
use mathlib.Core.Path.{◌≡◌, refl, sym, ap, ap₂, ◌∙◌, subst}
use mathlib.Core.Logic.{◌⊎◌, inl, inr}
use mathlib.Core.Bool.{Bool, true, false, not, ◌&&◌, ◌||◌, false≢true}
use mathlib.Core.List.{List, [], ◌∷◌}
use lib.Dec.{eqb}
use borrow.Author.Tests.{eq-eqb, eqb-true}
use Rattle.bitset.specs.Bits.{bit}
use Rattle.bitset.proofs.Laws.{bit_past}
use Rattle.bitset.proofs.Facts.{and_l, and_r_lem, and_i, imp_i, imp_e, is_false, iff_eq, dec}
use Rattle.elimination.specs.Sets.{every, some}
use Rattle.elimination.proofs.Quantifiers.{all-at, all_intro, any_intro, any_found}
use Rattle.syntax.specs.Concepts.{Role, named, inverse as inverse_r, not_r, and_r, or_r, RoleInclusion}
use Rattle.syntax.specs.Normal.{Tag}
use Rattle.syntax.specs.Flatten.{Filler, Part, exists_p, forall_p, Flat, part_at}
use Rattle.syntax.specs.Truth.{eval, kb_on, role_on, rbox_on}
use Rattle.syntax.specs.Bounds.{All, RolesBelow, InclusionBelow, PartRole}
use Rattle.semantics.specs.Interpretations.{role_in, satisfies_inclusion, satisfies_rbox}
use Rattle.semantics.specs.Dominoes.{Dominoes, inverse}
use Rattle.semantics.specs.Conditions.{Stable}
use Rattle.semantics.specs.Views.{filler_in, view_of}
use Rattle.semantics.specs.Labelling.{Labelling}
use Rattle.semantics.specs.Layers.{label_at, leads, roles_at, labelled, Enumerates}
use Rattle.semantics.proofs.Numbers.{inverse_even, inverse-odd}
use Rattle.semantics.proofs.Stability.{Witness, stable-kb, stable-rbox, stable-ex, stable-uni, stable-delex, stable-deluni, stable-sym}

-- n individuals with labels and role sets, laid out from the set D: two individuals are a domino of D or no role joins them,
-- each domino that begins with an individual's label leads on from it, and each individual's label begins one
pub record Layout (L : ℕ) (D : Dominoes) (n : ℕ) (lab : ℕ → ℕ) (rs : ℕ → ℕ → ℕ) : Type 0 where
  pub back : (k x y : ℕ) → k < L → x < n → y < n → bit (rs y x) (2 * k) ≡ bit (rs x y) (2 * k + 1)
  pub pair : (x y : ℕ) → x < n → y < n → (D (lab x) (rs x y) (lab y) ≡ true) ⊎ (rs x y ≡ 0)
  pub step : (x R B : ℕ) → x < n → D (lab x) R B ≡ true → (y : ℕ) × (y < n) × (rs x y ≡ R) × (lab y ≡ B)
  pub starts : (x : ℕ) → x < n → (R : ℕ) × (B : ℕ) × (D (lab x) R B ≡ true)

-- the flattened axioms, one by one
kb_labels : (n : ℕ) (lab : ℕ → ℕ) (gs : List Flat) → ((x : ℕ) → x < n → kb_on gs (lab x) ≡ true)
    → All (λ f. (x : ℕ) → x < n → eval (bit (lab x)) f ≡ true) gs
unfolding kb_on
kb_labels n lab [] h = tt
kb_labels n lab (f ∷ gs) h = (
  λ x l. and_l (eval (bit (lab x)) f) (kb_on gs (lab x)) (h x l),
  kb_labels n lab gs (λ x l. and_r_lem (eval (bit (lab x)) f) (kb_on gs (lab x)) (h x l)),
)

module _ (L : ℕ) (incl : List RoleInclusion) (fs : List Flat) (ps : List Part) (D : Dominoes) (stable : Stable (view_of L incl fs ps) D)
    (low : (k : ℕ) → PartRole (RolesBelow L) (part_at ps k)) (restricted : (k : ℕ) → PartRole (λ u. role_on u 0 ≡ false) (part_at ps k))
    (n : ℕ) (lab : ℕ → ℕ) (rs : ℕ → ℕ → ℕ) (Y : Layout L D n lab rs) where
  J : ℕ → ℕ → ℕ → Bool
  J k x y = bit (rs x y) (2 * k)

  role-at : (x y : ℕ) → x < n → y < n → (u : Role) → RolesBelow L u → role_in J u x y ≡ role_on u (rs x y)
  unfolding role_in role_on J
  role-at x y lx ly (named k) h = refl
  role-at x y lx ly (inverse_r k) h = Y.back k x y h lx ly
  role-at x y lx ly (not_r u) h = ap not (role-at x y lx ly u h)
  role-at x y lx ly (and_r u v) h = ap₂ ◌&&◌ (role-at x y lx ly u h.0) (role-at x y lx ly v h.1)
  role-at x y lx ly (or_r u v) h = ap₂ ◌||◌ (role-at x y lx ly u h.0) (role-at x y lx ly v h.1)

  -- a role expression that is false on no roles joins two individuals only in a domino of D
  joined_in : (u : Role) → role_on u 0 ≡ false → (x y : ℕ) → x < n → y < n → role_on u (rs x y) ≡ true → D (lab x) (rs x y) (lab y) ≡ true
  joined_in u b x y lx ly r = pick (Y.pair x y lx ly)
    where
      pick : (D (lab x) (rs x y) (lab y) ≡ true) ⊎ (rs x y ≡ 0) → D (lab x) (rs x y) (lab y) ≡ true
      pick (inl d) = d
      pick (inr z) = absurd (false≢true (sym b ∙ ap (role_on u) (sym z) ∙ r))

  module _ (x k : ℕ) (g : Tag) (u : Role) (f : Filler) (lx : x < n) where
    fill : ℕ → Bool
    fill y = filler_in f (bit (lab y))

    -- the individual that a witness leads to
    lead : (p : ℕ → Bool) → Witness D (lab x) u p → RolesBelow L u → (y : ℕ) × (y < n) × (role_in J u x y ≡ true) × (p (lab y) ≡ true)
    lead p w h =
        let v = Y.step x w.0 w.1 lx w.2 in
        (v.0, v.1, role-at x v.0 lx v.1 u h ∙ ap (role_on u) v.2 ∙ w.3, ap p v.3 ∙ w.4)

    exists_label : part_at ps k ≡ exists_p g u f → bit (lab x) k ≡ some n (λ y. role_in J u x y && fill y)
    unfolding fill
    exists_label e =
        let h : RolesBelow L u = subst (PartRole (RolesBelow L)) e (low k) in
        let b : role_on u 0 ≡ false = subst (PartRole (λ u. role_on u 0 ≡ false)) e (restricted k) in
        let s = Y.starts x lx in
        iff_eq (bit (lab x) k) (some n (λ y. role_in J u x y && fill y))
        (λ a. let w = lead (λ B. filler_in f (bit B)) (stable-delex L incl fs ps D stable (lab x) s.0 s.1 s.2 k g u f e a) h in
        any_intro n (λ y. role_in J u x y && fill y) w.0 w.1 (and_i w.2 w.3))
        (λ a. let w = any_found n (λ y. role_in J u x y && fill y) a in
        let y = w.0 in
        let r = sym (role-at x y lx w.1 u h) ∙ and_l (role_in J u x y) (fill y) w.2 in
        let d = joined_in u b x y lx w.1 r in
        stable-ex L incl fs ps D stable (lab x) (rs x y) (lab y) d k g u f e r (and_r_lem (role_in J u x y) (fill y) w.2))

    forall_label : part_at ps k ≡ forall_p g u f → bit (lab x) k ≡ every n (λ y. not (role_in J u x y) || fill y)
    unfolding fill
    forall_label e =
        let h : RolesBelow L u = subst (PartRole (RolesBelow L)) e (low k) in
        let b : role_on u 0 ≡ false = subst (PartRole (λ u. role_on u 0 ≡ false)) e (restricted k) in
        iff_eq (bit (lab x) k) (every n (λ y. not (role_in J u x y) || fill y))
        (λ a. all_intro n (λ y. not (role_in J u x y) || fill y) (λ y ly. imp_i (role_in J u x y) (fill y) (λ r.
        let t = sym (role-at x y lx ly u h) ∙ r in
        stable-uni L incl fs ps D stable (lab x) (rs x y) (lab y) (joined_in u b x y lx ly t) k g u f e a t)))
        (λ a. pick h a (dec (bit (lab x) k)))
      where
        pick : RolesBelow L u → every n (λ y. not (role_in J u x y) || fill y) ≡ true
            → (bit (lab x) k ≡ true) ⊎ (bit (lab x) k ≡ false) → bit (lab x) k ≡ true
        pick h a (inl t) = t
        pick h a (inr z) =
            let s = Y.starts x lx in
            let w = lead (λ B. not (filler_in f (bit B))) (stable-deluni L incl fs ps D stable (lab x) s.0 s.1 s.2 k g u f e z) h in
            let q = imp_e (role_in J u x w.0) (fill w.0) (all-at n (λ y. not (role_in J u x y) || fill y) a w.0 w.1) w.2 in
            absurd (false≢true (ap not (sym q) ∙ w.3))

  -- 002, Lemma 1: a restriction holds of an individual exactly if it is in the individual's label
  pub layout_labelling : Labelling (labelled n lab rs) (part_at ps) fs (λ x k. bit (lab x) k)
  unfolding J fill
  layout_labelling = record {
    names = λ x t l e. refl;
    existentials = λ x k g u f l e. exists_label x k g u f l e;
    universals = λ x k g u f l e. forall_label x k g u f l e;
    kb = kb_labels n lab fs (λ x l. let s = Y.starts x l in stable-kb L incl fs ps D stable (lab x) s.0 s.1 s.2);
  }

  -- a role inclusion of which the first role is restricted: two individuals that no role joins meet it for that
  included : (i : RoleInclusion) → InclusionBelow L i → ((x y : ℕ) → x < n → y < n → D (lab x) (rs x y) (lab y) ≡ true →
      (not (role_on i.left (rs x y)) || role_on i.right (rs x y)) ≡ true) → satisfies_inclusion (labelled n lab rs) i ≡ true
  unfolding satisfies_inclusion J
  included i b h =
      all_intro n _ (λ x lx. all_intro n _ (λ y ly.
      imp_i (role_in J i.left x y) (role_in J i.right x y) (λ r.
      let l = sym (role-at x y lx ly i.left b.left) ∙ r in
      role-at x y lx ly i.right b.right ∙ imp_e (role_on i.left (rs x y)) (role_on i.right (rs x y))
      (h x y lx ly (joined_in i.left b.restricted x y lx ly l)) l)))

  layout_each : (l : List RoleInclusion) → All (InclusionBelow L) l → ((x y : ℕ) → x < n → y < n → D (lab x) (rs x y) (lab y) ≡ true →
      rbox_on l (rs x y) ≡ true) → satisfies_rbox (labelled n lab rs) l ≡ true
  unfolding satisfies_rbox rbox_on
  layout_each [] b h = refl
  layout_each (i ∷ l) b h =
      and_i
      (included i b.0 (λ x y lx ly d. and_l (not (role_on i.left (rs x y)) || role_on i.right (rs x y)) (rbox_on l (rs x y)) (h x y lx ly d)))
      (layout_each l b.1 (λ x y lx ly d.
      and_r_lem (not (role_on i.left (rs x y)) || role_on i.right (rs x y)) (rbox_on l (rs x y)) (h x y lx ly d)))

  -- 02, N8: the role inclusions hold of every two individuals
  pub layout_rbox : All (InclusionBelow L) incl → satisfies_rbox (labelled n lab rs) incl ≡ true
  layout_rbox b = layout_each incl b (λ x y lx ly d. stable-rbox L incl fs ps D stable (lab x) (rs x y) (lab y) d)

-- ---- the three layers

module _ (L m : ℕ) (a r b : ℕ → ℕ) where
  -- an individual does not lead to one that leads to it
  one_way : (x y : ℕ) → leads m a b x y ≡ true → leads m a b y x ≡ false
  unfolding leads
  one_way x y e = is_false (leads m a b y x) (λ f.
      let p : (x / m + 1) % 3 ≡ y / m = eqb-true _ _ (and_l (eqb ((x / m + 1) % 3) (y / m)) (eqb (b (x % m)) (a (y % m))) e) in
      let q : (y / m + 1) % 3 ≡ x / m = eqb-true _ _ (and_l (eqb ((y / m + 1) % 3) (x / m)) (eqb (b (y % m)) (a (x % m))) f) in
      apart (x / m) (y / m) p q)
    where
      apart : (g h : ℕ) → (g + 1) % 3 ≡ h → (h + 1) % 3 ≡ g → ⊥
      apart g h p q = omega arith

  pub roles_on : (x y : ℕ) → leads m a b x y ≡ true → roles_at L m a r b x y ≡ r (y % m)
  unfolding roles_at
  roles_on x y e = rw e

  roles_back : (x y : ℕ) → leads m a b x y ≡ false → leads m a b y x ≡ true → roles_at L m a r b x y ≡ inverse L (r (x % m))
  unfolding roles_at
  roles_back x y e f = rw (e, f)

  pub roles-none : (x y : ℕ) → leads m a b x y ≡ false → leads m a b y x ≡ false → roles_at L m a r b x y ≡ 0
  unfolding roles_at
  roles-none x y e f = rw (e, f)

  no_bit : (k : ℕ) → bit 0 k ≡ false
  no_bit k = bit_past k 0 k (pow_pos k) (omega arith)

  abbrev Either : ℕ → ℕ → Type 0
  Either x y = (leads m a b x y ≡ true) ⊎ (leads m a b x y ≡ false)

  back_at : (k x y : ℕ) → k < L → Either x y → Either y x → bit (roles_at L m a r b y x) (2 * k) ≡ bit (roles_at L m a r b x y) (2 * k + 1)
  back_at k x y h (inl e) f = rw (roles_on x y e, roles_back y x (one_way x y e) e) (inverse_even L (r (y % m)) k h)
  back_at k x y h (inr e) (inl f) = rw (roles_on y x f, roles_back x y e f) (sym (inverse-odd L (r (x % m)) k h))
  back_at k x y h (inr e) (inr f) = rw (roles-none x y e f, roles-none y x f e) (no_bit (2 * k) ∙ sym (no_bit (2 * k + 1)))

  module _ (incl : List RoleInclusion) (fs : List Flat) (ps : List Part) (D : Dominoes)
      (stable : Stable (view_of L incl fs ps) D) (E : Enumerates D m a r b) (pos : 0 < m) where
    own : (x : ℕ) → D (a (x % m)) (r (x % m)) (b (x % m)) ≡ true
    own x = E.each (x % m) (mod-lt x pos)

    own_converse : (x : ℕ) → D (b (x % m)) (inverse L (r (x % m))) (a (x % m)) ≡ true
    own_converse x = stable-sym L incl fs ps D stable (a (x % m)) (r (x % m)) (b (x % m)) (own x)

    -- the domino of the individual that x leads to begins with x's label
    meet_at : (x y : ℕ) → leads m a b x y ≡ true → b (x % m) ≡ a (y % m)
    unfolding leads
    meet_at x y e = eqb-true _ _ (and_r_lem (eqb ((x / m + 1) % 3) (y / m)) (eqb (b (x % m)) (a (y % m))) e)

    pair_at : (x y : ℕ) → Either x y → Either y x
        → (D (label_at m b x) (roles_at L m a r b x y) (label_at m b y) ≡ true) ⊎ (roles_at L m a r b x y ≡ 0)
    unfolding label_at
    pair_at x y (inl e) f = inl (rw (roles_on x y e, meet_at x y e) (own y))
    pair_at x y (inr e) (inl f) = inl (rw (roles_back x y e f, meet_at y x f) (own_converse x))
    pair_at x y (inr e) (inr f) = inr (roles-none x y e f)

    -- the individual of the next layer whose domino is number j
    pub next-at : (x j : ℕ) → j < m → b (x % m) ≡ a j → (y : ℕ) × (y < 3 * m) × (leads m a b x y ≡ true) × (y % m ≡ j)
    unfolding leads
    next-at x j h e =
        let g : ℕ = (x / m + 1) % 3 in (
          g * m + j,
          small g h (omega arith),
          and_i (eq-eqb _ _ (sym (digits_div g h))) (eq-eqb _ _ (e ∙ ap a (sym (digits_mod g h)))),
          digits_mod g h,
        )
      where
        small : (g : ℕ) → j < m → g ≤ 2 → g * m + j < 3 * m
        small g h l = omega (arith, mul-le-mul_right m l)

    layers_step : (x R B : ℕ) → x < 3 * m → D (label_at m b x) R B ≡ true
        → (y : ℕ) × (y < 3 * m) × (roles_at L m a r b x y ≡ R) × (label_at m b y ≡ B)
    unfolding label_at
    layers_step x R B l d =
        let w = E.all (b (x % m)) R B d in
        let v = next-at x w.0 w.1 (sym w.2) in
        (v.0, v.1, roles_on x v.0 v.2 ∙ ap r v.3 ∙ w.3, ap b v.3 ∙ w.4)

    pub layers_layout : Layout L D (3 * m) (label_at m b) (roles_at L m a r b)
    unfolding label_at
    layers_layout = record {
      back = λ k x y h lx ly. back_at k x y h (dec (leads m a b x y)) (dec (leads m a b y x));
      pair = λ x y lx ly. pair_at x y (dec (leads m a b x y)) (dec (leads m a b y x));
      step = λ x R B l d. layers_step x R B l d;
      starts = λ x l. (inverse L (r (x % m)), a (x % m), own_converse x);
    }
