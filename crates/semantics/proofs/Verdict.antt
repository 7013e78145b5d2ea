-- A knowledge base has a canonical domino set that is not empty exactly if it has a finite model (002, Theorem 1), two
-- flattenings give one verdict (02, N4), and the layered interpretation of a stable set is a model; of the largest one its
-- dominoes are exactly the set (02, N11).
use Prim.Native.Nat.{ℕ, zero, suc, ◌+◌, ◌*◌, ◌/◌, ◌%◌, ◌^◌, ◌≤◌, ◌<◌}
use native.Mathlib.Omega.{arith}
use native.Mathlib.Nat.{mod-lt, mod-eq_of_lt, div-eq_of_lt}
use mathlib.Core.Path.{◌≡◌, refl, sym, ap, ◌∙◌, subst}
use mathlib.Core.Logic.{◌↔◌, ◌⊎◌, inl, inr}
use mathlib.Core.Bool.{Bool, true, false}
use mathlib.Core.List.{List}
use lib.ListN.{length, get_or}
use lib.Pow.{pow_pos}
use lib.Dec.{eqb}
use borrow.Author.Tests.{eqb-true}
use Rattle.bitset.specs.Bits.{bit, word}
use Rattle.bitset.proofs.Laws.{word_ext, word_bits, bit_past}
use Rattle.bitset.proofs.Facts.{iff_eq, is_false, and_l, and_r_lem, and_i}
use Rattle.syntax.specs.Concepts.{RoleInclusion}
use Rattle.syntax.specs.Flatten.{Part, Flat, separate, Flattening, flatten_by, part_at}
use Rattle.syntax.specs.Truth.{role_on}
use Rattle.syntax.specs.Bounds.{All, AxiomRoles, RolesBelow, InclusionBelow, PartRole}
use Rattle.syntax.specs.Reading.{Kb, kb, flats_of, parts_of, read_kb}
use Rattle.syntax.proofs.Promised.{kb_bounded, kb_restricted, kb_inclusions}
use Rattle.semantics.specs.Interpretations.{Interpretation, satisfies_tbox, satisfies_rbox, models, Satisfiable}
use Rattle.semantics.specs.Dominoes.{Dominoes, Met, total, left_of, roles_of, right_of_lem, unnumbered}
use Rattle.semantics.specs.Conditions.{Stable, InRange, LargestStable, canon_dominoes}
use Rattle.semantics.specs.Views.{view_of, kb_view, separate_view}
use Rattle.semantics.specs.Projection.{parts_in, role_bit, role_set, projection_of, projection}
use Rattle.semantics.specs.Flattens.{Flattens}
use Rattle.semantics.specs.Labelling.{Labelling}
use Rattle.semantics.specs.Layers.{label_at, leads, roles_at, layered, Enumerates, rising}
use Rattle.semantics.proofs.Flattening.{flatten_flattens, separate_faithful, judged_flattens}
use Rattle.semantics.proofs.Meaning.{tbox_labelling, labelling_tbox, parts_out}
use Rattle.semantics.proofs.Canonical.{canon-largest}
use Rattle.semantics.proofs.Projecting.{role_even, role-odd, domino_in, projection_range, projection-stable}
use Rattle.semantics.proofs.Stability.{stable-sym}
use Rattle.semantics.proofs.Layering.{Layout, layout_labelling, layout_rbox, layers_layout, next-at, roles_on, roles-none}
use Rattle.semantics.proofs.Rising.{rising_enumerates}

-- of a knowledge base: the roles of its axioms are below the count and each false on no roles, and so are those of its role
-- inclusions, the first of each false on no roles
pub record Bounded (k : Kb) : Type 0 where
  pub below : AxiomRoles (RolesBelow k.roles) k.axioms
  pub restricted : AxiomRoles (λ u. role_on u 0 ≡ false) k.axioms
  pub inclusions : All (InclusionBelow k.roles) k.inclusions

-- its axioms flattened somehow
module _ (k : Kb) (B : Bounded k) (ps : List Part) (fs : List Flat) (F : Flattens k.axioms ps fs) where
  abbrev L : ℕ
  L = k.roles

  abbrev incl : List RoleInclusion
  incl = k.inclusions

  low : (k : ℕ) → PartRole (RolesBelow L) (part_at ps k)
  low = F.roles (RolesBelow L) B.below

  tight : (k : ℕ) → PartRole (λ u. role_on u 0 ≡ false) (part_at ps k)
  tight = F.roles (λ u. role_on u 0 ≡ false) B.restricted

  -- the layered interpretation of a stable set
  module _ (D : Dominoes) (stable : Stable (view_of L incl fs ps) D) (inside : InRange (view_of L incl fs ps) D)
      (m : ℕ) (a r b : ℕ → ℕ) (E : Enumerates D m a r b) (pos : 0 < m) where
    Y : Layout L D (3 * m) (label_at m b) (roles_at L m a r b)
    Y = layers_layout L m a r b incl fs ps D stable E pos

    -- its labels fit
    pub layered_labelling : Labelling (layered L m a r b) (part_at ps) fs (λ x k. bit (label_at m b x) k)
    layered_labelling = layout_labelling L incl fs ps D stable low tight (3 * m) (label_at m b) (roles_at L m a r b) Y

    pub layered_rbox : satisfies_rbox (layered L m a r b) incl ≡ true
    layered_rbox = layout_rbox L incl fs ps D stable low tight (3 * m) (label_at m b) (roles_at L m a r b) Y B.inclusions

    -- so it is a model
    pub layered-models : models (layered L m a r b) k ≡ true
    unfolding models
    layered-models =
        and_i (labelling_tbox (layered L m a r b) k.axioms ps fs F (λ x k. bit (label_at m b x) k) layered_labelling) layered_rbox

    -- a label has nothing past the parts
    pub layered_label : (x : ℕ) → label_at m b x < 2 ^ length ps
    unfolding label_at InRange
    layered_label x = (inside (a (x % m)) (r (x % m)) (b (x % m)) (E.each (x % m) (mod-lt x pos))).right

    pub label_out : (x k : ℕ) → length ps ≤ k → bit (label_at m b x) k ≡ false
    label_out x k h = bit_past (length ps) (label_at m b x) k (layered_label x) h

    label-word : (x : ℕ) → word (length ps) (λ k. bit (label_at m b x) k) ≡ label_at m b x
    label-word x = word_bits (length ps) (label_at m b x) (layered_label x)

    -- two individuals are a domino of the set, or no role joins them
    pub layered_pair : (x y : ℕ) → x < 3 * m → y < 3 * m
        → (D (label_at m b x) (roles_at L m a r b x y) (label_at m b y) ≡ true) ⊎ (roles_at L m a r b x y ≡ 0)
    layered_pair = Y.pair

    roles_small : (x y : ℕ) → x < 3 * m → y < 3 * m → roles_at L m a r b x y < 2 ^ (2 * L)
    unfolding InRange
    roles_small x y lx ly = pick (layered_pair x y lx ly)
      where
        pick : (D (label_at m b x) (roles_at L m a r b x y) (label_at m b y) ≡ true) ⊎ (roles_at L m a r b x y ≡ 0)
            → roles_at L m a r b x y < 2 ^ (2 * L)
        pick (inl d) = (inside (label_at m b x) (roles_at L m a r b x y) (label_at m b y) d).roles
        pick (inr e) = subst (λ (z : ℕ). z < 2 ^ (2 * L)) (sym e) (pow_pos (2 * L))

    joins : ℕ → ℕ → ℕ → Bool
    joins k x y = bit (roles_at L m a r b x y) (2 * k)

    -- the role set between two individuals is the one that was laid out
    pub layered_roles : (x y : ℕ) → x < 3 * m → y < 3 * m
        → role_set L (λ k x y. bit (roles_at L m a r b x y) (2 * k)) x y ≡ roles_at L m a r b x y
    unfolding role_set joins
    layered_roles x y lx ly =
        word_ext (2 * L) (role_bit joins x y) (bit (roles_at L m a r b x y)) (λ k h. go k h (k % 2) (omega arith) refl)
        ∙ word_bits (2 * L) (roles_at L m a r b x y) (roles_small x y lx ly)
      where
        go : (k : ℕ) → k < 2 * L → (q : ℕ) → q < 2 → k % 2 ≡ q → role_bit joins x y k ≡ bit (roles_at L m a r b x y) k
        go k h zero l e =
            let even : k ≡ 2 * (k / 2) = omega arith in
            ap (role_bit joins x y) even ∙ role_even joins x y (k / 2) ∙ ap (bit (roles_at L m a r b x y)) (sym even)
        go k h (suc zero) l e =
            let odd : k ≡ 2 * (k / 2) + 1 = omega arith in
            ap (role_bit joins x y) odd ∙ role-odd joins x y (k / 2) ∙ Y.back (k / 2) x y (omega arith) lx ly
            ∙ ap (bit (roles_at L m a r b x y)) (sym odd)
        go k h (suc (suc q)) l e = absurd (omega arith)

    -- the domino of two individuals
    pair_in : (x y : ℕ) → x < 3 * m → y < 3 * m → (A R B : ℕ) → label_at m b x ≡ A → roles_at L m a r b x y ≡ R → label_at m b y ≡ B
        → projection_of (layered L m a r b) L (length ps) (λ x k. bit (label_at m b x) k) A R B ≡ true
    pair_in x y lx ly A R B p q t =
        move (label-word x ∙ p) (layered_roles x y lx ly ∙ q) (label-word y ∙ t)
        (domino_in (layered L m a r b) L (length ps) (λ x k. bit (label_at m b x) k) x y lx ly)
      where
        move : {X Y Z : ℕ} → X ≡ A → Y ≡ R → Z ≡ B
            → projection_of (layered L m a r b) L (length ps) (λ x k. bit (label_at m b x) k) X Y Z ≡ true
            → projection_of (layered L m a r b) L (length ps) (λ x k. bit (label_at m b x) k) A R B ≡ true
        move p q t h = rw (p, q, t) at h

    -- each domino of the set is in its domino projection
    pub layered-has : (A R B : ℕ) → D A R B ≡ true
        → projection_of (layered L m a r b) L (length ps) (λ x k. bit (label_at m b x) k) A R B ≡ true
    unfolding label_at
    layered-has A R B e =
        let w = E.all A R B e in
        let v = E.all B _ A (stable-sym L incl fs ps D stable A R B e) in
        let x : ℕ = v.0 in
        let ex : b (x % m) ≡ A = ap b (mod-eq_of_lt v.1) ∙ v.4 in
        let n = next-at L m a r b incl fs ps D stable E pos x w.0 w.1 (ex ∙ sym w.2) in
        let y : ℕ = n.0 in
        pair_in x y (omega (arith, v.1)) n.1 A R B ex (roles_on L m a r b x y n.2 ∙ ap r n.3 ∙ w.3) (ap b n.3 ∙ w.4)

  -- the largest stable set
  module _ (C : Dominoes) (best : LargestStable (view_of L incl fs ps) C) where
    -- the dominoes of labels that fit are in it, if the role inclusions hold
    pub labelling_in : (I : Interpretation) (lab : ℕ → ℕ → Bool) → Labelling I (part_at ps) fs lab
        → ((x k : ℕ) → length ps ≤ k → lab x k ≡ false) → satisfies_rbox I incl ≡ true
        → (A R B : ℕ) → projection_of I L (length ps) lab A R B ≡ true → C A R B ≡ true
    labelling_in I lab M out e =
        best.most (projection_of I L (length ps) lab) (projection_range I L incl ps fs lab)
        (projection-stable I L incl ps fs lab M out low B.inclusions e)

    -- every model's dominoes are in it
    pub model_in : (I : Interpretation) → models I k ≡ true
        → (A R B : ℕ) → projection_of I L (length ps) (parts_in I (part_at ps)) A R B ≡ true → C A R B ≡ true
    unfolding models
    model_in I e =
        labelling_in I (parts_in I (part_at ps))
        (tbox_labelling I k.axioms ps fs F (and_l (satisfies_tbox I k.axioms) (satisfies_rbox I incl) e)) (parts_out I ps)
        (and_r_lem (satisfies_tbox I k.axioms) (satisfies_rbox I incl) e)

    -- a model of at least one individual has a domino
    pub satisfiable_met : (I : Interpretation) → 0 < I.individuals → models I k ≡ true → Met C
    satisfiable_met I pos e = (_, _, _, model_in I e _ _ _ (domino_in I L (length ps) (parts_in I (part_at ps)) 0 0 pos pos))

    -- 02, N11: the layered interpretation's domino projection is exactly the set
    pub layered-projection : (m : ℕ) (a r b : ℕ → ℕ) (E : Enumerates C m a r b) (pos : 0 < m) (A R B : ℕ)
        → projection_of (layered L m a r b) L (length ps) (λ x k. bit (label_at m b x) k) A R B ≡ C A R B
    layered-projection m a r b E pos A R B =
        let s = best.stable in
        let i = best.inside in
        iff_eq (projection_of (layered L m a r b) L (length ps) (λ x k. bit (label_at m b x) k) A R B) (C A R B)
        (labelling_in (layered L m a r b) (λ x k. bit (label_at m b x) k) (layered_labelling C s i m a r b E pos)
        (label_out C s i m a r b E pos) (layered_rbox C s i m a r b E pos) A R B)
        (layered-has C s i m a r b E pos A R B)

    module _ (m : ℕ) (a r b : ℕ → ℕ) (E : Enumerates C m a r b) (pos : 0 < m) where
      -- two individuals of one layer are joined by no role
      no_lead : (x y : ℕ) → x < m → y < m → leads m a b x y ≡ false
      unfolding leads
      no_lead x y lx ly = is_false (leads m a b x y) (λ e.
          let p = and_l (eqb ((x / m + 1) % 3) (y / m)) (eqb (b (x % m)) (a (y % m))) e in
          apart (x / m) (y / m) (div-eq_of_lt lx) (div-eq_of_lt ly) (eqb-true _ _ p))
        where
          apart : (g h : ℕ) → g ≡ 0 → h ≡ 0 → (g + 1) % 3 ≡ h → ⊥
          apart g h p q e = omega arith

      -- so two right labels that occur are a domino with no role
      pub no_roles_in : (A R B A' R' B' : ℕ) → C A R B ≡ true → C A' R' B' ≡ true → C B 0 B' ≡ true
      unfolding label_at
      no_roles_in A R B A' R' B' d e =
          let w = E.all A R B d in let v = E.all A' R' B' e in
          let x : ℕ = w.0 in let y : ℕ = v.0 in
          sym (layered-projection m a r b E pos B 0 B')
          ∙ pair_in C best.stable best.inside m a r b E pos x y (omega (arith, w.1)) (omega (arith, v.1)) B 0 B' (ap b (mod-eq_of_lt w.1) ∙ w.4)
          (roles-none L m a r b x y (no_lead x y w.1 v.1) (no_lead y x v.1 w.1)) (ap b (mod-eq_of_lt v.1) ∙ v.4)

    -- its numbers rising
    risen : List ℕ
    risen = rising (unnumbered (length ps) L C) (total (length ps) L)

    pub met_satisfiable : Met C → Satisfiable k
    unfolding risen
    met_satisfiable w =
        let c : ℕ = length ps in
        let m : ℕ = length risen in
        let a : ℕ → ℕ = λ i. left_of c L (get_or risen i 0) in
        let r : ℕ → ℕ = λ i. roles_of c L (get_or risen i 0) in
        let b : ℕ → ℕ = λ i. right_of_lem c (get_or risen i 0) in
        let E : Enumerates C m a r b = rising_enumerates (view_of L incl fs ps) C best.inside (unnumbered c L C) (λ n h. refl) in
        let pos : 0 < m = omega (arith, (E.all w.0 w.1 w.2 w.3).1) in
        (layered L m a r b, omega arith, layered-models C best.stable best.inside m a r b E pos)

-- 002, Theorem 1
pub theorem : (k : Kb) → Bounded k → (ps : List Part) (fs : List Flat) → Flattens k.axioms ps fs
    → (C : Dominoes) → LargestStable (view_of k.roles k.inclusions fs ps) C → Met C ↔ Satisfiable k
theorem k B ps fs F C best = (
  met_satisfiable k B ps fs F C best,
  λ w. satisfiable_met k B ps fs F C best w.0 w.1 w.2,
)

-- 02, N4: two flattenings of one knowledge base have one verdict
pub same_verdict : (k : Kb) → Bounded k → (ps ps' : List Part) (fs fs' : List Flat) → Flattens k.axioms ps fs → Flattens k.axioms ps' fs'
    → (C C' : Dominoes) → LargestStable (view_of k.roles k.inclusions fs ps) C → LargestStable (view_of k.roles k.inclusions fs' ps') C'
    → Met C ↔ Met C'
same_verdict k B ps ps' fs fs' F F' C C' best best' =
    let t = theorem k B ps fs F C best in
    let t' = theorem k B ps' fs' F' C' best' in
    (λ w. t'.1 (t.0 w), λ w. t.1 (t'.0 w))

-- ---- of a sheet that is read

module _ (limit : ℕ) (sheet : List ℕ) (k : Kb) (e : read_kb limit sheet ≡ kb k) where
  pub bounded : Bounded k
  bounded =
      record {
        below = (kb_bounded limit sheet e).roles;
        restricted = kb_restricted limit sheet e;
        inclusions = kb_inclusions limit sheet e;
      }

  pub sheet_flat : Flattens k.axioms (parts_of k) (flats_of k)
  sheet_flat = judged_flattens k.names k.axioms (kb_bounded limit sheet e).names

  -- the canonical domino set is not empty exactly if the knowledge base has a finite model
  pub sheet-verdict : Met (canon_dominoes (kb_view k)) ↔ Satisfiable k
  sheet-verdict = theorem k bounded (parts_of k) (flats_of k) sheet_flat (canon_dominoes (kb_view k)) (canon-largest (kb_view k))

  -- and each model's dominoes are in it
  pub model_dominoes : (I : Interpretation) → models I k ≡ true
      → (A R B : ℕ) → projection I k A R B ≡ true → canon_dominoes (kb_view k) A R B ≡ true
  unfolding projection
  model_dominoes I h =
      model_in k bounded (parts_of k) (flats_of k) sheet_flat (canon_dominoes (kb_view k)) (canon-largest (kb_view k)) I h

  -- 02, N4: sharing changes no verdict. The canonical set is there for any number of parts, so without sharing there may be
  -- more than the limit.
  pub sharing-verdict : Met (canon_dominoes (kb_view k)) ↔ Met (canon_dominoes (separate_view k))
  sharing-verdict =
      let F : Flattening = flatten_by separate k.names k.axioms in
      same_verdict k bounded (parts_of k) F.parts (flats_of k) F.axioms sheet_flat
      (flatten_flattens separate separate_faithful k.names k.axioms (kb_bounded limit sheet e).names)
      (canon_dominoes (kb_view k)) (canon_dominoes (separate_view k)) (canon-largest (kb_view k)) (canon-largest (separate_view k))
