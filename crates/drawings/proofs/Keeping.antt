-- A drawn interpretation that breaks nothing is a model, and judging drops none of its dominoes; its labels are what 002's Table 1 says.
use Prim.Native.Nat.{ℕ, ◌≤◌, ◌<◌}
use native.Mathlib.Decide.{dec_lt}
use native.Mathlib.Omega.{arith}
use mathlib.Core.Path.{◌≡◌, refl, sym, ap, ap₂, ◌∙◌}
use mathlib.Core.Bool.{Bool, true, false, not, ◌&&◌, ◌||◌, cond}
use mathlib.Core.List.{List, [], ◌∷◌}
use lib.Dec.{eqb}
use lib.ListN.{length, get_or-eq_default}
use borrow.Author.Tests.{not-false}
use Rattle.bitset.specs.Bits.{bit, word}
use Rattle.bitset.proofs.Laws.{word_lt, bit_word, word_bits, bit_past}
use Rattle.bitset.proofs.Facts.{and_l, and_r_lem, and_i}
use Rattle.elimination.specs.Sets.{every, some}
use Rattle.elimination.proofs.Quantifiers.{any_same, all_same}
use Rattle.syntax.specs.Concepts.{Role}
use Rattle.syntax.specs.Flatten.{everything, nothing, name_a, Filler, atomic, fresh, Part, name_p, fresh_p, exists_p, forall_p, Flat, no_part, part_at}
use Rattle.syntax.specs.Truth.{eval, kb_on, role_on, rbox_on}
use Rattle.syntax.specs.Parts.{kind_of, role_holds}
use Rattle.syntax.specs.Bounds.{All, RolesBelow, PartRole, Plain, FillerLow, FillerPlain, PartLow, PartPlain}
use Rattle.syntax.specs.Reading.{Kb, kb, flats_of, parts_of, read_kb}
use Rattle.syntax.proofs.Promised.{kb_bounded, kb_part_roles, kb-fillers, kb-plain, kb_inclusions}
use Rattle.semantics.specs.Interpretations.{Interpretation, role_in, satisfies_rbox, models}
use Rattle.semantics.specs.Dominoes.{unnumbered}
use Rattle.semantics.specs.Conditions.{View, Stable, dominoes, canon, canon_dominoes}
use Rattle.semantics.specs.Views.{filler_in, has_filler, kb_view}
use Rattle.semantics.specs.Projection.{role_set, projection_of}
use Rattle.semantics.specs.Flattens.{Flattens}
use Rattle.semantics.specs.Labelling.{Labelling}
use Rattle.semantics.proofs.Canonical.{of_unnumbered, dominoes_of, canon-largest}
use Rattle.semantics.proofs.Stability.{stable-kb, stable-rbox}
use Rattle.semantics.proofs.Meaning.{labelling_tbox}
use Rattle.semantics.proofs.Projecting.{role_in_lem, domino_in}
use Rattle.semantics.proofs.Verdict.{bounded, labelling_in}
use Rattle.semantics.proofs.Flattening.{judged_flattens}
use Rattle.drawings.specs.Entries.{Drawing}
use Rattle.drawings.specs.Checking.{connects, names_at, interpretation, unbroken, roles_between, has_part, label, drawn_dominoes, drawn_set, breaks_at, breaks_between, breach}
use Rattle.drawings.specs.Meanings.{NoneBreaks, Holds, part_drawn, Draws}
use Rattle.drawings.proofs.Inclusions.{rbox_holds}
use Rattle.drawings.proofs.Breaches.{breach_means}

-- interpretations and labels that agree on the individuals have the same dominoes
pub projection_same : (I I' : Interpretation) (L c : ℕ) (lab lab' : ℕ → ℕ → Bool) → I.individuals ≡ I'.individuals
    → ((x : ℕ) → x < I.individuals → word c (lab x) ≡ word c (lab' x))
    → ((x y : ℕ) → x < I.individuals → y < I.individuals → role_set L I.joined x y ≡ role_set L I'.joined x y)
    → (A R B : ℕ) → projection_of I L c lab A R B ≡ projection_of I' L c lab' A R B
unfolding projection_of
projection_same I I' L c lab lab' e p q A R B =
    rw (← e) (any_same I.individuals _ _ (λ x l. any_same I.individuals _ _ (λ y h. rw (p x l, p y h, q x y l h) refl)))

-- a part at an individual, by the roles of an interpretation; names and fresh names, which fillers are, by b
unfoldable pub part_by : Interpretation → (ℕ → ℕ → Bool) → Part → ℕ → ℕ → Bool
part_by I b (name_p t) x j = b x j
part_by I b (fresh_p g a) x j = b x j
part_by I b (exists_p g u f) x j = some I.individuals (λ y. role_in I.joined u x y && filler_in f (b y))
part_by I b (forall_p g u f) x j = every I.individuals (λ y. not (role_in I.joined u x y) || filler_in f (b y))

module _ (limit : ℕ) (sheet : List ℕ) (k : Kb) (e : read_kb limit sheet ≡ kb k) (d : Drawing) where
  abbrev v : View
  v = kb_view k

  abbrev ps : List Part
  ps = parts_of k

  abbrev c : ℕ
  c = length ps

  abbrev n : ℕ
  n = length d.names

  fits : Flattens k.axioms ps (flats_of k)
  fits = judged_flattens k.names k.axioms (kb_bounded limit sheet e).names

  -- ---- the labels

  pub label_as_read : (x j : ℕ) → has_part v d x j ≡ part_drawn d (part_at ps j) j x
  unfolding has_part part_drawn kind_of role_holds has_filler roles_between
  label_as_read x j = go (part_at ps j) (kb_part_roles limit sheet e j)
    where
      J : ℕ → ℕ → ℕ → Bool
      J = connects d.connections

      go : (p : Part) → PartRole (RolesBelow k.roles) p
          → cond (eqb (kind_of p) 2) (some n (λ y. role_holds p (role_set k.roles J x y) && has_filler p (names_at d y)))
          (cond (eqb (kind_of p) 3) (every n (λ y. not (role_holds p (role_set k.roles J x y)) || has_filler p (names_at d y)))
          (bit (names_at d x) j))
          ≡ part_drawn d p j x
      go (name_p t) h = refl
      go (fresh_p g b) h = refl
      go (exists_p g u f) h =
          any_same n _ _ (λ y l. ap (λ (z : Bool). z && filler_in f (bit (names_at d y))) (role_in_lem J x y k.roles u h))
      go (forall_p g u f) h =
          all_same n _ _ (λ y l. ap (λ (z : Bool). not z || filler_in f (bit (names_at d y))) (role_in_lem J x y k.roles u h))

  pub label_bit : (x j : ℕ) → j < c → bit (label v d x) j ≡ has_part v d x j
  unfolding label
  label_bit x j h = bit_word (c) (has_part v d x) j h

  label_out : (x j : ℕ) → c ≤ j → bit (label v d x) j ≡ false
  unfolding label
  label_out x j h = bit_past (c) (label v d x) j (word_lt (c) (has_part v d x)) h

  -- fillers, as drawn and in the label
  plain_bit : (y j : ℕ) → j < c → Plain (part_at ps j) → bit (names_at d y) j ≡ bit (label v d y) j
  unfolding part_drawn
  plain_bit y j h p = sym (label_bit y j h ∙ label_as_read y j ∙ go (part_at ps j) p)
    where
      go : (p : Part) → Plain p → part_drawn d p j y ≡ bit (names_at d y) j
      go (name_p t) h = refl
      go (fresh_p g b) h = refl
      go (exists_p g u f) h = absurd h
      go (forall_p g u f) h = absurd h

  filler_same : (f : Filler) → FillerLow (c) f → FillerPlain (part_at ps) f → (a b : ℕ → Bool)
      → ((j : ℕ) → j < c → Plain (part_at ps j) → a j ≡ b j) → filler_in f a ≡ filler_in f b
  unfolding filler_in
  filler_same (atomic everything) h p a b same = refl
  filler_same (atomic nothing) h p a b same = refl
  filler_same (atomic (name_a t)) h p a b same = same t h p
  filler_same (fresh j) h p a b same = same j h p

  -- a part that is no fresh name is in the list
  pub part_there : (j : ℕ) (p : Part) → part_at ps j ≡ p → (kind_of p ≡ 1 → ⊥) → j < c
  unfolding kind_of
  part_there j p q other = go (dec_lt j (c))
    where
      go : Dec (j < c) → j < c
      go (yes h) = h
      go (no h) = absurd (other (ap kind_of (sym q ∙ get_or-eq_default ps no_part {n = j} (omega (arith, h)))))

  -- a restriction's role is over roles below the count, and its filler, if it is a part, a name or a fresh name that is there
  part_bounds : (j : ℕ) (p : Part) → part_at ps j ≡ p
      → PartRole (RolesBelow k.roles) p × PartLow (c) p × PartPlain (part_at ps) p
  part_bounds j p q = rw (← q) (kb_part_roles limit sheet e j, kb-fillers limit sheet e j, kb-plain limit sheet e j)

  -- ---- where nothing breaks

  good_at : NoneBreaks v d → (x : ℕ) → x < n → kb_on (flats_of k) (label v d x) ≡ true
  unfolding breaks_at
  good_at h x l = not-false (kb_on (flats_of k) (label v d x)) (h x l)

  closed_at : Holds v d → (x y : ℕ) → x < n → y < n → rbox_on k.inclusions (roles_between v d x y) ≡ true
  unfolding breaks_between
  closed_at h x y lx ly = not-false (rbox_on k.inclusions (roles_between v d x y)) (h.pairs x y lx ly)

  module _ (I : Interpretation) (D : Draws k I d) where
    roles_same : (u : Role) → RolesBelow k.roles u → (x y : ℕ) → x < n → y < n
        → role_in (connects d.connections) u x y ≡ role_in I.joined u x y
    unfolding roles_between
    roles_same u h x y lx ly =
        sym (role_in_lem (connects d.connections) x y k.roles u h)
        ∙ ap (role_on u) (sym (D.roles x y (omega (arith, D.individuals)) (omega (arith, D.individuals))))
        ∙ role_in_lem I.joined x y k.roles u h

    -- a part is read by names and fresh names that are the drawn ones
    pub part_read : (b : ℕ → ℕ → Bool) → ((y i : ℕ) → y < n → i < c → Plain (part_at ps i) → bit (names_at d y) i ≡ b y i)
        → (x j : ℕ) → x < n → (Plain (part_at ps j) → bit (names_at d x) j ≡ b x j) → has_part v d x j ≡ part_by I b (part_at ps j) x j
    unfolding part_drawn part_by
    part_read b same x j l here = label_as_read x j ∙ go (part_at ps j) refl
      where
        go : (p : Part) → part_at ps j ≡ p → part_drawn d p j x ≡ part_by I b p x j
        go (name_p t) q = here (rw q tt)
        go (fresh_p g a) q = here (rw q tt)
        go (exists_p g u f) q =
            let w = part_bounds j (exists_p g u f) q in
            rw D.individuals
            (any_same n _ _ (λ y i. ap₂ ◌&&◌ (roles_same u w.0 x y l i) (filler_same f w.1 w.2 _ (b y) (λ j. same y j i))))
        go (forall_p g u f) q =
            let w = part_bounds j (forall_p g u f) q in
            rw D.individuals
            (all_same n _ _ (λ y i.
            ap₂ (λ (r z : Bool). not r || z) (roles_same u w.0 x y l i) (filler_same f w.1 w.2 _ (b y) (λ j. same y j i))))

    labels_true : (fs : List Flat) → ((x : ℕ) → x < n → kb_on fs (label v d x) ≡ true)
        → All (λ f. (x : ℕ) → x < I.individuals → eval (bit (label v d x)) f ≡ true) fs
    unfolding kb_on
    labels_true [] h = tt
    labels_true (f ∷ fs) h = (
      λ x l. and_l (eval (bit (label v d x)) f) (kb_on fs (label v d x)) (h x (omega (arith, D.individuals))),
      labels_true fs (λ x l. and_r_lem (eval (bit (label v d x)) f) (kb_on fs (label v d x)) (h x l)),
    )

    -- in a label a part that is no fresh name, by the label's own names and fresh names
    label_by : (p : Part) → (kind_of p ≡ 1 → ⊥) → (x j : ℕ) → x < I.individuals → part_at ps j ≡ p
        → bit (label v d x) j ≡ part_by I (λ y. bit (label v d y)) p x j
    label_by p other x j l q =
        let h : j < c = part_there j p q other in
        label_bit x j h
        ∙ part_read (λ y. bit (label v d y)) (λ y i m. plain_bit y i) x j (omega (arith, l, D.individuals)) (plain_bit x j h)
        ∙ ap (λ (p : Part). part_by I (λ y. bit (label v d y)) p x j) q

    pub holds_labelling : NoneBreaks v d → Labelling I (part_at ps) (flats_of k) (λ x. bit (label v d x))
    unfolding part_drawn part_by kind_of
    holds_labelling h = record {
      names = λ x t l q.
          label_bit x t (part_there t (name_p t) q (λ z. omega (arith, z))) ∙ label_as_read x t ∙ rw q (sym (D.names x t l q));
      existentials = λ x j g u f l q. label_by (exists_p g u f) (λ z. omega (arith, z)) x j l q;
      universals = λ x j g u f l q. label_by (forall_p g u f) (λ z. omega (arith, z)) x j l q;
      kb = labels_true (flats_of k) (good_at h);
    }

    holds_rbox : Holds v d → satisfies_rbox I k.inclusions ≡ true
    unfolding roles_between
    holds_rbox h =
        rbox_holds I k.roles k.inclusions (kb_inclusions limit sheet e) (λ x y lx ly.
        ap (rbox_on k.inclusions) (D.roles x y lx ly) ∙ closed_at h x y (omega (arith, D.individuals)) (omega (arith, D.individuals)))

    -- an interpretation that is drawn so is a model
    pub holds_models : breach v d ≡ unbroken → models I k ≡ true
    unfolding models
    holds_models h =
        let b = (breach_means v d unbroken).0 h in
        and_i
        (labelling_tbox I k.axioms ps (flats_of k) fits (λ x. bit (label v d x)) (holds_labelling b.each))
        (holds_rbox b)

  -- the interpretation as drawn
  draws : Draws k (interpretation d) d
  unfolding roles_between
  draws = record { individuals = refl; names = λ x t l q. refl; roles = λ x y lx ly. refl }

  pub drawn_models : breach v d ≡ unbroken → models (interpretation d) k ≡ true
  drawn_models = holds_models (interpretation d) draws

  -- its dominoes, by its labels
  drawn_labelled : (A R B : ℕ) → drawn_dominoes v d A R B ≡ projection_of (interpretation d) k.roles (c) (λ x. bit (label v d x)) A R B
  unfolding drawn_dominoes label
  drawn_labelled =
      projection_same (interpretation d) (interpretation d) k.roles (c) (has_part v d) (λ x. bit (label v d x)) refl
      (λ x l. sym (word_bits (c) (label v d x) (word_lt (c) (has_part v d x)))) (λ x y lx ly. refl)

  -- "judging drops none of these"
  pub holds_canonical : breach v d ≡ unbroken → (A R B : ℕ) → drawn_dominoes v d A R B ≡ true → canon_dominoes v A R B ≡ true
  holds_canonical h A R B m =
      let b = (breach_means v d unbroken).0 h in
      labelling_in k (bounded limit sheet k e) ps (flats_of k) fits (canon_dominoes v) (canon-largest v)
      (interpretation d) (λ x. bit (label v d x)) (holds_labelling (interpretation d) draws b.each) label_out
      (holds_rbox (interpretation d) draws b) A R B (sym (drawn_labelled A R B) ∙ m)

  -- as numbers
  pub holds_canon : breach v d ≡ unbroken → (m : ℕ) → m < dominoes v → drawn_set v d m ≡ true → canon v m ≡ true
  unfolding drawn_set unnumbered canon_dominoes dominoes_of
  holds_canon h m l i = sym (of_unnumbered v (canon v) m l) ∙ holds_canonical h _ _ _ i

  -- the other way round: if judging drops none of them, nothing breaks
  pub canonical_holds : ((A R B : ℕ) → drawn_dominoes v d A R B ≡ true → canon_dominoes v A R B ≡ true) → breach v d ≡ unbroken
  unfolding drawn_dominoes breaks_at breaks_between roles_between label
  canonical_holds h =
      (breach_means v d unbroken).1
      (record {
        each = λ x l. ap not (stable-kb k.roles k.inclusions (flats_of k) ps (canon_dominoes v) stable _ _ _ (own x x l l));
        pairs = λ x y lx ly.
            ap not (stable-rbox k.roles k.inclusions (flats_of k) ps (canon_dominoes v) stable _ _ _ (own x y lx ly));
      })
    where
      stable : Stable v (canon_dominoes v)
      stable = (canon-largest v).stable

      own : (x y : ℕ) → x < n → y < n → canon_dominoes v (label v d x) (roles_between v d x y) (label v d y) ≡ true
      own x y lx ly = h _ _ _ (domino_in (interpretation d) k.roles c (has_part v d) x y lx ly)
