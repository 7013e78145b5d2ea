-- 002, Proposition 1, a fresh name read as its filler, for all that flattens a knowledge base.
use Prim.Native.Nat.{ℕ, ◌≤◌, ◌<◌}
use mathlib.Core.Path.{◌≡◌, refl, sym, ap, ◌∙◌, fun_ext, subst}
use mathlib.Core.Bool.{Bool, true, false, not, ◌&&◌, ◌||◌}
use mathlib.Core.Logic.{◌⊎◌, inl, inr}
use mathlib.Core.Option.{none}
use mathlib.Core.List.{List, [], ◌∷◌}
use lib.ListN.{length, get_or-eq_default}
use Rattle.bitset.proofs.Facts.{and_l, and_r_lem, and_i, or_case, or_l, or_r_lem, imp_e, imp_i}
use Rattle.elimination.specs.Sets.{every, some}
use Rattle.elimination.proofs.Quantifiers.{all-at, all_intro, any_found, any_intro}
use Rattle.syntax.specs.Concepts.{Role, Axiom}
use Rattle.syntax.specs.Normal.{Tag, Nf, top_n, bottom_n, name_n, not_n, and_n, or_n, exists_n, forall_n, axiom_nf}
use Rattle.syntax.specs.Flatten.{everything, nothing, name_a, Filler, atomic, fresh, Part, name_p, fresh_p, exists_p, forall_p, Flat, atom, no_part, part_at}
use Rattle.syntax.specs.Truth.{eval}
use Rattle.syntax.specs.Bounds.{All, Plain, FillerPlain, PartPlain}
use Rattle.semantics.specs.Interpretations.{Interpretation, role_in, holds, satisfies, satisfies_tbox, holds_nf}
use Rattle.semantics.specs.Views.{filler_in}
use Rattle.semantics.specs.Projection.{plain_at, read_part, parts_in}
use Rattle.semantics.specs.Flattens.{AtomAt, Fills, Laid, Origin, of_axiom, of_filler, Flattens}
use Rattle.semantics.specs.Labelling.{Labelling}
use Rattle.semantics.proofs.NormalForm.{axiom_holds}

all_map {κ κ'} : {A : Type 0} {P : A → Type κ} {Q : A → Type κ'} → ((a : A) → P a → Q a) → (l : List A) → All P l → All Q l
all_map f [] h = tt
all_map f (a ∷ l) h = (f a h.0, all_map f l h.1)

-- equal tests behind a role
some_same : (I : Interpretation) (u : Role) (x : ℕ) (f g : ℕ → Bool) → ((y : ℕ) → f y ≡ g y) →
    some I.individuals (λ y. role_in I.joined u x y && f y) ≡ some I.individuals (λ y. role_in I.joined u x y && g y)
some_same I u x f g e = ap (λ (p : ℕ → Bool). some I.individuals (λ y. role_in I.joined u x y && p y)) (fun_ext e)

every_same : (I : Interpretation) (u : Role) (x : ℕ) (f g : ℕ → Bool) → ((y : ℕ) → f y ≡ g y) →
    every I.individuals (λ y. not (role_in I.joined u x y) || f y) ≡ every I.individuals (λ y. not (role_in I.joined u x y) || g y)
every_same I u x f g e = ap (λ (p : ℕ → Bool). every I.individuals (λ y. not (role_in I.joined u x y) || p y)) (fun_ext e)

-- a tree says of the parts that an individual has what the normal form says of the individual
module _ (I : Interpretation) (m : ℕ → Part) (R : Flat → Type 0) where
  fills_reads : (c : Nf) (L : Flat → Type 0) (f : Filler) → Fills m R c L f (atom c) → (y : ℕ) → filler_in f (λ k. plain_at I (m k) y) ≡ holds_nf I c y
  unfolding Fills atom AtomAt filler_in plain_at holds_nf
  fills_reads top_n L f w y = rw w.0
  fills_reads bottom_n L f w y = rw w.0
  fills_reads (name_n t) L f w y = rw (w.0, w.1)
  fills_reads (not_n t) L f w y = rw (w.3, w.4)
  fills_reads (and_n c d) L f w y = rw (w.3, w.4)
  fills_reads (or_n c d) L f w y = rw (w.3, w.4)
  fills_reads (exists_n g u c) L f w y = rw (w.3, w.4)
  fills_reads (forall_n g u c) L f w y = rw (w.3, w.4)

  pub laid-reads : (c : Nf) (h : Flat) → Laid m R c h → (x : ℕ) → eval (parts_in I m x) h ≡ holds_nf I c x
  unfolding Laid eval parts_in read_part holds_nf
  laid-reads top_n h w x = rw w
  laid-reads bottom_n h w x = rw w
  laid-reads (name_n t) h w x = rw (w.0, w.1)
  laid-reads (not_n t) h w x = rw (w.0, w.1)
  laid-reads (and_n c d) h w x = rw (w.2, laid-reads c w.0 w.3 x, laid-reads d w.1 w.4 x)
  laid-reads (or_n c d) h w x = rw (w.2, laid-reads c w.0 w.3 x, laid-reads d w.1 w.4 x)
  laid-reads (exists_n g u c) h w x =
      rw (w.3, w.4) (some_same I u x (λ y. filler_in w.2 (λ k. plain_at I (m k) y)) (holds_nf I c)
      (fills_reads c (λ f. Laid m R c f) w.2 w.5))
  laid-reads (forall_n g u c) h w x =
      rw (w.3, w.4) (every_same I u x (λ y. filler_in w.2 (λ k. plain_at I (m k) y)) (holds_nf I c)
      (fills_reads c (λ f. Laid m R c f) w.2 w.5))

-- a filler is read alike behind a role and in a label
module _ (I : Interpretation) (m : ℕ → Part) where
  plain-reads : (k y : ℕ) (p : Part) → m k ≡ p → Plain p → plain_at I (m k) y ≡ parts_in I m y k
  unfolding parts_in read_part plain_at
  plain-reads k y (name_p t) e ok = rw e
  plain-reads k y (fresh_p g c) e ok = rw e
  plain-reads k y (exists_p g u f) e ok = absurd ok
  plain-reads k y (forall_p g u f) e ok = absurd ok

  filler-reads : (f : Filler) → FillerPlain m f → (y : ℕ) → filler_in f (λ k. plain_at I (m k) y) ≡ filler_in f (parts_in I m y)
  unfolding filler_in
  filler-reads (atomic everything) ok y = refl
  filler-reads (atomic nothing) ok y = refl
  filler-reads (atomic (name_a t)) ok y = plain-reads t y (m t) refl ok
  filler-reads (fresh j) ok y = plain-reads j y (m j) refl ok

-- The parts that the individuals have are a labelling, where the axioms are satisfied.
module _ (I : Interpretation) (s : List Axiom) (ps : List Part) (fs : List Flat) (F : Flattens s ps fs) where
  axioms_hold : (s : List Axiom) → satisfies_tbox I s ≡ true → All (λ a. (x : ℕ) → x < I.individuals → holds_nf I (axiom_nf a) x ≡ true) s
  unfolding satisfies_tbox satisfies
  axioms_hold [] k = tt
  axioms_hold (a ∷ s) k = (
    λ x l. axiom_holds I a x ∙
        all-at I.individuals (λ x. not (holds I a.left x) || holds I a.right x) (and_l (satisfies I a) (satisfies_tbox I s) k) x l,
    axioms_hold s (and_r_lem (satisfies I a) (satisfies_tbox I s) k),
  )

  -- of the individuals with P
  pub origin_holds : (P : ℕ → Type 0) (h : Flat) → Origin (part_at ps) (λ c. (x : ℕ) → P x → holds_nf I c x ≡ true) h →
      (x : ℕ) → P x → eval (parts_in I (part_at ps) x) h ≡ true
  unfolding eval parts_in read_part
  origin_holds P h (of_axiom c t w) x l = laid-reads I (part_at ps) (λ f. Unit) c h w x ∙ t x l
  origin_holds P _ (of_filler {h} j g c e w) x l =
      rw (e, laid-reads I (part_at ps) (λ f. Unit) c h w x) (imp_i (holds_nf I c x) (holds_nf I c x) (λ p. p))

  pub tbox_labelling : satisfies_tbox I s ≡ true → Labelling I (part_at ps) fs (parts_in I (part_at ps))
  unfolding parts_in read_part
  tbox_labelling k = record {
    names = λ x t l e. rw e;
    existentials = λ x k g u f l e. rw e (some_same I u x
        (λ y. filler_in f (λ j. plain_at I (part_at ps j) y)) (λ y. filler_in f (parts_in I (part_at ps) y))
        (filler-reads I (part_at ps) f (subst (PartPlain (part_at ps)) e (F.fillers k))));
    universals = λ x k g u f l e. rw e (every_same I u x
        (λ y. filler_in f (λ j. plain_at I (part_at ps j) y)) (λ y. filler_in f (parts_in I (part_at ps) y))
        (filler-reads I (part_at ps) f (subst (PartPlain (part_at ps)) e (F.fillers k))));
    kb = all_map (origin_holds (λ x. x < I.individuals)) fs (F.sound (λ c. (x : ℕ) → x < I.individuals → holds_nf I c x ≡ true) (axioms_hold s k));
  }

-- The way back: where a tree is true on the label, the normal form that it lays out holds.
module _ (I : Interpretation) (m : ℕ → Part) (fs : List Flat) (lab : ℕ → ℕ → Bool) (M : Labelling I m fs lab) where
  -- true on every label
  True : Flat → Type 0
  True f = (x : ℕ) → x < I.individuals → eval (lab x) f ≡ true

  -- the filler f gives c
  Gives : Nf → Filler → Type 0
  Gives c f = (y : ℕ) → y < I.individuals → filler_in f (lab y) ≡ true → holds_nf I c y ≡ true

  -- a tree that lays out c gives c
  Says : Nf → Type 0
  Says c = (h : Flat) → Laid m True c h → (x : ℕ) → x < I.individuals → eval (lab x) h ≡ true → holds_nf I c x ≡ true

  fresh_gives : (c : Nf) (f : Filler) → Says c → Fills m True c (λ h. Laid m True c h) f none → Gives c f
  unfolding Fills filler_in Gives Says True eval
  fresh_gives c f ih w y l e =
      let p : lab y w.0 ≡ true = rw w.3 at e in
      ih w.2 w.6 y l (imp_e (lab y w.0) (eval (lab y) w.2) (w.5 y l) p)

  fills_gives : (c : Nf) (f : Filler) → Says c → Fills m True c (λ h. Laid m True c h) f (atom c) → Gives c f
  unfolding Fills atom AtomAt filler_in holds_nf Gives
  fills_gives top_n f ih w y l e = refl
  fills_gives bottom_n f ih w y l e = rw w.0 at e
  fills_gives (name_n t) f ih w y l e = sym (M.names y t l w.1) ∙ (rw w.0 at e)
  fills_gives (not_n t) f ih w y l e = fresh_gives (not_n t) f ih w y l e
  fills_gives (and_n c d) f ih w y l e = fresh_gives (and_n c d) f ih w y l e
  fills_gives (or_n c d) f ih w y l e = fresh_gives (or_n c d) f ih w y l e
  fills_gives (exists_n g u c) f ih w y l e = fresh_gives (exists_n g u c) f ih w y l e
  fills_gives (forall_n g u c) f ih w y l e = fresh_gives (forall_n g u c) f ih w y l e

  exists_gives : (g e : Tag) (u : Role) (c : Nf) (f : Filler) (k x : ℕ) → x < I.individuals → m k ≡ exists_p e u f → Gives c f →
      lab x k ≡ true → holds_nf I (exists_n g u c) x ≡ true
  unfolding holds_nf Gives
  exists_gives g e u c f k x l q gives p =
      let w = any_found I.individuals (λ y. role_in I.joined u x y && filler_in f (lab y)) (sym (M.existentials x k e u f l q) ∙ p) in
      let y = w.0 in
      any_intro I.individuals (λ y. role_in I.joined u x y && holds_nf I c y) y w.1
      (and_i (and_l (role_in I.joined u x y) (filler_in f (lab y)) w.2)
      (gives y w.1 (and_r_lem (role_in I.joined u x y) (filler_in f (lab y)) w.2)))

  forall_gives : (g e : Tag) (u : Role) (c : Nf) (f : Filler) (k x : ℕ) → x < I.individuals → m k ≡ forall_p e u f → Gives c f →
      lab x k ≡ true → holds_nf I (forall_n g u c) x ≡ true
  unfolding holds_nf Gives
  forall_gives g e u c f k x l q gives p =
      let w = all-at I.individuals (λ y. not (role_in I.joined u x y) || filler_in f (lab y)) (sym (M.universals x k e u f l q) ∙ p) in
      all_intro I.individuals (λ y. not (role_in I.joined u x y) || holds_nf I c y) (λ y n. imp_i (role_in I.joined u x y) (holds_nf I c y)
      (λ r. gives y n (imp_e (role_in I.joined u x y) (filler_in f (lab y)) (w y n) r)))

  laid_gives : (c : Nf) → Says c
  unfolding Laid eval holds_nf Says
  laid_gives top_n h w x l e = refl
  laid_gives bottom_n h w x l e = rw w at e
  laid_gives (name_n t) h w x l e = sym (M.names x t l w.1) ∙ (rw w.0 at e)
  laid_gives (not_n t) h w x l e = rw (← M.names x t l w.1) (rw w.0 at e)
  laid_gives (and_n c d) h w x l e =
      let p : (eval (lab x) w.0 && eval (lab x) w.1) ≡ true = rw w.2 at e in
      and_i (laid_gives c w.0 w.3 x l (and_l (eval (lab x) w.0) (eval (lab x) w.1) p))
      (laid_gives d w.1 w.4 x l (and_r_lem (eval (lab x) w.0) (eval (lab x) w.1) p))
  laid_gives (or_n c d) h w x l e =
      let p : (eval (lab x) w.0 || eval (lab x) w.1) ≡ true = rw w.2 at e in
      either (laid_gives c w.0 w.3 x l) (laid_gives d w.1 w.4 x l) (or_case (eval (lab x) w.0) (eval (lab x) w.1) p)
    where
      either : {A B : Type 0} → (A → holds_nf I c x ≡ true) → (B → holds_nf I d x ≡ true) → A ⊎ B → (holds_nf I c x || holds_nf I d x) ≡ true
      either f g (inl a) = or_l (holds_nf I d x) (f a)
      either f g (inr b) = or_r_lem (holds_nf I c x) (g b)
  laid_gives (exists_n g u c) h w x l e =
      exists_gives g w.1 u c w.2 w.0 x l w.4 (fills_gives c w.2 (laid_gives c) w.5) (rw w.3 at e)
  laid_gives (forall_n g u c) h w x l e =
      forall_gives g w.1 u c w.2 w.0 x l w.4 (fills_gives c w.2 (laid_gives c) w.5) (rw w.3 at e)

  tbox-all : (s : List Axiom) → All (λ a. (h : Flat) × True h × Laid m True (axiom_nf a) h) s → satisfies_tbox I s ≡ true
  unfolding satisfies_tbox satisfies True Says
  tbox-all [] w = refl
  tbox-all (a ∷ s) w =
      and_i (all_intro I.individuals (λ x. not (holds I a.left x) || holds I a.right x)
      (λ x l. sym (axiom_holds I a x) ∙ laid_gives (axiom_nf a) w.0.0 w.0.2 x l (w.0.1 x l)))
      (tbox-all s w.1)

-- An interpretation that has a labelling satisfies the axioms.
pub labelling_tbox : (I : Interpretation) (s : List Axiom) (ps : List Part) (fs : List Flat) → Flattens s ps fs → (lab : ℕ → ℕ → Bool) →
    Labelling I (part_at ps) fs lab → satisfies_tbox I s ≡ true
unfolding True
labelling_tbox I s ps fs F lab M = tbox-all I (part_at ps) fs lab M s (F.complete (True I (part_at ps) fs lab M) M.kb)

-- Beyond the list of parts an individual has none.
pub parts_out : (I : Interpretation) (ps : List Part) (x k : ℕ) → length ps ≤ k → parts_in I (part_at ps) x k ≡ false
unfolding parts_in read_part holds_nf
parts_out I ps x k h = rw (get_or-eq_default ps no_part {n = k} h)
