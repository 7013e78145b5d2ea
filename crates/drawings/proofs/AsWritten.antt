-- The answer of a check in terms of the axioms and role inclusions as written (002, Table 1): of pairs for every drawing, of
-- individuals for an interpretation's own file.
use Prim.Native.Nat.{ℕ, ◌≤◌, ◌<◌}
use native.Mathlib.Omega.{arith}
use mathlib.Core.Path.{◌≡◌, refl, sym, ap, ◌∙◌, fun_ext}
use mathlib.Core.Logic.{◌↔◌}
use mathlib.Core.Bool.{Bool, true, not, ◌&&◌, ◌||◌}
use mathlib.Core.List.{List, [], ◌∷◌}
use lib.ListN.{length}
use borrow.Author.Tests.{not-false}
use Rattle.bitset.specs.Bits.{bit, word}
use Rattle.bitset.proofs.Facts.{and_l, and_r_lem, and_i, iff_eq}
use Rattle.elimination.specs.Sets.{every}
use Rattle.elimination.proofs.Quantifiers.{all-at, all_intro, every_and}
use Rattle.syntax.specs.Concepts.{Axiom}
use Rattle.syntax.specs.Normal.{axiom_nf}
use Rattle.syntax.specs.Flatten.{Part, Flat, part_at}
use Rattle.syntax.specs.Truth.{eval, kb_on, rbox_on}
use Rattle.syntax.specs.Bounds.{All}
use Rattle.syntax.specs.Reading.{Kb, kb, flats_of, parts_of, read_kb}
use Rattle.syntax.proofs.Promised.{all_more, kb_bounded, kb_inclusions}
use Rattle.semantics.specs.Interpretations.{Interpretation, holds, satisfies, satisfies_tbox, holds_nf}
use Rattle.semantics.specs.Conditions.{View}
use Rattle.semantics.specs.Views.{kb_view}
use Rattle.semantics.specs.Projection.{parts_in}
use Rattle.semantics.specs.Flattens.{Laid, Flattens}
use Rattle.semantics.proofs.NormalForm.{axiom_holds}
use Rattle.semantics.proofs.Meaning.{laid-reads, origin_holds, parts_out}
use Rattle.semantics.proofs.Flattening.{judged_flattens}
use Rattle.semantics.proofs.Projecting.{word-whole}
use Rattle.drawings.specs.Entries.{Drawing, drawing_of}
use Rattle.drawings.specs.Checking.{interpretation, Breach, unbroken, at, between, roles_between, label, breaks_at, breaks_between, breach}
use Rattle.drawings.specs.Laid.{own_file}
use Rattle.drawings.specs.Meanings.{First, FirstPair, Says, axioms_at, inclusions_between, SaysWritten}
use Rattle.drawings.proofs.Inclusions.{rbox_between}
use Rattle.drawings.proofs.Breaches.{breach_means}
use Rattle.drawings.proofs.OwnFile.{own_individuals, own_drawn, own_part, own_models}

-- tests that agree below n have the same first number, and the same first pair
first_same : (n m : ℕ) (f g : ℕ → Bool) (x : ℕ) → n ≡ m → ((z : ℕ) → z < n → f z ≡ g z) → First n f x → First m g x
first_same n m f g x q e h = record {
  within = omega (arith, h.within, q);
  passes = sym (e x h.within) ∙ h.passes;
  before = λ z l. sym (e z (omega (arith, l, h.within))) ∙ h.before z l;
}

first_pair_same : (n m : ℕ) (f g : ℕ → ℕ → Bool) (x y : ℕ) → n ≡ m → ((z w : ℕ) → z < n → w < n → f z w ≡ g z w)
    → FirstPair n f x y → FirstPair m g x y
first_pair_same n m f g x y q e h = record {
  from = omega (arith, h.from, q);
  to = omega (arith, h.to, q);
  passes = sym (e x y h.from h.to) ∙ h.passes;
  before = λ z w l k.
      let i : w < n = omega (arith, k, q) in
      sym (e z w (omega (arith, l, h.from)) i) ∙ h.before z w l i;
  beside = λ w l. sym (e x w h.from (omega (arith, l, h.to))) ∙ h.beside w l;
}

module _ (limit : ℕ) (sheet : List ℕ) (k : Kb) (e : read_kb limit sheet ≡ kb k) where
  abbrev v : View
  v = kb_view k

  module _ (d : Drawing) where
    -- a pair breaks a role inclusion exactly if one as written fails between the two
    pub pair_as_written : (x y : ℕ) → breaks_between v d x y ≡ not (inclusions_between (interpretation d) k.inclusions x y)
    unfolding breaks_between roles_between
    pair_as_written x y = ap not (rbox_between (interpretation d) k.roles x y k.inclusions (kb_inclusions limit sheet e))

    -- the pair that is answered is the first
    pub answered_pair : (x y : ℕ) → breach v d ≡ between x y
        → FirstPair (length d.names) (λ z w. not (inclusions_between (interpretation d) k.inclusions z w)) x y
    answered_pair x y h =
        first_pair_same _ _ (breaks_between v d) _ x y refl (λ z w p q. pair_as_written z w) ((breach_means v d (between x y)).0 h).1

-- ---- individuals

-- an interpretation satisfies axioms exactly if each holds of each individual
pub axioms_each : (I : Interpretation) (s : List Axiom) → satisfies_tbox I s ≡ every I.individuals (axioms_at I s)
unfolding satisfies_tbox satisfies axioms_at
axioms_each I [] = sym (all_intro I.individuals (axioms_at I []) (λ x l. refl))
axioms_each I (a ∷ s) =
    ap (λ (z : Bool). satisfies I a && z) (axioms_each I s)
    ∙ every_and I.individuals (λ x. not (holds I a.left x) || holds I a.right x) (axioms_at I s)

-- flattened axioms are true on the parts of an individual exactly if the axioms as written hold of it
module _ (I : Interpretation) (ps : List Part) (x : ℕ) where
  True : Flat → Type 0
  True f = eval (parts_in I (part_at ps) x) f ≡ true

  -- the axioms, of the individuals that are x
  axioms_nf : (s : List Axiom) → axioms_at I s x ≡ true → All (λ a. (z : ℕ) → z ≡ x → holds_nf I (axiom_nf a) z ≡ true) s
  unfolding axioms_at
  axioms_nf [] h = tt
  axioms_nf (a ∷ s) h =
      let here : Bool = not (holds I a.left x) || holds I a.right x in
      (λ z q. rw q (axiom_holds I a x ∙ and_l here (axioms_at I s x) h), axioms_nf s (and_r_lem here (axioms_at I s x) h))

  axioms_laid : (s : List Axiom) → All (λ a. (h : Flat) × True h × Laid (part_at ps) True (axiom_nf a) h) s → axioms_at I s x ≡ true
  unfolding axioms_at True
  axioms_laid [] w = refl
  axioms_laid (a ∷ s) w =
      and_i (sym (axiom_holds I a x) ∙ sym (laid-reads I (part_at ps) True (axiom_nf a) w.0.0 w.0.2 x) ∙ w.0.1) (axioms_laid s w.1)

  module _ (A : ℕ) (same : bit A ≡ parts_in I (part_at ps) x) where
    label_each : (fs : List Flat) → kb_on fs A ≡ true → All True fs
    unfolding kb_on True
    label_each [] h = tt
    label_each (f ∷ fs) h = (
      ap (λ (a : ℕ → Bool). eval a f) (sym same) ∙ and_l (eval (bit A) f) (kb_on fs A) h,
      label_each fs (and_r_lem (eval (bit A) f) (kb_on fs A) h),
    )

    each_label : (fs : List Flat) → All True fs → kb_on fs A ≡ true
    unfolding kb_on True
    each_label [] h = refl
    each_label (f ∷ fs) h = and_i (ap (λ (a : ℕ → Bool). eval a f) same ∙ h.0) (each_label fs h.1)

    kb_as_written : (s : List Axiom) (fs : List Flat) → Flattens s ps fs → kb_on fs A ≡ axioms_at I s x
    unfolding True
    kb_as_written s fs F =
        iff_eq (kb_on fs A) (axioms_at I s x)
        (λ h. axioms_laid s (F.complete True (label_each fs h)))
        (λ h. each_label fs (all_more _ True (λ f o. origin_holds I s ps fs F (λ z. z ≡ x) f o x refl) fs
        (F.sound (λ c. (z : ℕ) → z ≡ x → holds_nf I c z ≡ true) (axioms_nf s h))))

-- ---- an interpretation's own file

module _ (limit : ℕ) (sheet : List ℕ) (k : Kb) (e : read_kb limit sheet ≡ kb k) (low : limit ≤ 16)
    (I : Interpretation) (few : I.individuals ≤ 1024) where
  abbrev u : View
  u = kb_view k

  abbrev d : Drawing
  d = drawing_of (own_file I k)

  -- the label of an individual is all that holds of it, fresh names being their fillers
  pub own_label : (x : ℕ) → x < I.individuals → bit (label u d x) ≡ parts_in I (part_at (parts_of k)) x
  unfolding label
  own_label x l =
      let m = parts_in I (part_at (parts_of k)) x in
      ap (λ (f : ℕ → Bool). bit (word (length (parts_of k)) f)) (fun_ext (λ j. own_part limit sheet k e low I few x j l))
      ∙ fun_ext (word-whole (length (parts_of k)) m (parts_out I (parts_of k) x))

  -- an individual breaks a flattened axiom exactly if an axiom as written fails of it
  pub own_breaks_at : (x : ℕ) → x < I.individuals → breaks_at u d x ≡ not (axioms_at I k.axioms x)
  unfolding breaks_at
  own_breaks_at x l =
      ap not (kb_as_written I (parts_of k) x (label u d x) (own_label x l) k.axioms (flats_of k)
      (judged_flattens k.names k.axioms (kb_bounded limit sheet e).names))

  pub own_breaks_between : (x y : ℕ) → x < I.individuals → y < I.individuals
      → breaks_between u d x y ≡ not (inclusions_between I k.inclusions x y)
  unfolding breaks_between
  own_breaks_between x y lx ly =
      ap (λ (R : ℕ). not (rbox_on k.inclusions R)) (sym ((own_drawn limit sheet k e low I few).roles x y lx ly))
      ∙ ap not (rbox_between I k.roles x y k.inclusions (kb_inclusions limit sheet e))

  same : length d.names ≡ I.individuals
  same = own_individuals limit sheet k e low I few

  says_written : (b : Breach) → Says u d b → SaysWritten I k b
  says_written unbroken s = (own_models limit sheet k e low I few).0 ((breach_means u d unbroken).1 s)
  says_written (at x) s = first_same _ _ (breaks_at u d) _ x same (λ z l. own_breaks_at z (omega (arith, l, same))) s
  says_written (between x y) s = (
    axioms_each I k.axioms ∙ all_intro I.individuals (axioms_at I k.axioms)
        (λ z l. not-false (axioms_at I k.axioms z) (sym (own_breaks_at z l) ∙ s.0 z (omega (arith, l, same)))),
    first_pair_same _ _ (breaks_between u d) _ x y same
        (λ z w l h. own_breaks_between z w (omega (arith, l, same)) (omega (arith, h, same))) s.1,
  )

  written_says : (b : Breach) → SaysWritten I k b → Says u d b
  written_says unbroken s = (breach_means u d unbroken).0 ((own_models limit sheet k e low I few).1 s)
  written_says (at x) s = first_same _ _ _ (breaks_at u d) x (sym same) (λ z l. sym (own_breaks_at z l)) s
  written_says (between x y) s = (
    λ z l.
        let h : z < I.individuals = omega (arith, l, same) in
        own_breaks_at z h ∙ ap not (all-at I.individuals (axioms_at I k.axioms) (sym (axioms_each I k.axioms) ∙ s.0) z h),
    first_pair_same _ _ _ (breaks_between u d) x y (sym same) (λ z w l h. sym (own_breaks_between z w l h)) s.1,
  )

  -- an answer is given exactly where it is so of the axioms and role inclusions as written
  pub own_first : (b : Breach) → breach u d ≡ b ↔ SaysWritten I k b
  own_first b = (λ h. says_written b ((breach_means u d b).0 h), λ h. (breach_means u d b).1 (written_says b h))
