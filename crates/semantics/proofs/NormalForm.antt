-- The negation normal form of a concept holds where the concept does (002: "KB and NNF(KB) are equivalent").
use Prim.Native.Nat.{ℕ}
use mathlib.Core.Path.{◌≡◌, refl, sym, ap, ap₂, ◌∙◌, fun_ext}
use mathlib.Core.Bool.{Bool, not, ◌&&◌, ◌||◌, not-not}
use Rattle.bitset.proofs.Facts.{not_or, not_and}
use Rattle.elimination.specs.Sets.{every, some}
use Rattle.elimination.proofs.Quantifiers.{not_any, not-all}
use Rattle.syntax.specs.Concepts.{Concept, top_c, bottom_c, name_c, not_c, and_c, or_c, exists_c, forall_c, Axiom}
use Rattle.syntax.specs.Normal.{plain, negated, axiom_nf}
use Rattle.semantics.specs.Interpretations.{Interpretation, role_in, holds, holds_nf}

mutual
  unfolding plain negated holds holds_nf

  pub plain-holds : (c : Concept) (I : Interpretation) (x : ℕ) → holds_nf I (plain c) x ≡ holds I c x
  plain-holds top_c I x = refl
  plain-holds bottom_c I x = refl
  plain-holds (name_c t) I x = refl
  plain-holds (not_c c) I x = negated-holds c I x
  plain-holds (and_c c d) I x = ap₂ ◌&&◌ (plain-holds c I x) (plain-holds d I x)
  plain-holds (or_c c d) I x = ap₂ ◌||◌ (plain-holds c I x) (plain-holds d I x)
  plain-holds (exists_c r f u c) I x =
      ap (some I.individuals) (fun_ext (λ y. ap (λ (z : Bool). role_in I.joined u x y && z) (plain-holds c I y)))
  plain-holds (forall_c r f u c) I x =
      ap (every I.individuals) (fun_ext (λ y. ap (λ (z : Bool). not (role_in I.joined u x y) || z) (plain-holds c I y)))

  pub negated-holds : (c : Concept) (I : Interpretation) (x : ℕ) → holds_nf I (negated c) x ≡ not (holds I c x)
  negated-holds top_c I x = refl
  negated-holds bottom_c I x = refl
  negated-holds (name_c t) I x = refl
  negated-holds (not_c c) I x = plain-holds c I x ∙ sym (not-not (holds I c x))
  negated-holds (and_c c d) I x = ap₂ ◌||◌ (negated-holds c I x) (negated-holds d I x) ∙ sym (not_and (holds I c x) (holds I d x))
  negated-holds (or_c c d) I x = ap₂ ◌&&◌ (negated-holds c I x) (negated-holds d I x) ∙ sym (not_or (holds I c x) (holds I d x))
  negated-holds (exists_c r f u c) I x =
      ap (every I.individuals) (fun_ext (λ y. ap (λ (z : Bool). not (role_in I.joined u x y) || z) (negated-holds c I y)
      ∙ sym (not_and (role_in I.joined u x y) (holds I c y))))
      ∙ sym (not_any I.individuals (λ y. role_in I.joined u x y && holds I c y))
  negated-holds (forall_c r f u c) I x =
      ap (some I.individuals) (fun_ext (λ y. ap₂ ◌&&◌ (sym (not-not (role_in I.joined u x y))) (negated-holds c I y)
      ∙ sym (not_or (not (role_in I.joined u x y)) (holds I c y))))
      ∙ sym (not-all I.individuals (λ y. not (role_in I.joined u x y) || holds I c y))

-- the normal form of an axiom holds of an individual where the axiom does
pub axiom_holds : (I : Interpretation) (a : Axiom) (x : ℕ) → holds_nf I (axiom_nf a) x ≡ (not (holds I a.left x) || holds I a.right x)
unfolding axiom_nf holds_nf
axiom_holds I a x = ap₂ ◌||◌ (negated-holds a.left I x) (plain-holds a.right I x)
