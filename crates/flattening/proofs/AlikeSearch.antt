-- Laws of the search for a part alike: what the tests of a part tell.
use Rattle.std.proofs.Common.{ℕ, suc, ◌+◌, [], ◌∷◌, cond, ◌≡◌, ◌⊎◌, inl, inr, Bool, true, false, ◌&&◌, List, Option, Some, None, refl, sym, ap, ◌∙◌, arith}
use mathlib.Core.Bool.{false≢true}
use borrow.Author.Tests.{eqb-true, eq-eqb}
use denote.Enum.Bare.{sameb}
use mathlib.Core.Option.{some}
use Rattle.std.specs.Option.{option_eq}
use Rattle.std.specs.List.{position_from}
use Rattle.records.specs.Entries.{Entry}
use Rattle.syntax.specs.Concepts.{Role as RoleTree}
use Rattle.syntax.specs.Normal.{Tag, tag, Nf}
use Rattle.syntax.specs.Flatten.{Filler, atomic, name_p, fresh_p, same_role_lem, same_atom, same_filler, like_exists, like_forall, alike, find_from, shared}
use Rattle.flattening.specs.Origins.{atom_is, filler_at, role_of, restriction, part_of, parts_from}
use Rattle.flattening.specs.AlikeParts.{place_found, Told, FoundAlike}
use Rattle.flattening.specs.contracts.parts.AtomPartialEq.TheImpl.{eq-value}
use Rattle.flattening.specs.contracts.parts.Quantifier.{the_type as quantifiers}
use Rattle.flattening.specs.declared.parts.Atom.{Atom}
use Rattle.flattening.specs.declared.parts.Atom.TheVariants.{Everything, Nothing, Name as NameAtom}
use Rattle.flattening.specs.declared.parts.Quantifier.{Quantifier}
use Rattle.flattening.specs.declared.parts.Quantifier.TheVariants.{Exists, Forall}
use Rattle.flattening.specs.declared.parts.Source.{Source}
use Rattle.flattening.specs.declared.parts.Origin.{Origin}
use Rattle.flattening.specs.declared.parts.Origin.TheVariants.{Name, Fresh, Restriction}
use Rattle.syntax.proofs.Alike.{filler_same, same_filler_lem}

-- ---- a filler

pub atoms_same : (a : Option Atom) (b : Atom) → true ≡ option_eq (eq-value).it a (Some b) → a ≡ Some b
atoms_same None b e = absurd (false≢true (sym e))
atoms_same (Some Everything) Everything e = refl
atoms_same (Some Everything) Nothing e = absurd (false≢true (sym e))
atoms_same (Some Everything) (NameAtom t) e = absurd (false≢true (sym e))
atoms_same (Some Nothing) Everything e = absurd (false≢true (sym e))
atoms_same (Some Nothing) Nothing e = refl
atoms_same (Some Nothing) (NameAtom t) e = absurd (false≢true (sym e))
atoms_same (Some (NameAtom s)) Everything e = absurd (false≢true (sym e))
atoms_same (Some (NameAtom s)) Nothing e = absurd (false≢true (sym e))
atoms_same (Some (NameAtom s)) (NameAtom t) e = ap (λ (n : ℕ). Some (NameAtom n)) (eqb-true s t (sym e))

same_atoms : (b : Atom) → option_eq (eq-value).it (Some b) (Some b) ≡ true
same_atoms Everything = refl
same_atoms Nothing = refl
same_atoms (NameAtom t) = eq-eqb t t refl

atoms_apart : (a : Option Atom) (b : Atom) → false ≡ option_eq (eq-value).it a (Some b) → a ≡ Some b → ⊥
atoms_apart a b e q = false≢true (e ∙ rw q (same_atoms b))

-- the filler of a part is an atom only where it is this atom
filler_is : (k : ℕ) (a : Option Atom) (b : Atom) → filler_at k a ≡ atomic (atom_is b) → a ≡ Some b
filler_is k None b e = cc
filler_is k (Some Everything) Everything e = refl
filler_is k (Some Everything) Nothing e = cc
filler_is k (Some Everything) (NameAtom t) e = cc
filler_is k (Some Nothing) Everything e = cc
filler_is k (Some Nothing) Nothing e = refl
filler_is k (Some Nothing) (NameAtom t) e = cc
filler_is k (Some (NameAtom s)) Everything e = cc
filler_is k (Some (NameAtom s)) Nothing e = cc
filler_is k (Some (NameAtom s)) (NameAtom t) e = let q : s ≡ t = cc in ap (λ (n : ℕ). Some (NameAtom n)) q

-- ---- a part

unless : (a b : Bool) → (b ≡ true → ⊥) → false ≡ a && b
unless true true n = absurd (n refl)
unless true false n = refl
unless false b n = refl

also : (a b : Bool) → b ≡ true → a ≡ a && b
also true b e = sym e
also false b e = refl

-- no restriction
name_apart : (q : Quantifier) (g : Tag) (u : RoleTree) (f : Filler) (t : ℕ) → false ≡ alike (restriction q g u f) (name_p t)
unfolding alike like_exists like_forall
name_apart Exists g u f t = refl
name_apart Forall g u f t = refl

fresh_apart : (q : Quantifier) (g : Tag) (u : RoleTree) (f : Filler) (h : Tag) (c : Nf) → false ≡ alike (restriction q g u f) (fresh_p h c)
unfolding alike like_exists like_forall
fresh_apart Exists g u f h c = refl
fresh_apart Forall g u f h c = refl

-- restrictions of one kind, and of two
like_kind : (q : Quantifier) (g : Tag) (u : RoleTree) (f : Filler) (h : Tag) (v : RoleTree) (d : Filler) →
    alike (restriction q g u f) (restriction q h v d) ≡ same_role_lem u v && same_filler f d
unfolding alike like_exists like_forall
like_kind Exists g u f h v d = refl
like_kind Forall g u f h v d = refl

kinds_apart : (k q : Quantifier) (g : Tag) (u : RoleTree) (f : Filler) (h : Tag) (v : RoleTree) (d : Filler) → false ≡ sameb quantifiers k q →
    false ≡ alike (restriction q g u f) (restriction k h v d)
unfolding alike like_exists like_forall
kinds_apart Exists Exists g u f h v d e = absurd (false≢true e)
kinds_apart Exists Forall g u f h v d e = refl
kinds_apart Forall Exists g u f h v d e = refl
kinds_apart Forall Forall g u f h v d e = absurd (false≢true e)

kinds_same : (k q : Quantifier) → true ≡ sameb quantifiers k q → k ≡ q
kinds_same Exists Exists e = refl
kinds_same Exists Forall e = absurd (false≢true (sym e))
kinds_same Forall Exists e = absurd (false≢true (sym e))
kinds_same Forall Forall e = refl

module _ (es : List Entry) (q : Quantifier) (u : RoleTree) (b : Atom) (o : Origin) where
  pub told_none : ((t : ℕ) × o ≡ Name t) ⊎ ((s : Source) × o ≡ Fresh s) → Told es o q u b false
  told_none (inl (t, e)) = λ k g. rw e (name_apart q g u _ t)
  told_none (inr (s, e)) = λ k g. rw e (fresh_apart q g u _ _ _)

  module _ (kind : Quantifier) (s : Source) (a : Option Atom) (e : o ≡ Restriction kind s a) where
    -- another quantifier
    pub told_kind : false ≡ sameb quantifiers kind q → Told es o q u b false
    told_kind n = λ k g. rw e (kinds_apart kind q g u _ _ _ _ n)

    module _ (same : true ≡ sameb quantifiers kind q) where
      by_kind : (k : ℕ) (g : Tag) (r : Bool) → r ≡ same_role_lem u (role_of es s) && same_filler (atomic (atom_is b)) (filler_at k a) →
          r ≡ alike (restriction q g u (atomic (atom_is b))) (part_of es k o)
      by_kind k g r p = rw (e, kinds_same kind q same, like_kind q) p

      -- another filler
      pub told_filler : false ≡ option_eq (eq-value).it a (Some b) → Told es o q u b false
      told_filler n =
          λ k g. by_kind k g false (unless (same_role_lem u (role_of es s)) (same_filler (atomic (atom_is b)) (filler_at k a))
          (λ y. atoms_apart a b n (filler_is k a b (filler_same (atom_is b) (filler_at k a) y))))

      -- this filler: its role decides
      pub told_role : true ≡ option_eq (eq-value).it a (Some b) → (r : Bool) → r ≡ same_role_lem u (role_of es s) → Told es o q u b r
      told_role n r p =
          λ k g. by_kind k g r (p ∙ also (same_role_lem u (role_of es s)) (same_filler (atomic (atom_is b)) (filler_at k a))
          (same_filler_lem (atom_is b) (filler_at k a) (ap (λ (x : Option Atom). filler_at k x) (atoms_same a b n))))

-- ---- all parts

-- whether a part is alike does not hang on its number, nor on a tag
like_any : (es : List Entry) (q : Quantifier) (u : RoleTree) (b : Atom) (g h : Tag) (k l : ℕ) (o : Origin) →
    alike (restriction q g u (atomic (atom_is b))) (part_of es k o) ≡ alike (restriction q h u (atomic (atom_is b))) (part_of es l o)
unfolding alike like_exists like_forall same_filler same_atom
like_any es Exists u b g h k l (Name t) = refl
like_any es Forall u b g h k l (Name t) = refl
like_any es Exists u b g h k l (Fresh s) = refl
like_any es Forall u b g h k l (Fresh s) = refl
like_any es Exists u b g h k l (Restriction Exists s None) = refl
like_any es Exists u b g h k l (Restriction Exists s (Some a)) = refl
like_any es Exists u b g h k l (Restriction Forall s a) = refl
like_any es Forall u b g h k l (Restriction Exists s a) = refl
like_any es Forall u b g h k l (Restriction Forall s None) = refl
like_any es Forall u b g h k l (Restriction Forall s (Some a)) = refl

-- the test of a part
abbrev pub is_like : List Entry → Quantifier → RoleTree → Atom → Origin → Bool
is_like es q u b o = alike (restriction q (tag 0 false 0) u (atomic (atom_is b))) (part_of es 0 o)

pub told_like : (es : List Entry) (q : Quantifier) (u : RoleTree) (b : Atom) (o : Origin) (r : Bool) → Told es o q u b r → r ≡ is_like es q u b o
told_like es q u b o r t = t 0 (tag 0 false 0)

place_from : (es : List Entry) (q : Quantifier) (u : RoleTree) (b : Atom) (g : Tag) (k l : ℕ) → k ≡ l → (os : List Origin) →
    place_found (position_from (is_like es q u b) k os) ≡ find_from (restriction q g u (atomic (atom_is b))) l (parts_from es l os)
unfolding find_from parts_from
place_from es q u b g k l e [] = refl
place_from es q u b g k l e (o ∷ os) =
    rw (like_any es q u b g (tag 0 false 0) l 0 o) (at (is_like es q u b o) (place_from es q u b g (k + 1) (suc l) (omega arith) os))
  where
    at : (r : Bool) → place_found (position_from (is_like es q u b) (k + 1) os) ≡ find_from (restriction q g u (atomic (atom_is b))) (suc l) (parts_from es (suc l) os) →
        place_found (cond r (Some k) (position_from (is_like es q u b) (k + 1) os))
        ≡ cond r (some l) (find_from (restriction q g u (atomic (atom_is b))) (suc l) (parts_from es (suc l) os))
    at true h = ap some e
    at false h = h

pub found_alike : (es : List Entry) (q : Quantifier) (u : RoleTree) (b : Atom) (os : List Origin) (r : Option ℕ) →
    r ≡ position_from (is_like es q u b) 0 os → FoundAlike es os q u b r
unfolding shared
found_alike es q u b os r p = λ g. ap place_found p ∙ place_from es q u b g 0 0 refl os
