-- Negation normal form (002, section 2.2), by two functions that call each other (01: "a class read plainly and a class read
-- under a not call for each other").
use Rattle.std.specs.Prelude.{ℕ, Bool, true, false}
use Rattle.syntax.specs.Concepts.{Role, Concept, top_c, bottom_c, name_c, not_c, and_c, or_c, exists_c, forall_c, Axiom}

-- where a restriction of the normal form comes from: its record, whether that is read under an odd number of nots, and the
-- record of its filler as written
pub record Tag : Type 0 where
  pub source : ℕ
  pub odd : Bool
  pub filler : ℕ

abbrev pub tag : ℕ → Bool → ℕ → Tag
tag r o f = record { source = r; odd = o; filler = f }

pub data Nf : Type 0 where
  top_n bottom_n : Nf
  name_n not_n : ℕ → Nf
  and_n or_n : Nf → Nf → Nf
  exists_n forall_n : Tag → Role → Nf → Nf

unfoldable mutual
  pub plain : Concept → Nf
  plain top_c = top_n
  plain bottom_c = bottom_n
  plain (name_c t) = name_n t
  plain (not_c c) = negated c
  plain (and_c c d) = and_n (plain c) (plain d)
  plain (or_c c d) = or_n (plain c) (plain d)
  plain (exists_c r f u c) = exists_n (tag r false f) u (plain c)
  plain (forall_c r f u c) = forall_n (tag r false f) u (plain c)

  pub negated : Concept → Nf
  negated top_c = bottom_n
  negated bottom_c = top_n
  negated (name_c t) = not_n t
  negated (not_c c) = plain c
  negated (and_c c d) = or_n (negated c) (negated d)
  negated (or_c c d) = and_n (negated c) (negated d)
  negated (exists_c r f u c) = forall_n (tag r true f) u (negated c)
  negated (forall_c r f u c) = exists_n (tag r true f) u (negated c)

-- "a rule 'every C is D' is the class (not C) or D, in negation normal form"
unfoldable pub axiom_nf : Axiom → Nf
axiom_nf a = or_n (negated a.left) (plain a.right)
