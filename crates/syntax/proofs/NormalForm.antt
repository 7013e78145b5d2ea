-- What holds of the names of a concept, and of the roles of its restrictions, holds of those of its normal forms.
use Prim.Native.Nat.{ℕ, ◌<◌}
use Rattle.syntax.specs.Concepts.{Role, Concept, top_c, bottom_c, name_c, not_c, and_c, or_c, exists_c, forall_c, Axiom}
use Rattle.syntax.specs.Normal.{Nf, top_n, bottom_n, name_n, not_n, and_n, or_n, exists_n, forall_n, plain, negated, axiom_nf}
use Rattle.syntax.specs.Bounds.{NamesBelow, EachRole}

-- N of each name, Q of the role of each restriction
abbrev pub EachNf : (ℕ → Type 0) → (Role → Type 0) → Nf → Type 0
EachNf N Q top_n = Unit
EachNf N Q bottom_n = Unit
EachNf N Q (name_n t) = N t
EachNf N Q (not_n t) = N t
EachNf N Q (and_n c d) = EachNf N Q c × EachNf N Q d
EachNf N Q (or_n c d) = EachNf N Q c × EachNf N Q d
EachNf N Q (exists_n g u c) = Q u × EachNf N Q c
EachNf N Q (forall_n g u c) = Q u × EachNf N Q c

module _ (N : ℕ → Type 0) (Q : Role → Type 0) (T : ℕ) (first : (t : ℕ) → t < T → N t) where
  -- of a concept read plainly, and read under a not
  both_forms : (c : Concept) → NamesBelow T c → EachRole Q c → EachNf N Q (plain c) × EachNf N Q (negated c)
  unfolding NamesBelow EachRole plain negated
  both_forms top_c h q = (tt, tt)
  both_forms bottom_c h q = (tt, tt)
  both_forms (name_c t) h q = (first t h, first t h)
  both_forms (not_c c) h q = let f = both_forms c h q in (f.1, f.0)
  both_forms (and_c c d) h q =
      let f = both_forms c h.0 q.0 in
      let g = both_forms d h.1 q.1 in
      ((f.0, g.0), (f.1, g.1))
  both_forms (or_c c d) h q =
      let f = both_forms c h.0 q.0 in
      let g = both_forms d h.1 q.1 in
      ((f.0, g.0), (f.1, g.1))
  both_forms (exists_c r f u c) h q = let i = both_forms c h q.1 in ((q.0, i.0), (q.0, i.1))
  both_forms (forall_c r f u c) h q = let i = both_forms c h q.1 in ((q.0, i.0), (q.0, i.1))

  pub axiom_forms : (a : Axiom) → NamesBelow T a.left → NamesBelow T a.right → EachRole Q a.left → EachRole Q a.right
      → EachNf N Q (axiom_nf a)
  unfolding axiom_nf
  axiom_forms a h k p q = ((both_forms a.left h p).1, (both_forms a.right k q).0)
