-- 02, N4, of occurrences: "Two occurrences with the same kind after normal form, link expressions written alike, and the same
-- filler in normal form share a mark, if that filler is a trait, everything or nothing".
use Prim.Native.Nat.{ℕ}
use mathlib.Core.Path.{◌≡◌, sym, ap, ◌∙◌, subst}
use mathlib.Core.Option.{Option, some}
use mathlib.Core.List.{List}
use Rattle.syntax.specs.Concepts.{Role}
use Rattle.syntax.specs.Normal.{Tag, Nf, exists_n, forall_n}
use Rattle.syntax.specs.Flatten.{Atom, Filler, atomic, Part, exists_p, forall_p, Flat, part_f, atom, SameRestriction, both_exists, both_forall, part_at}
use Rattle.syntax.specs.Reading.{Kb, kb, parts_of, read_kb}
use Rattle.syntax.proofs.Promised.{kb-one_part}
use Rattle.semantics.specs.Flattens.{Fills, Laid}

-- what stands for an atom is that atom
fills_atom : (m : ℕ → Part) (R : Flat → Type 0) (c : Nf) (laid : Flat → Type 0) (f : Filler) (o : Option Atom) (a : Atom) →
    o ≡ some a → Fills m R c laid f o → f ≡ atomic a
unfolding Fills
fills_atom m R c laid f o a e w = (subst (λ (o : Option Atom). Fills m R c laid f o) e w).0

-- occurrences in a sheet that is read, of role u and filler c, which is the atom a
module _ (limit : ℕ) (sheet : List ℕ) {k : Kb} (read : read_kb limit sheet ≡ kb k) (R : Flat → Type 0) (u : Role) (c : Nf) (a : Atom)
    (e : atom c ≡ some a) where
  abbrev m : ℕ → Part
  m = part_at (parts_of k)

  -- a tree that is a restriction part of this kind
  abbrev Met : (Tag → Role → Filler → Part) → Flat → Type 0
  Met kind s = (i : ℕ) × (g : Tag) × (f : Filler) × (s ≡ part_f i) × (m i ≡ kind g u f) × Fills m R c (λ t. Laid m R c t) f (atom c)

  met_part : (kind : Tag → Role → Filler → Part) (s : Flat) (x : Met kind s) → m x.0 ≡ kind x.1 u (atomic a)
  met_part kind s x = x.4 ∙ ap (kind x.1 u) (fills_atom m R c (λ t. Laid m R c t) x.2 (atom c) a e x.5)

  met-one : (kind : Tag → Role → Filler → Part) → ((g h : Tag) → SameRestriction (kind g u (atomic a)) (kind h u (atomic a))) →
      (s t : Flat) → Met kind s → Met kind t → s ≡ t
  met-one kind both s t x y =
      x.3 ∙ ap part_f (kb-one_part limit sheet read x.0 y.0 (rw (met_part kind s x, met_part kind t y) (both x.1 y.1))) ∙ sym y.3

  -- the trees that lay out two occurrences are the one part that these share
  pub exists_shared : (g h : Tag) (s t : Flat) → Laid m R (exists_n g u c) s → Laid m R (exists_n h u c) t → s ≡ t
  unfolding Laid
  exists_shared g h s t x y = met-one exists_p (λ g h. both_exists) s t x y

  pub forall_shared : (g h : Tag) (s t : Flat) → Laid m R (forall_n g u c) s → Laid m R (forall_n h u c) t → s ≡ t
  unfolding Laid
  forall_shared g h s t x y = met-one forall_p (λ g h. both_forall) s t x y
