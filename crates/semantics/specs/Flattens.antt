-- What it is for parts and flattened axioms to flatten a knowledge base (002, section 2.2): the numbering, the order and the
-- sharing of parts are left open.
use Rattle.std.specs.Prelude.{ℕ, ◌<◌, ◌≡◌, true, List, length}
use Rattle.std.proofs.Math.Option.{Option, none, some}
use Rattle.syntax.specs.Concepts.{Role, Axiom}
use Rattle.syntax.specs.Normal.{Tag, Nf, top_n, bottom_n, name_n, not_n, and_n, or_n, exists_n, forall_n, axiom_nf}
use Rattle.syntax.specs.Flatten.{Atom, everything, nothing, name_a, Filler, atomic, fresh, Part, name_p, fresh_p, exists_p, forall_p, Flat, top_f, bottom_f, part_f, not_f, and_f, or_f, atom, alike, Lookup, part_at}
use Rattle.syntax.specs.Bounds.{All, AxiomRoles, PartRole, PartPlain}

-- a filler that needs no fresh name: a name stands at its own number
unfoldable pub AtomAt : (ℕ → Part) → Atom → Type 0
AtomAt m everything = Unit
AtomAt m nothing = Unit
AtomAt m (name_a t) = m t ≡ name_p t

-- `f` stands for the filler c, a fresh name with its axiom among R if c is no atom; `laid` says which trees lay out c
unfoldable pub Fills : (ℕ → Part) → (Flat → Type 0) → Nf → (Flat → Type 0) → Filler → Option Atom → Type 0
Fills m R c laid f (some a) = (f ≡ atomic a) × AtomAt m a
Fills m R c laid f none = (j : ℕ) × (g : Tag) × (h : Flat) × (f ≡ fresh j) × (m j ≡ fresh_p g c) × R (or_f (not_f j) h) × laid h

-- the tree h lays out c, where part k is m k and R says which trees are flattened axioms
unfoldable pub Laid : (ℕ → Part) → (Flat → Type 0) → Nf → Flat → Type 0
Laid m R top_n h = h ≡ top_f
Laid m R bottom_n h = h ≡ bottom_f
Laid m R (name_n t) h = (h ≡ part_f t) × (m t ≡ name_p t)
Laid m R (not_n t) h = (h ≡ not_f t) × (m t ≡ name_p t)
Laid m R (and_n c d) h = (f : Flat) × (g : Flat) × (h ≡ and_f f g) × Laid m R c f × Laid m R d g
Laid m R (or_n c d) h = (f : Flat) × (g : Flat) × (h ≡ or_f f g) × Laid m R c f × Laid m R d g
Laid m R (exists_n g u c) h = (k : ℕ) × (e : Tag) × (f : Filler) × (h ≡ part_f k) × (m k ≡ exists_p e u f) × Fills m R c (λ t. Laid m R c t) f (atom c)
Laid m R (forall_n g u c) h = (k : ℕ) × (e : Tag) × (f : Filler) × (h ≡ part_f k) × (m k ≡ forall_p e u f) × Fills m R c (λ t. Laid m R c t) f (atom c)

-- where a flattened axiom comes from: an axiom's normal form (S), or (not F) or filler
pub data Origin (m : ℕ → Part) (S : Nf → Type 0) : Flat → Type 0 where
  of_axiom : {h : Flat} (c : Nf) → S c → Laid m (λ f. Unit) c h → Origin m S h
  of_filler : {h : Flat} (j : ℕ) (g : Tag) (c : Nf) → m j ≡ fresh_p g c → Laid m (λ f. Unit) c h → Origin m S (or_f (not_f j) h)

-- the parts ps and the flattened axioms fs flatten the axioms s: every axiom is laid out, nothing else is there, a part that is
-- a filler is a name or fresh, and the roles of parts are those of the axioms
pub record Flattens (s : List Axiom) (ps : List Part) (fs : List Flat) : Type 1 where
  pub complete : (R : Flat → Type 0) → All R fs → All (λ a. (h : Flat) × R h × Laid (part_at ps) R (axiom_nf a) h) s
  pub sound : (S : Nf → Type 0) → All (λ a. S (axiom_nf a)) s → All (Origin (part_at ps) S) fs
  pub fillers : (k : ℕ) → PartPlain (part_at ps) (part_at ps k)
  pub roles : (Q : Role → Type 0) → AxiomRoles Q s → (k : ℕ) → PartRole Q (part_at ps k)

-- a lookup that finds only parts that are there and are like the one looked for
abbrev pub Faithful : Lookup → Type 0
Faithful find = (p : Part) (so : List Part) (j : ℕ) → find p so ≡ some j → (j < length so) × (alike p (part_at so j) ≡ true)
