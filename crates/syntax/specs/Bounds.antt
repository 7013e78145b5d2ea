-- The name and role numbers of concepts, axioms and role inclusions, and the roles of restrictions; the roles and fillers of parts.
use Rattle.std.specs.Prelude.{ℕ, ◌<◌, ◌≡◌, false, List, [], ◌∷◌}
use Rattle.syntax.specs.Concepts.{Role, named, inverse, not_r, and_r, or_r, Concept, top_c, bottom_c, name_c, not_c, and_c, or_c, exists_c, forall_c, Axiom, RoleInclusion}
use Rattle.syntax.specs.Flatten.{everything, nothing, name_a, Filler, atomic, fresh, Part, name_p, fresh_p, exists_p, forall_p}
use Rattle.syntax.specs.Truth.{role_on}

-- each of a list
abbrev pub All {ℓ κ} : {A : Type ℓ} → (A → Type κ) → List A → Type κ
All P [] = Unit
All P (a ∷ l) = P a × All P l

-- all roles of a role expression are below L
abbrev pub RolesBelow : ℕ → Role → Type 0
RolesBelow L (named k) = k < L
RolesBelow L (inverse k) = k < L
RolesBelow L (not_r u) = RolesBelow L u
RolesBelow L (and_r u v) = RolesBelow L u × RolesBelow L v
RolesBelow L (or_r u v) = RolesBelow L u × RolesBelow L v

-- all names of a concept are below T
unfoldable pub NamesBelow : ℕ → Concept → Type 0
NamesBelow T top_c = Unit
NamesBelow T bottom_c = Unit
NamesBelow T (name_c t) = t < T
NamesBelow T (not_c c) = NamesBelow T c
NamesBelow T (and_c c d) = NamesBelow T c × NamesBelow T d
NamesBelow T (or_c c d) = NamesBelow T c × NamesBelow T d
NamesBelow T (exists_c r f u c) = NamesBelow T c
NamesBelow T (forall_c r f u c) = NamesBelow T c

-- a property of the roles of a concept's restrictions
unfoldable pub EachRole : (Role → Type 0) → Concept → Type 0
EachRole Q top_c = Unit
EachRole Q bottom_c = Unit
EachRole Q (name_c t) = Unit
EachRole Q (not_c c) = EachRole Q c
EachRole Q (and_c c d) = EachRole Q c × EachRole Q d
EachRole Q (or_c c d) = EachRole Q c × EachRole Q d
EachRole Q (exists_c r f u c) = Q u × EachRole Q c
EachRole Q (forall_c r f u c) = Q u × EachRole Q c

-- the same of axioms
abbrev pub AxiomNames : ℕ → List Axiom → Type 0
AxiomNames T [] = Unit
AxiomNames T (a ∷ s) = NamesBelow T a.left × NamesBelow T a.right × AxiomNames T s

abbrev pub AxiomRoles : (Role → Type 0) → List Axiom → Type 0
AxiomRoles Q [] = Unit
AxiomRoles Q (a ∷ s) = EachRole Q a.left × EachRole Q a.right × AxiomRoles Q s

-- all names of axioms are below T, all roles below L
pub record AxiomsBelow (T L : ℕ) (s : List Axiom) : Type 0 where
  pub names : AxiomNames T s
  pub roles : AxiomRoles (RolesBelow L) s

-- a role inclusion over roles below L, of which the first is restricted: "The first link must fail on the empty set" (02, N8)
pub record InclusionBelow (L : ℕ) (i : RoleInclusion) : Type 0 where
  pub left : RolesBelow L i.left
  pub right : RolesBelow L i.right
  pub restricted : role_on i.left 0 ≡ false

-- a property of the role of a restriction part
abbrev pub PartRole : (Role → Type 0) → Part → Type 0
PartRole Q (name_p t) = Unit
PartRole Q (fresh_p g c) = Unit
PartRole Q (exists_p g u f) = Q u
PartRole Q (forall_p g u f) = Q u

-- a property of its filler
abbrev pub PartFiller : (Filler → Type 0) → Part → Type 0
PartFiller P (name_p t) = Unit
PartFiller P (fresh_p g c) = Unit
PartFiller P (exists_p g u f) = P f
PartFiller P (forall_p g u f) = P f

-- a filler that is a part has its number below c
abbrev pub FillerLow : ℕ → Filler → Type 0
FillerLow c (atomic everything) = Unit
FillerLow c (atomic nothing) = Unit
FillerLow c (atomic (name_a t)) = t < c
FillerLow c (fresh j) = j < c

abbrev pub PartLow : ℕ → Part → Type 0
PartLow c p = PartFiller (FillerLow c) p

-- a name or a fresh part
abbrev pub Plain : Part → Type 0
Plain (name_p t) = Unit
Plain (fresh_p g c) = Unit
Plain (exists_p g u f) = ⊥
Plain (forall_p g u f) = ⊥

-- a filler that is a part is plain, where part j is m j
abbrev pub FillerPlain : (ℕ → Part) → Filler → Type 0
FillerPlain m (atomic everything) = Unit
FillerPlain m (atomic nothing) = Unit
FillerPlain m (atomic (name_a t)) = Plain (m t)
FillerPlain m (fresh j) = Plain (m j)

abbrev pub PartPlain : (ℕ → Part) → Part → Type 0
PartPlain m p = PartFiller (FillerPlain m) p
