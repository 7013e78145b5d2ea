-- Where the parts of a flattened knowledge base come from: what the code holds of each, read as the parts of the definitions.
use Rattle.std.specs.Prelude.{ℕ, suc, cond, List, [], ◌∷◌, length, Option, Some, None}
use Rattle.std.proofs.Math.Option.{Option as Maybe, none, some}
use Rattle.records.specs.Entries.{Entry}
use Rattle.records.specs.Scan.{record_at_lem}
use Rattle.syntax.specs.Concepts.{Role, nodes_of, axioms_of, role_below}
use Rattle.syntax.specs.Normal.{Tag}
use Rattle.syntax.specs.Flatten.{Atom, everything, nothing, name_a, Filler, atomic, fresh, Part, name_p, fresh_p, exists_p, forall_p, flatten}
use Rattle.flattening.specs.Trees.{nf_below}
use Rattle.flattening.specs.declared.parts.Atom.{Atom as CodeAtom}
use Rattle.flattening.specs.declared.parts.Atom.TheVariants.{Everything, Nothing, Name as NameAtom}
use Rattle.flattening.specs.declared.parts.Quantifier.{Quantifier}
use Rattle.flattening.specs.declared.parts.Quantifier.TheVariants.{Exists, Forall}
use Rattle.flattening.specs.declared.parts.Source.{Source}
use Rattle.flattening.specs.declared.parts.Origin.{Origin}
use Rattle.flattening.specs.declared.parts.Origin.TheVariants.{Name, Fresh, Restriction}

-- a filler that needs no fresh name; none is one that does
abbrev pub atom_is : CodeAtom → Atom
atom_is Everything = everything
atom_is Nothing = nothing
atom_is (NameAtom t) = name_a t

abbrev pub atom_found : Option CodeAtom → Maybe Atom
atom_found (Some a) = some (atom_is a)
atom_found None = none

-- a restriction
abbrev pub restriction : Quantifier → Tag → Role → Filler → Part
restriction Exists g u f = exists_p g u f
restriction Forall g u f = forall_p g u f

-- where it comes from
abbrev pub tag_of : Source → Tag
tag_of s = record { source = s.number; odd = s.odd; filler = s.filler }

-- its role: the one that its record names
abbrev pub role_of : List Entry → Source → Role
role_of es s = role_below es s.number (record_at_lem es s.number).first

-- the filler of restriction part k: a fresh name is the next part
abbrev pub filler_at : ℕ → Option CodeAtom → Filler
filler_at k (Some a) = atomic (atom_is a)
filler_at k None = fresh (suc k)

-- part k
abbrev pub part_of : List Entry → ℕ → Origin → Part
part_of es k (Name t) = name_p t
part_of es k (Fresh s) = fresh_p (tag_of s) (nf_below s.odd es (length es) s.filler)
part_of es k (Restriction q s a) = restriction q (tag_of s) (role_of es s) (filler_at k a)

-- the parts from number k on, and all
unfoldable pub parts_from : List Entry → ℕ → List Origin → List Part
parts_from es k [] = []
parts_from es k (o ∷ os) = part_of es k o ∷ parts_from es (suc k) os

abbrev pub parts_in : List Entry → List Origin → List Part
parts_in es os = parts_from es 0 os

-- the parts of the flattened knowledge base of the axioms that records make, with so many names
abbrev pub parts_made : ℕ → List Entry → List Part
parts_made names es = (flatten names (axioms_of (nodes_of es))).parts

-- the three bytes of a part (01, "list marks")
unfoldable pub slot_bytes : Origin → List ℕ
slot_bytes (Name t) = 0 ∷ t ∷ 0 ∷ []
slot_bytes (Fresh s) = 1 ∷ s.filler ∷ cond s.odd 1 0 ∷ []
slot_bytes (Restriction Exists s a) = 2 ∷ s.number ∷ cond s.odd 1 0 ∷ []
slot_bytes (Restriction Forall s a) = 3 ∷ s.number ∷ cond s.odd 1 0 ∷ []
