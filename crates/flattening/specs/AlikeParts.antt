-- The search for a part alike.
use Rattle.std.specs.Prelude.{ℕ, ◌≡◌, ◌<◌, Bool, List, Option, Some, None}
use Rattle.std.proofs.Math.Option.{Option as Maybe, none, some}
use Rattle.records.specs.Entries.{Entry}
use Rattle.records.specs.declared.nodes.Node.{Node}
use Rattle.records.specs.declared.nodes.Node.TheVariants.{Everything, Nothing, Name, Not, And, Or, Exists, Forall, Role, Inverse, RoleNot, RoleAnd, RoleOr, Axiom, RoleInclusion}
use Rattle.syntax.specs.Concepts.{Role as RoleTree, named, inverse, not_r, and_r, or_r, role_below}
use Rattle.syntax.specs.Normal.{Tag}
use Rattle.syntax.specs.Flatten.{atomic, alike, shared}
use Rattle.flattening.specs.Origins.{atom_is, restriction, part_of, parts_in}
use Rattle.flattening.specs.declared.trees.Tree.{Tree}
use Rattle.flattening.specs.declared.parts.Atom.{Atom}
use Rattle.flattening.specs.declared.parts.Quantifier.{Quantifier}
use Rattle.flattening.specs.declared.parts.Origin.{Origin}

-- a place that was found
abbrev pub place_found : Option ℕ → Maybe ℕ
place_found (Some j) = some j
place_found None = none

-- the role of record r, of those below a number, by its outermost record, which is one of a role
abbrev pub OuterBelow : List Entry → ℕ → ℕ → Node → Type 0
OuterBelow es below r (Role k) = role_below es below r ≡ named k
OuterBelow es below r (Inverse k) = role_below es below r ≡ inverse k
OuterBelow es below r (RoleNot a) = (r < below) × (role_below es below r ≡ not_r (role_below es r a))
OuterBelow es below r (RoleAnd a b) = (r < below) × (role_below es below r ≡ and_r (role_below es r a) (role_below es r b))
OuterBelow es below r (RoleOr a b) = (r < below) × (role_below es below r ≡ or_r (role_below es r a) (role_below es r b))
OuterBelow es below r Everything = ⊥
OuterBelow es below r Nothing = ⊥
OuterBelow es below r (Name k) = ⊥
OuterBelow es below r (Not a) = ⊥
OuterBelow es below r (And a b) = ⊥
OuterBelow es below r (Or a b) = ⊥
OuterBelow es below r (Exists a b) = ⊥
OuterBelow es below r (Forall a b) = ⊥
OuterBelow es below r (Axiom a b) = ⊥
OuterBelow es below r (RoleInclusion a b) = ⊥

abbrev pub Outer : Tree → Node → Type 0
Outer t n = OuterBelow t.table.now t.below t.number n

-- two trees are one record, if they are of one table
abbrev pub OneRecord : Tree → Tree → Type 0
OneRecord x y = (x.number ≡ y.number) × (x.number < x.below) × (y.number < y.below)

-- whether a part is like a restriction, whatever their tags and its number
abbrev pub Told : List Entry → Origin → Quantifier → RoleTree → Atom → Bool → Type 0
Told es o q u a b = (k : ℕ) (g : Tag) → b ≡ alike (restriction q g u (atomic (atom_is a))) (part_of es k o)

-- the place of the first part that is such a restriction, whatever their tags
abbrev pub FoundAlike : List Entry → List Origin → Quantifier → RoleTree → Atom → Option ℕ → Type 0
FoundAlike es os q u a r = (g : Tag) → place_found r ≡ shared (restriction q g u (atomic (atom_is a))) (parts_in es os)
