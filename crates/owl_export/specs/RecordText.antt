-- A sheet's records as the code goes through them: the concept that a tree is, a record's line, and whether it calls for refusal 20.
use Rattle.std.specs.Prelude.{ℕ, Bool, true, false, ◌≡◌, List, [], ◌∷◌, ◌++◌, get_or, Option, Some, None}
use mathlib.Core.Option.{none, some}
use Rattle.records.specs.Entries.{Entry}
use Rattle.records.specs.declared.nodes.Node.{Node}
use Rattle.records.specs.declared.nodes.Node.TheVariants.{Everything, Nothing, Name, Not, And, Or, Exists, Forall, Role, Inverse, RoleNot, RoleAnd, RoleOr, Axiom, RoleInclusion}
use Rattle.syntax.specs.Concepts.{Concept, nodes_of, no_node, axiom_of, axioms_of, concept_below}
use Rattle.flattening.specs.Trees.{role_at}
use Rattle.flattening.specs.declared.trees.Tree.{Tree}
use Rattle.owl_export.specs.AxiomText.{role_text, concept_text, axioms_text}
use Rattle.owl_export.specs.Export.{calls_for20, first_beyond}

-- a role that has not, and, or
unfoldable pub makes_role : Node → Bool
makes_role (RoleNot a) = true
makes_role (RoleAnd a b) = true
makes_role (RoleOr a b) = true
makes_role Everything = false
makes_role Nothing = false
makes_role (Name t) = false
makes_role (Not a) = false
makes_role (And a b) = false
makes_role (Or a b) = false
makes_role (Exists a b) = false
makes_role (Forall a b) = false
makes_role (Role k) = false
makes_role (Inverse k) = false
makes_role (Axiom a b) = false
makes_role (RoleInclusion a b) = false

abbrev pub concept_of : Tree → Concept
concept_of t = concept_below t.table.now t.below t.number

-- a form of two operands, with its word and parenthesis: of two concepts, of a role and a concept
abbrev pub form_text : List ℕ → List ℕ → List ℕ → List ℕ
form_text w c d = w ++ (c ++ (32 ∷ (d ++ (41 ∷ []))))

abbrev pub pair_text : List ℕ → Tree → Tree → List ℕ
pair_text w l r = form_text w (concept_text (concept_of l)) (concept_text (concept_of r))

abbrev pub restriction_text : List ℕ → Tree → Tree → List ℕ
restriction_text w u f = form_text w (role_text (role_at u)) (concept_text (concept_of f))

-- the line of record i, if it is an axiom, and all lines
abbrev pub line_at : List Entry → ℕ → List ℕ
line_at es i = axioms_text (axiom_of (get_or (nodes_of es) i no_node))

abbrev pub lines_of : List Entry → List ℕ
lines_of es = axioms_text (axioms_of (nodes_of es))

abbrev pub calls_at : List Entry → ℕ → Bool
calls_at es i = calls_for20 (get_or (nodes_of es) i no_node)

abbrev pub FirstBeyond : List Entry → Option ℕ → Type 0
FirstBeyond es None = first_beyond 0 es (nodes_of es) ≡ none
FirstBeyond es (Some p) = first_beyond 0 es (nodes_of es) ≡ some p
