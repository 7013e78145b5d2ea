-- A knowledge base as a text (02, N7: "export writes a rule a line, as `SubClassOf(:t0 ObjectComplementOf(:t1))` and a line feed, no
-- other spaces").
use Rattle.std.specs.Prelude.{ℕ, Bool, true, false, ◌||◌, List, [], ◌∷◌, ◌++◌}
use Rattle.syntax.specs.Concepts.{Role, named, inverse, not_r, and_r, or_r, Concept, top_c, bottom_c, name_c, not_c, and_c, or_c, exists_c, forall_c, Axiom}
use Rattle.owl_words.specs.declared.Word.{Word}
use Rattle.owl_words.specs.declared.Word.TheVariants.{SubClassOf, IntersectionOf, UnionOf, ComplementOf, SomeValuesFrom, AllValuesFrom, InverseOf, Thing, Nothing, ClassNamed, PropertyNamed}
use Rattle.owl_words.specs.Words.{spelling}

-- a form of one operand and of two, in front of what follows
abbrev pub one_text : Word → List ℕ → List ℕ
one_text w c = spelling w ++ (40 ∷ c ++ (41 ∷ []))

abbrev pub two_text : Word → List ℕ → List ℕ → List ℕ
two_text w c d = spelling w ++ (40 ∷ c ++ (32 ∷ d ++ (41 ∷ [])))

-- a role that has not, and, or has no text
unfoldable pub role_text : Role → List ℕ
role_text (named k) = spelling (PropertyNamed k)
role_text (inverse k) = one_text InverseOf (spelling (PropertyNamed k))
role_text (not_r u) = []
role_text (and_r u v) = []
role_text (or_r u v) = []

unfoldable pub concept_text : Concept → List ℕ
concept_text top_c = spelling Thing
concept_text bottom_c = spelling Nothing
concept_text (name_c t) = spelling (ClassNamed t)
concept_text (not_c c) = one_text ComplementOf (concept_text c)
concept_text (and_c c d) = two_text IntersectionOf (concept_text c) (concept_text d)
concept_text (or_c c d) = two_text UnionOf (concept_text c) (concept_text d)
concept_text (exists_c r f u c) = two_text SomeValuesFrom (role_text u) (concept_text c)
concept_text (forall_c r f u c) = two_text AllValuesFrom (role_text u) (concept_text c)

unfoldable pub axiom_text : Axiom → List ℕ
axiom_text a = two_text SubClassOf (concept_text a.left) (concept_text a.right) ++ (10 ∷ [])

unfoldable pub axioms_text : List Axiom → List ℕ
axioms_text [] = []
axioms_text (a ∷ l) = axiom_text a ++ axioms_text l

-- "20, a link with not, and, or in a rule"
unfoldable pub composed : Role → Bool
composed (named k) = false
composed (inverse k) = false
composed (not_r u) = true
composed (and_r u v) = true
composed (or_r u v) = true

unfoldable pub has_composed : Concept → Bool
has_composed top_c = false
has_composed bottom_c = false
has_composed (name_c t) = false
has_composed (not_c c) = has_composed c
has_composed (and_c c d) = has_composed c || has_composed d
has_composed (or_c c d) = has_composed c || has_composed d
has_composed (exists_c r f u c) = composed u || has_composed c
has_composed (forall_c r f u c) = composed u || has_composed c

-- does an axiom call for 20
unfoldable pub beyond : Axiom → Bool
beyond a = has_composed a.left || has_composed a.right
