-- Finite interpretations, what holds of an individual (002, Table 1), and models of a knowledge base as written.
use Rattle.std.specs.Prelude.{ℕ, ◌<◌, ◌≡◌, Bool, true, false, not, ◌&&◌, ◌||◌, List, [], ◌∷◌}
use Rattle.elimination.specs.Sets.{every, some}
use Rattle.syntax.specs.Concepts.{Role, named, inverse, not_r, and_r, or_r, Concept, top_c, bottom_c, name_c, not_c, and_c, or_c, exists_c, forall_c, Axiom, RoleInclusion}
use Rattle.syntax.specs.Normal.{Nf, top_n, bottom_n, name_n, not_n, and_n, or_n, exists_n, forall_n}
use Rattle.syntax.specs.Reading.{Kb}

-- 01 calls this a plant: "a finite list of items, each with its traits, and for each link the ordered pairs it joins".
-- `has x t`: individual x has the name t; `joined k x y`: role k joins x to y
pub record Interpretation : Type 0 where
  pub individuals : ℕ
  pub has : ℕ → ℕ → Bool
  pub joined : ℕ → ℕ → ℕ → Bool

-- 002, Table 1: a role expression between two individuals
unfoldable pub role_in : (ℕ → ℕ → ℕ → Bool) → Role → ℕ → ℕ → Bool
role_in J (named k) x y = J k x y
role_in J (inverse k) x y = J k y x
role_in J (not_r u) x y = not (role_in J u x y)
role_in J (and_r u v) x y = role_in J u x y && role_in J v x y
role_in J (or_r u v) x y = role_in J u x y || role_in J v x y

-- 002, Table 1: a concept at an individual
unfoldable pub holds : Interpretation → Concept → ℕ → Bool
holds I top_c x = true
holds I bottom_c x = false
holds I (name_c t) x = I.has x t
holds I (not_c c) x = not (holds I c x)
holds I (and_c c d) x = holds I c x && holds I d x
holds I (or_c c d) x = holds I c x || holds I d x
holds I (exists_c r f u c) x = some I.individuals (λ y. role_in I.joined u x y && holds I c y)
holds I (forall_c r f u c) x = every I.individuals (λ y. not (role_in I.joined u x y) || holds I c y)

-- "The plant keeps the sheet if each rule as written holds of every item."
unfoldable pub satisfies : Interpretation → Axiom → Bool
satisfies I a = every I.individuals (λ x. not (holds I a.left x) || holds I a.right x)

unfoldable pub satisfies_tbox : Interpretation → List Axiom → Bool
satisfies_tbox I [] = true
satisfies_tbox I (a ∷ s) = satisfies I a && satisfies_tbox I s

-- 02, N8: "wherever the first holds between two items, so does the second", of every ordered pair of individuals
unfoldable pub satisfies_inclusion : Interpretation → RoleInclusion → Bool
satisfies_inclusion I i =
    every I.individuals (λ x. every I.individuals (λ y. not (role_in I.joined i.left x y) || role_in I.joined i.right x y))

unfoldable pub satisfies_rbox : Interpretation → List RoleInclusion → Bool
satisfies_rbox I [] = true
satisfies_rbox I (i ∷ l) = satisfies_inclusion I i && satisfies_rbox I l

-- 002: a model of the knowledge base, "the union of a SHIQb Rbox and an according SHIQb Tbox"
unfoldable pub models : Interpretation → Kb → Bool
models I k = satisfies_tbox I k.axioms && satisfies_rbox I k.inclusions

-- 002: a knowledge base is satisfiable. A finite interpretation of at least one individual is a model
abbrev pub Satisfiable : Kb → Type 0
Satisfiable k = (I : Interpretation) × (0 < I.individuals) × (models I k ≡ true)

-- what holds of an individual, of a concept in negation normal form
unfoldable pub holds_nf : Interpretation → Nf → ℕ → Bool
holds_nf I top_n x = true
holds_nf I bottom_n x = false
holds_nf I (name_n t) x = I.has x t
holds_nf I (not_n t) x = not (I.has x t)
holds_nf I (and_n c d) x = holds_nf I c x && holds_nf I d x
holds_nf I (or_n c d) x = holds_nf I c x || holds_nf I d x
holds_nf I (exists_n g u c) x = some I.individuals (λ y. role_in I.joined u x y && holds_nf I c y)
holds_nf I (forall_n g u c) x = every I.individuals (λ y. not (role_in I.joined u x y) || holds_nf I c y)
