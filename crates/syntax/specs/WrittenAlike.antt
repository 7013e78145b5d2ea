-- Written alike (02, N7: "gives a sheet with the same rules written alike"): the same trees, whatever the records.
use Rattle.std.specs.Prelude.{ℕ, suc, max, List, [], ◌∷◌, map, ◌≡◌}
use Rattle.syntax.specs.Concepts.{Role, named, inverse, not_r, and_r, or_r, Concept, top_c, bottom_c, name_c, not_c, and_c, or_c, exists_c, forall_c, Axiom}
use Rattle.syntax.specs.Reading.{Kb}

-- a concept without the numbers of records
unfoldable pub bare : Concept → Concept
bare top_c = top_c
bare bottom_c = bottom_c
bare (name_c t) = name_c t
bare (not_c c) = not_c (bare c)
bare (and_c c d) = and_c (bare c) (bare d)
bare (or_c c d) = or_c (bare c) (bare d)
bare (exists_c r f u c) = exists_c 0 0 u (bare c)
bare (forall_c r f u c) = forall_c 0 0 u (bare c)

abbrev pub bare_axiom : Axiom → Axiom
bare_axiom a = record { left = bare a.left; right = bare a.right }

abbrev pub bare_axioms : List Axiom → List Axiom
bare_axioms l = map bare_axiom l

abbrev pub bare_kb : Kb → Kb
bare_kb k = record { names = k.names; roles = k.roles; axioms = bare_axioms k.axioms; inclusions = k.inclusions }

-- two knowledge bases written alike
abbrev pub WrittenAlike : Kb → Kb → Type 0
WrittenAlike k m = bare_kb k ≡ bare_kb m

-- one more than the largest number of a name and of a role in axioms, or 0 (01, "Flattening and marks", of the rules alone)
unfoldable pub names_in : Concept → ℕ
names_in top_c = 0
names_in bottom_c = 0
names_in (name_c t) = suc t
names_in (not_c c) = names_in c
names_in (and_c c d) = max (names_in c) (names_in d)
names_in (or_c c d) = max (names_in c) (names_in d)
names_in (exists_c r f u c) = names_in c
names_in (forall_c r f u c) = names_in c

unfoldable pub role_no : Role → ℕ
role_no (named k) = suc k
role_no (inverse k) = suc k
role_no (not_r u) = role_no u
role_no (and_r u v) = max (role_no u) (role_no v)
role_no (or_r u v) = max (role_no u) (role_no v)

unfoldable pub roles_in : Concept → ℕ
roles_in top_c = 0
roles_in bottom_c = 0
roles_in (name_c t) = 0
roles_in (not_c c) = roles_in c
roles_in (and_c c d) = max (roles_in c) (roles_in d)
roles_in (or_c c d) = max (roles_in c) (roles_in d)
roles_in (exists_c r f u c) = max (role_no u) (roles_in c)
roles_in (forall_c r f u c) = max (role_no u) (roles_in c)

unfoldable pub axioms_names : List Axiom → ℕ
axioms_names [] = 0
axioms_names (a ∷ l) = max (max (names_in a.left) (names_in a.right)) (axioms_names l)

unfoldable pub axioms_roles : List Axiom → ℕ
axioms_roles [] = 0
axioms_roles (a ∷ l) = max (max (roles_in a.left) (roles_in a.right)) (axioms_roles l)

-- "whenever the trait and link numbers all occur in rules", of a sheet that is exported, which has no role inclusion (02, N8)
pub record Occurring (k : Kb) : Type 0 where
  pub names : axioms_names k.axioms ≡ k.names
  pub roles : axioms_roles k.axioms ≡ k.roles
