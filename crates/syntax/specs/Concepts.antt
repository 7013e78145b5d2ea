-- Roles, concepts, axioms (002, Table 1, for ALCIb) and role inclusions as trees, and the tree of a record, made of those of earlier
-- records.
use Rattle.std.specs.Prelude.{ℕ, cond, List, [], ◌∷◌, ◌++◌, length, get_or, eqb, take}
use Rattle.records.specs.Entries.{Entry}

-- role expressions; 01 calls a role a link, an inverse role a reversed link
pub data Role : Type 0 where
  named inverse : ℕ → Role
  not_r : Role → Role
  and_r or_r : Role → Role → Role
  deriving Discrete as Role-discrete

-- concepts; 01 calls a concept a class, a name a trait, exists_c some, forall_c only. A restriction carries the number of its
-- record and of its filler's record.
pub data Concept : Type 0 where
  top_c bottom_c : Concept
  name_c : ℕ → Concept
  not_c : Concept → Concept
  and_c or_c : Concept → Concept → Concept
  exists_c forall_c : ℕ → ℕ → Role → Concept → Concept

-- a general concept inclusion; 01's rule "every left is right"
pub record Axiom : Type 0 where
  pub left : Concept
  pub right : Concept

-- a role inclusion (002: "axioms of the form U ⊑ V (role inclusion axiom)", both restricted; here V need not be); 02, N8: "wherever
-- the first holds between two items, so does the second"
pub record RoleInclusion : Type 0 where
  pub left : Role
  pub right : Role

pub data Node : Type 0 where
  concept_n : Concept → Node
  role_n : Role → Node
  axiom_n : Axiom → Node
  inclusion_n : RoleInclusion → Node

-- what a reference finds; a sheet that is read has the right sort there
abbrev pub as_concept : Node → Concept
as_concept (concept_n c) = c
as_concept (role_n r) = bottom_c
as_concept (axiom_n a) = bottom_c
as_concept (inclusion_n i) = bottom_c

abbrev pub as_role : Node → Role
as_role (concept_n c) = named 0
as_role (role_n r) = r
as_role (axiom_n a) = named 0
as_role (inclusion_n i) = named 0

abbrev pub no_node : Node
no_node = concept_n bottom_c

abbrev pub concept_at : List Node → ℕ → Concept
concept_at ns r = as_concept (get_or ns r no_node)

abbrev pub role_at : List Node → ℕ → Role
role_at ns r = as_role (get_or ns r no_node)

-- the tree of record n, a kind and two body bytes, where ns are the trees of the records before it (01, the table of kinds)
unfoldable pub node_of : List Node → ℕ → ℕ → ℕ → ℕ → Node
node_of ns n k a b =
    cond (eqb k 0x01) (concept_n top_c)
    (cond (eqb k 0x02) (concept_n bottom_c)
    (cond (eqb k 0x03) (concept_n (name_c a))
    (cond (eqb k 0x04) (concept_n (not_c (concept_at ns a)))
    (cond (eqb k 0x05) (concept_n (and_c (concept_at ns a) (concept_at ns b)))
    (cond (eqb k 0x06) (concept_n (or_c (concept_at ns a) (concept_at ns b)))
    (cond (eqb k 0x07) (concept_n (exists_c n b (role_at ns a) (concept_at ns b)))
    (cond (eqb k 0x08) (concept_n (forall_c n b (role_at ns a) (concept_at ns b)))
    (cond (eqb k 0x10) (role_n (named a))
    (cond (eqb k 0x11) (role_n (inverse a))
    (cond (eqb k 0x12) (role_n (not_r (role_at ns a)))
    (cond (eqb k 0x13) (role_n (and_r (role_at ns a) (role_at ns b)))
    (cond (eqb k 0x14) (role_n (or_r (role_at ns a) (role_at ns b)))
    (cond (eqb k 0x20) (axiom_n (record { left = concept_at ns a; right = concept_at ns b }))
    (cond (eqb k 0x21) (inclusion_n (record { left = role_at ns a; right = role_at ns b }))
    no_node))))))))))))))

abbrev pub node_for : List Node → Entry → Node
node_for ns e = node_of ns (length ns) e.kind e.first e.second

unfoldable pub nodes_from : List Node → List Entry → List Node
nodes_from ns [] = ns
nodes_from ns (e ∷ es) = nodes_from (ns ++ (node_for ns e ∷ [])) es

unfoldable pub nodes_of : List Entry → List Node
nodes_of es = nodes_from [] es

-- the axioms, in order
unfoldable pub axiom_of : Node → List Axiom
axiom_of (concept_n c) = []
axiom_of (role_n r) = []
axiom_of (axiom_n a) = a ∷ []
axiom_of (inclusion_n i) = []

unfoldable pub axioms_of : List Node → List Axiom
axioms_of [] = []
axioms_of (n ∷ ns) = axiom_of n ++ axioms_of ns

-- the role inclusions, in order
unfoldable pub inclusion_of : Node → List RoleInclusion
inclusion_of (concept_n c) = []
inclusion_of (role_n r) = []
inclusion_of (axiom_n a) = []
inclusion_of (inclusion_n i) = i ∷ []

unfoldable pub inclusions_of : List Node → List RoleInclusion
inclusions_of [] = []
inclusions_of (n ∷ ns) = inclusion_of n ++ inclusions_of ns

-- the concept and the role of record r, of those below a number
unfoldable pub concept_below : List Entry → ℕ → ℕ → Concept
concept_below es n r = concept_at (take n (nodes_of es)) r

unfoldable pub role_below : List Entry → ℕ → ℕ → Role
role_below es n r = role_at (take n (nodes_of es)) r
