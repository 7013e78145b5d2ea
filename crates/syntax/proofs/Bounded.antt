-- In a sheet that is read names and roles are below the counts, and the roles that must be restricted fail on the empty role set.
use Prim.Native.Nat.{ℕ, zero, suc, ◌<◌}
use mathlib.Core.Path.{◌≡◌, refl, ◌∙◌}
use mathlib.Core.Bool.{true, false}
use mathlib.Core.List.{List, [], ◌∷◌, ◌++◌}
use lib.ListN.{length, get_or, take}
use lib.Seq.{get_or-take}
use native.Mathlib.Omega.{arith}
use Rattle.records.specs.Entries.{Entry}
use Rattle.records.specs.Shapes.{shape_of, needs_restricted_lem}
use Rattle.records.specs.Scan.{State, record_at_lem, whole, scan_sheet}
use Rattle.syntax.specs.Concepts.{Role, Concept, Node, concept_n, role_n, axiom_n, inclusion_n, as_concept, as_role, no_node, concept_at, role_at, node_of, nodes_of, axiom_of, axioms_of, inclusion_of, inclusions_of}
use Rattle.syntax.specs.Truth.{role_on}
use Rattle.syntax.specs.Bounds.{All, RolesBelow, NamesBelow, EachRole, AxiomNames, AxiomRoles, AxiomsBelow, InclusionBelow}
use Rattle.records.proofs.KindTable.{known_cases}
use Rattle.syntax.proofs.Trees.{nodes_length, node_is}
use Rattle.syntax.proofs.Formed.{all_nodes, read_formed, read_counted, restricted-role, restricted-fails}

-- the role of a record, where the roles that it names are below L
role-below : (L : ℕ) (ns : List Node) (n k a b : ℕ) → ((shape_of k).sort ≡ 0 → ⊥) → (shape_of k).sort ≡ 2 → (k ≡ 0x10 → a < L) → (k ≡ 0x11 → a < L) →
    ((shape_of k).first ≡ 2 → RolesBelow L (role_at ns a)) → ((shape_of k).second ≡ 2 → RolesBelow L (role_at ns b)) → RolesBelow L (as_role (node_of ns n k a b))
unfolding shape_of node_of
role-below L ns n k a b known =
    known_cases P
    (λ s. absurd (omega arith)) (λ s. absurd (omega arith)) (λ s. absurd (omega arith)) (λ s. absurd (omega arith)) (λ s. absurd (omega arith))
    (λ s. absurd (omega arith)) (λ s. absurd (omega arith)) (λ s. absurd (omega arith))
    (λ s p q f g. p refl) (λ s p q f g. q refl) (λ s p q f g. f refl) (λ s p q f g. (f refl, g refl)) (λ s p q f g. (f refl, g refl))
    (λ s. absurd (omega arith)) (λ s. absurd (omega arith)) k known
  where
    P : ℕ → Type 0
    P k = (shape_of k).sort ≡ 2 → (k ≡ 0x10 → a < L) → (k ≡ 0x11 → a < L) → ((shape_of k).first ≡ 2 → RolesBelow L (role_at ns a)) →
        ((shape_of k).second ≡ 2 → RolesBelow L (role_at ns b)) → RolesBelow L (as_role (node_of ns n k a b))

-- the concepts of a tree: names below T, and Q of the role of each restriction
abbrev Fine : ℕ → (Role → Type 0) → Concept → Type 0
Fine T Q c = NamesBelow T c × EachRole Q c

abbrev Holds : ℕ → (Role → Type 0) → Node → Type 0
Holds T Q (concept_n c) = Fine T Q c
Holds T Q (role_n u) = Unit
Holds T Q (axiom_n a) = Fine T Q a.left × Fine T Q a.right
Holds T Q (inclusion_n i) = Unit

holds_concept : (T : ℕ) (Q : Role → Type 0) (n : Node) → Holds T Q n → Fine T Q (as_concept n)
unfolding NamesBelow EachRole
holds_concept T Q (concept_n c) h = h
holds_concept T Q (role_n u) h = (tt, tt)
holds_concept T Q (axiom_n a) h = (tt, tt)
holds_concept T Q (inclusion_n i) h = (tt, tt)

concept_holds : (T : ℕ) (Q : Role → Type 0) (ns : List Node) (n k a b : ℕ) → ((shape_of k).sort ≡ 0 → ⊥) → (k ≡ 0x03 → a < T) →
    (needs_restricted_lem (shape_of k) ≡ true → Q (role_at ns a)) → ((shape_of k).first ≡ 1 → Fine T Q (concept_at ns a)) →
    ((shape_of k).second ≡ 1 → Fine T Q (concept_at ns b)) → Holds T Q (node_of ns n k a b)
unfolding shape_of needs_restricted_lem node_of NamesBelow EachRole
concept_holds T Q ns n k a b known =
    known_cases P
    (λ t q f g. (tt, tt)) (λ t q f g. (tt, tt)) (λ t q f g. (t refl, tt)) (λ t q f g. f refl)
    (λ t q f g. (((f refl).0, (g refl).0), ((f refl).1, (g refl).1))) (λ t q f g. (((f refl).0, (g refl).0), ((f refl).1, (g refl).1)))
    (λ t q f g. ((g refl).0, (q refl, (g refl).1))) (λ t q f g. ((g refl).0, (q refl, (g refl).1)))
    (λ t q f g. tt) (λ t q f g. tt) (λ t q f g. tt) (λ t q f g. tt) (λ t q f g. tt) (λ t q f g. (f refl, g refl))
    (λ t q f g. tt) k known
  where
    P : ℕ → Type 0
    P k = (k ≡ 0x03 → a < T) → (needs_restricted_lem (shape_of k) ≡ true → Q (role_at ns a)) → ((shape_of k).first ≡ 1 → Fine T Q (concept_at ns a)) →
        ((shape_of k).second ≡ 1 → Fine T Q (concept_at ns b)) → Holds T Q (node_of ns n k a b)

-- what holds of all trees holds of the axioms among them
axioms_hold : (T : ℕ) (Q : Role → Type 0) (ns : List Node) → ((r : ℕ) → r < length ns → Holds T Q (get_or ns r no_node)) → AxiomNames T (axioms_of ns) × AxiomRoles Q (axioms_of ns)
unfolding axioms_of axiom_of
axioms_hold T Q [] h = (tt, tt)
axioms_hold T Q (n ∷ ns) h = go n (h zero (omega arith)) (axioms_hold T Q ns (λ r l. h (suc r) (omega arith)))
  where
    go : (n : Node) → Holds T Q n → AxiomNames T (axioms_of ns) × AxiomRoles Q (axioms_of ns) →
        AxiomNames T (axiom_of n ++ axioms_of ns) × AxiomRoles Q (axiom_of n ++ axioms_of ns)
    go (concept_n c) p w = w
    go (role_n u) p w = w
    go (axiom_n a) p w = ((p.0.0, p.1.0, w.0), (p.0.1, p.1.1, w.1))
    go (inclusion_n i) p w = w

-- a tree that is a role inclusion is over roles below L, the first restricted
abbrev Includes : ℕ → Node → Type 0
Includes L (concept_n c) = Unit
Includes L (role_n u) = Unit
Includes L (axiom_n a) = Unit
Includes L (inclusion_n i) = InclusionBelow L i

record_includes : (L : ℕ) (ns : List Node) (n k a b : ℕ) → ((shape_of k).sort ≡ 0 → ⊥) → ((shape_of k).first ≡ 2 → RolesBelow L (role_at ns a)) →
    ((shape_of k).second ≡ 2 → RolesBelow L (role_at ns b)) → (needs_restricted_lem (shape_of k) ≡ true → role_on (role_at ns a) 0 ≡ false) →
    Includes L (node_of ns n k a b)
unfolding shape_of needs_restricted_lem node_of
record_includes L ns n k a b known =
    known_cases P
    (λ f g q. tt) (λ f g q. tt) (λ f g q. tt) (λ f g q. tt) (λ f g q. tt) (λ f g q. tt) (λ f g q. tt) (λ f g q. tt) (λ f g q. tt) (λ f g q. tt)
    (λ f g q. tt) (λ f g q. tt) (λ f g q. tt) (λ f g q. tt) (λ f g q. record { left = f refl; right = g refl; restricted = q refl }) k known
  where
    P : ℕ → Type 0
    P k = ((shape_of k).first ≡ 2 → RolesBelow L (role_at ns a)) → ((shape_of k).second ≡ 2 → RolesBelow L (role_at ns b)) →
        (needs_restricted_lem (shape_of k) ≡ true → role_on (role_at ns a) 0 ≡ false) → Includes L (node_of ns n k a b)

inclusions_hold : (L : ℕ) (ns : List Node) → ((r : ℕ) → r < length ns → Includes L (get_or ns r no_node)) → All (InclusionBelow L) (inclusions_of ns)
unfolding inclusions_of inclusion_of
inclusions_hold L [] h = tt
inclusions_hold L (n ∷ ns) h = go n (h zero (omega arith)) (inclusions_hold L ns (λ r l. h (suc r) (omega arith)))
  where
    go : (n : Node) → Includes L n → All (InclusionBelow L) (inclusions_of ns) → All (InclusionBelow L) (inclusion_of n ++ inclusions_of ns)
    go (concept_n c) p w = w
    go (role_n u) p w = w
    go (axiom_n a) p w = w
    go (inclusion_n i) p w = (p, w)

module _ (sheet : List ℕ) (st : State) (e : scan_sheet sheet ≡ whole st) where
  abbrev es : List Entry
  es = st.records

  -- the roles of records are below the count
  pub read-roles : (r : ℕ) → r < length es → (shape_of (record_at_lem es r).kind).sort ≡ 2 → RolesBelow st.roles (role_at (nodes_of es) r)
  read-roles =
      all_nodes (λ r n. (shape_of (record_at_lem es r).kind).sort ≡ 2 → RolesBelow st.roles (as_role n)) es
      (λ r l h s.
      let f = (read_formed sheet st e).each r l in
      let c = read_counted sheet st e r l in
      role-below st.roles (take r (nodes_of es)) r (record_at_lem es r).kind (record_at_lem es r).first (record_at_lem es r).second f.known s
      c.named c.inverse
      (λ q. let w = f.first (λ z. omega arith) in h (record_at_lem es r).first w.0 (w.1 ∙ q))
      (λ q. let w = f.second (λ z. omega arith) in h (record_at_lem es r).second w.0 (w.1 ∙ q)))

  -- the names of records are below the count, and what holds of each restriction's role holds of all roles in the trees
  read-holds : (Q : Role → Type 0) →
      ((r : ℕ) → r < length es → needs_restricted_lem (shape_of (record_at_lem es r).kind) ≡ true → Q (role_at (nodes_of es) (record_at_lem es r).first)) →
      AxiomNames st.names (axioms_of (nodes_of es)) × AxiomRoles Q (axioms_of (nodes_of es))
  read-holds Q restricted =
      axioms_hold st.names Q (nodes_of es)
      (λ r l.
      all_nodes (λ _ n. Holds st.names Q n) es
      (λ r l h.
      let f = (read_formed sheet st e).each r l in
      concept_holds st.names Q (take r (nodes_of es)) r (record_at_lem es r).kind (record_at_lem es r).first (record_at_lem es r).second f.known
      (read_counted sheet st e r l).name
      (λ q.
      let w = f.first (λ z. omega (arith, restricted-role (shape_of (record_at_lem es r).kind) q)) in
      rw (get_or-take r (nodes_of es) (record_at_lem es r).first no_node w.0) (restricted r l q))
      (λ q. holds_concept st.names Q (get_or (take r (nodes_of es)) (record_at_lem es r).first no_node) (h (record_at_lem es r).first (f.first (λ z. omega arith)).0))
      (λ q. holds_concept st.names Q (get_or (take r (nodes_of es)) (record_at_lem es r).second no_node) (h (record_at_lem es r).second (f.second (λ z. omega arith)).0)))
      r (omega (arith, nodes_length es)))

  -- the names and roles of the axioms are below the counts
  pub read_bounded : AxiomsBelow st.names st.roles (axioms_of (nodes_of es))
  read_bounded =
      let w =
      read-holds (RolesBelow st.roles)
      (λ r l q.
      let k = restricted-role (shape_of (record_at_lem es r).kind) q in
      let f = ((read_formed sheet st e).each r l).first (λ z. omega arith) in
      read-roles (record_at_lem es r).first (omega arith) (f.1 ∙ k))
      in
      record { names = w.0; roles = w.1 }

  -- every role in the axioms fails on the empty role set
  pub axioms_restricted : AxiomRoles (λ u. role_on u 0 ≡ false) (axioms_of (nodes_of es))
  axioms_restricted = (read-holds (λ u. role_on u 0 ≡ false) (restricted-fails sheet st e)).1

  -- each role inclusion is over roles below the count, and its first role is restricted
  pub read_inclusions : All (InclusionBelow st.roles) (inclusions_of (nodes_of es))
  read_inclusions =
      inclusions_hold st.roles (nodes_of es)
      (λ r l.
      let i : r < length es = omega (arith, nodes_length es) in
      let x : Entry = record_at_lem es r in
      let f = (read_formed sheet st e).each r i in
      rw (node_is es r x refl)
      (record_includes st.roles (take r (nodes_of es)) r x.kind x.first x.second f.known
      (λ q. let w = f.first (λ z. omega arith) in
      rw (get_or-take r (nodes_of es) x.first no_node w.0) (read-roles x.first (omega (arith, w.0)) (w.1 ∙ q)))
      (λ q. let w = f.second (λ z. omega arith) in
      rw (get_or-take r (nodes_of es) x.second no_node w.0) (read-roles x.second (omega (arith, w.0)) (w.1 ∙ q)))
      (λ q. let w = f.first (λ z. omega (arith, restricted-role (shape_of x.kind) q)) in
      rw (get_or-take r (nodes_of es) x.first no_node w.0) (restricted-fails sheet st e r i q))))
