-- Laws on trees by their nodes: the normal forms, read plainly and under a not, and the roles.
use Rattle.std.proofs.Common.{ℕ, ◌≡◌, ◌≤◌, ◌<◌, ◌⊎◌, inl, inr, Bool, true, false, List, [], length, take, get_or, Option, Some, None, refl, sym, ap, ◌∙◌, arith}
use mathlib.Core.Option.{none, some}
use lib.ListN.{get_or-eq_default, length-take}
use Rattle.records.specs.Entries.{Entry}
use Rattle.records.specs.Scan.{record_at_lem}
use Rattle.records.specs.Nodes.{Says, node_kind, node_first, node_second}
use Rattle.records.specs.declared.nodes.Node.{Node}
use Rattle.records.specs.declared.nodes.Node.TheVariants.{Everything, Nothing, Name, Not, And, Or, Exists, Forall, Role, Inverse, RoleNot, RoleAnd, RoleOr, Axiom, RoleInclusion}
use Rattle.syntax.specs.Concepts.{Node as Formed, no_node, nodes_of, as_concept, as_role, node_of, bottom_c, concept_below, role_below}
use Rattle.syntax.specs.Normal.{Nf, top_n, bottom_n, plain, negated}
use Rattle.syntax.specs.Flatten.{everything, nothing, Part, atom, walk, walk_by}
use Rattle.flattening.specs.Trees.{NodeBelow, nf_below}
use Rattle.flattening.proofs.NormalForms.{nf_none}
use Rattle.syntax.proofs.Trees.{nodes_length, node_by, concept_is, concept_past, role-is, role-past}

-- what is formed of a record that says a node; of none nothing
abbrev pub formed : List Entry → ℕ → Option Node → Formed
formed es r (Some n) = node_of (take r (nodes_of es)) r (node_kind n) (node_first n) (node_second n)
formed es r None = no_node

-- its normal form, read plainly or under a not
abbrev pub nf_formed : Bool → Formed → Nf
nf_formed true f = negated (as_concept f)
nf_formed false f = plain (as_concept f)

module _ (es : List Entry) (below r : ℕ) where
  said : (n : Node) → Says (record_at_lem es r) n → node_by es r (record_at_lem es r) ≡ formed es r (Some n)
  said n s = rw (s.kind, s.first, s.second)

  none-there : length es ≤ r → get_or (take below (nodes_of es)) r no_node ≡ no_node
  none-there l = get_or-eq_default (take below (nodes_of es)) no_node (simp length-take (omega (arith, nodes_length es)))

  -- the concept and the role of record r
  pub concept_says : (o : Option Node) → NodeBelow es below r o → concept_below es below r ≡ as_concept (formed es r o)
  unfolding concept_below
  concept_says (Some n) h = concept_is es below r _ h.0 refl ∙ ap as_concept (said n h.2)
  concept_says None (inl l) = concept_past es below r l
  concept_says None (inr l) = ap as_concept (none-there l)

  pub role_says : (o : Option Node) → NodeBelow es below r o → role_below es below r ≡ as_role (formed es r o)
  unfolding role_below
  role_says (Some n) h = role-is es below r _ h.0 refl ∙ ap as_role (said n h.2)
  role_says None (inl l) = role-past es below r l
  role_says None (inr l) = ap as_role (none-there l)

  pub nf_says : (odd : Bool) (o : Option Node) → NodeBelow es below r o → nf_below odd es below r ≡ nf_formed odd (formed es r o)
  nf_says true o h = ap negated (concept_says o h)
  nf_says false o h = ap plain (concept_says o h)

  -- where its node is known
  pub nf_node : (odd : Bool) (n m : Node) → NodeBelow es below r (Some n) → n ≡ m → nf_below odd es below r ≡ nf_formed odd (formed es r (Some m))
  nf_node odd n m h q = nf_says odd (Some m) (rw q at h)

  pub atom_node : (odd : Bool) (n m : Node) → NodeBelow es below r (Some n) → n ≡ m →
      atom (nf_formed odd (formed es r (Some m))) ≡ atom (nf_below odd es below r)
  atom_node odd n m h q = ap atom (sym (nf_node odd n m h q))

  pub role_node : (n m : Node) → NodeBelow es below r (Some n) → n ≡ m → role_below es below r ≡ as_role (formed es r (Some m))
  role_node n m h q = role_says (Some m) (rw q at h)

-- what is no concept record, or one of nothing
pub nf_other : (es : List Entry) (below r : ℕ) (n : Node) → NodeBelow es below r (Some n) →
    (node_kind n ≡ 1 → ⊥) → (node_kind n ≡ 3 → ⊥) → (4 ≤ node_kind n → 8 < node_kind n) →
    (nf_below false es below r ≡ bottom_n) × (nf_below true es below r ≡ top_n)
nf_other es below r n h a b c =
    let k : (record_at_lem es r).kind ≡ node_kind n = h.2.kind in
    nf_none es below r (record_at_lem es r) h.0 refl (λ e. a (omega arith)) (λ e. b (omega arith)) (λ l. omega (arith, c (omega arith)))

-- a node of two, or of a restriction
abbrev pub Compound : Node → Type 0
Compound n = ((a : ℕ) × (b : ℕ) × n ≡ And a b) ⊎ ((a : ℕ) × (b : ℕ) × n ≡ Or a b)
    ⊎ ((a : ℕ) × (b : ℕ) × n ≡ Exists a b) ⊎ ((a : ℕ) × (b : ℕ) × n ≡ Forall a b)

pub atom_compound : (es : List Entry) (below r : ℕ) (odd : Bool) (n : Node) → NodeBelow es below r (Some n) → Compound n → none ≡ atom (nf_below odd es below r)
unfolding node_of plain atom
atom_compound es below r true n h (inl (a, b, q)) = atom_node es below r true n (And a b) h q
atom_compound es below r false n h (inl (a, b, q)) = atom_node es below r false n (And a b) h q
atom_compound es below r true n h (inr (inl (a, b, q))) = atom_node es below r true n (Or a b) h q
atom_compound es below r false n h (inr (inl (a, b, q))) = atom_node es below r false n (Or a b) h q
atom_compound es below r true n h (inr (inr (inl (a, b, q)))) = atom_node es below r true n (Exists a b) h q
atom_compound es below r false n h (inr (inr (inl (a, b, q)))) = atom_node es below r false n (Exists a b) h q
atom_compound es below r true n h (inr (inr (inr (a, b, q)))) = atom_node es below r true n (Forall a b) h q
atom_compound es below r false n h (inr (inr (inr (a, b, q)))) = atom_node es below r false n (Forall a b) h q

-- every other node, by the arms that come before
module _ (es : List Entry) (r : ℕ) (n : Node) (not : (a : ℕ) → n ≡ Not a → ⊥) (and : (a b : ℕ) → n ≡ And a b → ⊥) (or : (a b : ℕ) → n ≡ Or a b → ⊥)
    (exists : (a b : ℕ) → n ≡ Exists a b → ⊥) (forall : (a b : ℕ) → n ≡ Forall a b → ⊥) where
  pub nothing_formed : (n ≡ Everything → ⊥) → ((t : ℕ) → n ≡ Name t → ⊥) → as_concept (formed es r (Some n)) ≡ bottom_c
  unfolding node_of
  nothing_formed e m = at n refl
    where
      at : (k : Node) → n ≡ k → as_concept (formed es r (Some k)) ≡ bottom_c
      at Everything q = absurd (e q)
      at Nothing q = refl
      at (Name t) q = absurd (m t q)
      at (Not a) q = absurd (not a q)
      at (And a b) q = absurd (and a b q)
      at (Or a b) q = absurd (or a b q)
      at (Exists a b) q = absurd (exists a b q)
      at (Forall a b) q = absurd (forall a b q)
      at (Role k) q = refl
      at (Inverse k) q = refl
      at (RoleNot a) q = refl
      at (RoleAnd a b) q = refl
      at (RoleOr a b) q = refl
      at (Axiom a b) q = refl
      at (RoleInclusion a b) q = refl

  -- it adds no part
  no_parts : (odd : Bool) (so : List Part) → (walk (nf_formed odd (formed es r (Some n))) so).parts ≡ []
  unfolding node_of plain walk_by
  no_parts odd so = at n refl odd
    where
      at : (k : Node) → n ≡ k → (odd : Bool) → (walk (nf_formed odd (formed es r (Some k))) so).parts ≡ []
      at Everything q true = refl
      at Everything q false = refl
      at Nothing q true = refl
      at Nothing q false = refl
      at (Name t) q true = refl
      at (Name t) q false = refl
      at (Not a) q o = absurd (not a q)
      at (And a b) q o = absurd (and a b q)
      at (Or a b) q o = absurd (or a b q)
      at (Exists a b) q o = absurd (exists a b q)
      at (Forall a b) q o = absurd (forall a b q)
      at (Role k) q true = refl
      at (Role k) q false = refl
      at (Inverse k) q true = refl
      at (Inverse k) q false = refl
      at (RoleNot a) q true = refl
      at (RoleNot a) q false = refl
      at (RoleAnd a b) q true = refl
      at (RoleAnd a b) q false = refl
      at (RoleOr a b) q true = refl
      at (RoleOr a b) q false = refl
      at (Axiom a b) q true = refl
      at (RoleInclusion a b) q true = refl
      at (Axiom a b) q false = refl
      at (RoleInclusion a b) q false = refl

  -- read with those below a number
  module _ (below : ℕ) (h : NodeBelow es below r (Some n)) where
    pub atom_rest : (n ≡ Everything → ⊥) → ((t : ℕ) → n ≡ Name t → ⊥) →
        (some nothing ≡ atom (nf_below false es below r)) × (some everything ≡ atom (nf_below true es below r))
    unfolding plain atom
    atom_rest e m = rw (concept_says es below r (Some n) h, nothing_formed e m) (refl, refl)

    pub walk-rest : (odd : Bool) (so : List Part) → (walk (nf_below odd es below r) so).parts ≡ []
    walk-rest odd so = rw (nf_says es below r odd (Some n) h) (no_parts odd so)
