-- The first rule that calls for refusal 20, found record by record.
use Prim.Native.Nat.{ℕ, zero, suc, ◌+◌, ◌*◌, ◌≤◌, ◌<◌}
use mathlib.Core.Path.{◌≡◌, refl, sym, ap, ◌∙◌}
use mathlib.Core.Bool.{Bool, true, false, ◌||◌, cond}
use mathlib.Core.Option.{none, some}
use mathlib.Core.Logic.{◌⊎◌, inl, inr}
use mathlib.Core.List.{List, [], ◌∷◌, cons≢nil}
use native.Mathlib.Omega.{arith}
use lib.ListN.{length, drop, get_or-eq_default}
use Rattle.std.specs.Prelude.{Some, None, get_or}
use Rattle.records.specs.Entries.{Entry}
use Rattle.records.specs.Shapes.{shape_of}
use Rattle.records.specs.Scan.{record_at_lem, blank}
use Rattle.records.specs.Nodes.{NodeAt, Says, node_kind}
use Rattle.records.specs.declared.nodes.Node.{Node}
use Rattle.records.specs.declared.nodes.Node.TheVariants.{Everything, Nothing, Name, Not, And, Or, Exists, Forall, Role, Inverse, RoleNot, RoleAnd, RoleOr, Axiom, RoleInclusion}
use Rattle.records.proofs.KindTable.{bounds}
use Rattle.syntax.specs.Concepts.{Node as Formed, concept_n, role_n, axiom_n, inclusion_n, as_concept, as_role, no_node, nodes_of, axiom_of, inclusion_of, concept_below, role_below, node_of}
use Rattle.syntax.specs.Laid.{rec_of, rec_bytes}
use Rattle.syntax.proofs.Laying.{bytes-length}
use Rattle.syntax.proofs.Trees.{nodes_length, node_is, axiom_none, inclusion-none}
use Rattle.flattening.specs.Trees.{NodeBelow}
use Rattle.flattening.proofs.NodeForms.{formed, concept_says, role_says}
use Rattle.owl_export.specs.AxiomText.{composed, has_composed, beyond}
use Rattle.owl_export.specs.Export.{calls_for20, first_beyond}
use Rattle.owl_export.specs.RecordText.{makes_role, calls_at}

-- the bytes of a record with a node
record_size : (e : Entry) (n : Node) → Says e n → length (rec_bytes (rec_of e)) ≡ 1 + (shape_of (node_kind n)).body
record_size e n h = rw (← h.kind) (bytes-length (rec_of e))

-- from the record i on, of two lists as long as each other
next_beyond : (at i : ℕ) (es : List Entry) (ns : List Formed) → i < length es → length ns ≡ length es →
    first_beyond at (drop i es) (drop i ns)
    ≡ cond (calls_for20 (get_or ns i no_node)) (some at) (first_beyond (at + length (rec_bytes (rec_of (get_or es i blank)))) (drop (suc i) es) (drop (suc i) ns))
unfolding first_beyond
next_beyond at i [] ns h l = absurd (omega arith)
next_beyond at i (e ∷ es) [] h l = absurd (omega arith)
next_beyond at zero (e ∷ es) (n ∷ ns) h l = refl
next_beyond at (suc i) (e ∷ es) (n ∷ ns) h l = next_beyond at i es ns (omega arith) (omega arith)

none_beyond : (at i : ℕ) (es : List Entry) (ns : List Formed) → length es ≤ i → first_beyond at (drop i es) (drop i ns) ≡ none
unfolding first_beyond
none_beyond at zero [] ns h = refl
none_beyond at (suc i) [] ns h = refl
none_beyond at zero (e ∷ es) ns h = absurd (omega arith)
none_beyond at (suc i) (e ∷ es) [] h = past (drop i es)
  where
    past : (l : List Entry) → first_beyond at l [] ≡ none
    past [] = refl
    past (e ∷ l) = refl
none_beyond at (suc i) (e ∷ es) (n ∷ ns) h = none_beyond at i es ns (omega arith)

module _ (es : List Entry) where
  -- no record before i calls for it, and i starts at a place
  pub record Passed (at i : ℕ) : Type 0 where
    pub from : first_beyond 0 es (nodes_of es) ≡ first_beyond at (drop i es) (drop i (nodes_of es))
    pub few : at ≤ 3 * i

  pub passed_none : Passed 0 0
  passed_none = record { from = refl; few = omega arith }

  module _ (at i : ℕ) (p : Passed at i) where
    pub passed_end : length es ≤ i → first_beyond 0 es (nodes_of es) ≡ none
    passed_end h = p.from ∙ none_beyond at i es (nodes_of es) h

    module _ (n : Node) (h : NodeAt es i (Some n)) where
      from_here : first_beyond 0 es (nodes_of es)
          ≡ cond (calls_at es i) (some at) (first_beyond (at + length (rec_bytes (rec_of (record_at_lem es i)))) (drop (suc i) es) (drop (suc i) (nodes_of es)))
      from_here = p.from ∙ next_beyond at i es (nodes_of es) h.0 (nodes_length es)

      pub passed_found : calls_at es i ≡ true → first_beyond 0 es (nodes_of es) ≡ some at
      passed_found e = from_here ∙ rw e

      pub passed_next : calls_at es i ≡ false → (v : ℕ) → v ≡ at + (1 + (shape_of (node_kind n)).body) → Passed v (i + 1)
      passed_next e v q = record {
        from = from_here ∙ rw (e, record_size (record_at_lem es i) n h.1, q, one) refl;
        few = omega (arith, p.few, (bounds (node_kind n)).body);
      }
        where
          one : i + 1 ≡ suc i
          one = omega arith

-- ---- what a rule reaches

no-rule : (f : Formed) → axiom_of f ≡ [] → inclusion_of f ≡ [] → false ≡ calls_for20 f
unfolding axiom_of inclusion_of calls_for20
no-rule (concept_n c) e i = refl
no-rule (role_n u) e i = refl
no-rule (axiom_n a) e i = absurd (cons≢nil e)
no-rule (inclusion_n v) e i = absurd (cons≢nil i)

-- record i, by its node
module _ (es : List Entry) (i : ℕ) (n : Node) (h : NodeAt es i (Some n)) where
  pub calls_axiom : (a b : ℕ) → n ≡ Axiom a b → (has_composed (concept_below es i a) || has_composed (concept_below es i b)) ≡ calls_at es i
  unfolding calls_for20 beyond node_of concept_below
  calls_axiom a b e = rw (node_is es i (record_at_lem es i) refl, h.1.kind, h.1.first, h.1.second, e) refl

  pub calls_inclusion : (a b : ℕ) → n ≡ RoleInclusion a b → true ≡ calls_at es i
  unfolding calls_for20 node_of
  calls_inclusion a b e = rw (node_is es i (record_at_lem es i) refl, h.1.kind, e) refl

pub calls_other : (es : List Entry) (i : ℕ) → ((record_at_lem es i).kind ≡ 32 → ⊥) → ((record_at_lem es i).kind ≡ 33 → ⊥) →
    false ≡ calls_at es i
calls_other es i f g =
    no-rule (get_or (nodes_of es) i no_node) (axiom_none es i (record_at_lem es i) refl f)
    (inclusion-none es i (record_at_lem es i) refl g)

pub calls_past : (es : List Entry) (i : ℕ) → NodeAt es i None → false ≡ calls_at es i
unfolding calls_for20
calls_past es i h = rw (get_or-eq_default (nodes_of es) no_node {n = i} (omega (arith, nodes_length es))) refl

-- a concept, by its node
module _ (es : List Entry) (below r : ℕ) where
  pub composed_none : NodeBelow es below r None → false ≡ has_composed (concept_below es below r)
  unfolding has_composed
  composed_none h = ap has_composed (sym (concept_says es below r None h))

  module _ (n : Node) (h : NodeBelow es below r (Some n)) where
    composed_node : (m : Node) → n ≡ m → has_composed (as_concept (formed es r (Some m))) ≡ has_composed (concept_below es below r)
    composed_node m e = ap has_composed (sym (concept_says es below r (Some m) (rw e at h)))

    pub composed_not : (a : ℕ) → n ≡ Not a → has_composed (concept_below es r a) ≡ has_composed (concept_below es below r)
    unfolding has_composed node_of concept_below
    composed_not a e = composed_node (Not a) e

    pub composed_two : (a b : ℕ) → (n ≡ And a b) ⊎ (n ≡ Or a b) →
        (has_composed (concept_below es r a) || has_composed (concept_below es r b)) ≡ has_composed (concept_below es below r)
    unfolding has_composed node_of concept_below
    composed_two a b (inl e) = composed_node (And a b) e
    composed_two a b (inr e) = composed_node (Or a b) e

    pub composed_restriction : (u a : ℕ) → (n ≡ Exists u a) ⊎ (n ≡ Forall u a) →
        (composed (role_below es r u) || has_composed (concept_below es r a)) ≡ has_composed (concept_below es below r)
    unfolding has_composed node_of concept_below role_below
    composed_restriction u a (inl e) = composed_node (Exists u a) e
    composed_restriction u a (inr e) = composed_node (Forall u a) e

    -- every other node, by the arms that come before
    pub composed_rest : ((a : ℕ) → n ≡ Not a → ⊥) → ((a b : ℕ) → n ≡ And a b → ⊥) → ((a b : ℕ) → n ≡ Or a b → ⊥)
        → ((u a : ℕ) → n ≡ Exists u a → ⊥) → ((u a : ℕ) → n ≡ Forall u a → ⊥) → false ≡ has_composed (concept_below es below r)
    unfolding has_composed node_of
    composed_rest not and or exists forall = at n refl ∙ composed_node n refl
      where
        at : (k : Node) → n ≡ k → false ≡ has_composed (as_concept (formed es r (Some k)))
        at Everything q = refl
        at Nothing q = refl
        at (Name t) q = refl
        at (Not a) q = absurd (not a q)
        at (And a b) q = absurd (and a b q)
        at (Or a b) q = absurd (or a b q)
        at (Exists a b) q = absurd (exists a b q)
        at (Forall a b) q = absurd (forall a b q)
        at (Role k) q = refl
        at (Inverse k) q = refl
        at (RoleNot a) q = refl
        at (RoleAnd a b) q = refl
        at (RoleOr a b) q = refl
        at (Axiom a b) q = refl
        at (RoleInclusion a b) q = refl

  -- a role, by its node
  pub composed_past : NodeBelow es below r None → false ≡ composed (role_below es below r)
  unfolding composed
  composed_past h = ap composed (sym (role_says es below r None h))

  pub composed_role : (n : Node) → NodeBelow es below r (Some n) → makes_role n ≡ composed (role_below es below r)
  unfolding makes_role composed node_of
  composed_role n h = makes n ∙ ap composed (sym (role_says es below r (Some n) h))
    where
      makes : (m : Node) → makes_role m ≡ composed (as_role (formed es r (Some m)))
      makes Everything = refl
      makes Nothing = refl
      makes (Name t) = refl
      makes (Not a) = refl
      makes (And a b) = refl
      makes (Or a b) = refl
      makes (Exists a b) = refl
      makes (Forall a b) = refl
      makes (Role k) = refl
      makes (Inverse k) = refl
      makes (RoleNot a) = refl
      makes (RoleAnd a b) = refl
      makes (RoleOr a b) = refl
      makes (Axiom a b) = refl
      makes (RoleInclusion a b) = refl

-- the answer of a test that goes on where the first part fails
pub or_first : {p r x : Bool} (q : Bool) → x ≡ p → x ≡ true → (p || q) ≡ r → x ≡ r
or_first q e t f = t ∙ sym (ap (λ (z : Bool). z || q) (sym e ∙ t)) ∙ f

pub or_second : {p q r x y : Bool} → x ≡ p → x ≡ false → y ≡ q → (p || q) ≡ r → y ≡ r
or_second {p} {q} e t g f = g ∙ sym (ap (λ (z : Bool). z || q) (sym e ∙ t)) ∙ f
