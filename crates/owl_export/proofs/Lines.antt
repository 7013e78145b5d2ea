-- The text of concepts, roles and axioms by the nodes of their records.
use Prim.Native.Nat.{ℕ, suc, ◌+◌, ◌≤◌, ◌<◌}
use mathlib.Core.Path.{◌≡◌, refl, sym, ap, ◌∙◌}
use mathlib.Core.Bool.{true, false, false≢true}
use mathlib.Core.List.{List, [], ◌∷◌, ◌++◌, append_assoc, append-nil}
use native.Mathlib.Omega.{arith}
use borrow.Author.Tests.{lt-ltb, le-ltb}
use lib.ListN.{length, take, drop, take-append-drop, get_or-eq_default}
use lib.Seq.{take_all}
use Rattle.std.specs.Prelude.{Some, None}
use Rattle.records.specs.Entries.{Entry}
use Rattle.records.specs.Scan.{record_at_lem}
use Rattle.records.specs.Nodes.{NodeAt, node_kind}
use Rattle.records.specs.declared.nodes.Node.{Node}
use Rattle.records.specs.declared.nodes.Node.TheVariants.{Everything, Nothing, Name, Not, And, Or, Exists, Forall, Role, Inverse, RoleNot, RoleAnd, RoleOr, Axiom, RoleInclusion}
use Rattle.owl_words.specs.Words.{digits, spelling}
use Rattle.output.specs.Text.{text}
use Rattle.syntax.specs.Concepts.{Role as RoleTree, named, inverse, not_r, and_r, or_r, Node as Formed, as_concept, as_role, no_node, node_of, nodes_of, axiom_of, axioms_of, concept_below, role_below, Axiom as AxiomOf}
use Rattle.syntax.proofs.Trees.{nodes_length, axiom_at_lem, axiom_none}
use Rattle.syntax.proofs.Queue.{axioms-append, axioms-next}
use Rattle.flattening.specs.Trees.{NodeBelow}
use Rattle.flattening.proofs.NodeForms.{formed, concept_says, role_says, nothing_formed}
use Rattle.flattening.proofs.QueueParts.{of_kind}
use Rattle.owl_export.specs.AxiomText.{composed, role_text, concept_text, axiom_text, axioms_text}
use Rattle.owl_export.specs.RecordText.{form_text}
use Rattle.owl_export.specs.RecordText.{line_at, lines_of}

-- ---- numbers

pub digits_one : (n : ℕ) → n < 10 → digits n ≡ (48 + n) ∷ []
unfolding digits
digits_one n h = rw (lt-ltb n 10 h)

pub digits_two : (n : ℕ) → 10 ≤ n → n < 12 → digits n ≡ 49 ∷ (38 + n) ∷ []
unfolding digits
digits_two n h l = rw (le-ltb n 10 h, lt-ltb n 12 l)

pub digits_none : (n : ℕ) → 12 ≤ n → digits n ≡ []
unfolding digits
digits_none n h = rw (le-ltb n 10 (omega arith), le-ltb n 12 h)

-- ---- concepts and roles

module _ (es : List Entry) (below r : ℕ) where
  concept_node : (n m : Node) → NodeBelow es below r (Some n) → n ≡ m → concept_below es below r ≡ as_concept (formed es r (Some m))
  concept_node n m h e = concept_says es below r (Some m) (rw e at h)

  pub text_none : NodeBelow es below r None → text "owl:Nothing" ≡ concept_text (concept_below es below r)
  unfolding concept_text text spelling
  text_none h = ap concept_text (sym (concept_says es below r None h))

  module _ (n : Node) (h : NodeBelow es below r (Some n)) where
    pub text_everything : n ≡ Everything → text "owl:Thing" ≡ concept_text (concept_below es below r)
    unfolding concept_text text spelling node_of
    text_everything e = ap concept_text (sym (concept_node n Everything h e))

    pub text_name : (t : ℕ) → n ≡ Name t → text ":t" ++ digits t ≡ concept_text (concept_below es below r)
    unfolding concept_text text spelling node_of
    text_name t e = ap concept_text (sym (concept_node n (Name t) h e))

    pub text_not : (a : ℕ) → n ≡ Not a →
        text "ObjectComplementOf(" ++ concept_text (concept_below es r a) ++ (41 ∷ []) ≡ concept_text (concept_below es below r)
    unfolding concept_text text spelling node_of concept_below
    text_not a e = ap concept_text (sym (concept_node n (Not a) h e))

    pub text_and : (a b : ℕ) → n ≡ And a b →
        form_text (text "ObjectIntersectionOf(") (concept_text (concept_below es r a)) (concept_text (concept_below es r b))
        ≡ concept_text (concept_below es below r)
    unfolding concept_text text spelling node_of concept_below
    text_and a b e = ap concept_text (sym (concept_node n (And a b) h e))

    pub text_or : (a b : ℕ) → n ≡ Or a b →
        form_text (text "ObjectUnionOf(") (concept_text (concept_below es r a)) (concept_text (concept_below es r b))
        ≡ concept_text (concept_below es below r)
    unfolding concept_text text spelling node_of concept_below
    text_or a b e = ap concept_text (sym (concept_node n (Or a b) h e))

    pub text_exists : (u a : ℕ) → n ≡ Exists u a →
        form_text (text "ObjectSomeValuesFrom(") (role_text (role_below es r u)) (concept_text (concept_below es r a))
        ≡ concept_text (concept_below es below r)
    unfolding concept_text text spelling node_of concept_below role_below
    text_exists u a e = ap concept_text (sym (concept_node n (Exists u a) h e))

    pub text_forall : (u a : ℕ) → n ≡ Forall u a →
        form_text (text "ObjectAllValuesFrom(") (role_text (role_below es r u)) (concept_text (concept_below es r a))
        ≡ concept_text (concept_below es below r)
    unfolding concept_text text spelling node_of concept_below role_below
    text_forall u a e = ap concept_text (sym (concept_node n (Forall u a) h e))

  pub text_no-role : NodeBelow es below r None → text ":k" ++ digits 0 ≡ role_text (role_below es below r)
  unfolding role_text text spelling
  text_no-role h = ap role_text (sym (role_says es below r None h))

  module _ (n : Node) (h : NodeBelow es below r (Some n)) where
    role_node : (m : Node) → n ≡ m → as_role (formed es r (Some m)) ≡ role_below es below r
    role_node m e = sym (role_says es below r (Some m) (rw e at h))

    pub text_role : (k : ℕ) → n ≡ Role k → text ":k" ++ digits k ≡ role_text (role_below es below r)
    unfolding role_text text spelling node_of
    text_role k e = ap role_text (role_node (Role k) e)

    pub text_inverse : (k : ℕ) → n ≡ Inverse k →
        text "ObjectInverseOf(" ++ ((text ":k" ++ digits k) ++ (41 ∷ [])) ≡ role_text (role_below es below r)
    unfolding role_text text spelling node_of
    text_inverse k e = ap role_text (role_node (Inverse k) e)

    pub text_other-role : composed (role_below es below r) ≡ false → ((k : ℕ) → n ≡ Role k → ⊥) → ((k : ℕ) → n ≡ Inverse k → ⊥)
        → text ":k" ++ digits 0 ≡ role_text (role_below es below r)
    unfolding role_text text spelling node_of composed
    text_other-role f not_role not_inverse = ap role_text (at n refl ∙ role_node n refl)
      where
        at : (m : Node) → n ≡ m → named 0 ≡ as_role (formed es r (Some m))
        at Everything q = refl
        at Nothing q = refl
        at (Name t) q = refl
        at (Not a) q = refl
        at (And a b) q = refl
        at (Or a b) q = refl
        at (Exists a b) q = refl
        at (Forall a b) q = refl
        at (Role k) q = absurd (not_role k q)
        at (Inverse k) q = absurd (not_inverse k q)
        at (RoleNot a) q = absurd (false≢true (sym f ∙ ap composed (sym (role_node (RoleNot a) q))))
        at (RoleAnd a b) q = absurd (false≢true (sym f ∙ ap composed (sym (role_node (RoleAnd a b) q))))
        at (RoleOr a b) q = absurd (false≢true (sym f ∙ ap composed (sym (role_node (RoleOr a b) q))))
        at (Axiom a b) q = refl
        at (RoleInclusion a b) q = refl

    -- every other concept, by the arms that come before
    pub text_other : (n ≡ Everything → ⊥) → ((t : ℕ) → n ≡ Name t → ⊥) → ((a : ℕ) → n ≡ Not a → ⊥) → ((a b : ℕ) → n ≡ And a b → ⊥)
        → ((a b : ℕ) → n ≡ Or a b → ⊥) → ((u a : ℕ) → n ≡ Exists u a → ⊥) → ((u a : ℕ) → n ≡ Forall u a → ⊥)
        → text "owl:Nothing" ≡ concept_text (concept_below es below r)
    unfolding concept_text text spelling
    text_other e m not and or exists forall =
        ap concept_text (sym (concept_says es below r (Some n) h ∙ nothing_formed es r n not and or exists forall e m))

pub composed_text : (u : RoleTree) → composed u ≡ true → [] ≡ role_text u
unfolding composed role_text
composed_text (named k) e = absurd (false≢true e)
composed_text (inverse k) e = absurd (false≢true e)
composed_text (not_r u) e = refl
composed_text (and_r u v) e = refl
composed_text (or_r u v) e = refl

-- ---- lines

pub axioms_text-append : (a b : List AxiomOf) → axioms_text (a ++ b) ≡ axioms_text a ++ axioms_text b
unfolding axioms_text
axioms_text-append [] b = refl
axioms_text-append (x ∷ a) b = rw (axioms_text-append a b, append_assoc)

module _ (es : List Entry) where
  -- those of the first i records
  abbrev pub lines_to : ℕ → List ℕ
  lines_to i = axioms_text (axioms_of (take i (nodes_of es)))

  pub lines_none : [] ≡ lines_to 0
  unfolding axioms_of axioms_text
  lines_none = refl

  pub lines_next : (i : ℕ) → lines_to i ++ line_at es i ≡ lines_to (i + 1)
  lines_next i =
      let e : i + 1 ≡ suc i = omega arith in
      rw (e, axioms-next (nodes_of es) i, axioms_text-append) refl

  pub lines_rest : (i : ℕ) → lines_of es ≡ lines_to i ++ axioms_text (axioms_of (drop i (nodes_of es)))
  lines_rest i =
      ap (λ (l : List Formed). axioms_text (axioms_of l)) (sym (take-append-drop i (nodes_of es)))
      ∙ ap axioms_text (axioms-append (take i (nodes_of es)) (drop i (nodes_of es)))
      ∙ axioms_text-append (axioms_of (take i (nodes_of es))) (axioms_of (drop i (nodes_of es)))

  pub lines_all : (i : ℕ) → length es ≤ i → lines_to i ≡ lines_of es
  lines_all i h = rw (take_all i (nodes_of es) (omega (arith, nodes_length es)))

  module _ (i : ℕ) (n : Node) (h : NodeAt es i (Some n)) where
    -- an axiom's, and another record's
    pub line_axiom : (a b : ℕ) → n ≡ Axiom a b →
        form_text (text "SubClassOf(") (concept_text (concept_below es i a)) (concept_text (concept_below es i b)) ++ (10 ∷ []) ≡ line_at es i
    unfolding axioms_text axiom_text spelling text
    line_axiom a b e =
        rw (axiom_at_lem es i (record_at_lem es i) refl (h.1.kind ∙ ap node_kind e), h.1.first, h.1.second, e) (sym (append-nil _))

    pub line_other : ((a b : ℕ) → n ≡ Axiom a b → ⊥) → [] ≡ line_at es i
    unfolding axioms_text
    line_other f = rw (axiom_none es i (record_at_lem es i) refl (λ k. of_kind n f (sym h.1.kind ∙ k))) refl

  pub line_past : (i : ℕ) → NodeAt es i None → [] ≡ line_at es i
  unfolding axioms_text axiom_of
  line_past i h = rw (get_or-eq_default (nodes_of es) no_node {n = i} (omega (arith, nodes_length es))) refl
