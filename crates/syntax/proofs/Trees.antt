-- Laws on the trees of records: the tree of record r is made of those below r.
use Prim.Native.Nat.{ℕ, zero, suc, ◌+◌, ◌≤◌, ◌<◌}
use mathlib.Core.Path.{◌≡◌, refl, sym, ap, ◌∙◌}
use mathlib.Core.List.{List, [], ◌∷◌, ◌++◌, append_assoc, append-nil}
use lib.ListN.{length, get_or, take, length-append, length-take, get_or-eq_default}
use lib.Seq.{get_or-take, take_at, get_or_at, length-take-le, take_all}
use native.Mathlib.Omega.{arith}
use native.Mathlib.Nat.{add-zero, zero-add}
use native.Mathlib.Decide.{dec_lt}
use Rattle.records.specs.Entries.{Entry}
use Rattle.records.specs.Shapes.{shape_of}
use Rattle.records.specs.Scan.{record_at_lem, blank}
use Rattle.syntax.specs.Concepts.{Role, named, Concept, bottom_c, Node, as_concept, as_role, no_node, node_of, node_for, nodes_from, nodes_of, axiom_of, inclusion_of, concept_below, role_below}
use Rattle.records.proofs.KindTable.{kind_cases, other}

-- the trees that were there stay in front
front : (ns : List Node) (es : List Entry) → (ms : List Node) × (nodes_from ns es ≡ ns ++ ms)
unfolding nodes_from
front ns [] = ([], sym (append-nil ns))
front ns (e ∷ es) = let w = front (ns ++ (node_for ns e ∷ [])) es in (node_for ns e ∷ w.0, w.1 ∙ append_assoc ns (node_for ns e ∷ []) w.0)

nodes_from-length : (ns : List Node) (es : List Entry) → length (nodes_from ns es) ≡ length ns + length es
unfolding nodes_from
nodes_from-length ns [] = sym (add-zero (length ns))
nodes_from-length ns (e ∷ es) = nodes_from-length (ns ++ (node_for ns e ∷ [])) es ∙ rw length-append (omega arith)

from_at : (ns : List Node) (es : List Entry) (j : ℕ) → j < length es →
    get_or (nodes_from ns es) (length ns + j) no_node ≡ node_for (take (length ns + j) (nodes_from ns es)) (record_at_lem es j)
unfolding nodes_from
from_at ns [] j h = absurd (omega arith)
from_at ns (e ∷ es) zero h =
    let w = front (ns ++ (node_for ns e ∷ [])) es in
    let p = w.1 ∙ append_assoc ns (node_for ns e ∷ []) w.0 in
    rw (p, add-zero, get_or_at ns (node_for ns e) w.0 no_node (length ns) refl, take_at ns (node_for ns e ∷ w.0) (length ns) refl)
from_at ns (e ∷ es) (suc j) h =
    rw (shift) (from_at (ns ++ (node_for ns e ∷ [])) es j (omega arith))
  where
    shift : length ns + suc j ≡ length (ns ++ (node_for ns e ∷ [])) + j
    shift = rw length-append (omega arith)

pub nodes_length : (es : List Entry) → length (nodes_of es) ≡ length es
unfolding nodes_of
nodes_length es = nodes_from-length [] es ∙ zero-add (length es)

-- the tree of record e, the r-th
abbrev pub node_by : List Entry → ℕ → Entry → Node
node_by es r e = node_of (take r (nodes_of es)) r e.kind e.first e.second

node_at : (es : List Entry) (r : ℕ) → r < length es → get_or (nodes_of es) r no_node ≡ node_by es r (record_at_lem es r)
unfolding nodes_of
node_at es r h = go (0 + r) (zero-add r) (from_at [] es r h)
  where
    short : length (take r (nodes_of es)) ≡ r
    short = length-take-le r (nodes_of es) (omega (arith, nodes_length es))

    go : (i : ℕ) → i ≡ r → get_or (nodes_of es) i no_node ≡ node_for (take i (nodes_of es)) (record_at_lem es r) → get_or (nodes_of es) r no_node ≡ node_by es r (record_at_lem es r)
    go i e p = rw e at p ∙ ap (λ (n : ℕ). node_of (take r (nodes_of es)) n (record_at_lem es r).kind (record_at_lem es r).first (record_at_lem es r).second) short

-- record e, the r-th; past the records stands no tree, as a blank record gives none
pub node_is : (es : List Entry) (r : ℕ) (e : Entry) → e ≡ record_at_lem es r → get_or (nodes_of es) r no_node ≡ node_by es r e
unfolding node_of
node_is es r e p = rw p (at (dec_lt r (length es)))
  where
    at : Dec (r < length es) → get_or (nodes_of es) r no_node ≡ node_by es r (record_at_lem es r)
    at (yes q) = node_at es r q
    at (no q) =
        rw (get_or-eq_default es blank {n = r} (omega (arith, q)))
        (get_or-eq_default (nodes_of es) no_node (omega (arith, nodes_length es, q)))

node_below : (es : List Entry) (below r : ℕ) (e : Entry) → r < below → e ≡ record_at_lem es r → get_or (take below (nodes_of es)) r no_node ≡ node_by es r e
node_below es below r e h p = get_or-take below (nodes_of es) r no_node h ∙ node_is es r e p

node_past : (es : List Entry) (below r : ℕ) → below ≤ r → get_or (take below (nodes_of es)) r no_node ≡ no_node
node_past es below r h = get_or-eq_default (take below (nodes_of es)) no_node short
  where
    short : length (take below (nodes_of es)) ≤ r
    short = simp length-take (omega arith)

-- the concept and the role of record e, the r-th
abbrev concept_by : List Entry → ℕ → Entry → Concept
concept_by es r e = as_concept (node_by es r e)

abbrev role_by : List Entry → ℕ → Entry → Role
role_by es r e = as_role (node_by es r e)

pub concept_is : (es : List Entry) (below r : ℕ) (e : Entry) → r < below → e ≡ record_at_lem es r → concept_below es below r ≡ concept_by es r e
unfolding concept_below
concept_is es below r e h p = ap as_concept (node_below es below r e h p)

pub role-is : (es : List Entry) (below r : ℕ) (e : Entry) → r < below → e ≡ record_at_lem es r → role_below es below r ≡ role_by es r e
unfolding role_below
role-is es below r e h p = ap as_role (node_below es below r e h p)

pub concept_past : (es : List Entry) (below r : ℕ) → below ≤ r → concept_below es below r ≡ bottom_c
unfolding concept_below
concept_past es below r h = ap as_concept (node_past es below r h)

pub role-past : (es : List Entry) (below r : ℕ) → below ≤ r → role_below es below r ≡ named 0
unfolding role_below
role-past es below r h = ap as_role (node_past es below r h)

-- below any number above r, or that reaches all records, the concept of r is the same
pub concept_low : (es : List Entry) (m n r : ℕ) → r < m → r < n → concept_below es m r ≡ concept_below es n r
unfolding concept_below
concept_low es m n r h k = ap as_concept (get_or-take m (nodes_of es) r no_node h ∙ sym (get_or-take n (nodes_of es) r no_node k))

pub role-low : (es : List Entry) (m n r : ℕ) → r < m → r < n → role_below es m r ≡ role_below es n r
unfolding role_below
role-low es m n r h k = ap as_role (get_or-take m (nodes_of es) r no_node h ∙ sym (get_or-take n (nodes_of es) r no_node k))

pub concept_all : (es : List Entry) (n r : ℕ) → length es ≤ n → concept_below es (length es) r ≡ concept_below es n r
unfolding concept_below
concept_all es n r h = rw (take_all n (nodes_of es) (omega (arith, nodes_length es)), take_all (length es) (nodes_of es) (omega (arith, nodes_length es)))

-- a kind that is none of the table's stands for no tree
pub node_unknown : (k : ℕ) → (shape_of k).sort ≡ 0 → (ns : List Node) (n a b : ℕ) → node_of ns n k a b ≡ no_node
unfolding shape_of node_of
node_unknown k u ns n a b =
    rw (
      other k 0x01 u tt,
      other k 0x02 u tt,
      other k 0x03 u tt,
      other k 0x04 u tt,
      other k 0x05 u tt,
      other k 0x06 u tt,
      other k 0x07 u tt,
      other k 0x08 u tt,
      other k 0x10 u tt,
      other k 0x11 u tt,
      other k 0x12 u tt,
      other k 0x13 u tt,
      other k 0x14 u tt,
      other k 0x20 u tt,
      other k 0x21 u tt,
    )

module _ (es : List Entry) (r : ℕ) (e : Entry) where
  -- its tree, were its kind k
  abbrev node_as : ℕ → Node
  node_as k = node_of (take r (nodes_of es)) r k e.first e.second

  -- every kind but 1, 3 to 8 is nothing
  pub concept_none : (e.kind ≡ 1 → ⊥) → (e.kind ≡ 3 → ⊥) → (4 ≤ e.kind → 8 < e.kind) → concept_by es r e ≡ bottom_c
  unfolding node_of
  concept_none n1 n3 o =
      kind_cases (λ k. e.kind ≡ k → as_concept (node_as k) ≡ bottom_c)
      (λ q. absurd (n1 q)) (λ q. refl) (λ q. absurd (n3 q)) (λ q. absurd (off (omega arith) (omega arith))) (λ q. absurd (off (omega arith) (omega arith)))
      (λ q. absurd (off (omega arith) (omega arith))) (λ q. absurd (off (omega arith) (omega arith))) (λ q. absurd (off (omega arith) (omega arith)))
      (λ q. refl) (λ q. refl) (λ q. refl) (λ q. refl) (λ q. refl) (λ q. refl) (λ q. refl)
      e.kind (λ u q. ap as_concept (node_unknown e.kind u (take r (nodes_of es)) r e.first e.second)) refl
    where
      off : 4 ≤ e.kind → e.kind ≤ 8 → ⊥
      off l h = omega (arith, o l)

  -- every kind but 16 to 20 is no role
  pub role-none : (e.kind ≡ 16 → ⊥) → (e.kind ≡ 17 → ⊥) → (e.kind ≡ 18 → ⊥) → (e.kind ≡ 19 → ⊥) → (e.kind ≡ 20 → ⊥) → role_by es r e ≡ named 0
  unfolding node_of
  role-none n16 n17 n18 n19 n20 =
      kind_cases (λ k. e.kind ≡ k → as_role (node_as k) ≡ named 0)
      (λ q. refl) (λ q. refl) (λ q. refl) (λ q. refl) (λ q. refl) (λ q. refl) (λ q. refl) (λ q. refl) (λ q. absurd (n16 q)) (λ q. absurd (n17 q))
      (λ q. absurd (n18 q)) (λ q. absurd (n19 q)) (λ q. absurd (n20 q)) (λ q. refl) (λ q. refl)
      e.kind (λ u q. ap as_role (node_unknown e.kind u (take r (nodes_of es)) r e.first e.second)) refl

-- the axiom of record e, the i-th, or none
module _ (es : List Entry) (i : ℕ) (e : Entry) (p : e ≡ record_at_lem es i) where
  pub axiom_at_lem : e.kind ≡ 32 →
      axiom_of (get_or (nodes_of es) i no_node) ≡ record { left = concept_below es i e.first; right = concept_below es i e.second } ∷ []
  unfolding axiom_of node_of concept_below
  axiom_at_lem k = rw (node_is es i e p, k) refl

  pub axiom_none : (e.kind ≡ 32 → ⊥) → axiom_of (get_or (nodes_of es) i no_node) ≡ []
  unfolding axiom_of node_of
  axiom_none n =
      rw (node_is es i e p)
      (kind_cases (λ k. e.kind ≡ k → axiom_of (node_as es i e k) ≡ [])
      (λ q. refl) (λ q. refl) (λ q. refl) (λ q. refl) (λ q. refl) (λ q. refl) (λ q. refl) (λ q. refl) (λ q. refl) (λ q. refl) (λ q. refl) (λ q. refl) (λ q. refl)
      (λ q. absurd (n q)) (λ q. refl)
      e.kind (λ u q. ap axiom_of (node_unknown e.kind u (take i (nodes_of es)) i e.first e.second)) refl)

  -- the same of its role inclusion
  pub inclusion_at : e.kind ≡ 33 →
      inclusion_of (get_or (nodes_of es) i no_node) ≡ record { left = role_below es i e.first; right = role_below es i e.second } ∷ []
  unfolding inclusion_of node_of role_below
  inclusion_at k = rw (node_is es i e p, k) refl

  pub inclusion-none : (e.kind ≡ 33 → ⊥) → inclusion_of (get_or (nodes_of es) i no_node) ≡ []
  unfolding inclusion_of node_of
  inclusion-none n =
      rw (node_is es i e p)
      (kind_cases (λ k. e.kind ≡ k → inclusion_of (node_as es i e k) ≡ [])
      (λ q. refl) (λ q. refl) (λ q. refl) (λ q. refl) (λ q. refl) (λ q. refl) (λ q. refl) (λ q. refl) (λ q. refl) (λ q. refl) (λ q. refl) (λ q. refl) (λ q. refl)
      (λ q. refl) (λ q. absurd (n q))
      e.kind (λ u q. ap inclusion_of (node_unknown e.kind u (take i (nodes_of es)) i e.first e.second)) refl)
