-- Laws of the code's way through the queue: the parts of the names, of the axioms, and of a fresh part when its turn comes.
use Prim.Native.Nat.{ℕ, zero, suc, ◌+◌, ◌≤◌, ◌<◌}
use mathlib.Core.Path.{◌≡◌, refl, sym, ap, ◌∙◌}
use mathlib.Core.Bool.{Bool, true, false, false≢true}
use mathlib.Core.List.{List, [], ◌∷◌, ◌++◌, append_assoc, append-nil}
use lib.ListN.{length, get_or, get_or-eq_default, take, drop, length-append, take-append-drop}
use lib.Seq.{take_all}
use native.Mathlib.Omega.{arith}
use native.Mathlib.Numerals.{add-one}
use Rattle.std.proofs.Common.{Result, Ok, Err, Some, None}
use Rattle.std.specs.Result.{IsErr}
use Rattle.arrayvec.specs.ArrayVec.{ArrayVec}
use Rattle.flattening.specs.declared.parts.TooMany.{TooMany}
use Rattle.records.specs.Entries.{Entry}
use Rattle.records.specs.Scan.{record_at_lem, blank}
use Rattle.records.specs.Nodes.{NodeAt, node_kind}
use Rattle.records.specs.declared.nodes.Node.{Node}
use Rattle.records.specs.declared.nodes.Node.TheVariants.{Everything, Nothing, Name as NameNode, Not, And, Or, Exists, Forall, Role, Inverse, RoleNot, RoleAnd, RoleOr, Axiom, RoleInclusion}
use Rattle.syntax.specs.Concepts.{Node as Formed, nodes_of, axioms_of, concept_below}
use Rattle.syntax.specs.Normal.{Nf, or_n, plain, negated, axiom_nf}
use Rattle.syntax.specs.Flatten.{Part, Flat, Pending, whole, guarded, walk_by, walk_pending_by, shared, name_parts_lem, pendings, flatten, part_at}
use Rattle.flattening.specs.Trees.{nf_below}
use Rattle.flattening.specs.Order.{through, turn_of, turns_from, axiom_turn}
use Rattle.flattening.specs.Origins.{part_of, parts_from, parts_in, parts_made}
use Rattle.flattening.specs.Adding.{Outcome, AddsParts, AddsAxiom, AddsAxioms, AddsTurn, Flattens}
use Rattle.flattening.specs.declared.parts.Source.{Source}
use Rattle.flattening.specs.declared.parts.Origin.{Origin}
use Rattle.flattening.specs.declared.parts.Origin.TheVariants.{Name, Fresh, Restriction}
use Rattle.flattening.specs.declared.parts.Quantifier.TheVariants.{Exists as OfExists, Forall as OfForall}
use Rattle.syntax.proofs.Trees.{nodes_length, axiom_at_lem, axiom_none}
use Rattle.syntax.proofs.Queue.{Left, left_grows, names-length, axioms-append, pendings-append}
use Rattle.flattening.proofs.CodeOrder.{left-axioms, left-turn, left_done, through-append, pendings-step}
use Rattle.flattening.proofs.PartLists.{both, adds_nothing, adds_as, adds_over, longer, adds_then, adds_cut, parts_length}
use Rattle.flattening.proofs.Walks.{parts_by}

-- what record i puts on the queue: its axiom, or nothing
module _ (es : List Entry) (i : ℕ) (e : Entry) (p : e ≡ record_at_lem es i) where
  pub axiom_turn_lem : e.kind ≡ 32 →
      axiom_turn (nodes_of es) i ≡ whole (or_n (negated (concept_below es i e.first)) (plain (concept_below es i e.second))) ∷ []
  unfolding pendings axiom_nf
  axiom_turn_lem k = ap pendings (axiom_at_lem es i e p k)

  pub axiom_quiet : (e.kind ≡ 32 → ⊥) → axiom_turn (nodes_of es) i ≡ []
  unfolding pendings
  axiom_quiet n = ap pendings (axiom_none es i e p n)

pub pendings-all : (es : List Entry) (i : ℕ) → length es ≤ i → pendings (axioms_of (take i (nodes_of es))) ≡ pendings (axioms_of (nodes_of es))
pendings-all es i h = rw (take_all i (nodes_of es) (omega (arith, nodes_length es)))

-- ---- one of the queue

through-whole : (c : Nf) (so : List Part) → through (whole c ∷ []) so ≡ parts_by c so
unfolding through walk_pending_by
through-whole c so = append-nil (parts_by c so)

through-guarded : (k : ℕ) (c : Nf) (so : List Part) → through (guarded k c ∷ []) so ≡ parts_by c so
unfolding through walk_pending_by
through-guarded k c so = append-nil (parts_by c so)

-- ---- an axiom, or another record

pub of_kind : (n : Node) → ((a b : ℕ) → n ≡ Axiom a b → ⊥) → node_kind n ≡ 32 → ⊥
of_kind Everything f k = omega arith
of_kind Nothing f k = omega arith
of_kind (NameNode t) f k = omega arith
of_kind (Not a) f k = omega arith
of_kind (And a b) f k = omega arith
of_kind (Or a b) f k = omega arith
of_kind (Exists a b) f k = omega arith
of_kind (Forall a b) f k = omega arith
of_kind (Role r) f k = omega arith
of_kind (Inverse r) f k = omega arith
of_kind (RoleNot a) f k = omega arith
of_kind (RoleAnd a b) f k = omega arith
of_kind (RoleOr a b) f k = omega arith
of_kind (Axiom a b) f k = f a b refl
of_kind (RoleInclusion a b) f k = omega arith

module _ (es : List Entry) (i : ℕ) (os : List Origin) where
  abbrev axiom_of_lem : List Part → List Part
  axiom_of_lem = through (axiom_turn (nodes_of es) i)

  pub axiom_past : NodeAt es i None → parts_in es os ≡ parts_in es os ++ axiom_of_lem (parts_in es os)
  unfolding through
  axiom_past h =
      adds_nothing es axiom_of_lem os
      (ap (λ (q : List Pending). through q (parts_in es os)) (axiom_quiet es i (record_at_lem es i) refl (λ k. kind (ap (λ (x : Entry). x.kind) (get_or-eq_default es blank h)) k)))
    where
      kind : {k : ℕ} → k ≡ 0 → k ≡ 32 → ⊥
      kind a b = omega arith

  module _ (n : Node) (h : NodeAt es i (Some n)) where
    pub axiom_other : ((a b : ℕ) → n ≡ Axiom a b → ⊥) → parts_in es os ≡ parts_in es os ++ axiom_of_lem (parts_in es os)
    unfolding through
    axiom_other f =
        adds_nothing es axiom_of_lem os
        (ap (λ (q : List Pending). through q (parts_in es os)) (axiom_quiet es i (record_at_lem es i) refl (λ k. of_kind n f (sym h.1.kind ∙ k))))

    -- (not left) or right
    module _ (a b : ℕ) (e : n ≡ Axiom a b) where
      through_axiom : (so : List Part) → axiom_of_lem so ≡ both (parts_by (nf_below true es i a)) (parts_by (nf_below false es i b)) so
      unfolding walk_by
      through_axiom so =
          ap (λ (q : List Pending). through q so) (axiom_turn_lem es i (record_at_lem es i) refl (h.1.kind ∙ ap node_kind e))
          ∙ through-whole (or_n (negated (concept_below es i (record_at_lem es i).first)) (plain (concept_below es i (record_at_lem es i).second))) so
          ∙ rw (h.1.first, h.1.second, e) refl

      pub axiom_adds : (room : ℕ) (mid after : List Origin) (z : Outcome) →
          parts_in es mid ≡ parts_in es os ++ parts_by (nf_below true es i a) (parts_in es os) → AddsParts room es (nf_below false es i b) mid after z →
          AddsAxiom room es i os after z
      axiom_adds room mid after z d w =
          adds_as es (both (parts_by (nf_below true es i a)) (parts_by (nf_below false es i b))) os after room axiom_of_lem z
          (through_axiom (parts_in es os)) (adds_then es (parts_by (nf_below true es i a)) (parts_by (nf_below false es i b)) os room mid after z d w)

      pub axiom_over : {room : ℕ} (after : List Origin) (z : Outcome) → IsErr z →
          room < length (parts_in es os ++ parts_by (nf_below true es i a) (parts_in es os)) → AddsAxiom room es i os after z
      axiom_over {room} after z d w =
          adds_as es (both (parts_by (nf_below true es i a)) (parts_by (nf_below false es i b))) os after room axiom_of_lem z
          (through_axiom (parts_in es os)) (adds_cut es (parts_by (nf_below true es i a)) (parts_by (nf_below false es i b)) os after z d w)

-- ---- a part's turn

pub turn_fresh : (es : List Entry) (j : ℕ) (s : Source) → turn_of j (part_of es j (Fresh s)) ≡ guarded j (nf_below s.odd es (length es) s.filler) ∷ []
unfolding turn_of
turn_fresh es j s = refl

-- any other part
pub turn_quiet : (es : List Entry) (j : ℕ) (o : Origin) → ((s : Source) → o ≡ Fresh s → ⊥) → turn_of j (part_of es j o) ≡ []
unfolding turn_of
turn_quiet es j (Name t) n = refl
turn_quiet es j (Fresh s) n = absurd (n s refl)
turn_quiet es j (Restriction OfExists s a) n = refl
turn_quiet es j (Restriction OfForall s a) n = refl

module _ (es : List Entry) (os : List Origin) where
  pub turn_nothing : (o : Origin) → ((s : Source) → o ≡ Fresh s → ⊥) → (after : List Origin) → after ≡ os → (k : ℕ) →
      parts_in es after ≡ parts_in es os ++ through (turn_of k (part_of es k o)) (parts_in es os)
  unfolding through
  turn_nothing o n after e k =
      rw e (adds_nothing es (through (turn_of k (part_of es k o))) os (ap (λ (q : List Pending). through q (parts_in es os)) (turn_quiet es k o n)))

  -- its filler, read plainly or under a not
  pub turn_adds : (room : ℕ) (o : Origin) (s : Source) → o ≡ Fresh s → (odd : Bool) → s.odd ≡ odd → (after : List Origin) (z : Outcome) →
      AddsParts room es (nf_below odd es (length es) s.filler) os after z → AddsTurn room es o os after z
  turn_adds room o s e odd d after z w k =
      adds_as es (parts_by (nf_below odd es (length es) s.filler)) os after room (through (turn_of k (part_of es k o))) z
      (rw (e, turn_fresh es k s, d) (through-guarded k (nf_below odd es (length es) s.filler) (parts_in es os))) w

-- ---- all axioms

-- those of the first i records
abbrev pub axioms_to : List Entry → ℕ → List Part → List Part
axioms_to es i = through (pendings (axioms_of (take i (nodes_of es))))

module _ (es : List Entry) (os : List Origin) where
  pub axioms_none : parts_in es os ≡ parts_in es os ++ axioms_to es 0 (parts_in es os)
  unfolding axioms_of pendings through
  axioms_none = sym (append-nil (parts_in es os))

  module _ (i : ℕ) (mid : List Origin) (e : parts_in es mid ≡ parts_in es os ++ axioms_to es i (parts_in es os)) where
    next_axiom : parts_in es mid ++ through (axiom_turn (nodes_of es) i) (parts_in es mid) ≡ parts_in es os ++ axioms_to es (i + 1) (parts_in es os)
    next_axiom =
        rw (e, pendings-step (nodes_of es) i, through-append, append_assoc) refl

    pub axioms_more : (after : List Origin) → parts_in es after ≡ parts_in es mid ++ through (axiom_turn (nodes_of es) i) (parts_in es mid) →
        parts_in es after ≡ parts_in es os ++ axioms_to es (i + 1) (parts_in es os)
    axioms_more after d = d ∙ next_axiom

    pub axioms_over : {room : ℕ} (after : List Origin) (z : Outcome) → IsErr z →
        room < length (parts_in es mid ++ through (axiom_turn (nodes_of es) i) (parts_in es mid)) → AddsAxioms room es os after z
    axioms_over after z d w =
        adds_over es (through (pendings (axioms_of (nodes_of es)))) os after z d
        (rw (split, through-append) (longer (parts_in es os) (axioms_to es (i + 1) (parts_in es os)) _ (rw next_axiom at w)))
      where
        split : pendings (axioms_of (nodes_of es)) ≡ pendings (axioms_of (take (i + 1) (nodes_of es))) ++ pendings (axioms_of (drop (i + 1) (nodes_of es)))
        split =
            ap (λ (ns : List Formed). pendings (axioms_of ns)) (sym (take-append-drop (i + 1) (nodes_of es)))
            ∙ rw (axioms-append, pendings-append) refl

  pub axioms_all : (i : ℕ) → length es ≤ i → (after : List Origin) → parts_in es after ≡ parts_in es os ++ axioms_to es i (parts_in es os) →
      parts_in es after ≡ parts_in es os ++ through (pendings (axioms_of (nodes_of es))) (parts_in es os)
  axioms_all i h after e = e ∙ ap (λ (q : List Pending). parts_in es os ++ through q (parts_in es os)) (pendings-all es i h)

-- ---- the loop over the parts

part_at_in : (es : List Entry) (d : Origin) (k l : ℕ) (os : List Origin) (i : ℕ) → k + i ≡ l → i < length os →
    part_at (parts_from es k os) i ≡ part_of es l (get_or os i d)
unfolding parts_from
part_at_in es d k l [] i e h = absurd (omega arith)
part_at_in es d k l (o ∷ os) zero e h = let q : k ≡ l = omega arith in rw q refl
part_at_in es d k l (o ∷ os) (suc i) e h = part_at_in es d (suc k) l os i (omega arith) (omega arith)

-- what the loop has come to: the parts that are there, and the queue from part j on
pub record TurnedTo (es : List Entry) (names : ℕ) (so : List Part) (j : ℕ) : Type 0 where
  pub done : List Flat
  pub left : Left shared (flatten names (axioms_of (nodes_of es))) done (turns_from j (drop j so)) so

abbrev pub Turning : List Entry → ℕ → List Origin → ℕ → Type 0
Turning es names os j = TurnedTo es names (parts_in es os) j

module _ (es : List Entry) (names : ℕ) where
  pub flattens_over : {room : ℕ} (z : Result (ArrayVec Origin) TooMany) → IsErr z → room < length (parts_made names es) → Flattens room es names z
  flattens_over (Ok os) h l = absurd (false≢true h)
  flattens_over (Err x) h l = l

  -- too many names; too many parts of names and axioms
  names_most : length (name_parts_lem names ++ through (pendings (axioms_of (nodes_of es))) (name_parts_lem names)) ≤ length (parts_made names es)
  names_most = left_grows (left-axioms names (axioms_of (nodes_of es)))

  pub too-many-names : {room : ℕ} → room < names → room < length (parts_made names es)
  too-many-names h =
      omega (arith, names_most, names-length names, length-append (name_parts_lem names) (through (pendings (axioms_of (nodes_of es))) (name_parts_lem names)))

  module _ (os : List Origin) (n : parts_in es os ≡ name_parts_lem names) where
    pub too_many_axioms : {room : ℕ} → room < length (parts_in es os ++ through (pendings (axioms_of (nodes_of es))) (parts_in es os)) →
        room < length (parts_made names es)
    too_many_axioms h = omega (arith, names_most, rw n at h)

    pub turning_start : (after : List Origin) →
        parts_in es after ≡ parts_in es os ++ through (pendings (axioms_of (nodes_of es))) (parts_in es os) → Turning es names after 0
    turning_start after e =
        rw (e, n) (record { done = _; left = left-axioms names (axioms_of (nodes_of es)) })

  module _ (os : List Origin) (j : ℕ) (t : Turning es names os j) where
    module _ (o d : Origin) (h : j < length os) (g : o ≡ get_or os j d) where
      taken : TurnedTo es names (parts_in es os ++ through (turn_of j (part_of es j o)) (parts_in es os)) (suc j)
      taken =
          let l : j < length (parts_in es os) = omega (arith, parts_length es 0 os) in
          let w : TurnedTo es names (parts_in es os ++ through (turn_of j (part_at (parts_in es os) j)) (parts_in es os)) (suc j)
          = record { done = _; left = left-turn j l t.left } in
          rw (part_at_in es d 0 j os j (omega arith) h, ← g) at w

      pub turning_next : (after : List Origin) → parts_in es after ≡ parts_in es os ++ through (turn_of j (part_of es j o)) (parts_in es os) →
          Turning es names after (j + 1)
      turning_next after e = rw (e, add-one) taken

      pub turning_over : {room : ℕ} → room < length (parts_in es os ++ through (turn_of j (part_of es j o)) (parts_in es os)) → room < length (parts_made names es)
      turning_over w = omega (arith, left_grows taken.left)

    pub turning_end : length os ≤ j → parts_in es os ≡ parts_made names es
    turning_end h = sym (left_done j t.left (omega (arith, parts_length es 0 os))).0
