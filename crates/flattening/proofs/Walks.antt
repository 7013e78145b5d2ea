-- Laws on what going through a concept adds to the parts, by its node.
use Rattle.std.proofs.Common.{ℕ, ◌≡◌, ◌≤◌, ◌<◌, ◌⊎◌, inl, inr, Bool, true, false, List, [], ◌++◌, length, Some, None, refl, sym, ap, ◌∙◌, arith}
use mathlib.Core.Option.{Option as Maybe, none, some}
use Rattle.std.proofs.Math.Decide.{dec_lt}
use Rattle.std.specs.Result.{IsErr}
use Rattle.records.specs.Entries.{Entry}
use Rattle.records.specs.Nodes.{node_first}
use Rattle.records.specs.Scan.{record_at_lem}
use Rattle.records.specs.declared.nodes.Node.{Node}
use Rattle.records.specs.declared.nodes.Node.TheVariants.{And, Or}
use Rattle.syntax.specs.Concepts.{Role, node_of, concept_below, role_below}
use Rattle.syntax.specs.Normal.{Tag, tag, Nf, exists_n, forall_n, plain}
use Rattle.syntax.specs.Flatten.{Atom, Filler, Part, Lookup, atom, shared, meet_one, walk, walk_by}
use Rattle.flattening.specs.Trees.{NodeBelow, nf_below}
use Rattle.flattening.specs.Origins.{restriction, parts_in}
use Rattle.flattening.specs.Adding.{Outcome, AddsParts, met, Meets}
use Rattle.flattening.specs.declared.parts.Quantifier.{Quantifier}
use Rattle.flattening.specs.declared.parts.Origin.{Origin}
use Rattle.flattening.specs.declared.parts.Quantifier.TheVariants.{Exists, Forall}
use Rattle.syntax.proofs.Trees.{concept_low}
use Rattle.flattening.proofs.NormalForms.{nf_past, nf_same}
use Rattle.flattening.proofs.NodeForms.{nf_says, nf_node}
use Rattle.flattening.proofs.PartLists.{both, adds_as, adds_then, adds_cut}

pub walk-none : (es : List Entry) (below r : ℕ) → NodeBelow es below r None → (odd : Bool) (so : List Part) →
    (walk (nf_below odd es below r) so).parts ≡ []
unfolding plain walk_by
walk-none es below r h true so = rw (nf_says es below r true None h) refl
walk-none es below r h false so = rw (nf_says es below r false None h) refl

-- what c adds
abbrev pub parts_by : Nf → List Part → List Part
parts_by c so = (walk c so).parts

module _ (es : List Entry) (below r : ℕ) (n : Node) (h : NodeBelow es below r (Some n)) where
  walk_two : (a b : ℕ) → (n ≡ And a b) ⊎ (n ≡ Or a b) → (odd : Bool) (so : List Part) →
      parts_by (nf_below odd es below r) so ≡ both (parts_by (nf_below odd es r a)) (parts_by (nf_below odd es r b)) so
  unfolding node_of plain concept_below walk_by
  walk_two a b (inl q) true so = rw (nf_node es below r true n (And a b) h q) refl
  walk_two a b (inl q) false so = rw (nf_node es below r false n (And a b) h q) refl
  walk_two a b (inr q) true so = rw (nf_node es below r true n (Or a b) h q) refl
  walk_two a b (inr q) false so = rw (nf_node es below r false n (Or a b) h q) refl

  -- and, or: first the one, then the other
  module _ (a b : ℕ) (w : (n ≡ And a b) ⊎ (n ≡ Or a b)) (odd : Bool) (before : List Origin) where
    pub adds_two : (room : ℕ) (mid after : List Origin) (z : Outcome) →
        parts_in es mid ≡ parts_in es before ++ parts_by (nf_below odd es r a) (parts_in es before) →
        AddsParts room es (nf_below odd es r b) mid after z → AddsParts room es (nf_below odd es below r) before after z
    adds_two room mid after z e d =
        adds_as es (both (parts_by (nf_below odd es r a)) (parts_by (nf_below odd es r b))) before after room (parts_by (nf_below odd es below r)) z
        (walk_two a b w odd (parts_in es before)) (adds_then es (parts_by (nf_below odd es r a)) (parts_by (nf_below odd es r b)) before room mid after z e d)

    pub adds_one : {room : ℕ} (after : List Origin) (z : Outcome) → IsErr z →
        room < length (parts_in es before ++ parts_by (nf_below odd es r a) (parts_in es before)) → AddsParts room es (nf_below odd es below r) before after z
    adds_one {room} after z h l =
        adds_as es (both (parts_by (nf_below odd es r a)) (parts_by (nf_below odd es r b))) before after room (parts_by (nf_below odd es below r)) z
        (walk_two a b w odd (parts_in es before)) (adds_cut es (parts_by (nf_below odd es r a)) (parts_by (nf_below odd es r b)) before after z h l)

-- a restriction of normal forms
abbrev pub nf_restricted : Quantifier → Tag → Role → Nf → Nf
nf_restricted Exists g u c = exists_n g u c
nf_restricted Forall g u c = forall_n g u c

walk_restricted : (q : Quantifier) (g : Tag) (u : Role) (c : Nf) (so : List Part) →
    (walk (nf_restricted q g u c) so).parts ≡ (meet_one shared (restriction q g u) g c so (atom c)).parts
unfolding walk_by
walk_restricted Exists g u c so = refl
walk_restricted Forall g u c so = refl

-- only a filler that needs a fresh name is looked at
meet_as : (find : Lookup) (p : Filler → Part) (g : Tag) (c d : Nf) (so : List Part) (o : Maybe Atom) → (o ≡ none → c ≡ d) →
    (meet_one find p g c so o).parts ≡ (meet_one find p g d so o).parts
unfolding meet_one
meet_as find p g c d so none e = rw (e refl)
meet_as find p g c d so (some a) e = refl

-- and that is an earlier record
past-atom : (odd : Bool) (es : List Entry) (r b : ℕ) → r ≤ b → atom (nf_below odd es r b) ≡ none → ⊥
unfolding atom
past-atom true es r b l q = let e = rw (nf_past es r b l).1 at q in cc
past-atom false es r b l q = let e = rw (nf_past es r b l).0 at q in cc

fresh-below : (odd : Bool) (es : List Entry) (r b : ℕ) → atom (nf_below odd es r b) ≡ none → b < r
fresh-below odd es r b q = at (dec_lt b r)
  where
    at : Dec (b < r) → b < r
    at (yes l) = l
    at (no l) = absurd (past-atom odd es r b (omega (arith, l)) q)

module _ (es : List Entry) (below r : ℕ) (n : Node) (h : NodeBelow es below r (Some n)) (odd : Bool) (q : Quantifier) (u f : ℕ) where
  pub role_first : node_first n ≡ u → role_below es r (record_at_lem es r).first ≡ role_below es r u
  role_first w = ap (role_below es r) (h.2.first ∙ w)

  walk_restriction : nf_below odd es below r ≡ nf_restricted q (tag r odd f) (role_below es r u) (nf_below odd es r f) →
      node_first n ≡ u → (so : List Part) →
      parts_by (nf_below odd es below r) so ≡ met es q (record { number = r; odd = odd; filler = f }) (atom (nf_below odd es r f)) so
  walk_restriction e w so =
      ap (λ (c : Nf). parts_by c so) e
      ∙ walk_restricted q (tag r odd f) (role_below es r u) (nf_below odd es r f) so
      ∙ meet_as shared (restriction q (tag r odd f) (role_below es r u)) (tag r odd f) (nf_below odd es r f) (nf_below odd es (length es) f) so (atom (nf_below odd es r f)) same
      ∙ ap (λ (v : Role). (meet_one shared (restriction q (tag r odd f) v) (tag r odd f) (nf_below odd es (length es) f) so (atom (nf_below odd es r f))).parts)
      (sym (role_first w))
    where
      same : atom (nf_below odd es r f) ≡ none → nf_below odd es r f ≡ nf_below odd es (length es) f
      same z =
          let b = fresh-below odd es r f z in
          nf_same odd es r (length es) f (concept_low es r (length es) f b (omega (arith, b, h.1)))

  pub adds_restriction : (room : ℕ) (before after : List Origin) (z : Outcome) →
      nf_below odd es below r ≡ nf_restricted q (tag r odd f) (role_below es r u) (nf_below odd es r f) →
      node_first n ≡ u →
      Meets room es q (record { number = r; odd = odd; filler = f }) (atom (nf_below odd es r f)) before after z → AddsParts room es (nf_below odd es below r) before after z
  adds_restriction room before after z e w m =
      adds_as es (met es q (record { number = r; odd = odd; filler = f }) (atom (nf_below odd es r f))) before after room (parts_by (nf_below odd es below r)) z
      (walk_restriction e w (parts_in es before)) m
