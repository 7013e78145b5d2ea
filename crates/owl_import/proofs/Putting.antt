-- The records that import writes of axioms are well-formed, and their trees are those axioms written alike, with no role inclusion.
use Prim.Native.Nat.{ℕ, ◌+◌, ◌≤◌}
use mathlib.Core.Path.{◌≡◌, refl, sym, ap, ◌∙◌}
use mathlib.Core.Bool.{Bool, true, false, cond, ◌&&◌}
use mathlib.Core.List.{List, [], ◌∷◌, ◌++◌, append_assoc, append-nil, map, map-append}
use lib.ListN.{length, get_or, length-append, length-map}
use lib.Seq.{get_or_at, set_at}
use lib.Dec.{eqb, leb}
use native.Mathlib.Omega.{arith}
use borrow.Author.Tests.{ne_eqb, eq-eqb, lt-leb}
use Rattle.records.specs.Shapes.{Shape}
use Rattle.records.specs.Entries.{Entry}
use Rattle.records.specs.Shapes.{shape_of, needs_restricted_lem}
use Rattle.records.specs.Scan.{State, start, blank, record_at_lem, or_else, number_fault_lem, sort_fault_lem, again_fault_lem, reference_fault_lem, naming, name, empty_fault_lem, body_fault, vacuous_of_lem, entry_for, after}
use Rattle.syntax.specs.Concepts.{Role, named, inverse, not_r, and_r, or_r, Concept, top_c, bottom_c, name_c, not_c, and_c, or_c, exists_c, forall_c, Axiom, Node, concept_n, role_n, axiom_n, no_node, concept_at, role_at, node_of, nodes_from, nodes_of, axiom_of, axioms_of, inclusion_of, inclusions_of}
use Rattle.syntax.specs.Bounds.{NamesBelow, EachRole, AxiomNames, AxiomRoles}
use Rattle.syntax.specs.Laid.{Rec, rec, rec_of, Sound, reach, Follows, WellFormed}
use Rattle.owl_import.specs.RecordsOf.{last_of, put_role, joins, put_concept, put_axiom, put_axioms}
use Rattle.syntax.specs.WrittenAlike.{bare, bare_axiom, bare_axioms}
use Rattle.owl_import.proofs.Parsing.{Small}
use Rattle.owl_import.proofs.Parsing.{size, axioms_size}
use Rattle.syntax.proofs.Queue.{axioms-append}
use Rattle.syntax.proofs.Laying.{reads-back, reach-append, follows-append}

-- the trees of records
abbrev pub tree_of : List Node → Rec → Node
tree_of ns r = node_of ns (length ns) r.kind r.first r.second

unfoldable pub trees_from : List Node → List Rec → List Node
trees_from ns [] = ns
trees_from ns (r ∷ rs) = trees_from (ns ++ (tree_of ns r ∷ [])) rs

abbrev pub trees : List Rec → List Node
trees rs = trees_from [] rs

nodes_trees_from : (ns : List Node) (es : List Entry) → nodes_from ns es ≡ trees_from ns (map rec_of es)
unfolding nodes_from trees_from
nodes_trees_from ns [] = refl
nodes_trees_from ns (e ∷ es) = nodes_trees_from (ns ++ (tree_of ns (rec_of e) ∷ [])) es

pub nodes_trees : (es : List Entry) → nodes_of es ≡ trees (map rec_of es)
unfolding nodes_of
nodes_trees es = nodes_trees_from [] es

trees_append : (ns : List Node) (x y : List Rec) → trees_from ns (x ++ y) ≡ trees_from (trees_from ns x) y
unfolding trees_from
trees_append ns [] y = refl
trees_append ns (r ∷ x) y = trees_append (ns ++ (tree_of ns r ∷ [])) x y

trees_snoc : (x : List Rec) (r : Rec) → trees (x ++ (r ∷ [])) ≡ trees x ++ (tree_of (trees x) r ∷ [])
unfolding trees_from
trees_snoc x r = trees_append [] x (r ∷ [])

from-length : (ns : List Node) (x : List Rec) → length (trees_from ns x) ≡ length ns + length x
unfolding trees_from
from-length ns [] = omega arith
from-length ns (r ∷ x) = from-length (ns ++ (tree_of ns r ∷ [])) x ∙ rw length-append (omega arith)

trees_length : (x : List Rec) → length (trees x) ≡ length x
trees_length x = omega (arith, from-length [] x)

-- the records x are rs and others behind them; the last one's tree has a property, and there is no axiom among the others
record Stands (P : Node → Type 0) (rs x : List Rec) : Type 0 where
  between : List Node
  top : Node
  good : P top
  calm : axiom_of top ≡ []
  quiet : axioms_of between ≡ []
  are : trees x ≡ (trees rs ++ between) ++ (top ∷ [])

-- the place of the last record
last_place : (x : List Rec) (p : List Node) (t : Node) → trees x ≡ p ++ (t ∷ []) → length p ≡ last_of x
last_place x p t e = omega (arith, trees_length x, ap length e, length-append p (t ∷ []))

module _ {P Q : Node → Type 0} {rs x y : List Rec} (s : Stands P rs x) (t : Stands Q x y) where
  both-are : trees y ≡ (trees rs ++ s.between) ++ (s.top ∷ (t.between ++ (t.top ∷ [])))
  both-are = t.are ∙ rw s.are (simp append_assoc)

  first_there : get_or (trees y) (last_of x) no_node ≡ s.top
  first_there =
      rw both-are
      (get_or_at (trees rs ++ s.between) s.top (t.between ++ (t.top ∷ [])) no_node (last_of x) (last_place x (trees rs ++ s.between) s.top s.are))

  second_there : get_or (trees y) (last_of y) no_node ≡ t.top
  second_there =
      rw t.are (get_or_at (trees x ++ t.between) t.top [] no_node (last_of y) (last_place y (trees x ++ t.between) t.top t.are))

  abbrev inside : List Node
  inside = s.between ++ (s.top ∷ (t.between ++ (t.top ∷ [])))

  inside_quiet : axioms_of inside ≡ []
  unfolding axioms_of
  inside_quiet =
      rw (axioms-append s.between (s.top ∷ (t.between ++ (t.top ∷ []))), s.quiet, s.calm, axioms-append t.between (t.top ∷ []), t.quiet, t.calm)

  joined-are : (k : ℕ) → trees (joins k x y) ≡ (trees rs ++ inside) ++ (node_of (trees y) (length (trees y)) k (last_of x) (last_of y) ∷ [])
  joined-are k =
      trees_snoc y (rec k (last_of x) (last_of y)) ∙
      ap (λ (l : List Node). l ++ (node_of (trees y) (length (trees y)) k (last_of x) (last_of y) ∷ [])) (both-are ∙ append_assoc (trees rs) s.between (s.top ∷ (t.between ++ (t.top ∷ []))))

-- a concept's tree, written alike
abbrev IsConcept : Concept → Node → Type 0
IsConcept c n = (d : Concept) × (n ≡ concept_n d) × (bare d ≡ bare c)

abbrev IsRole : Role → Node → Type 0
IsRole u n = n ≡ role_n u

leaf_stands : (P : Node → Type 0) (rs : List Rec) (r : Rec) → P (tree_of (trees rs) r) → axiom_of (tree_of (trees rs) r) ≡ [] → Stands P rs (rs ++ (r ∷ []))
unfolding axioms_of
leaf_stands P rs r h a =
    record {
      between = [];
      top = tree_of (trees rs) r;
      good = h;
      calm = a;
      quiet = refl;
      are = trees_snoc rs r ∙ rw append-nil;
    }

role-stands : (u : Role) → Small u → (rs : List Rec) → Stands (IsRole u) rs (put_role rs u)
unfolding put_role node_of axiom_of
role-stands (named k) h rs = leaf_stands (IsRole (named k)) rs (rec 0x10 k 0) refl refl
role-stands (inverse k) h rs = leaf_stands (IsRole (inverse k)) rs (rec 0x11 k 0) refl refl
role-stands (not_r u) h rs = absurd h
role-stands (and_r u v) h rs = absurd h
role-stands (or_r u v) h rs = absurd h

-- a record that names two concepts, or a role and a concept
module _ {rs x y : List Rec} where
  pair_stands : (k : ℕ) (make : Concept → Concept → Concept) → ((ns : List Node) (n a b : ℕ) → node_of ns n k a b ≡ concept_n (make (concept_at ns a) (concept_at ns b))) →
      ((c d : Concept) → bare (make c d) ≡ make (bare c) (bare d)) → (c d : Concept) → Stands (IsConcept c) rs x → Stands (IsConcept d) x y →
      Stands (IsConcept (make c d)) rs (joins k x y)
  unfolding axiom_of
  pair_stands k make e f c d s t =
      record {
        between = inside s t;
        top = concept_n (make (concept_at (trees y) (last_of x)) (concept_at (trees y) (last_of y)));
        good = (make (concept_at (trees y) (last_of x)) (concept_at (trees y) (last_of y)), refl, alike);
        calm = refl;
        quiet = inside_quiet s t;
        are = joined-are s t k ∙ rw (e (trees y) (length (trees y)) (last_of x) (last_of y));
      }
    where
      left : bare (concept_at (trees y) (last_of x)) ≡ bare c
      left = rw (first_there s t, s.good.1) s.good.2

      right : bare (concept_at (trees y) (last_of y)) ≡ bare d
      right = rw (second_there s t, t.good.1) t.good.2

      alike : bare (make (concept_at (trees y) (last_of x)) (concept_at (trees y) (last_of y))) ≡ bare (make c d)
      alike = rw (f (concept_at (trees y) (last_of x)) (concept_at (trees y) (last_of y)), f c d, left, right)

  under_stands : (k : ℕ) (make : ℕ → ℕ → Role → Concept → Concept) →
      ((ns : List Node) (n a b : ℕ) → node_of ns n k a b ≡ concept_n (make n b (role_at ns a) (concept_at ns b))) →
      ((r g : ℕ) (u : Role) (d : Concept) → bare (make r g u d) ≡ make 0 0 u (bare d)) → (r g : ℕ) (u : Role) (d : Concept) → Stands (IsRole u) rs x →
      Stands (IsConcept d) x y → Stands (IsConcept (make r g u d)) rs (joins k x y)
  unfolding axiom_of
  under_stands k make e f r g u d s t =
      record {
        between = inside s t;
        top = concept_n (made);
        good = (made, refl, alike);
        calm = refl;
        quiet = inside_quiet s t;
        are = joined-are s t k ∙ rw (e (trees y) (length (trees y)) (last_of x) (last_of y));
      }
    where
      made : Concept
      made = make (length (trees y)) (last_of y) (role_at (trees y) (last_of x)) (concept_at (trees y) (last_of y))

      left : role_at (trees y) (last_of x) ≡ u
      left = rw (first_there s t, s.good)

      right : bare (concept_at (trees y) (last_of y)) ≡ bare d
      right = rw (second_there s t, t.good.1) t.good.2

      alike : bare made ≡ bare (make r g u d)
      alike = rw (f (length (trees y)) (last_of y) (role_at (trees y) (last_of x)) (concept_at (trees y) (last_of y)), f r g u d, left, right)

concept-stands : (c : Concept) → EachRole Small c → (rs : List Rec) → Stands (IsConcept c) rs (put_concept rs c)
unfolding put_concept node_of axiom_of EachRole bare axioms_of
concept-stands top_c h rs = leaf_stands (IsConcept top_c) rs (rec 0x01 0 0) (top_c, refl, refl) refl
concept-stands bottom_c h rs = leaf_stands (IsConcept bottom_c) rs (rec 0x02 0 0) (bottom_c, refl, refl) refl
concept-stands (name_c t) h rs = leaf_stands (IsConcept (name_c t)) rs (rec 0x03 t 0) (name_c t, refl, refl) refl
concept-stands (not_c c) h rs = go (concept-stands c h rs)
  where
    x : List Rec
    x = put_concept rs c

    go : Stands (IsConcept c) rs x → Stands (IsConcept (not_c c)) rs (x ++ (rec 0x04 (last_of x) 0 ∷ []))
    go s =
        record {
          between = s.between ++ (s.top ∷ []);
          top = concept_n (not_c (concept_at (trees x) (last_of x)));
          good = (not_c (concept_at (trees x) (last_of x)), refl, ap not_c alike);
          calm = refl;
          quiet = rw (axioms-append s.between (s.top ∷ []), s.quiet, s.calm);
          are = trees_snoc x (rec 0x04 (last_of x) 0) ∙ ap (λ (l : List Node). l ++ (concept_n (not_c (concept_at (trees x) (last_of x))) ∷ [])) (s.are ∙ append_assoc (trees rs) s.between (s.top ∷ []));
        }
      where
        there : get_or (trees x) (last_of x) no_node ≡ s.top
        there = rw s.are (get_or_at (trees rs ++ s.between) s.top [] no_node (last_of x) (last_place x (trees rs ++ s.between) s.top s.are))

        alike : bare (concept_at (trees x) (last_of x)) ≡ bare c
        alike = rw (there, s.good.1) s.good.2
concept-stands (and_c c d) h rs =
    pair_stands 0x05 and_c (λ ns n a b. refl) (λ c d. refl) c d (concept-stands c h.0 rs) (concept-stands d h.1 (put_concept rs c))
concept-stands (or_c c d) h rs =
    pair_stands 0x06 or_c (λ ns n a b. refl) (λ c d. refl) c d (concept-stands c h.0 rs) (concept-stands d h.1 (put_concept rs c))
concept-stands (exists_c r g u c) h rs =
    under_stands 0x07 exists_c (λ ns n a b. refl) (λ r g u d. refl) r g u c (role-stands u h.0 rs) (concept-stands c h.1 (put_role rs u))
concept-stands (forall_c r g u c) h rs =
    under_stands 0x08 forall_c (λ ns n a b. refl) (λ r g u d. refl) r g u c (role-stands u h.0 rs) (concept-stands c h.1 (put_role rs u))

-- the axioms of records, written alike
axiom_stands : (a : Axiom) → EachRole Small a.left → EachRole Small a.right → (rs : List Rec) →
    bare_axioms (axioms_of (trees (put_axiom rs a))) ≡ bare_axioms (axioms_of (trees rs)) ++ (bare_axiom a ∷ [])
unfolding put_axiom node_of axiom_of axioms_of
axiom_stands a h k rs = go (concept-stands a.left h rs) (concept-stands a.right k (put_concept rs a.left))
  where
    x : List Rec
    x = put_concept rs a.left

    y : List Rec
    y = put_concept x a.right

    go : Stands (IsConcept a.left) rs x → Stands (IsConcept a.right) x y →
        bare_axioms (axioms_of (trees (joins 0x20 x y))) ≡ bare_axioms (axioms_of (trees rs)) ++ (bare_axiom a ∷ [])
    go s t =
        rw (
          joined-are s t 0x20,
          axioms-append (trees rs ++ inside s t) (axiom_n (record { left = concept_at (trees y) (last_of x); right = concept_at (trees y) (last_of y) }) ∷ []),
          axioms-append (trees rs) (inside s t),
          inside_quiet s t,
          append-nil (axioms_of (trees rs)),
          map-append,
          left,
          right,
        )
      where
        left : bare (concept_at (trees y) (last_of x)) ≡ bare a.left
        left = rw (first_there s t, s.good.1) s.good.2

        right : bare (concept_at (trees y) (last_of y)) ≡ bare a.right
        right = rw (second_there s t, t.good.1) t.good.2

pub axioms-stand : (l : List Axiom) → AxiomRoles Small l → (rs : List Rec) → bare_axioms (axioms_of (trees (put_axioms rs l))) ≡ bare_axioms (axioms_of (trees rs)) ++ bare_axioms l
unfolding put_axioms
axioms-stand [] h rs = sym (append-nil (bare_axioms (axioms_of (trees rs))))
axioms-stand (a ∷ l) h rs = axioms-stand l h.2 (put_axiom rs a) ∙ rw (axiom_stands a h.0 h.1 rs, append_assoc)

-- a record that is no role inclusion adds none
inclusions-snoc : (ns : List Node) (n : Node) → inclusion_of n ≡ [] → inclusions_of (ns ++ (n ∷ [])) ≡ inclusions_of ns
unfolding inclusions_of
inclusions-snoc [] n e = rw e
inclusions-snoc (m ∷ ns) n e = rw (inclusions-snoc ns n e)

adds-none : (x : List Rec) (r : Rec) → inclusion_of (tree_of (trees x) r) ≡ [] →
    inclusions_of (trees (x ++ (r ∷ []))) ≡ inclusions_of (trees x)
adds-none x r e = rw (trees_snoc x r) (inclusions-snoc (trees x) (tree_of (trees x) r) e)

role-inclusions : (u : Role) (rs : List Rec) → inclusions_of (trees (put_role rs u)) ≡ inclusions_of (trees rs)
unfolding put_role node_of inclusion_of
role-inclusions (named k) rs = adds-none rs _ refl
role-inclusions (inverse k) rs = adds-none rs _ refl
role-inclusions (not_r u) rs = adds-none (put_role rs u) _ refl ∙ role-inclusions u rs
role-inclusions (and_r u v) rs =
    adds-none (put_role (put_role rs u) v) _ refl ∙ role-inclusions v (put_role rs u) ∙ role-inclusions u rs
role-inclusions (or_r u v) rs =
    adds-none (put_role (put_role rs u) v) _ refl ∙ role-inclusions v (put_role rs u) ∙ role-inclusions u rs

concept-inclusions : (c : Concept) (rs : List Rec) → inclusions_of (trees (put_concept rs c)) ≡ inclusions_of (trees rs)
unfolding put_concept node_of inclusion_of
concept-inclusions top_c rs = adds-none rs _ refl
concept-inclusions bottom_c rs = adds-none rs _ refl
concept-inclusions (name_c t) rs = adds-none rs _ refl
concept-inclusions (not_c c) rs = adds-none (put_concept rs c) _ refl ∙ concept-inclusions c rs
concept-inclusions (and_c c d) rs =
    adds-none (put_concept (put_concept rs c) d) _ refl ∙ concept-inclusions d (put_concept rs c) ∙ concept-inclusions c rs
concept-inclusions (or_c c d) rs =
    adds-none (put_concept (put_concept rs c) d) _ refl ∙ concept-inclusions d (put_concept rs c) ∙ concept-inclusions c rs
concept-inclusions (exists_c r g u c) rs =
    adds-none (put_concept (put_role rs u) c) _ refl ∙ concept-inclusions c (put_role rs u) ∙ role-inclusions u rs
concept-inclusions (forall_c r g u c) rs =
    adds-none (put_concept (put_role rs u) c) _ refl ∙ concept-inclusions c (put_role rs u) ∙ role-inclusions u rs

axioms-inclusions : (l : List Axiom) (rs : List Rec) → inclusions_of (trees (put_axioms rs l)) ≡ inclusions_of (trees rs)
unfolding put_axioms put_axiom node_of inclusion_of
axioms-inclusions [] rs = refl
axioms-inclusions (a ∷ l) rs =
    axioms-inclusions l (put_axiom rs a) ∙ adds-none (put_concept (put_concept rs a.left) a.right) _ refl ∙
    concept-inclusions a.right (put_concept rs a.left) ∙ concept-inclusions a.left rs

-- what import writes has no role inclusion
pub no-inclusions : (l : List Axiom) → inclusions_of (nodes_of (reach start (put_axioms [] l)).records) ≡ []
unfolding inclusions_of trees_from
no-inclusions l = rw (nodes_trees (reach start (put_axioms [] l)).records, reads-back (put_axioms [] l)) (axioms-inclusions l [])

-- Faults: none.
none-wanted : (es : List Entry) (i : ℕ) → reference_fault_lem es 0 i ≡ 0
unfolding reference_fault_lem
none-wanted es i = refl

name-at : (w : ℕ) → (w ≡ 0 → ⊥) → (p : List Entry) (e : Entry) (q : List Entry) (i : ℕ) → length p ≡ i → name (p ++ (e ∷ q)) w i ≡ p ++ (naming e ∷ q)
unfolding name
name-at w n p e q i h = rw (ne_eqb w 0 n, get_or_at p e q blank i h) (set_at p e q (naming e) i h)

reference-at : (w : ℕ) (p : List Entry) (e : Entry) (q : List Entry) (i : ℕ) → length p ≡ i → e.sort ≡ w → e.named ≡ false → reference_fault_lem (p ++ (e ∷ q)) w i ≡ 0
unfolding reference_fault_lem
reference-at w p e q i h s n = go (eqb w 0)
  where
    rest : or_else (sort_fault_lem w e.sort) (again_fault_lem e) ≡ 0
    rest = rw (eq-eqb e.sort w s, n)

    go : (b : Bool) → cond b 0 (cond (leb (length (p ++ (e ∷ q))) i) 5
        (or_else (sort_fault_lem w (record_at_lem (p ++ (e ∷ q)) i).sort) (again_fault_lem (record_at_lem (p ++ (e ∷ q)) i)))) ≡ 0
    go true = refl
    go false = rw (lt-leb (length (p ++ (e ∷ q))) i (omega (arith, length-append p (e ∷ q))), get_or_at p e q blank i h) rest

empty_at : (s : Shape) (p : List Entry) (e : Entry) (q : List Entry) (i : ℕ) → length p ≡ i → e.vacuous ≡ false → empty_fault_lem (p ++ (e ∷ q)) s i ≡ 0
unfolding empty_fault_lem
empty_at s p e q i h v = rw (get_or_at p e q blank i h, v) (go (needs_restricted_lem s))
  where
    go : (b : Bool) → ◌≡◌ {A = ℕ} (cond (b && false) 8 0) 0
    go true = refl
    go false = refl

-- the records of a list
abbrev entries : List Rec → List Entry
entries x = (reach start x).records

entries_length : (x : List Rec) → length (entries x) ≡ length x
entries_length x = omega (arith, ap length (reads-back x), length-map (entries x) rec_of)

last_entry : (x : List Rec) (p : List Entry) (t : Entry) → entries x ≡ p ++ (t ∷ []) → length p ≡ last_of x
last_entry x p t e = omega (arith, entries_length x, ap length e, length-append p (t ∷ []))

-- the records x are rs and others behind them, none of rs is named by these, and the last one may be named where its sort is wanted
record Holds (sort : ℕ) (rs x : List Rec) : Type 0 where
  between : List Entry
  top : Entry
  sorted : top.sort ≡ sort
  fresh : top.named ≡ false
  fails : top.vacuous ≡ false
  sound : Follows start x
  are : entries x ≡ (entries rs ++ between) ++ (top ∷ [])

follows_snoc : (x : List Rec) (r : Rec) → Follows start x → Sound (reach start x) r → Follows start (x ++ (r ∷ []))
unfolding Follows
follows_snoc x r h s = follows-append start x (r ∷ []) h (s, tt)

entries_snoc : (x : List Rec) (r : Rec) → entries (x ++ (r ∷ [])) ≡ name (name (entries x) (shape_of r.kind).first r.first) (shape_of r.kind).second r.second ++ (entry_for (entries x) r.kind r.first r.second ∷ [])
unfolding after reach
entries_snoc x r = ap (λ (st : State). st.records) (reach-append start x (r ∷ []))

-- a leaf
leaf_holds : (rs : List Rec) (r : Rec) (sort : ℕ) → Follows start rs → Sound (reach start rs) r → (shape_of r.kind).sort ≡ sort → (shape_of r.kind).first ≡ 0 →
    (shape_of r.kind).second ≡ 0 → vacuous_of_lem (entries rs) r.kind r.first r.second ≡ false → Holds sort rs (rs ++ (r ∷ []))
unfolding name
leaf_holds rs r sort f s p q t v =
    record {
      between = [];
      top = entry_for (entries rs) r.kind r.first r.second;
      sorted = p;
      fresh = refl;
      fails = v;
      sound = follows_snoc rs r f s;
      are = entries_snoc rs r ∙ rw (q, t, append-nil);
    }

role_holds_lem : (u : Role) → Small u → (rs : List Rec) → Follows start rs → Holds 2 rs (put_role rs u)
unfolding put_role shape_of vacuous_of_lem body_fault number_fault_lem reference_fault_lem empty_fault_lem needs_restricted_lem
role_holds_lem (named k) h rs f =
    leaf_holds rs (rec 0x10 k 0) 2 f
    (record { known = λ e. absurd (omega arith); right = rw (lt-leb 4 k h); first = λ e. absurd (omega arith); second = λ e. refl }) refl refl refl refl
role_holds_lem (inverse k) h rs f =
    leaf_holds rs (rec 0x11 k 0) 2 f
    (record { known = λ e. absurd (omega arith); right = rw (lt-leb 4 k h); first = λ e. absurd (omega arith); second = λ e. refl }) refl refl refl refl
role_holds_lem (not_r u) h rs f = absurd h
role_holds_lem (and_r u v) h rs f = absurd h
role_holds_lem (or_r u v) h rs f = absurd h

-- a record that names two, the first of sort v and the second of sort w
module _ {v w : ℕ} {rs x y : List Rec} (s : Holds v rs x) (t : Holds w x y) where
  both_entries : entries y ≡ (entries rs ++ s.between) ++ (s.top ∷ (t.between ++ (t.top ∷ [])))
  both_entries = t.are ∙ rw s.are (simp append_assoc)

  first-place : length (entries rs ++ s.between) ≡ last_of x
  first-place = last_entry x (entries rs ++ s.between) s.top s.are

  abbrev before : List Entry
  before = (entries rs ++ s.between) ++ (naming s.top ∷ t.between)

  second-place : length before ≡ last_of y
  second-place =
      omega (
        arith,
        last_entry y (entries x ++ t.between) t.top t.are,
        length-append (entries x) t.between,
        ap length s.are,
        length-append (entries rs ++ s.between) (s.top ∷ []),
        length-append (entries rs ++ s.between) (naming s.top ∷ t.between),
      )

  first-named : (v ≡ 0 → ⊥) → name (entries y) v (last_of x) ≡ before ++ (t.top ∷ [])
  first-named n =
      rw both_entries
      (name-at v n (entries rs ++ s.between) s.top (t.between ++ (t.top ∷ [])) (last_of x) first-place ∙
      sym (append_assoc (entries rs ++ s.between) (naming s.top ∷ t.between) (t.top ∷ [])))

  second-named : (v ≡ 0 → ⊥) → (w ≡ 0 → ⊥) → name (name (entries y) v (last_of x)) w (last_of y) ≡ before ++ (naming t.top ∷ [])
  second-named n m = rw (first-named n) (name-at w m before t.top [] (last_of y) second-place)

  joined-right : (k : ℕ) → (shape_of k).limit ≡ 0 → (shape_of k).first ≡ v → (shape_of k).second ≡ w → (v ≡ 0 → ⊥) →
      (body_fault (entries y) (shape_of k) (last_of x) (last_of y)).number ≡ 0
  unfolding body_fault number_fault_lem
  joined-right k l p q n =
      rw (number, first, second, empty)
    where
      number : number_fault_lem (shape_of k) (last_of x) ≡ 0
      number = rw l

      empty : empty_fault_lem (entries y) (shape_of k) (last_of x) ≡ 0
      empty = rw both_entries (empty_at (shape_of k) (entries rs ++ s.between) s.top (t.between ++ (t.top ∷ [])) (last_of x) first-place s.fails)

      first : reference_fault_lem (entries y) (shape_of k).first (last_of x) ≡ 0
      first = rw (p, both_entries) (reference-at v (entries rs ++ s.between) s.top (t.between ++ (t.top ∷ [])) (last_of x) first-place s.sorted s.fresh)

      second : reference_fault_lem (name (entries y) (shape_of k).first (last_of x)) (shape_of k).second (last_of y) ≡ 0
      second = rw (p, q, first-named n) (reference-at w before t.top [] (last_of y) second-place t.sorted t.fresh)

  joined-holds : (k sort : ℕ) → (shape_of k).sort ≡ sort → (sort ≡ 0 → ⊥) → (shape_of k).body ≡ 2 → (shape_of k).limit ≡ 0 → (shape_of k).first ≡ v → (shape_of k).second ≡ w →
      (v ≡ 0 → ⊥) → (w ≡ 0 → ⊥) → ((a b : ℕ) → vacuous_of_lem (entries y) k a b ≡ false) → Holds sort rs (joins k x y)
  joined-holds k sort e z b l p q n m f =
      record {
        between = s.between ++ (naming s.top ∷ (t.between ++ (naming t.top ∷ [])));
        top = entry_for (entries y) k (last_of x) (last_of y);
        sorted = e;
        fresh = refl;
        fails = f (last_of x) (last_of y);
        sound =
            follows_snoc y (rec k (last_of x) (last_of y)) t.sound
            (record {
              known = λ h. z (sym e ∙ h);
              right = joined-right k l p q n;
              first = λ h. absurd (omega arith);
              second = λ h. absurd (omega arith);
            });
        are = entries_snoc y (rec k (last_of x) (last_of y)) ∙ rw (p, q, second-named n m) (simp append_assoc);
      }

not-right : (es : List Entry) (i : ℕ) → reference_fault_lem es 1 i ≡ 0 → (body_fault es (shape_of 0x04) i 0).number ≡ 0
unfolding shape_of body_fault number_fault_lem empty_fault_lem needs_restricted_lem
not-right es i h = rw (h, none-wanted)

not-holds : {rs x : List Rec} (s : Holds 1 rs x) → Holds 1 rs (x ++ (rec 0x04 (last_of x) 0 ∷ []))
unfolding shape_of vacuous_of_lem body_fault number_fault_lem reference_fault_lem name empty_fault_lem needs_restricted_lem
not-holds {rs} {x} s =
    record {
      between = s.between ++ (naming s.top ∷ []);
      top = entry_for (entries x) 0x04 (last_of x) 0;
      sorted = refl;
      fresh = refl;
      fails = refl;
      sound =
          follows_snoc x (rec 0x04 (last_of x) 0) s.sound
          (record {
            known = λ h. absurd (omega arith);
            right = not-right (entries x) (last_of x) found;
            first = λ h. absurd (omega arith);
            second = λ h. refl;
          });
      are = entries_snoc x (rec 0x04 (last_of x) 0) ∙ rw taken (simp append_assoc);
    }
  where
    place : length (entries rs ++ s.between) ≡ last_of x
    place = last_entry x (entries rs ++ s.between) s.top s.are

    found : reference_fault_lem (entries x) 1 (last_of x) ≡ 0
    found = rw s.are (reference-at 1 (entries rs ++ s.between) s.top [] (last_of x) place s.sorted s.fresh)

    taken : name (entries x) 1 (last_of x) ≡ (entries rs ++ s.between) ++ (naming s.top ∷ [])
    taken = rw s.are (name-at 1 (λ z. omega arith) (entries rs ++ s.between) s.top [] (last_of x) place)

concept-holds : (c : Concept) → NamesBelow 12 c → EachRole Small c → (rs : List Rec) → Follows start rs → Holds 1 rs (put_concept rs c)
unfolding put_concept NamesBelow EachRole shape_of vacuous_of_lem body_fault number_fault_lem reference_fault_lem empty_fault_lem needs_restricted_lem
concept-holds top_c n h rs f =
    leaf_holds rs (rec 0x01 0 0) 1 f (record { known = λ e. absurd (omega arith); right = refl; first = λ e. refl; second = λ e. refl }) refl refl refl refl
concept-holds bottom_c n h rs f =
    leaf_holds rs (rec 0x02 0 0) 1 f (record { known = λ e. absurd (omega arith); right = refl; first = λ e. refl; second = λ e. refl }) refl refl refl refl
concept-holds (name_c t) n h rs f =
    leaf_holds rs (rec 0x03 t 0) 1 f
    (record { known = λ e. absurd (omega arith); right = rw (lt-leb 12 t n); first = λ e. absurd (omega arith); second = λ e. refl }) refl refl refl refl
concept-holds (not_c c) n h rs f = not-holds (concept-holds c n h rs f)
concept-holds (and_c c d) n h rs f =
    let s = concept-holds c n.0 h.0 rs f in
    let t = concept-holds d n.1 h.1 (put_concept rs c) s.sound in
    joined-holds s t 0x05 1 refl (λ z. omega arith) refl refl refl refl (λ z. omega arith) (λ z. omega arith) (λ a b. refl)
concept-holds (or_c c d) n h rs f =
    let s = concept-holds c n.0 h.0 rs f in
    let t = concept-holds d n.1 h.1 (put_concept rs c) s.sound in
    joined-holds s t 0x06 1 refl (λ z. omega arith) refl refl refl refl (λ z. omega arith) (λ z. omega arith) (λ a b. refl)
concept-holds (exists_c r g u c) n h rs f =
    let s = role_holds_lem u h.0 rs f in
    let t = concept-holds c n h.1 (put_role rs u) s.sound in
    joined-holds s t 0x07 1 refl (λ z. omega arith) refl refl refl refl (λ z. omega arith) (λ z. omega arith) (λ a b. refl)
concept-holds (forall_c r g u c) n h rs f =
    let s = role_holds_lem u h.0 rs f in
    let t = concept-holds c n h.1 (put_role rs u) s.sound in
    joined-holds s t 0x08 1 refl (λ z. omega arith) refl refl refl refl (λ z. omega arith) (λ z. omega arith) (λ a b. refl)

axiom_holds : (a : Axiom) → NamesBelow 12 a.left → NamesBelow 12 a.right → EachRole Small a.left → EachRole Small a.right → (rs : List Rec) → Follows start rs →
    Follows start (put_axiom rs a)
unfolding put_axiom shape_of vacuous_of_lem
axiom_holds a n m h k rs f =
    let s = concept-holds a.left n h rs f in
    let t = concept-holds a.right m k (put_concept rs a.left) s.sound in
    (joined-holds s t 0x20 3 refl (λ z. omega arith) refl refl refl refl (λ z. omega arith) (λ z. omega arith) (λ a b. refl)).sound

axioms_hold : (l : List Axiom) → AxiomNames 12 l → AxiomRoles Small l → (rs : List Rec) → Follows start rs → Follows start (put_axioms rs l)
unfolding put_axioms
axioms_hold [] n h rs f = f
axioms_hold (a ∷ l) n h rs f = axioms_hold l n.2 h.2 (put_axiom rs a) (axiom_holds a n.0 n.1 h.0 h.1 rs f)

-- how many there are
role-size : (u : Role) → Small u → (rs : List Rec) → length (put_role rs u) ≡ length rs + 1
unfolding put_role
role-size (named k) h rs = length-append rs (rec 0x10 k 0 ∷ [])
role-size (inverse k) h rs = length-append rs (rec 0x11 k 0 ∷ [])
role-size (not_r u) h rs = absurd h
role-size (and_r u v) h rs = absurd h
role-size (or_r u v) h rs = absurd h

joins-length : (k : ℕ) (x y : List Rec) → length (joins k x y) ≡ length y + 1
joins-length k x y = length-append y (rec k (last_of x) (last_of y) ∷ [])

concept-size : (c : Concept) → EachRole Small c → (rs : List Rec) → length (put_concept rs c) ≡ length rs + size c
unfolding put_concept size EachRole
concept-size top_c h rs = length-append rs (rec 0x01 0 0 ∷ [])
concept-size bottom_c h rs = length-append rs (rec 0x02 0 0 ∷ [])
concept-size (name_c t) h rs = length-append rs (rec 0x03 t 0 ∷ [])
concept-size (not_c c) h rs = omega (arith, concept-size c h rs, length-append (put_concept rs c) (rec 0x04 (last_of (put_concept rs c)) 0 ∷ []))
concept-size (and_c c d) h rs =
    omega (arith, concept-size c h.0 rs, concept-size d h.1 (put_concept rs c), joins-length 0x05 (put_concept rs c) (put_concept (put_concept rs c) d))
concept-size (or_c c d) h rs =
    omega (arith, concept-size c h.0 rs, concept-size d h.1 (put_concept rs c), joins-length 0x06 (put_concept rs c) (put_concept (put_concept rs c) d))
concept-size (exists_c r g u c) h rs =
    omega (arith, role-size u h.0 rs, concept-size c h.1 (put_role rs u), joins-length 0x07 (put_role rs u) (put_concept (put_role rs u) c))
concept-size (forall_c r g u c) h rs =
    omega (arith, role-size u h.0 rs, concept-size c h.1 (put_role rs u), joins-length 0x08 (put_role rs u) (put_concept (put_role rs u) c))

axioms-size : (l : List Axiom) → AxiomRoles Small l → (rs : List Rec) → length (put_axioms rs l) ≡ length rs + axioms_size l
unfolding put_axioms put_axiom axioms_size
axioms-size [] h rs = omega arith
axioms-size (a ∷ l) h rs =
    omega (
      arith,
      axioms-size l h.2 (put_axiom rs a),
      concept-size a.left h.0 rs,
      concept-size a.right h.1 (put_concept rs a.left),
      joins-length 0x20 (put_concept rs a.left) (put_concept (put_concept rs a.left) a.right),
    )

pub axioms_well : (l : List Axiom) → AxiomNames 12 l → AxiomRoles Small l → axioms_size l ≤ 255 → WellFormed (put_axioms [] l)
unfolding Follows
axioms_well l n h k = record { few = omega (arith, axioms-size l h []); sound = axioms_hold l n h [] tt }
