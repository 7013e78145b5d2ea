-- Record numbers are for the list of marks alone: flattened axioms, view, and so opening, survivors and verdict depend on a
-- knowledge base only up to how it is written.
use Prim.Native.Nat.{ℕ, zero, suc}
use mathlib.Core.Path.{◌≡◌, refl, sym, ap, ◌∙◌}
use mathlib.Core.Bool.{cond}
use mathlib.Core.Option.{Option, none, some}
use mathlib.Core.List.{List, [], ◌∷◌, ◌++◌, map, map-append}
use lib.ListN.{length, length-map, get_or-map}
use lib.Dec.{ltb, eqb}
use Rattle.syntax.specs.Concepts.{Concept, top_c, bottom_c, name_c, not_c, and_c, or_c, exists_c, forall_c, Axiom, RoleInclusion}
use Rattle.syntax.specs.Normal.{Tag, tag, Nf, top_n, bottom_n, name_n, not_n, and_n, or_n, exists_n, forall_n, plain, negated, axiom_nf}
use Rattle.syntax.specs.Flatten.{Atom, Filler, atomic, fresh, Part, name_p, fresh_p, exists_p, forall_p, Flat, atom, Pending, whole, guarded, Walked, like_exists, like_forall, alike, find_from, shared, placed, meet_one, walk_by, walk_pending_by, Flattening, run_by, restrictions, weight, weights, name_parts_lem, pendings, flatten_by, flatten, no_part, part_at}
use Rattle.syntax.specs.Reading.{Kb, kb, flats_of, parts_of}
use Rattle.syntax.specs.Parts.{kind_of, role_holds}
use Rattle.bitset.specs.Bits.{look, size}
use Rattle.elimination.specs.Elimination.{settled as settled_by}
use Rattle.elimination.specs.Calls.{written, strike_words, settle_words}
use Rattle.semantics.specs.Conditions.{View, dominoes, initial, defective, canon, held}
use Rattle.semantics.specs.Views.{has_filler, view_of, kb_view}
use Rattle.domino.specs.Answers.{verdict_of, verdict_numbers, on_set, says_on_set, leaves_on_set, open_says, open_leaves, strike_says, strike_leaves, settle_says, settle_leaves, judge_says, judge_leaves}
use Rattle.syntax.specs.WrittenAlike.{bare, bare_axioms, bare_kb, WrittenAlike}

-- a tag without record numbers, and what holds tags
abbrev untag : Tag → Tag
untag g = tag 0 g.odd 0

unfoldable erase_nf : Nf → Nf
erase_nf top_n = top_n
erase_nf bottom_n = bottom_n
erase_nf (name_n t) = name_n t
erase_nf (not_n t) = not_n t
erase_nf (and_n c d) = and_n (erase_nf c) (erase_nf d)
erase_nf (or_n c d) = or_n (erase_nf c) (erase_nf d)
erase_nf (exists_n g u c) = exists_n (untag g) u (erase_nf c)
erase_nf (forall_n g u c) = forall_n (untag g) u (erase_nf c)

unfoldable erase_part : Part → Part
erase_part (name_p t) = name_p t
erase_part (fresh_p g c) = fresh_p (untag g) (erase_nf c)
erase_part (exists_p g u f) = exists_p (untag g) u f
erase_part (forall_p g u f) = forall_p (untag g) u f

unfoldable erase_pending : Pending → Pending
erase_pending (whole c) = whole (erase_nf c)
erase_pending (guarded f c) = guarded f (erase_nf c)

abbrev erase_parts : List Part → List Part
erase_parts ps = map erase_part ps

abbrev erase_later : List Pending → List Pending
erase_later q = map erase_pending q

abbrev erase_walked : Walked → Walked
erase_walked w = record { flat = w.flat; parts = erase_parts w.parts; later = erase_later w.later }

-- normal forms
abbrev Both : Concept → Type 0
Both c = (plain (bare c) ≡ erase_nf (plain c)) × (negated (bare c) ≡ erase_nf (negated c))

normal-bare : (c : Concept) → Both c
unfolding plain negated bare erase_nf
normal-bare top_c = (refl, refl)
normal-bare bottom_c = (refl, refl)
normal-bare (name_c t) = (refl, refl)
normal-bare (not_c c) = let p = normal-bare c in (p.1, p.0)
normal-bare (and_c c d) = let p = normal-bare c in let q = normal-bare d in (rw (p.0, q.0), rw (p.1, q.1))
normal-bare (or_c c d) = let p = normal-bare c in let q = normal-bare d in (rw (p.0, q.0), rw (p.1, q.1))
normal-bare (exists_c r f u c) = let p = normal-bare c in (rw p.0, rw p.1)
normal-bare (forall_c r f u c) = let p = normal-bare c in (rw p.0, rw p.1)

pendings-bare : (l : List Axiom) → pendings (bare_axioms l) ≡ erase_later (pendings l)
unfolding pendings axiom_nf erase_pending erase_nf
pendings-bare [] = refl
pendings-bare (a ∷ l) = rw ((normal-bare a.left).1, (normal-bare a.right).0, pendings-bare l)

restrictions-erased : (c : Nf) → restrictions (erase_nf c) ≡ restrictions c
unfolding restrictions erase_nf
restrictions-erased top_n = refl
restrictions-erased bottom_n = refl
restrictions-erased (name_n t) = refl
restrictions-erased (not_n t) = refl
restrictions-erased (and_n c d) = rw (restrictions-erased c, restrictions-erased d)
restrictions-erased (or_n c d) = rw (restrictions-erased c, restrictions-erased d)
restrictions-erased (exists_n g u c) = rw (restrictions-erased c)
restrictions-erased (forall_n g u c) = rw (restrictions-erased c)

weight-erased : (p : Pending) → weight (erase_pending p) ≡ weight p
unfolding weight erase_pending
weight-erased (whole c) = rw (restrictions-erased c)
weight-erased (guarded f c) = rw (restrictions-erased c)

weights-erased : (q : List Pending) → weights (erase_later q) ≡ weights q
unfolding weights
weights-erased [] = refl
weights-erased (p ∷ q) = rw (weight-erased p, weights-erased q)

-- looking a part up
alike-erased : (p q : Part) → alike (erase_part p) (erase_part q) ≡ alike p q
unfolding alike like_exists like_forall erase_part
alike-erased (name_p t) q = refl
alike-erased (fresh_p g c) q = refl
alike-erased (exists_p g u f) (name_p t) = refl
alike-erased (exists_p g u f) (fresh_p h c) = refl
alike-erased (exists_p g u f) (exists_p h v e) = refl
alike-erased (exists_p g u f) (forall_p h v e) = refl
alike-erased (forall_p g u f) (name_p t) = refl
alike-erased (forall_p g u f) (fresh_p h c) = refl
alike-erased (forall_p g u f) (exists_p h v e) = refl
alike-erased (forall_p g u f) (forall_p h v e) = refl

find-erased : (p : Part) (k : ℕ) (ps : List Part) → find_from (erase_part p) k (erase_parts ps) ≡ find_from p k ps
unfolding find_from
find-erased p k [] = refl
find-erased p k (q ∷ ps) = rw (alike-erased p q, find-erased p (suc k) ps)

shared-erased : (p : Part) (so : List Part) → shared (erase_part p) (erase_parts so) ≡ shared p so
unfolding shared
shared-erased p so = find-erased p 0 so

placed-erased : (p : Part) (so : List Part) (o : Option ℕ) → placed (erase_part p) (erase_parts so) o ≡ erase_walked (placed p so o)
unfolding placed
placed-erased p so (some j) = refl
placed-erased p so none = rw (length-map so erase_part)

atom-erased : (c : Nf) → atom (erase_nf c) ≡ atom c
unfolding atom erase_nf
atom-erased top_n = refl
atom-erased bottom_n = refl
atom-erased (name_n t) = refl
atom-erased (not_n t) = refl
atom-erased (and_n c d) = refl
atom-erased (or_n c d) = refl
atom-erased (exists_n g u c) = refl
atom-erased (forall_n g u c) = refl

meet-erased : (p r : Filler → Part) → ((f : Filler) → r f ≡ erase_part (p f)) → (g : Tag) (c : Nf) (so : List Part) (o : Option Atom) →
    meet_one shared r (untag g) (erase_nf c) (erase_parts so) o ≡ erase_walked (meet_one shared p g c so o)
unfolding meet_one erase_part erase_pending
meet-erased p r e g c so (some a) = rw (e (atomic a), shared-erased (p (atomic a)) so) (placed-erased (p (atomic a)) so (shared (p (atomic a)) so))
meet-erased p r e g c so none = rw (length-map so erase_part, e (fresh (suc (length so))))

walk-erased : (c : Nf) (so : List Part) → walk_by shared (erase_nf c) (erase_parts so) ≡ erase_walked (walk_by shared c so)
unfolding walk_by erase_nf erase_part
walk-erased top_n so = refl
walk-erased bottom_n so = refl
walk-erased (name_n t) so = refl
walk-erased (not_n t) so = refl
walk-erased (and_n c d) so =
    rw (
      walk-erased c so,
      ← map-append erase_part so (walk_by shared c so).parts,
      walk-erased d (so ++ (walk_by shared c so).parts),
      map-append erase_part (walk_by shared c so).parts (walk_by shared d (so ++ (walk_by shared c so).parts)).parts,
      map-append erase_pending (walk_by shared c so).later (walk_by shared d (so ++ (walk_by shared c so).parts)).later,
    )
walk-erased (or_n c d) so =
    rw (
      walk-erased c so,
      ← map-append erase_part so (walk_by shared c so).parts,
      walk-erased d (so ++ (walk_by shared c so).parts),
      map-append erase_part (walk_by shared c so).parts (walk_by shared d (so ++ (walk_by shared c so).parts)).parts,
      map-append erase_pending (walk_by shared c so).later (walk_by shared d (so ++ (walk_by shared c so).parts)).later,
    )
walk-erased (exists_n g u c) so = rw (atom-erased c) (meet-erased (exists_p g u) (exists_p (untag g) u) (λ f. refl) g c so (atom c))
walk-erased (forall_n g u c) so = rw (atom-erased c) (meet-erased (forall_p g u) (forall_p (untag g) u) (λ f. refl) g c so (atom c))

pending-erased : (p : Pending) (so : List Part) → walk_pending_by shared (erase_pending p) (erase_parts so) ≡ erase_walked (walk_pending_by shared p so)
unfolding walk_pending_by erase_pending
pending-erased (whole c) so = walk-erased c so
pending-erased (guarded f c) so = rw (walk-erased c so)

abbrev erase_flattening : Flattening → Flattening
erase_flattening r = record { axioms = r.axioms; parts = erase_parts r.parts }

run-erased : (n : ℕ) (q : List Pending) (so : List Part) → run_by shared n (erase_later q) (erase_parts so) ≡ erase_flattening (run_by shared n q so)
unfolding run_by
run-erased zero q so = refl
run-erased (suc n) [] so = refl
run-erased (suc n) (p ∷ q) so =
    rw (
      pending-erased p so,
      ← map-append erase_pending q (walk_pending_by shared p so).later,
      ← map-append erase_part so (walk_pending_by shared p so).parts,
      run-erased n (q ++ (walk_pending_by shared p so).later) (so ++ (walk_pending_by shared p so).parts),
      map-append erase_part (walk_pending_by shared p so).parts (run_by shared n (q ++ (walk_pending_by shared p so).later) (so ++ (walk_pending_by shared p so).parts)).parts,
    )

names-erased : (T : ℕ) → erase_parts (name_parts_lem T) ≡ name_parts_lem T
unfolding name_parts_lem erase_part
names-erased zero = refl
names-erased (suc T) = rw (map-append erase_part (name_parts_lem T) (name_p T ∷ []), names-erased T)

run-bare : (T : ℕ) (l : List Axiom) →
    run_by shared (weights (pendings (bare_axioms l))) (pendings (bare_axioms l)) (name_parts_lem T) ≡ erase_flattening (run_by shared (weights (pendings l)) (pendings l) (name_parts_lem T))
run-bare T l =
    rw (pendings-bare l, weights-erased (pendings l))
    (ap (λ (so : List Part). run_by shared (weights (pendings l)) (erase_later (pendings l)) so) (sym (names-erased T)) ∙
    run-erased (weights (pendings l)) (pendings l) (name_parts_lem T))

-- flattening, written alike
flatten-bare : (T : ℕ) (l : List Axiom) → flatten T (bare_axioms l) ≡ erase_flattening (flatten T l)
unfolding flatten_by
flatten-bare T l =
    rw (run-bare T l, map-append erase_part (name_parts_lem T) (run_by shared (weights (pendings l)) (pendings l) (name_parts_lem T)).parts, names-erased T)

-- the view looks at no tag
kind-erased : (p : Part) → kind_of (erase_part p) ≡ kind_of p
unfolding kind_of erase_part
kind-erased (name_p t) = refl
kind-erased (fresh_p g c) = refl
kind-erased (exists_p g u f) = refl
kind-erased (forall_p g u f) = refl

holds-erased : (p : Part) (R : ℕ) → role_holds (erase_part p) R ≡ role_holds p R
unfolding role_holds erase_part
holds-erased (name_p t) R = refl
holds-erased (fresh_p g c) R = refl
holds-erased (exists_p g u f) R = refl
holds-erased (forall_p g u f) R = refl

has-erased : (p : Part) (B : ℕ) → has_filler (erase_part p) B ≡ has_filler p B
unfolding has_filler erase_part
has-erased (name_p t) B = refl
has-erased (fresh_p g c) B = refl
has-erased (exists_p g u f) B = refl
has-erased (forall_p g u f) B = refl

part-erased : (ps : List Part) (k : ℕ) → part_at (erase_parts ps) k ≡ erase_part (part_at ps k)
unfolding erase_part erase_nf
part-erased ps k = get_or-map erase_part ps k no_part

view-erased : (L : ℕ) (incl : List RoleInclusion) (fs : List Flat) (ps : List Part) →
    view_of L incl fs (erase_parts ps) ≡ view_of L incl fs ps
view-erased L incl fs ps = simp (length-map ps erase_part, part-erased ps, kind-erased, holds-erased, has-erased)

pub flats-bare : (k : Kb) → flats_of (bare_kb k) ≡ flats_of k
flats-bare k = ap (λ (F : Flattening). F.axioms) (flatten-bare k.names k.axioms)

pub parts-bare : (k : Kb) → length (parts_of (bare_kb k)) ≡ length (parts_of k)
parts-bare k = ap (λ (F : Flattening). length (F.parts)) (flatten-bare k.names k.axioms) ∙ length-map (parts_of k) erase_part

pub view-bare : (k : Kb) → kb_view (bare_kb k) ≡ kb_view k
view-bare k =
    ap (λ (F : Flattening). view_of k.roles k.inclusions (F.axioms) (F.parts)) (flatten-bare k.names k.axioms) ∙
    view-erased k.roles k.inclusions (flats_of k) (parts_of k)

-- knowledge bases written alike have one view
pub alike-view : (k m : Kb) → WrittenAlike k m → kb_view k ≡ kb_view m
alike-view k m e = sym (view-bare k) ∙ ap kb_view e ∙ view-bare m

pub alike-parts : (k m : Kb) → WrittenAlike k m → length (parts_of k) ≡ length (parts_of m)
alike-parts k m e = sym (parts-bare k) ∙ ap (λ (k : Kb). length (parts_of k)) e ∙ parts-bare m

-- and so every call answers and leaves the same of them: the opening set and its size, the survivors and their number, the verdict
pub record SameAnswers (k m : Kb) : Type 0 where
  pub opens : (ws : List ℕ) → open_says (kb k) ws ≡ open_says (kb m) ws
  pub opened : (ws : List ℕ) → open_leaves (kb k) ws ≡ open_leaves (kb m) ws
  pub strikes : (n : ℕ) (ws : List ℕ) → strike_says (kb k) n ws ≡ strike_says (kb m) n ws
  pub struck : (n : ℕ) (ws : List ℕ) → strike_leaves (kb k) n ws ≡ strike_leaves (kb m) n ws
  pub settles : (ws : List ℕ) → settle_says (kb k) ws ≡ settle_says (kb m) ws
  pub settled : (ws : List ℕ) → settle_leaves (kb k) ws ≡ settle_leaves (kb m) ws
  pub judges : (ws : List ℕ) → judge_says (kb k) ws ≡ judge_says (kb m) ws
  pub judged : (ws : List ℕ) → judge_leaves (kb k) ws ≡ judge_leaves (kb m) ws

pub alike-answers : (k m : Kb) → WrittenAlike k m → SameAnswers k m
unfolding on_set says_on_set leaves_on_set open_says open_leaves strike_says strike_leaves settle_says settle_leaves judge_says judge_leaves
alike-answers k m e =
    record {
      opens = λ ws. ap (λ (v : View). cond (ltb (length ws) (held v)) (10 ∷ 0 ∷ []) (0 ∷ 0 ∷ size (dominoes v) (initial v) ∷ [])) same;
      opened = λ ws. ap (λ (v : View). cond (ltb (length ws) (held v)) ws (written (held v) (dominoes v) (initial v) ws)) same;
      strikes = λ n ws.
          ap (λ (v : View). cond (ltb (length ws) (held v)) (10 ∷ 0 ∷ [])
          (cond (ltb n (dominoes v)) (0 ∷ 0 ∷ n ∷ verdict_numbers (verdict_of v (look ws) n)) (11 ∷ 0 ∷ []))) same;
      struck = λ n ws. ap (λ (v : View). cond (ltb (length ws) (held v)) ws (strike_words (dominoes v) (defective v) n ws)) same;
      settles = λ ws.
          ap (λ (v : View). cond (ltb (length ws) (held v)) (10 ∷ 0 ∷ []) (0 ∷ 0 ∷ size (dominoes v) (settled_by (dominoes v) (defective v) (look ws)) ∷ [])) same;
      settled = λ ws. ap (λ (v : View). cond (ltb (length ws) (held v)) ws (settle_words (held v) (dominoes v) (defective v) ws)) same;
      judges = λ ws.
          ap (λ (v : View). cond (ltb (length ws) (held v)) (10 ∷ 0 ∷ [])
          (0 ∷ 0 ∷ size (dominoes v) (initial v) ∷ size (dominoes v) (canon v) ∷ cond (eqb (size (dominoes v) (canon v)) 0) 0 1 ∷ [])) same;
      judged = λ ws. ap (λ (v : View). cond (ltb (length ws) (held v)) ws (written (held v) (dominoes v) (canon v) ws)) same;
    }
  where
    same : kb_view k ≡ kb_view m
    same = alike-view k m e
