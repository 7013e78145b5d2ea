-- The queue of document 01: its bound never cuts it short, how far going through it has come, and the lists that it starts from:
-- the parts of the names, the axioms of the nodes.
use Prim.Native.Nat.{ℕ, zero, suc, ◌+◌, ◌≤◌, ◌<◌}
use mathlib.Core.Path.{◌≡◌, refl, sym, ap, ◌∙◌}
use mathlib.Core.Option.{Option, none, some}
use mathlib.Core.List.{List, [], ◌∷◌, ◌++◌, append_assoc, append-nil}
use lib.ListN.{length, get_or, take, length-append, get_or-append}
use native.Mathlib.Omega.{arith}
use Rattle.syntax.specs.Concepts.{Node, no_node, Axiom, axiom_of, axioms_of, inclusion_of, inclusions_of}
use Rattle.syntax.specs.Normal.{Tag, Nf, top_n, bottom_n, name_n, not_n, and_n, or_n, exists_n, forall_n}
use Rattle.syntax.specs.Flatten.{Atom, Filler, atomic, Part, name_p, exists_p, forall_p, Flat, atom, Pending, whole, guarded, Walked, Lookup, placed, meet_one, walk_by, walk_pending_by, Flattening, run_by, restrictions, weight, weights, name_parts_lem, pendings, flatten_by, part_at}

-- a walk puts fewer on the queue than it has restrictions
weights-append : (p q : List Pending) → weights (p ++ q) ≡ weights p + weights q
unfolding weights
weights-append [] q = omega arith
weights-append (a ∷ p) q = omega (arith, weights-append p q)

placed-weights : (p : Part) (so : List Part) (o : Option ℕ) → weights (placed p so o).later ≤ 0
unfolding weights placed
placed-weights p so (some j) = omega arith
placed-weights p so none = omega arith

-- whichever lookup
module _ (find : Lookup) where
  meet_weights : (p : Filler → Part) (g : Tag) (c : Nf) (so : List Part) (o : Option Atom) →
      weights (meet_one find p g c so o).later ≤ suc (restrictions c)
  unfolding weights weight meet_one
  meet_weights p g c so (some a) = omega (arith, placed-weights (p (atomic a)) so (find (p (atomic a)) so))
  meet_weights p g c so none = omega arith

  walk-weights : (c : Nf) (so : List Part) → weights (walk_by find c so).later ≤ restrictions c
  unfolding walk_by weights restrictions
  walk-weights top_n so = omega arith
  walk-weights bottom_n so = omega arith
  walk-weights (name_n t) so = omega arith
  walk-weights (not_n t) so = omega arith
  walk-weights (and_n c d) so =
      let so' : List Part = so ++ (walk_by find c so).parts in
      omega (arith, weights-append (walk_by find c so).later (walk_by find d so').later, walk-weights c so, walk-weights d so')
  walk-weights (or_n c d) so =
      let so' : List Part = so ++ (walk_by find c so).parts in
      omega (arith, weights-append (walk_by find c so).later (walk_by find d so').later, walk-weights c so, walk-weights d so')
  walk-weights (exists_n g u c) so = meet_weights (exists_p g u) g c so (atom c)
  walk-weights (forall_n g u c) so = meet_weights (forall_p g u) g c so (atom c)

  pub pending_weights : (p : Pending) (so : List Part) → weights (walk_pending_by find p so).later < weight p
  unfolding walk_pending_by weight
  pending_weights (whole c) so = omega (arith, walk-weights c so)
  pending_weights (guarded f c) so = omega (arith, walk-weights c so)

  step-weights : (p : Pending) (q : List Pending) (so : List Part) (f : ℕ) → weights (p ∷ q) ≤ suc f →
      weights (q ++ (walk_pending_by find p so).later) ≤ f
  unfolding weights
  step-weights p q so f h = omega (arith, weights-append q (walk_pending_by find p so).later, pending_weights p so)

  never_out : (p : Pending) (q : List Pending) → weights (p ∷ q) ≤ 0 → ⊥
  unfolding weights
  never_out p q h = omega (arith, pending_weights p [])

  -- the bound in `run_by` never cuts the queue short: any that is enough gives the same
  pub run_enough : (f g : ℕ) (q : List Pending) (so : List Part) → weights q ≤ f → weights q ≤ g → run_by find f q so ≡ run_by find g q so
  unfolding run_by
  run_enough zero zero q so h k = refl
  run_enough zero (suc g) [] so h k = refl
  run_enough zero (suc g) (p ∷ q) so h k = absurd (never_out p q h)
  run_enough (suc f) zero [] so h k = refl
  run_enough (suc f) zero (p ∷ q) so h k = absurd (never_out p q k)
  run_enough (suc f) (suc g) [] so h k = refl
  run_enough (suc f) (suc g) (p ∷ q) so h k =
      let w : Walked = walk_pending_by find p so in
      ap (λ (r : Flattening). record { axioms = w.flat ∷ r.axioms; parts = w.parts ++ r.parts })
      (run_enough f g (q ++ w.later) (so ++ w.parts) (step-weights p q so f h) (step-weights p q so g k))

-- the queue of F's flattening, with `done` and `so` behind it and q still on it
pub record Left (find : Lookup) (F : Flattening) (done : List Flat) (q : List Pending) (so : List Part) : Type 0 where
  pub fuel : ℕ
  pub enough : weights q ≤ fuel
  pub parts : F.parts ≡ so ++ (run_by find fuel q so).parts
  pub axioms : F.axioms ≡ done ++ (run_by find fuel q so).axioms

pub left-start : (find : Lookup) (T : ℕ) (s : List Axiom) → Left find (flatten_by find T s) [] (pendings s) (name_parts_lem T)
unfolding flatten_by
left-start find T s = record { fuel = weights (pendings s); enough = omega arith; parts = refl; axioms = refl }

step_from : (find : Lookup) {F : Flattening} (done : List Flat) (p : Pending) (q : List Pending) (so : List Part) (f : ℕ) → weights (p ∷ q) ≤ f →
    F.parts ≡ so ++ (run_by find f (p ∷ q) so).parts → F.axioms ≡ done ++ (run_by find f (p ∷ q) so).axioms →
    let w : Walked = walk_pending_by find p so in Left find F (done ++ (w.flat ∷ [])) (q ++ w.later) (so ++ w.parts)
unfolding run_by
step_from find done p q so zero e hp ha = absurd (never_out find p q e)
step_from find done p q so (suc f) e hp ha =
    let w : Walked = walk_pending_by find p so in
    let r : Flattening = run_by find f (q ++ w.later) (so ++ w.parts) in
    record {
      fuel = f;
      enough = step-weights find p q so f e;
      parts = hp ∙ sym (append_assoc so w.parts r.parts);
      axioms = ha ∙ sym (append_assoc done (w.flat ∷ []) r.axioms);
    }

pub left_step : {find : Lookup} {F : Flattening} {done : List Flat} {p : Pending} {q : List Pending} {so : List Part} → Left find F done (p ∷ q) so →
    let w : Walked = walk_pending_by find p so in Left find F (done ++ (w.flat ∷ [])) (q ++ w.later) (so ++ w.parts)
left_step {find} {F} {done} {p} {q} {so} l = step_from find done p q so l.fuel l.enough l.parts l.axioms

run_none : (find : Lookup) (f : ℕ) (so : List Part) → ((run_by find f [] so).parts ≡ []) × ((run_by find f [] so).axioms ≡ [])
unfolding run_by
run_none find zero so = (refl, refl)
run_none find (suc f) so = (refl, refl)

pub left_end : {find : Lookup} {F : Flattening} {done : List Flat} {so : List Part} → Left find F done [] so → (F.parts ≡ so) × (F.axioms ≡ done)
left_end {find} {F} {done} {so} l =
    let n = run_none find l.fuel so in
    (l.parts ∙ rw (n.0, append-nil), l.axioms ∙ rw (n.1, append-nil))

-- the parts so far are the first of all
pub left_grows : {find : Lookup} {F : Flattening} {done : List Flat} {q : List Pending} {so : List Part} → Left find F done q so →
    length so ≤ length F.parts
left_grows {find} {q = q} {so} l = omega (arith, ap length l.parts, length-append so (run_by find l.fuel q so).parts)

pub left_part : {find : Lookup} {F : Flattening} {done : List Flat} {q : List Pending} {so : List Part} → Left find F done q so →
    (k : ℕ) → k < length so → part_at F.parts k ≡ part_at so k
left_part {so = so} l k h = rw l.parts (get_or-append so _ _ k h)

pub names-length : (T : ℕ) → length (name_parts_lem T) ≡ T
unfolding name_parts_lem
names-length zero = refl
names-length (suc T) = length-append (name_parts_lem T) (name_p T ∷ []) ∙ omega (arith, names-length T)

-- axioms and nodes
pub pendings-append : (a b : List Axiom) → pendings (a ++ b) ≡ pendings a ++ pendings b
unfolding pendings
pendings-append [] b = refl
pendings-append (x ∷ a) b = rw (pendings-append a b)

pub axioms-append : (a b : List Node) → axioms_of (a ++ b) ≡ axioms_of a ++ axioms_of b
unfolding axioms_of
axioms-append [] b = refl
axioms-append (n ∷ a) b = rw (axioms-append a b, append_assoc)

pub axioms-next : (ns : List Node) (i : ℕ) → axioms_of (take (suc i) ns) ≡ axioms_of (take i ns) ++ axiom_of (get_or ns i no_node)
unfolding axioms_of axiom_of
axioms-next [] zero = refl
axioms-next [] (suc i) = refl
axioms-next (n ∷ ns) zero = rw append-nil
axioms-next (n ∷ ns) (suc i) = rw (axioms-next ns i, append_assoc)

pub inclusions-next : (ns : List Node) (i : ℕ) → inclusions_of (take (suc i) ns) ≡ inclusions_of (take i ns) ++ inclusion_of (get_or ns i no_node)
unfolding inclusions_of inclusion_of
inclusions-next [] zero = refl
inclusions-next [] (suc i) = refl
inclusions-next (n ∷ ns) zero = rw append-nil
inclusions-next (n ∷ ns) (suc i) = rw (inclusions-next ns i, append_assoc)
