-- By whichever lookup there are at most as many parts as where each occurrence has its own (02, N4). So no sheet that was read
-- is refused now.
use Prim.Native.Nat.{ℕ, zero, suc, ◌+◌, ◌≤◌}
use native.Mathlib.Omega.{arith}
use borrow.Author.Tests.{le-leb}
use mathlib.Core.Path.{◌≡◌, refl}
use mathlib.Core.Option.{Option, none, some}
use mathlib.Core.List.{List, [], ◌∷◌, ◌++◌, map, map-append}
use lib.ListN.{length, length-append}
use Rattle.records.specs.Scan.{State, whole, scan_sheet}
use Rattle.syntax.specs.Concepts.{Axiom}
use Rattle.syntax.specs.Normal.{Tag, Nf, top_n, bottom_n, name_n, not_n, and_n, or_n, exists_n, forall_n}
use Rattle.syntax.specs.Flatten.{Atom, Filler, atomic, Part, exists_p, forall_p, atom, Pending, whole as whole_p, guarded, Walked, Lookup, shared, separate, placed, meet_one, walk_by, walk_pending_by, run_by, weights, name_parts_lem, pendings, flatten_by}
use Rattle.syntax.specs.Reading.{Kb, kb, kb_of, parts_of, admit, reading, read_kb}

-- the normal forms on a list, whatever the numbers of the fresh parts there
abbrev form : Pending → Nf
form (whole_p c) = c
form (guarded j c) = c

abbrev forms : List Pending → List Nf
forms q = map form q

forms_append : (p p' q q' : List Pending) → forms p ≡ forms p' → forms q ≡ forms q' → forms (p ++ q) ≡ forms (p' ++ q')
forms_append p p' q q' e h = rw (map-append form p q, map-append form p' q', e, h)

-- no more parts, and the same normal forms go to the end of the list
abbrev Fewer : Walked → Walked → Type 0
Fewer a b = (length a.parts ≤ length b.parts) × (forms a.later ≡ forms b.later)

fewer-both : (a a' b b' : Walked) → Fewer a a' → Fewer b b' →
    (length (a.parts ++ b.parts) ≤ length (a'.parts ++ b'.parts)) ×
    (forms (a.later ++ b.later) ≡ forms (a'.later ++ b'.later))
fewer-both a a' b b' h k = (
  omega (arith, length-append a.parts b.parts, length-append a'.parts b'.parts, h.0, k.0),
  forms_append a.later a'.later b.later b'.later h.1 k.1,
)

placed-fewer : (p : Part) (so so' : List Part) (o : Option ℕ) → Fewer (placed p so o) (placed p so' none)
unfolding placed
placed-fewer p so so' (some j) = (omega arith, refl)
placed-fewer p so so' none = (omega arith, refl)

module _ (find : Lookup) where
  meet_fewer : (p : Filler → Part) (g : Tag) (c : Nf) (so so' : List Part) (o : Option Atom) →
      Fewer (meet_one find p g c so o) (meet_one separate p g c so' o)
  unfolding meet_one separate
  meet_fewer p g c so so' (some a) = placed-fewer (p (atomic a)) so so' (find (p (atomic a)) so)
  meet_fewer p g c so so' none = (omega arith, refl)

  walk-fewer : (c : Nf) (so so' : List Part) → Fewer (walk_by find c so) (walk_by separate c so')
  unfolding walk_by
  walk-fewer top_n so so' = (omega arith, refl)
  walk-fewer bottom_n so so' = (omega arith, refl)
  walk-fewer (name_n t) so so' = (omega arith, refl)
  walk-fewer (not_n t) so so' = (omega arith, refl)
  walk-fewer (and_n c d) so so' =
      let a : Walked = walk_by find c so in
      let a' : Walked = walk_by separate c so' in
      fewer-both a a' (walk_by find d (so ++ a.parts)) (walk_by separate d (so' ++ a'.parts))
      (walk-fewer c so so') (walk-fewer d (so ++ a.parts) (so' ++ a'.parts))
  walk-fewer (or_n c d) so so' =
      let a : Walked = walk_by find c so in
      let a' : Walked = walk_by separate c so' in
      fewer-both a a' (walk_by find d (so ++ a.parts)) (walk_by separate d (so' ++ a'.parts))
      (walk-fewer c so so') (walk-fewer d (so ++ a.parts) (so' ++ a'.parts))
  walk-fewer (exists_n g u c) so so' = meet_fewer (exists_p g u) g c so so' (atom c)
  walk-fewer (forall_n g u c) so so' = meet_fewer (forall_p g u) g c so so' (atom c)

  pending_fewer : (p p' : Pending) (so so' : List Part) → form p ≡ form p' →
      Fewer (walk_pending_by find p so) (walk_pending_by separate p' so')
  unfolding walk_pending_by
  pending_fewer (whole_p c) (whole_p d) so so' e = rw (← e) (walk-fewer c so so')
  pending_fewer (whole_p c) (guarded j d) so so' e = rw (← e) (walk-fewer c so so')
  pending_fewer (guarded i c) (whole_p d) so so' e = rw (← e) (walk-fewer c so so')
  pending_fewer (guarded i c) (guarded j d) so so' e = rw (← e) (walk-fewer c so so')

  run_fewer : (f : ℕ) (q q' : List Pending) (so so' : List Part) → forms q ≡ forms q' →
      length (run_by find f q so).parts ≤ length (run_by separate f q' so').parts
  unfolding run_by
  run_fewer zero q q' so so' e = omega arith
  run_fewer (suc f) [] q' so so' e = omega arith
  run_fewer (suc f) (p ∷ q) [] so so' e = let z : ◌≡◌ {A = ℕ} 0 1 = cc in absurd (omega arith)
  run_fewer (suc f) (p ∷ q) (p' ∷ q') so so' e =
      let w : Walked = walk_pending_by find p so in
      let w' : Walked = walk_pending_by separate p' so' in
      let k : Fewer w w' = pending_fewer p p' so so' (cc) in
      let e' = forms_append q q' w.later w'.later (cc) k.1 in
      let more = (run_by find f (q ++ w.later) (so ++ w.parts)).parts in
      let more' = (run_by separate f (q' ++ w'.later) (so' ++ w'.parts)).parts in
      omega (
        arith,
        length-append w.parts more,
        length-append w'.parts more',
        k.0,
        run_fewer f (q ++ w.later) (q' ++ w'.later) (so ++ w.parts) (so' ++ w'.parts) e',
      )

  pub fewer-parts : (T : ℕ) (s : List Axiom) → length (flatten_by find T s).parts ≤ length (flatten_by separate T s).parts
  unfolding flatten_by
  fewer-parts T s =
      let run : Lookup → List Part = λ by. (run_by by (weights (pendings s)) (pendings s) (name_parts_lem T)).parts in
      omega (
        arith,
        length-append (name_parts_lem T) (run find),
        length-append (name_parts_lem T) (run separate),
        run_fewer (weights (pendings s)) (pendings s) (pendings s) (name_parts_lem T) (name_parts_lem T) refl,
      )

-- a sheet with few enough parts where each occurrence has its own is read
pub read-still : (limit : ℕ) (sheet : List ℕ) (st : State) → scan_sheet sheet ≡ whole st →
    length (flatten_by separate st.names (kb_of st).axioms).parts + st.roles ≤ limit → read_kb limit sheet ≡ kb (kb_of st)
unfolding read_kb reading admit
read-still limit sheet st e h =
    let k : Kb = kb_of st in
    let few : length (parts_of k) ≤ length (flatten_by separate k.names k.axioms).parts =
    fewer-parts shared k.names k.axioms in
    rw (e, le-leb (length (parts_of k) + k.roles) limit (omega arith))
