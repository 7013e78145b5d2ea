-- The code goes through all axioms and then through the fresh parts in order of their numbers: this is the queue's order.
use Prim.Native.Nat.{ℕ, zero, suc, ◌+◌, ◌≤◌, ◌<◌}
use mathlib.Core.Path.{◌≡◌, refl, ap, ◌∙◌}
use mathlib.Core.Bool.{cond}
use mathlib.Core.Option.{Option, none, some}
use mathlib.Core.List.{List, [], ◌∷◌, ◌++◌, append_assoc, append-nil}
use lib.ListN.{length, take, drop, length-append, length-drop, drop_of_length-le}
use lib.Seq.{drop-cons, drop-append-le}
use lib.Dec.{ltb}
use native.Mathlib.Omega.{arith}
use native.Mathlib.Nat.{zero-add}
use native.Mathlib.Numerals.{add-one}
use native.Mathlib.Decide.{dec_lt}
use borrow.Author.Tests.{lt-ltb, le-ltb}
use Rattle.syntax.specs.Concepts.{Node, Axiom, axioms_of}
use Rattle.syntax.specs.Normal.{Tag, Nf, top_n, bottom_n, name_n, not_n, and_n, or_n, exists_n, forall_n}
use Rattle.syntax.specs.Flatten.{Atom, Filler, atomic, Part, name_p, exists_p, forall_p, Flat, atom, Pending, whole, guarded, Walked, shared, placed, meet_one, walk_by, walk, walk_pending_by, walk_pending, Flattening, name_parts_lem, pendings, flatten, no_part, part_at}
use Rattle.flattening.specs.Order.{through, flats_through, turn_of, turns_from, axiom_turn}
use Rattle.syntax.proofs.Queue.{Left, axioms-next, left_end, left_grows, left-start, left_step, pendings-append}

-- what a walk puts on the queue is what the parts that it adds put there
pub turns_append : (k : ℕ) (a b : List Part) → turns_from k (a ++ b) ≡ turns_from k a ++ turns_from (k + length a) b
unfolding turns_from
turns_append k [] b = ap (λ (n : ℕ). turns_from n b) (omega arith)
turns_append k (p ∷ a) b =
    rw (turns_append (suc k) a b, append_assoc) (ap (λ (n : ℕ). turn_of k p ++ (turns_from (suc k) a ++ turns_from n b)) (omega arith))

pub turns_names : (k T : ℕ) → turns_from k (name_parts_lem T) ≡ []
unfolding name_parts_lem turns_from turn_of
turns_names k zero = refl
turns_names k (suc T) = turns_append k (name_parts_lem T) (name_p T ∷ []) ∙ rw (turns_names k T)

placed-later : (p : Part) → ((k : ℕ) → turn_of k p ≡ []) → (so : List Part) (o : Option ℕ) →
    (placed p so o).later ≡ turns_from (length so) (placed p so o).parts
unfolding placed turns_from
placed-later p quiet so (some j) = refl
placed-later p quiet so none = rw (quiet (length so))

meet_later : (p : Filler → Part) → ((k : ℕ) (a : Filler) → turn_of k (p a) ≡ []) → (g : Tag) (c : Nf) (so : List Part) (o : Option Atom) →
    (meet_one shared p g c so o).later ≡ turns_from (length so) (meet_one shared p g c so o).parts
unfolding meet_one turns_from turn_of
meet_later p quiet g c so (some a) = placed-later (p (atomic a)) (λ k. quiet k (atomic a)) so (shared (p (atomic a)) so)
meet_later p quiet g c so none = rw (quiet (length so) _)

pub walk-later : (c : Nf) (so : List Part) → (walk c so).later ≡ turns_from (length so) (walk c so).parts
unfolding walk_by turns_from turn_of
walk-later top_n so = refl
walk-later bottom_n so = refl
walk-later (name_n t) so = refl
walk-later (not_n t) so = refl
walk-later (and_n c d) so =
    let so' : List Part = so ++ (walk c so).parts in
    rw (walk-later c so, walk-later d so', turns_append, ← length-append)
walk-later (or_n c d) so =
    let so' : List Part = so ++ (walk c so).parts in
    rw (walk-later c so, walk-later d so', turns_append, ← length-append)
walk-later (exists_n g u c) so = meet_later (exists_p g u) (λ k a. refl) g c so (atom c)
walk-later (forall_n g u c) so = meet_later (forall_p g u) (λ k a. refl) g c so (atom c)

pub pending_later : (p : Pending) (so : List Part) → (walk_pending p so).later ≡ turns_from (length so) (walk_pending p so).parts
unfolding walk_pending_by
pending_later (whole c) so = walk-later c so
pending_later (guarded f c) so = walk-later c so

-- going through the front of the queue
pub through-append : (p q : List Pending) (so : List Part) → through (p ++ q) so ≡ through p so ++ through q (so ++ through p so)
unfolding through
through-append [] q so = rw append-nil
through-append (a ∷ p) q so = rw (through-append p q, append_assoc, append_assoc)

pub flats_append : (p q : List Pending) (so : List Part) → flats_through (p ++ q) so ≡ flats_through p so ++ flats_through q (so ++ through p so)
unfolding through flats_through
flats_append [] q so = rw append-nil
flats_append (a ∷ p) q so = rw (flats_append p q, append_assoc)

pub left-through : {F : Flattening} {done : List Flat} (ps q : List Pending) {so : List Part} → Left shared F done (ps ++ q) so →
    Left shared F (done ++ flats_through ps so) (q ++ turns_from (length so) (through ps so)) (so ++ through ps so)
unfolding through flats_through turns_from
left-through [] q l = rw (append-nil, append-nil, append-nil) l
left-through {F} {done} (p ∷ ps) q {so} l =
    let w : Walked = walk_pending p so in
    let so' : List Part = so ++ w.parts in
    let n : Left shared F (done ++ (w.flat ∷ [])) (ps ++ (q ++ w.later)) so' = rw (← append_assoc ps q w.later) (left_step l) in
    let m = left-through {done = done ++ (w.flat ∷ [])} ps (q ++ w.later) n in
    rw (turns_append (length so) w.parts (through ps so'), ← pending_later p so, ← length-append so w.parts, ← append_assoc q, ← append_assoc done (w.flat ∷ []) (flats_through ps so'), ← append_assoc so w.parts (through ps so')) m

-- names put nothing on the queue
pub left-axioms : (T : ℕ) (s : List Axiom) → let so : List Part = name_parts_lem T ++ through (pendings s) (name_parts_lem T) in
    Left shared (flatten T s) (flats_through (pendings s) (name_parts_lem T)) (turns_from 0 so) so
left-axioms T s =
    rw (turns_append 0 (name_parts_lem T) (through (pendings s) (name_parts_lem T)), turns_names 0 T, zero-add)
    (left-through {done = []} (pendings s) [] {so = name_parts_lem T} (rw append-nil (left-start shared T s)))

-- the turn of part j
pub left-turn : {F : Flattening} {done : List Flat} {so : List Part} (j : ℕ) → j < length so → Left shared F done (turns_from j (drop j so)) so →
    let so' : List Part = so ++ through (turn_of j (part_at so j)) so in
    Left shared F (done ++ flats_through (turn_of j (part_at so j)) so) (turns_from (suc j) (drop (suc j) so')) so'
unfolding turns_from
left-turn {F} {done} {so} j h l =
    let p : Part = part_at so j in
    let more : List Part = through (turn_of j p) so in
    let l' : Left shared F done (turn_of j p ++ turns_from (suc j) (drop (suc j) so)) so = rw (drop-cons so j no_part h) at l in
    let e : suc j + length (drop (suc j) so) ≡ length so = omega (arith, length-drop (suc j) so) in
    rw (drop-append-le (suc j) so more h, turns_append (suc j) (drop (suc j) so) more, e) (left-through (turn_of j p) (turns_from (suc j) (drop (suc j) so)) l')

-- no part is left
turns_beyond : (j : ℕ) (so : List Part) → length so ≤ j → turns_from j (drop j so) ≡ []
unfolding turns_from
turns_beyond j so h = rw (drop_of_length-le so h)

pub left_done : {F : Flattening} {done : List Flat} {so : List Part} (j : ℕ) → Left shared F done (turns_from j (drop j so)) so → length so ≤ j →
    (F.parts ≡ so) × (F.axioms ≡ done)
left_done {so = so} j l h = left_end (rw (turns_beyond j so h) at l)

pub left_below : {F : Flattening} {done : List Flat} {so : List Part} (j : ℕ) → Left shared F done (turns_from j (drop j so)) so →
    j < length F.parts → j < length so
left_below {F} {done} {so} j l h = at (dec_lt j (length so))
  where
    at : Dec (j < length so) → j < length so
    at (yes q) = q
    at (no q) = omega (arith, ap length (left_done j l (omega (arith, q))).0)

-- the axioms of one record more
pub pendings-step : (ns : List Node) (i : ℕ) → pendings (axioms_of (take (i + 1) ns)) ≡ pendings (axioms_of (take i ns)) ++ axiom_turn ns i
pendings-step ns i = rw (add-one, axioms-next ns i, pendings-append)

-- The code's order: the axioms first, then the turns of the parts with numbers below j.
unfoldable pub axioms_first : ℕ → List Axiom → Flattening
axioms_first T s =
    record {
      axioms = flats_through (pendings s) (name_parts_lem T);
      parts = name_parts_lem T ++ through (pendings s) (name_parts_lem T);
    }

unfoldable pub turn_at : ℕ → Flattening → Flattening
turn_at j t =
    let p : List Pending = turn_of j (part_at t.parts j) in
    record { axioms = t.axioms ++ flats_through p t.parts; parts = t.parts ++ through p t.parts }

unfoldable pub turned : ℕ → Flattening → Flattening
turned zero t = t
turned (suc j) t = let u : Flattening = turned j t in cond (ltb j (length u.parts)) (turn_at j u) u

Lefts : Flattening → ℕ → Flattening → Type 0
Lefts F j t = Left shared F t.axioms (turns_from j (drop j t.parts)) t.parts

lefts_next : (F : Flattening) (j : ℕ) (t : Flattening) → Lefts F j t → Lefts F (suc j) (cond (ltb j (length t.parts)) (turn_at j t) t)
unfolding Lefts turn_at
lefts_next F j t l = at (dec_lt j (length t.parts))
  where
    at : Dec (j < length t.parts) → Lefts F (suc j) (cond (ltb j (length t.parts)) (turn_at j t) t)
    at (yes q) = rw (lt-ltb j (length t.parts) q) (left-turn j q l)
    at (no q) = rw (le-ltb j (length t.parts) (omega (arith, q)), turns_beyond (suc j) t.parts (omega (arith, q))) (rw (turns_beyond j t.parts (omega (arith, q))) at l)

lefts : (F : Flattening) (t : Flattening) (n : ℕ) → Lefts F 0 t → Lefts F n (turned n t)
unfolding turned
lefts F t zero l = l
lefts F t (suc n) l = lefts_next F n (turned n t) (lefts F t n l)

-- The flattening is what the code's order gives once each part has had its turn.
pub queue_order : (T : ℕ) (s : List Axiom) (n : ℕ) → length (flatten T s).parts ≤ n → flatten T s ≡ turned n (axioms_first T s)
unfolding axioms_first Lefts
queue_order T s n h =
    let l : Lefts (flatten T s) n (turned n (axioms_first T s)) = lefts (flatten T s) (axioms_first T s) n (left-axioms T s) in
    let e = left_done n l (omega (arith, left_grows l)) in
    λ i. record { axioms = e.1 i; parts = e.0 i }
