-- No two parts of a flattening are alike (02, N4, "One mark for one claim"): the same restriction with an atom for its filler is
-- one part, wherever it occurs.
use Prim.Native.Nat.{ℕ, zero, suc, ◌<◌}
use native.Mathlib.Omega.{arith}
use native.Mathlib.Decide.{ℕ_discrete, dec_lt}
use mathlib.Core.Path.{◌≡◌, refl, sym, ◌∙◌}
use mathlib.Core.Bool.{true, false, false≢true}
use mathlib.Core.Option.{Option, none, some}
use mathlib.Core.List.{List, [], ◌∷◌, ◌++◌, append_assoc, append-nil}
use lib.ListN.{length, length-append, get_or-append, get_or-eq_default}
use lib.Seq.{get_or_at}
use Rattle.syntax.specs.Concepts.{Axiom}
use Rattle.syntax.specs.Normal.{Tag, Nf, top_n, bottom_n, name_n, not_n, and_n, or_n, exists_n, forall_n}
use Rattle.syntax.specs.Flatten.{Atom, Filler, atomic, fresh, Part, name_p, fresh_p, exists_p, forall_p, atom, Pending, whole, guarded, Walked, alike, SameRestriction, shared, placed, meet_one, walk_by, walk, walk_pending_by, walk_pending, run_by, weights, name_parts_lem, pendings, flatten_by, flatten, no_part, part_at}
use Rattle.syntax.specs.Bounds.{PartFiller}
use Rattle.syntax.proofs.Alike.{same_alike, FreshFiller, unshared_unalike, unalike_reversed, none_found}

abbrev pub Distinct : List Part → Type 0
Distinct so = (i j : ℕ) → i < j → alike (part_at so i) (part_at so j) ≡ false

-- one more, like none of those that are there
distinct_next : (so : List Part) (p : Part) → Distinct so → ((i : ℕ) → i < length so → alike p (part_at so i) ≡ false) →
    Distinct (so ++ (p ∷ []))
distinct_next so p d new i j l = go (dec_lt j (length so)) (ℕ_discrete (length so) j)
  where
    go : Dec (j < length so) → Dec (length so ≡ j) → alike (part_at (so ++ (p ∷ [])) i) (part_at (so ++ (p ∷ [])) j) ≡ false
    go (yes b) q = rw (get_or-append so (p ∷ []) no_part i (omega arith), get_or-append so (p ∷ []) no_part j b) (d i j l)
    go (no b) (yes q) =
        rw (get_or-append so (p ∷ []) no_part i (omega arith), get_or_at so p [] no_part j q)
        (unalike_reversed p (part_at so i) (new i (omega arith)))
    go (no b) (no q) =
        rw (get_or-eq_default (so ++ (p ∷ [])) no_part {n = j} (omega (arith, length-append so (p ∷ []))))
        (unshared_unalike no_part (part_at (so ++ (p ∷ [])) i) tt).1

-- a name, a fresh name or a restriction whose filler is a fresh name
distinct_unshared : (so : List Part) (p : Part) → PartFiller FreshFiller p → Distinct so → Distinct (so ++ (p ∷ []))
distinct_unshared so p u d = distinct_next so p d (λ i l. (unshared_unalike p (part_at so i) u).0)

names_distinct : (T : ℕ) → Distinct (name_parts_lem T)
unfolding name_parts_lem
names_distinct zero = λ i j l. (unshared_unalike no_part no_part tt).0
names_distinct (suc T) = distinct_unshared (name_parts_lem T) (name_p T) tt (names_distinct T)

none_distinct : (so : List Part) → Distinct so → Distinct (so ++ [])
none_distinct so d = rw append-nil d

placed_distinct : (p : Part) (so : List Part) (o : Option ℕ) → shared p so ≡ o → Distinct so → Distinct (so ++ (placed p so o).parts)
unfolding placed
placed_distinct p so (some j) e d = none_distinct so d
placed_distinct p so none e d = distinct_next so p d (none_found p so e)

meet_distinct : (p : Filler → Part) (g : Tag) (c : Nf) (so : List Part) (o : Option Atom) →
    ((j : ℕ) → PartFiller FreshFiller (p (fresh j))) → Distinct so → Distinct (so ++ (meet_one shared p g c so o).parts)
unfolding meet_one
meet_distinct p g c so (some a) u d = placed_distinct (p (atomic a)) so (shared (p (atomic a)) so) refl d
meet_distinct p g c so none u d =
    let next : Part = p (fresh (suc (length so))) in
    rw (← append_assoc so (next ∷ []) (fresh_p g c ∷ []))
    (distinct_unshared (so ++ (next ∷ [])) (fresh_p g c) tt (distinct_unshared so next (u (suc (length so))) d))

both_distinct : (so : List Part) (a b : Walked) → Distinct ((so ++ a.parts) ++ b.parts) → Distinct (so ++ (a.parts ++ b.parts))
both_distinct so a b d = rw (← append_assoc so a.parts b.parts) d

walk_distinct : (c : Nf) (so : List Part) → Distinct so → Distinct (so ++ (walk c so).parts)
unfolding walk_by
walk_distinct top_n so d = none_distinct so d
walk_distinct bottom_n so d = none_distinct so d
walk_distinct (name_n t) so d = none_distinct so d
walk_distinct (not_n t) so d = none_distinct so d
walk_distinct (and_n c e) so d =
    let a : Walked = walk c so in
    both_distinct so a (walk e (so ++ a.parts)) (walk_distinct e (so ++ a.parts) (walk_distinct c so d))
walk_distinct (or_n c e) so d =
    let a : Walked = walk c so in
    both_distinct so a (walk e (so ++ a.parts)) (walk_distinct e (so ++ a.parts) (walk_distinct c so d))
walk_distinct (exists_n g u c) so d = meet_distinct (exists_p g u) g c so (atom c) (λ j. tt) d
walk_distinct (forall_n g u c) so d = meet_distinct (forall_p g u) g c so (atom c) (λ j. tt) d

pending_distinct : (p : Pending) (so : List Part) → Distinct so → Distinct (so ++ (walk_pending p so).parts)
unfolding walk_pending_by
pending_distinct (whole c) so d = walk_distinct c so d
pending_distinct (guarded f c) so d = walk_distinct c so d

run_distinct : (f : ℕ) (q : List Pending) (so : List Part) → Distinct so → Distinct (so ++ (run_by shared f q so).parts)
unfolding run_by
run_distinct zero q so d = none_distinct so d
run_distinct (suc f) [] so d = none_distinct so d
run_distinct (suc f) (p ∷ q) so d =
    let w : Walked = walk_pending p so in
    rw (← append_assoc so w.parts (run_by shared f (q ++ w.later) (so ++ w.parts)).parts)
    (run_distinct f (q ++ w.later) (so ++ w.parts) (pending_distinct p so d))

pub parts_distinct : (T : ℕ) (s : List Axiom) → Distinct (flatten T s).parts
unfolding flatten_by
parts_distinct T s = run_distinct (weights (pendings s)) (pendings s) (name_parts_lem T) (names_distinct T)

-- so parts that are the same restriction are one part
pub distinct_one : (so : List Part) → Distinct so → (i j : ℕ) → SameRestriction (part_at so i) (part_at so j) → i ≡ j
distinct_one so d i j s = go (dec_lt i j) (dec_lt j i)
  where
    alike_ij : alike (part_at so i) (part_at so j) ≡ true
    alike_ij = same_alike (part_at so i) (part_at so j) s

    go : Dec (i < j) → Dec (j < i) → i ≡ j
    go (yes l) m = absurd (false≢true (sym (d i j l) ∙ alike_ij))
    go (no l) (yes m) = absurd (false≢true (sym (unalike_reversed (part_at so j) (part_at so i) (d j i m)) ∙ alike_ij))
    go (no l) (no m) = omega arith
