-- How many parts the axioms bring does not depend on how many names are counted: so a round trip's sheet is not refused with 9.
use Prim.Native.Nat.{ℕ, zero, suc, ◌+◌}
use mathlib.Core.Path.{◌≡◌, refl, sym, ap, ◌∙◌}
use mathlib.Core.Bool.{Bool, true, false, cond}
use mathlib.Core.Option.{Option, none, some}
use mathlib.Core.List.{List, [], ◌∷◌, ◌++◌, map, map-append, append_assoc}
use lib.ListN.{length, length-append}
use native.Mathlib.Omega.{arith}
use Rattle.syntax.specs.Concepts.{Role, Axiom}
use Rattle.syntax.specs.Normal.{Tag, Nf, top_n, bottom_n, name_n, not_n, and_n, or_n, exists_n, forall_n}
use Rattle.syntax.specs.Flatten.{Atom, atomic, fresh, Part, name_p, fresh_p, exists_p, forall_p, atom, Pending, whole, guarded, Walked, same_filler, same_atom, like_exists, like_forall, alike, find_from, shared, placed, meet_one, walk_by, walk_pending_by, run_by, weights, name_parts_lem, pendings, flatten_by, flatten}

-- a part without the number of a fresh filler, of parts that are no names
unfoldable key : Part → List Part
key (name_p t) = []
key (fresh_p g c) = fresh_p g c ∷ []
key (exists_p g u (atomic a)) = exists_p g u (atomic a) ∷ []
key (exists_p g u (fresh j)) = exists_p g u (fresh 0) ∷ []
key (forall_p g u (atomic a)) = forall_p g u (atomic a) ∷ []
key (forall_p g u (fresh j)) = forall_p g u (fresh 0) ∷ []

unfoldable keys : List Part → List Part
keys [] = []
keys (p ∷ ps) = key p ++ keys ps

keys-append : (x y : List Part) → keys (x ++ y) ≡ keys x ++ keys y
unfolding keys
keys-append [] y = refl
keys-append (p ∷ x) y = rw (keys-append x y) (sym (append_assoc (key p) (keys x) (keys y)))

names-keys : (T : ℕ) → keys (name_parts_lem T) ≡ []
unfolding name_parts_lem keys key
names-keys zero = refl
names-keys (suc T) = keys-append (name_parts_lem T) (name_p T ∷ []) ∙ rw (names-keys T)

names-length : (T : ℕ) → length (name_parts_lem T) ≡ T
unfolding name_parts_lem
names-length zero = refl
names-length (suc T) = length-append (name_parts_lem T) (name_p T ∷ []) ∙ omega (arith, names-length T)

-- a restriction with an atom for its filler
data Atomic : Part → Type 0 where
  ex : (g : Tag) (u : Role) (a : Atom) → Atomic (exists_p g u (atomic a))
  all : (g : Tag) (u : Role) (a : Atom) → Atomic (forall_p g u (atomic a))

abbrev missing : Option ℕ → Bool
missing none = true
missing (some j) = false

-- whether it is found goes by the keys
absent : Part → List Part → Bool
absent p [] = true
absent p (q ∷ qs) = cond (alike p q) false (absent p qs)

find-absent : (p : Part) (k : ℕ) (ps : List Part) → missing (find_from p k ps) ≡ absent p ps
unfolding find_from absent
find-absent p k [] = refl
find-absent p k (q ∷ ps) = go (alike p q) (find-absent p (suc k) ps)
  where
    go : (b : Bool) → missing (find_from p (suc k) ps) ≡ absent p ps → missing (cond b (some k) (find_from p (suc k) ps)) ≡ cond b false (absent p ps)
    go true h = refl
    go false h = h

absent-key : (p q : Part) (qs : List Part) → Atomic p → absent p (key q ++ qs) ≡ cond (alike p q) false (absent p qs)
unfolding absent key alike like_exists like_forall same_filler same_atom
absent-key p (name_p t) qs (ex g u a) = refl
absent-key p (name_p t) qs (all g u a) = refl
absent-key p (fresh_p h c) qs (ex g u a) = refl
absent-key p (fresh_p h c) qs (all g u a) = refl
absent-key p (exists_p h v (atomic b)) qs (ex g u a) = refl
absent-key p (exists_p h v (fresh j)) qs (ex g u a) = refl
absent-key p (exists_p h v (atomic b)) qs (all g u a) = refl
absent-key p (exists_p h v (fresh j)) qs (all g u a) = refl
absent-key p (forall_p h v (atomic b)) qs (ex g u a) = refl
absent-key p (forall_p h v (fresh j)) qs (ex g u a) = refl
absent-key p (forall_p h v (atomic b)) qs (all g u a) = refl
absent-key p (forall_p h v (fresh j)) qs (all g u a) = refl

absent-keys : (p : Part) → Atomic p → (ps : List Part) → absent p (keys ps) ≡ absent p ps
unfolding keys absent
absent-keys p a [] = refl
absent-keys p a (q ∷ ps) = absent-key p q (keys ps) a ∙ rw (absent-keys p a ps)

missing-same : (p : Part) → Atomic p → (x y : List Part) → keys x ≡ keys y → missing (shared p x) ≡ missing (shared p y)
unfolding shared
missing-same p a x y e = find-absent p 0 x ∙ sym (absent-keys p a x) ∙ ap (absent p) e ∙ absent-keys p a y ∙ sym (find-absent p 0 y)

-- a rule on the list without the number of its fresh name
unfoldable plainly : Pending → Pending
plainly (whole c) = whole c
plainly (guarded f c) = guarded 0 c

-- two walks that bring the same, but for numbers
record Alongside (a b : Walked) : Type 0 where
  parts : keys a.parts ≡ keys b.parts
  many : length a.parts ≡ length b.parts
  later : map plainly a.later ≡ map plainly b.later

placed-along : (p : Part) (x y : List Part) (o q : Option ℕ) → missing o ≡ missing q → Alongside (placed p x o) (placed p y q)
unfolding placed
placed-along p x y (some i) (some j) e = record { parts = refl; many = refl; later = refl }
placed-along p x y (some i) none e = let z : ◌≡◌ {A = ℕ} 0 1 = cc in absurd (omega arith)
placed-along p x y none (some j) e = let z : ◌≡◌ {A = ℕ} 0 1 = cc in absurd (omega arith)
placed-along p x y none none e = record { parts = refl; many = refl; later = refl }

exists-along : (g : Tag) (u : Role) (c : Nf) (x y : List Part) (o : Option Atom) → keys x ≡ keys y → Alongside (meet_one shared (exists_p g u) g c x o) (meet_one shared (exists_p g u) g c y o)
unfolding meet_one keys key plainly
exists-along g u c x y (some a) e =
    placed-along (exists_p g u (atomic a)) x y (shared (exists_p g u (atomic a)) x) (shared (exists_p g u (atomic a)) y) (missing-same (exists_p g u (atomic a)) (ex g u a) x y e)
exists-along g u c x y none e = record { parts = refl; many = refl; later = refl }

forall-along : (g : Tag) (u : Role) (c : Nf) (x y : List Part) (o : Option Atom) → keys x ≡ keys y → Alongside (meet_one shared (forall_p g u) g c x o) (meet_one shared (forall_p g u) g c y o)
unfolding meet_one keys key plainly
forall-along g u c x y (some a) e =
    placed-along (forall_p g u (atomic a)) x y (shared (forall_p g u (atomic a)) x) (shared (forall_p g u (atomic a)) y) (missing-same (forall_p g u (atomic a)) (all g u a) x y e)
forall-along g u c x y none e = record { parts = refl; many = refl; later = refl }

both-along : (x y : List Part) (a b c d : Walked) → Alongside a b → Alongside c d →
    (keys (a.parts ++ c.parts) ≡ keys (b.parts ++ d.parts)) × (length (a.parts ++ c.parts) ≡ length (b.parts ++ d.parts)) ×
    (map plainly (a.later ++ c.later) ≡ map plainly (b.later ++ d.later))
both-along x y a b c d p q = (
  rw (keys-append a.parts c.parts, keys-append b.parts d.parts, p.parts, q.parts),
  omega (arith, length-append a.parts c.parts, length-append b.parts d.parts, p.many, q.many),
  rw (map-append plainly a.later c.later, map-append plainly b.later d.later, p.later, q.later),
)

grown-keys : (x y a b : List Part) → keys x ≡ keys y → keys a ≡ keys b → keys (x ++ a) ≡ keys (y ++ b)
grown-keys x y a b p q = rw (keys-append x a, keys-append y b, p, q)

walk-along : (c : Nf) (x y : List Part) → keys x ≡ keys y → Alongside (walk_by shared c x) (walk_by shared c y)
unfolding walk_by
walk-along top_n x y e = record { parts = refl; many = refl; later = refl }
walk-along bottom_n x y e = record { parts = refl; many = refl; later = refl }
walk-along (name_n t) x y e = record { parts = refl; many = refl; later = refl }
walk-along (not_n t) x y e = record { parts = refl; many = refl; later = refl }
walk-along (and_n c d) x y e =
    let p = walk-along c x y e in
    let q = walk-along d (x ++ (walk_by shared c x).parts) (y ++ (walk_by shared c y).parts) (grown-keys x y (walk_by shared c x).parts (walk_by shared c y).parts e p.parts) in
    let w = both-along x y (walk_by shared c x) (walk_by shared c y) (walk_by shared d (x ++ (walk_by shared c x).parts)) (walk_by shared d (y ++ (walk_by shared c y).parts)) p q in
    record { parts = w.0; many = w.1; later = w.2 }
walk-along (or_n c d) x y e =
    let p = walk-along c x y e in
    let q = walk-along d (x ++ (walk_by shared c x).parts) (y ++ (walk_by shared c y).parts) (grown-keys x y (walk_by shared c x).parts (walk_by shared c y).parts e p.parts) in
    let w = both-along x y (walk_by shared c x) (walk_by shared c y) (walk_by shared d (x ++ (walk_by shared c x).parts)) (walk_by shared d (y ++ (walk_by shared c y).parts)) p q in
    record { parts = w.0; many = w.1; later = w.2 }
walk-along (exists_n g u c) x y e = exists-along g u c x y (atom c) e
walk-along (forall_n g u c) x y e = forall-along g u c x y (atom c) e

pending-along : (p q : Pending) (x y : List Part) → plainly p ≡ plainly q → keys x ≡ keys y → Alongside (walk_pending_by shared p x) (walk_pending_by shared q y)
unfolding walk_pending_by plainly
pending-along (whole c) (whole d) x y e k = let z : c ≡ d = cc in rw (← z) (walk-along c x y k)
pending-along (whole c) (guarded j d) x y e k = let z : ◌≡◌ {A = ℕ} 0 1 = cc in absurd (omega arith)
pending-along (guarded i c) (whole d) x y e k = let z : ◌≡◌ {A = ℕ} 0 1 = cc in absurd (omega arith)
pending-along (guarded i c) (guarded j d) x y e k =
    let z : c ≡ d = cc in
    let w : Alongside (walk_by shared c x) (walk_by shared d y) = rw (← z) (walk-along c x y k) in
    record { parts = w.parts; many = w.many; later = w.later }

run-along : (n : ℕ) (p q : List Pending) (x y : List Part) → map plainly p ≡ map plainly q → keys x ≡ keys y → length (run_by shared n p x).parts ≡ length (run_by shared n q y).parts
unfolding run_by
run-along zero p q x y e k = refl
run-along (suc n) [] [] x y e k = refl
run-along (suc n) [] (b ∷ q) x y e k = let z : ◌≡◌ {A = ℕ} 0 1 = cc in absurd (omega arith)
run-along (suc n) (a ∷ p) [] x y e k = let z : ◌≡◌ {A = ℕ} 0 1 = cc in absurd (omega arith)
run-along (suc n) (a ∷ p) (b ∷ q) x y e k =
    let f : plainly a ≡ plainly b = cc in
    let g : map plainly p ≡ map plainly q = cc in
    let w = pending-along a b x y f k in
    let v = walk_pending_by shared a x in
    let u = walk_pending_by shared b y in
    let h = run-along n (p ++ v.later) (q ++ u.later) (x ++ v.parts) (y ++ u.parts) (rw (map-append plainly p v.later, map-append plainly q u.later, g, w.later))
    (grown-keys x y v.parts u.parts k w.parts) in
    omega (arith, h, w.many, length-append v.parts (run_by shared n (p ++ v.later) (x ++ v.parts)).parts, length-append u.parts (run_by shared n (q ++ u.later) (y ++ u.parts)).parts)

-- the parts of axioms beside the names
pub parts-beside : (S T : ℕ) (l : List Axiom) → length (flatten S l).parts + T ≡ length (flatten T l).parts + S
unfolding flatten_by
parts-beside S T l =
    let n = weights (pendings l) in
    let h = run-along n (pendings l) (pendings l) (name_parts_lem S) (name_parts_lem T) refl (names-keys S ∙ sym (names-keys T)) in
    omega (
      arith,
      h,
      names-length S,
      names-length T,
      length-append (name_parts_lem S) (run_by shared n (pendings l) (name_parts_lem S)).parts,
      length-append (name_parts_lem T) (run_by shared n (pendings l) (name_parts_lem T)).parts,
    )
