-- Laws of sharing (02, N4): which parts are alike, both ways, and where the first of them is found.
use Prim.Native.Nat.{ℕ, zero, suc, ◌+◌, ◌≤◌, ◌<◌}
use native.Mathlib.Omega.{arith}
use native.Mathlib.Decide.{ℕ_discrete}
use mathlib.Core.Path.{◌≡◌, refl, sym, ap, ◌∙◌}
use mathlib.Core.Bool.{Bool, true, false, cond, ◌&&◌, false≢true, and-eq-true_iff}
use mathlib.Core.Logic.{◌↔◌}
use mathlib.Core.Option.{none, some}
use mathlib.Core.List.{List, [], ◌∷◌, ◌++◌}
use lib.ListN.{length}
use Rattle.syntax.specs.Concepts.{Role, Role-discrete}
use Rattle.syntax.specs.Normal.{Tag}
use Rattle.syntax.specs.Flatten.{Atom, Atom-discrete, Filler, atomic, fresh, Part, name_p, fresh_p, exists_p, forall_p, yes_no, same_role_lem, same_atom, same_filler, like_exists, like_forall, alike, SameRestriction, both_exists, both_forall, find_from, shared, part_at}
use Rattle.syntax.specs.Bounds.{PartFiller}

-- ---- equality that is decided

yes_is : {A : Type 0} (d : Dec A) → yes_no d ≡ true → A
unfolding yes_no
yes_is (yes p) e = p
yes_is (no n) e = absurd (false≢true e)

is_yes : {A : Type 0} (d : Dec A) → A → yes_no d ≡ true
unfolding yes_no
is_yes (yes p) a = refl
is_yes (no n) a = absurd (n a)

pub role_same : (u v : Role) → same_role_lem u v ≡ true → u ≡ v
unfolding same_role_lem
role_same u v e = yes_is (Role-discrete ℕ_discrete u v) e

pub same_role_law : (u v : Role) → u ≡ v → same_role_lem u v ≡ true
unfolding same_role_lem
same_role_law u v e = is_yes (Role-discrete ℕ_discrete u v) e

pub filler_same : (a : Atom) (f : Filler) → same_filler (atomic a) f ≡ true → f ≡ atomic a
unfolding same_filler same_atom
filler_same a (atomic b) e = ap atomic (sym (yes_is (Atom-discrete ℕ_discrete a b) e))
filler_same a (fresh j) e = absurd (false≢true e)

pub same_filler_lem : (a : Atom) (f : Filler) → f ≡ atomic a → same_filler (atomic a) f ≡ true
unfolding same_filler same_atom
same_filler_lem a (atomic b) e = let q : a ≡ b = cc in is_yes (Atom-discrete ℕ_discrete a b) q
same_filler_lem a (fresh j) e = let z : ◌≡◌ {A = ℕ} 0 1 = cc in absurd (omega arith)

-- ---- parts alike

-- 02, N4, one way: the same restriction, whatever the tags, is alike
same_role-filler : (u : Role) (a : Atom) → same_role_lem u u && same_filler (atomic a) (atomic a) ≡ true
same_role-filler u a = rw (same_role_law u u refl, same_filler_lem a (atomic a) refl)

pub same_alike : (p q : Part) → SameRestriction p q → alike p q ≡ true
unfolding alike like_exists like_forall
same_alike p q (both_exists {u = u} {a = a}) = same_role-filler u a
same_alike p q (both_forall {u = u} {a = a}) = same_role-filler u a

-- the other way
kind_same : (kind : Tag → Role → Filler → Part) →
    ((g h : Tag) (u : Role) (a : Atom) → SameRestriction (kind g u (atomic a)) (kind h u (atomic a))) →
    (g h : Tag) (u v : Role) (f e : Filler) → same_role_lem u v && same_filler f e ≡ true → SameRestriction (kind g u f) (kind h v e)
unfolding same_filler
kind_same kind both g h u v (atomic a) e y =
    let w = (and-eq-true_iff (same_role_lem u v) (same_filler (atomic a) e)).0 y in
    rw (← role_same u v w.0, filler_same a e w.1) (both g h u a)
kind_same kind both g h u v (fresh j) e y = absurd (false≢true ((and-eq-true_iff (same_role_lem u v) false).0 y).1)

pub alike_same : (p q : Part) → alike p q ≡ true → SameRestriction p q
unfolding alike like_exists like_forall
alike_same (name_p t) q y = absurd (false≢true y)
alike_same (fresh_p g c) q y = absurd (false≢true y)
alike_same (exists_p g u f) (name_p t) y = absurd (false≢true y)
alike_same (exists_p g u f) (fresh_p h c) y = absurd (false≢true y)
alike_same (exists_p g u f) (exists_p h v e) y = kind_same exists_p (λ g h u a. both_exists) g h u v f e y
alike_same (exists_p g u f) (forall_p h v e) y = absurd (false≢true y)
alike_same (forall_p g u f) (name_p t) y = absurd (false≢true y)
alike_same (forall_p g u f) (fresh_p h c) y = absurd (false≢true y)
alike_same (forall_p g u f) (exists_p h v e) y = absurd (false≢true y)
alike_same (forall_p g u f) (forall_p h v e) y = kind_same forall_p (λ g h u a. both_forall) g h u v f e y

-- two parts are alike exactly if they are the same restriction with an atom for its filler
pub alike_exactly : (p q : Part) → alike p q ≡ true ↔ SameRestriction p q
alike_exactly p q = (alike_same p q, same_alike p q)

pub other_unalike : (p q : Part) → (SameRestriction p q → ⊥) → alike p q ≡ false
other_unalike p q n = go (alike p q) refl
  where
    go : (b : Bool) → alike p q ≡ b → alike p q ≡ false
    go true y = absurd (n (alike_same p q y))
    go false y = y

-- alike is symmetric
same_reversed : {p q : Part} → SameRestriction p q → SameRestriction q p
same_reversed both_exists = both_exists
same_reversed both_forall = both_forall

pub unalike_reversed : (p q : Part) → alike p q ≡ false → alike q p ≡ false
unalike_reversed p q n = other_unalike q p (λ s. false≢true (sym n ∙ same_alike p q (same_reversed s)))

-- a name, a fresh name and a restriction whose filler is a fresh name are like no part, not even like themselves
abbrev pub FreshFiller : Filler → Type 0
FreshFiller (atomic a) = ⊥
FreshFiller (fresh j) = Unit

unshared_other : (p q : Part) → PartFiller FreshFiller p → SameRestriction p q → ⊥
unshared_other p q n both_exists = n
unshared_other p q n both_forall = n

pub unshared_unalike : (p q : Part) → PartFiller FreshFiller p → (alike p q ≡ false) × (alike q p ≡ false)
unshared_unalike p q n = let o = other_unalike p q (unshared_other p q n) in (o, unalike_reversed p q o)

-- a part like a restriction is one of the same kind, role and filler
exists_same : {g : Tag} {u : Role} {a : Atom} (q : Part) → SameRestriction (exists_p g u (atomic a)) q → (h : Tag) × (q ≡ exists_p h u (atomic a))
exists_same q (both_exists {h = h}) = (h, refl)

forall_same : {g : Tag} {u : Role} {a : Atom} (q : Part) → SameRestriction (forall_p g u (atomic a)) q → (h : Tag) × (q ≡ forall_p h u (atomic a))
forall_same q (both_forall {h = h}) = (h, refl)

pub exists_alike : (g : Tag) (u : Role) (a : Atom) (q : Part) → alike (exists_p g u (atomic a)) q ≡ true → (h : Tag) × (q ≡ exists_p h u (atomic a))
exists_alike g u a q y = exists_same q (alike_same (exists_p g u (atomic a)) q y)

pub forall_alike : (g : Tag) (u : Role) (a : Atom) (q : Part) → alike (forall_p g u (atomic a)) q ≡ true → (h : Tag) × (q ≡ forall_p h u (atomic a))
forall_alike g u a q y = forall_same q (alike_same (forall_p g u (atomic a)) q y)

-- a restriction with an atom for its filler is like itself
pub exists_self : (g : Tag) (u : Role) (a : Atom) → alike (exists_p g u (atomic a)) (exists_p g u (atomic a)) ≡ true
exists_self g u a = same_alike (exists_p g u (atomic a)) (exists_p g u (atomic a)) both_exists

pub forall_self : (g : Tag) (u : Role) (a : Atom) → alike (forall_p g u (atomic a)) (forall_p g u (atomic a)) ≡ true
forall_self g u a = same_alike (forall_p g u (atomic a)) (forall_p g u (atomic a)) both_forall

-- ---- the first part alike

-- part j of those from number k on is like p
record FoundFrom (p : Part) (k : ℕ) (ps : List Part) (j : ℕ) : Type 0 where
  from : k ≤ j
  within : j < k + length ps
  like : (i : ℕ) → k + i ≡ j → alike p (part_at ps i) ≡ true

found_from : (p : Part) (k : ℕ) (ps : List Part) (j : ℕ) → find_from p k ps ≡ some j → FoundFrom p k ps j
unfolding find_from
found_from p k [] j e = let z : ◌≡◌ {A = ℕ} 0 1 = cc in absurd (omega arith)
found_from p k (q ∷ ps) j e = at (alike p q) refl (found_from p (suc k) ps j) e
  where
    at : (b : Bool) → alike p q ≡ b → (find_from p (suc k) ps ≡ some j → FoundFrom p (suc k) ps j) →
        cond b (some k) (find_from p (suc k) ps) ≡ some j → FoundFrom p k (q ∷ ps) j
    at true a ih e =
        let z : k ≡ j = cc in
        record { from = omega arith; within = omega arith; like = λ i h. let y : i ≡ 0 = omega arith in rw y a }
    at false a ih e =
        let f = ih e in
        record { from = omega (arith, f.from); within = omega (arith, f.within); like = later f }
      where
        later : FoundFrom p (suc k) ps j → (i : ℕ) → k + i ≡ j → alike p (part_at (q ∷ ps) i) ≡ true
        later f zero h = absurd (omega (arith, f.from))
        later f (suc i) h = f.like i (omega arith)

pub found_at : (p : Part) (so : List Part) (j : ℕ) → shared p so ≡ some j → (j < length so) × (alike p (part_at so j) ≡ true)
unfolding shared
found_at p so j e = let f = found_from p 0 so j e in (omega (arith, f.within), f.like j (omega arith))

-- a part alike, and none before it
find_at : (p : Part) (k : ℕ) (ps : List Part) (j : ℕ) → j < length ps → ((i : ℕ) → i < j → alike p (part_at ps i) ≡ false) →
    alike p (part_at ps j) ≡ true → find_from p k ps ≡ some (k + j)
unfolding find_from
find_at p k [] j l before here = absurd (omega arith)
find_at p k (q ∷ ps) zero l before here = rw here (ap some (omega arith))
find_at p k (q ∷ ps) (suc j) l before here =
    rw (before 0 (omega arith)) (find_at p (suc k) ps j (omega arith) (λ i h. before (suc i) (omega arith)) here ∙ ap some (omega arith))

pub find_first : (p : Part) (so : List Part) (j : ℕ) → j < length so → ((i : ℕ) → i < j → alike p (part_at so i) ≡ false) →
    alike p (part_at so j) ≡ true → shared p so ≡ some j
unfolding shared
find_first p so j l before here = find_at p 0 so j l before here ∙ ap some (omega arith)

find_nowhere : (p : Part) (k : ℕ) (ps : List Part) → ((i : ℕ) → i < length ps → alike p (part_at ps i) ≡ false) → find_from p k ps ≡ none
unfolding find_from
find_nowhere p k [] f = refl
find_nowhere p k (q ∷ ps) f = rw (f 0 (omega arith)) (find_nowhere p (suc k) ps (λ i h. f (suc i) (omega arith)))

pub find_none : (p : Part) (so : List Part) → ((i : ℕ) → i < length so → alike p (part_at so i) ≡ false) → shared p so ≡ none
unfolding shared
find_none p so f = find_nowhere p 0 so f

-- none found: none is alike
none_from : (p : Part) (k : ℕ) (ps : List Part) → find_from p k ps ≡ none → (i : ℕ) → i < length ps → alike p (part_at ps i) ≡ false
unfolding find_from
none_from p k [] e i l = absurd (omega arith)
none_from p k (q ∷ ps) e i l = at (alike p q) refl (none_from p (suc k) ps) e i l
  where
    at : (b : Bool) → alike p q ≡ b → (find_from p (suc k) ps ≡ none → (i : ℕ) → i < length ps → alike p (part_at ps i) ≡ false) →
        cond b (some k) (find_from p (suc k) ps) ≡ none → (i : ℕ) → i < suc (length ps) → alike p (part_at (q ∷ ps) i) ≡ false
    at true a ih e i l = let z : ◌≡◌ {A = ℕ} 0 1 = cc in absurd (omega arith)
    at false a ih e zero l = a
    at false a ih e (suc i) l = ih e i (omega arith)

pub none_found : (p : Part) (so : List Part) → shared p so ≡ none → (i : ℕ) → i < length so → alike p (part_at so i) ≡ false
unfolding shared
none_found p so e = none_from p 0 so e

-- among more parts: the same place; or, where none was alike and p comes next, its own
find_grown : (p : Part) (k : ℕ) (so rest : List Part) (j : ℕ) → find_from p k so ≡ some j → find_from p k (so ++ rest) ≡ some j
unfolding find_from
find_grown p k [] rest j e = let z : ◌≡◌ {A = ℕ} 0 1 = cc in absurd (omega arith)
find_grown p k (q ∷ so) rest j e = at (alike p q) (find_grown p (suc k) so rest j) e
  where
    at : (b : Bool) → (find_from p (suc k) so ≡ some j → find_from p (suc k) (so ++ rest) ≡ some j) →
        cond b (some k) (find_from p (suc k) so) ≡ some j → cond b (some k) (find_from p (suc k) (so ++ rest)) ≡ some j
    at true ih e = e
    at false ih e = ih e

pub find_more : (p : Part) (so rest : List Part) (j : ℕ) → shared p so ≡ some j → shared p (so ++ rest) ≡ some j
unfolding shared
find_more p so rest j e = find_grown p 0 so rest j e

find_next : (p : Part) (k : ℕ) (so rest : List Part) → alike p p ≡ true → find_from p k so ≡ none → find_from p k (so ++ (p ∷ rest)) ≡ some (k + length so)
unfolding find_from
find_next p k [] rest a e = rw a (ap some (omega arith))
find_next p k (q ∷ so) rest a e = at (alike p q) (find_next p (suc k) so rest a) e
  where
    at : (b : Bool) → (find_from p (suc k) so ≡ none → find_from p (suc k) (so ++ (p ∷ rest)) ≡ some (suc k + length so)) →
        cond b (some k) (find_from p (suc k) so) ≡ none → cond b (some k) (find_from p (suc k) (so ++ (p ∷ rest))) ≡ some (k + suc (length so))
    at true ih e = let z : ◌≡◌ {A = ℕ} 0 1 = cc in absurd (omega arith)
    at false ih e = ih e ∙ ap some (omega arith)

pub find_here : (p : Part) (so rest : List Part) → alike p p ≡ true → shared p so ≡ none → shared p (so ++ (p ∷ rest)) ≡ some (length so)
unfolding shared
find_here p so rest a e = find_next p 0 so rest a e ∙ ap some (omega arith)
