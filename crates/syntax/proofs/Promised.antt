-- What the layers above may use of a sheet that is read.
use Prim.Native.Nat.{ℕ, zero, suc, ◌+◌, ◌≤◌, ◌<◌}
use native.Mathlib.Omega.{arith}
use native.Mathlib.Decide.{ℕ_discrete}
use mathlib.Core.Path.{◌≡◌, refl, ◌∙◌}
use mathlib.Core.Bool.{Bool, true, false, cond}
use mathlib.Core.Option.{Option, none, some}
use mathlib.Core.List.{List, [], ◌∷◌, ◌++◌, append_assoc, append-nil}
use lib.ListN.{length, length-append, get_or-append}
use lib.Seq.{get_or_at}
use lib.Dec.{leb}
use borrow.Author.Tests.{leb-true}
use Rattle.records.specs.Scan.{State, Scanning, refused, whole, scan_sheet}
use Rattle.records.specs.Places.{NamedRightly}
use Rattle.records.proofs.Namings.{read_named}
use Rattle.syntax.specs.Concepts.{Role, Axiom}
use Rattle.syntax.specs.Normal.{Tag, Nf, top_n, bottom_n, name_n, not_n, and_n, or_n, exists_n, forall_n}
use Rattle.syntax.specs.Flatten.{Atom, everything, nothing, name_a, Filler, atomic, fresh, Part, name_p, fresh_p, exists_p, forall_p, atom, Pending, whole as whole_p, guarded, Walked, alike, SameRestriction, Lookup, shared, placed, meet_one, walk_by, walk_pending_by, run_by, weights, name_parts_lem, pendings, flatten_by, no_part, part_at}
use Rattle.syntax.specs.Truth.{role_on}
use Rattle.syntax.specs.Reading.{Kb, refusal, kb, kb_of, parts_of, admit, reading, read_kb}
use Rattle.syntax.specs.Bounds.{All, RolesBelow, AxiomNames, AxiomRoles, AxiomsBelow, PartRole, PartFiller, FillerLow, PartLow, FillerPlain, PartPlain, InclusionBelow}
use Rattle.syntax.proofs.NormalForm.{EachNf, axiom_forms}
use Rattle.syntax.proofs.Formed.{read-few}
use Rattle.syntax.proofs.Bounded.{read_bounded, axioms_restricted, read_inclusions}
use Rattle.syntax.proofs.Distinct.{parts_distinct, distinct_one}
use Rattle.syntax.proofs.Queue.{names-length, left-start, left_grows, left_part}

-- The names are the first parts.
names_at : (T t : ℕ) → t < T → part_at (name_parts_lem T) t ≡ name_p t
unfolding name_parts_lem
names_at zero t h = absurd (omega arith)
names_at (suc T) t h = pick (names_at T t) (ℕ_discrete t T)
  where
    pick : (t < T → part_at (name_parts_lem T) t ≡ name_p t) → Dec (t ≡ T) → part_at (name_parts_lem T ++ (name_p T ∷ [])) t ≡ name_p t
    pick ih (yes q) = rw q (get_or_at (name_parts_lem T) (name_p T) [] no_part T (names-length T))
    pick ih (no q) = get_or-append (name_parts_lem T) (name_p T ∷ []) no_part t (omega (arith, names-length T)) ∙ ih (omega arith)

pub names-within : (find : Lookup) (T : ℕ) (s : List Axiom) → T ≤ length (flatten_by find T s).parts
names-within find T s = omega (arith, left_grows (left-start find T s), names-length T)

pub names-first : (find : Lookup) (T : ℕ) (s : List Axiom) (i : ℕ) → i < T → part_at (flatten_by find T s).parts i ≡ name_p i
names-first find T s i h = left_part (left-start find T s) i (omega (arith, names-length T)) ∙ names_at T i h

-- what holds of each of a list
pub all_append : {A : Type 0} (P : A → Type 0) (l l' : List A) → All P l → All P l' → All P (l ++ l')
all_append P [] l' h h' = h'
all_append P (a ∷ l) l' h h' = (h.0, all_append P l l' h.1 h')

-- what holds of each of a list, by what it is from
pub all_more : {A : Type 0} (P Q : A → Type 0) → ((a : A) → P a → Q a) → (l : List A) → All P l → All Q l
all_more P Q f [] h = tt
all_more P Q f (a ∷ l) h = (f a h.0, all_more P Q f l h.1)

all-at : (P : Part → Type 0) → P no_part → (l : List Part) → All P l → (i : ℕ) → P (part_at l i)
all-at P d [] h i = d
all-at P d (a ∷ l) h zero = h.0
all-at P d (a ∷ l) h (suc i) = all-at P d l h.1 i

-- a filler that is everything, nothing, or a name or a fresh part among these
abbrev Fine : List Part → Filler → Type 0
Fine so f = FillerLow (length so) f × FillerPlain (part_at so) f

fine_more : (so more : List Part) (f : Filler) → Fine so f → Fine (so ++ more) f
fine_more so more (atomic everything) h = (tt, tt)
fine_more so more (atomic nothing) h = (tt, tt)
fine_more so more (atomic (name_a t)) h = (omega (arith, length-append so more), rw (get_or-append so more no_part t h.0) h.1)
fine_more so more (fresh j) h = (omega (arith, length-append so more), rw (get_or-append so more no_part j h.0) h.1)

-- the fresh part behind a restriction
next-at : (so : List Part) (p q : Part) → part_at (so ++ (p ∷ q ∷ [])) (suc (length so)) ≡ q
next-at [] p q = refl
next-at (a ∷ so) p q = next-at so p q

next_fine : (so : List Part) (p : Part) (g : Tag) (c : Nf) → Fine (so ++ (p ∷ fresh_p g c ∷ [])) (fresh (suc (length so)))
next_fine so p g c = (omega (arith, length-append so (p ∷ fresh_p g c ∷ [])), rw (next-at so p (fresh_p g c)) tt)

filler_more : (P R : Filler → Type 0) → ((f : Filler) → P f → R f) → (p : Part) → PartFiller P p → PartFiller R p
filler_more P R i (name_p t) h = h
filler_more P R i (fresh_p g c) h = h
filler_more P R i (exists_p g u f) h = i f h
filler_more P R i (forall_p g u f) h = i f h

-- Names below T and Q of the role of each restriction: this goes from the axioms to their normal forms and to the parts,
-- whichever lookup.
module _ (find : Lookup) (T : ℕ) (Q : Role → Type 0) where
  abbrev NfBounded : Nf → Type 0
  NfBounded c = EachNf (λ t. t < T) Q c

  abbrev Waits : Pending → Type 0
  Waits (whole_p c) = NfBounded c
  Waits (guarded f c) = NfBounded c

  pendings_wait : (s : List Axiom) → AxiomNames T s → AxiomRoles Q s → All Waits (pendings s)
  unfolding pendings
  pendings_wait [] h q = tt
  pendings_wait (a ∷ s) h q =
      (axiom_forms (λ t. t < T) Q T (λ t l. l) a h.0 h.1 q.0 q.1, pendings_wait s h.2 q.2)

  -- a part among these
  abbrev Ok : List Part → Part → Type 0
  Ok so p = PartRole Q p × PartFiller (Fine so) p

  ok_more : (so more : List Part) (p : Part) → Ok so p → Ok (so ++ more) p
  ok_more so more p h = (h.0, filler_more (Fine so) (Fine (so ++ more)) (fine_more so more) p h.1)

  -- the parts so far: the names first, and each as it should be
  record Sound (so : List Part) : Type 0 where
    long : T ≤ length so
    first : (t : ℕ) → t < T → part_at so t ≡ name_p t
    each : All (Ok so) so

  sound_more : (so more : List Part) → Sound so → All (Ok (so ++ more)) more → Sound (so ++ more)
  sound_more so more s h =
      record {
        long = omega (arith, length-append so more, s.long);
        first = λ t l. get_or-append so more no_part t (omega (arith, s.long)) ∙ s.first t l;
        each = all_append (Ok (so ++ more)) so more (all_more (Ok so) (Ok (so ++ more)) (ok_more so more) so s.each) h;
      }

  names_ok : (so : List Part) (n : ℕ) → All (Ok so) (name_parts_lem n)
  unfolding name_parts_lem
  names_ok so zero = tt
  names_ok so (suc n) = all_append (Ok so) (name_parts_lem n) (name_p n ∷ []) (names_ok so n) ((tt, tt), tt)

  names-sound : Sound (name_parts_lem T)
  names-sound = record { long = omega (arith, names-length T); first = names_at T; each = names_ok (name_parts_lem T) T }

  abbrev Found : List Part → Option Atom → Type 0
  Found so (some a) = Fine so (atomic a)
  Found so none = Unit

  atom_found : (so : List Part) (c : Nf) → Sound so → NfBounded c → Found so (atom c)
  unfolding atom
  atom_found so top_n s h = (tt, tt)
  atom_found so bottom_n s h = (tt, tt)
  atom_found so (name_n t) s h = (omega (arith, s.long), rw (s.first t h) tt)
  atom_found so (not_n t) s h = tt
  atom_found so (and_n c d) s h = tt
  atom_found so (or_n c d) s h = tt
  atom_found so (exists_n g u c) s h = tt
  atom_found so (forall_n g u c) s h = tt

  -- what going through one of the queue keeps
  abbrev Keeps : List Part → Walked → Type 0
  Keeps so w = Sound (so ++ w.parts) × All Waits w.later

  keeps-none : (so : List Part) → Sound so → Sound (so ++ [])
  keeps-none so s = rw append-nil s

  keeps-both : (so : List Part) (a b : Walked) → Keeps so a → Keeps (so ++ a.parts) b → Sound (so ++ (a.parts ++ b.parts)) × All Waits (a.later ++ b.later)
  keeps-both so a b h k = (rw (← append_assoc so a.parts b.parts) k.0, all_append Waits a.later b.later h.1 k.1)

  placed-keeps : (p : Part) (so : List Part) (o : Option ℕ) → ((more : List Part) → Ok (so ++ more) p) → Sound so → Keeps so (placed p so o)
  unfolding placed
  placed-keeps p so (some j) ok s = (keeps-none so s, tt)
  placed-keeps p so none ok s = (sound_more so (p ∷ []) s (ok (p ∷ []), tt), tt)

  meet_keeps : (p : Filler → Part) (g : Tag) (c : Nf) (so : List Part) (o : Option Atom) → ((l : List Part) (f : Filler) → Fine l f → Ok l (p f)) →
      NfBounded c → Sound so → Found so o → Keeps so (meet_one find p g c so o)
  unfolding meet_one
  meet_keeps p g c so (some a) ok h s f =
      placed-keeps (p (atomic a)) so (find (p (atomic a)) so) (λ more. ok (so ++ more) (atomic a) (fine_more so more (atomic a) f)) s
  meet_keeps p g c so none ok h s f =
      let next : Part = p (fresh (suc (length so))) in
      (sound_more so (next ∷ fresh_p g c ∷ []) s (ok (so ++ (next ∷ fresh_p g c ∷ [])) (fresh (suc (length so))) (next_fine so next g c), ((tt, tt), tt)), (h, tt))

  walk-keeps : (c : Nf) (so : List Part) → NfBounded c → Sound so → Keeps so (walk_by find c so)
  unfolding walk_by
  walk-keeps top_n so h s = (keeps-none so s, tt)
  walk-keeps bottom_n so h s = (keeps-none so s, tt)
  walk-keeps (name_n t) so h s = (keeps-none so s, tt)
  walk-keeps (not_n t) so h s = (keeps-none so s, tt)
  walk-keeps (and_n c d) so h s =
      let a = walk-keeps c so h.0 s in
      keeps-both so (walk_by find c so) (walk_by find d (so ++ (walk_by find c so).parts)) a (walk-keeps d (so ++ (walk_by find c so).parts) h.1 a.0)
  walk-keeps (or_n c d) so h s =
      let a = walk-keeps c so h.0 s in
      keeps-both so (walk_by find c so) (walk_by find d (so ++ (walk_by find c so).parts)) a (walk-keeps d (so ++ (walk_by find c so).parts) h.1 a.0)
  walk-keeps (exists_n g u c) so h s = meet_keeps (exists_p g u) g c so (atom c) (λ l f k. (h.0, k)) h.1 s (atom_found so c s h.1)
  walk-keeps (forall_n g u c) so h s = meet_keeps (forall_p g u) g c so (atom c) (λ l f k. (h.0, k)) h.1 s (atom_found so c s h.1)

  pending_keeps : (p : Pending) (so : List Part) → Waits p → Sound so → Keeps so (walk_pending_by find p so)
  unfolding walk_pending_by
  pending_keeps (whole_p c) so h s = walk-keeps c so h s
  pending_keeps (guarded f c) so h s = walk-keeps c so h s

  run_keeps : (f : ℕ) (q : List Pending) (so : List Part) → All Waits q → Sound so → Sound (so ++ (run_by find f q so).parts)
  unfolding run_by
  run_keeps zero q so h s = keeps-none so s
  run_keeps (suc f) [] so h s = keeps-none so s
  run_keeps (suc f) (p ∷ q) so h s =
      let w : Walked = walk_pending_by find p so in
      let k = pending_keeps p so h.0 s in
      rw (← append_assoc so w.parts (run_by find f (q ++ w.later) (so ++ w.parts)).parts)
      (run_keeps f (q ++ w.later) (so ++ w.parts) (all_append Waits q w.later h.1 k.1) k.0)

  module _ (s : List Axiom) (low : AxiomNames T s) (roles : AxiomRoles Q s) where
    parts-sound : Sound (flatten_by find T s).parts
    unfolding flatten_by
    parts-sound = run_keeps (weights (pendings s)) (pendings s) (name_parts_lem T) (pendings_wait s low roles) names-sound

    parts_ok : (i : ℕ) → Ok (flatten_by find T s).parts (part_at (flatten_by find T s).parts i)
    parts_ok = all-at (Ok (flatten_by find T s).parts) (tt, tt) (flatten_by find T s).parts parts-sound.each

    -- Q holds of the role of each restriction part
    pub parts-roles : (i : ℕ) → PartRole Q (part_at (flatten_by find T s).parts i)
    parts-roles i = (parts_ok i).0

    -- the filler of each is everything, nothing, or a name or a fresh part that is there
    pub parts_low : (i : ℕ) → PartLow (length (flatten_by find T s).parts) (part_at (flatten_by find T s).parts i)
    parts_low i = filler_more (Fine (flatten_by find T s).parts) (FillerLow (length (flatten_by find T s).parts)) (λ f h. h.0) (part_at (flatten_by find T s).parts i) (parts_ok i).1

    pub parts-plain : (i : ℕ) → PartPlain (part_at (flatten_by find T s).parts) (part_at (flatten_by find T s).parts i)
    parts-plain i = filler_more (Fine (flatten_by find T s).parts) (FillerPlain (part_at (flatten_by find T s).parts)) (λ f h. h.1) (part_at (flatten_by find T s).parts i) (parts_ok i).1

-- The state of a sheet that is read.
kb-whole : (limit : ℕ) (sheet : List ℕ) (k : Kb) → read_kb limit sheet ≡ kb k →
    (st : State) × (scan_sheet sheet ≡ whole st) × (k ≡ kb_of st) × (length (parts_of k) + k.roles ≤ limit)
unfolding read_kb reading admit
kb-whole limit sheet k e = go (scan_sheet sheet) refl e
  where
    admitted : (st : State) (b : Bool) → leb (length (parts_of (kb_of st)) + st.roles) limit ≡ b → cond b (kb (kb_of st)) (refusal 9 0) ≡ kb k →
        (k ≡ kb_of st) × (length (parts_of k) + k.roles ≤ limit)
    admitted st true q p = let i : k ≡ kb_of st = cc in (i, rw i (leb-true (length (parts_of (kb_of st)) + st.roles) limit q))
    admitted st false q p = let z : ◌≡◌ {A = ℕ} 0 1 = cc in absurd (omega arith)

    go : (s : Scanning) → scan_sheet sheet ≡ s → reading limit s ≡ kb k →
        (st : State) × (scan_sheet sheet ≡ whole st) × (k ≡ kb_of st) × (length (parts_of k) + k.roles ≤ limit)
    go (refused n p) q h = let z : ◌≡◌ {A = ℕ} 0 1 = cc in absurd (omega arith)
    go (whole st) q h = let w = admitted st (leb (length (parts_of (kb_of st)) + st.roles) limit) refl h in (st, q, w.0, w.1)

module _ (limit : ℕ) (sheet : List ℕ) {k : Kb} (e : read_kb limit sheet ≡ kb k) where
  pub kb_state : (st : State) × (scan_sheet sheet ≡ whole st) × (k ≡ kb_of st)
  kb_state = let w = kb-whole limit sheet k e in (w.0, w.1, w.2)

  pub kb-small : length (parts_of k) + k.roles ≤ limit
  kb-small = (kb-whole limit sheet k e).3

  -- its references name its records rightly
  pub kb-named : (st : State) × (scan_sheet sheet ≡ whole st) × (k ≡ kb_of st) × NamedRightly sheet st.records
  kb-named = let w = kb_state in (w.0, w.1, w.2, read_named sheet w.0 w.1)

  pub kb-few : (k.names ≤ 12) × (k.roles ≤ 4)
  kb-few = let w = kb_state in rw w.2 (read-few sheet w.0 w.1)

  pub kb_bounded : AxiomsBelow k.names k.roles k.axioms
  kb_bounded = let w = kb_state in rw w.2 (read_bounded sheet w.0 w.1)

  -- every role of a restriction fails on the empty role set
  pub kb_restricted : AxiomRoles (λ u. role_on u 0 ≡ false) k.axioms
  kb_restricted = let w = kb_state in rw w.2 (axioms_restricted sheet w.0 w.1)

  -- every role inclusion is over roles below the count, its first role restricted
  pub kb_inclusions : All (InclusionBelow k.roles) k.inclusions
  kb_inclusions = let w = kb_state in rw w.2 (read_inclusions sheet w.0 w.1)

  -- the filler of a restriction part is everything, nothing, or a name or a fresh part that is there
  pub kb-fillers : (i : ℕ) → PartLow (length (parts_of k)) (part_at (parts_of k) i)
  kb-fillers = parts_low shared k.names (RolesBelow k.roles) k.axioms kb_bounded.names kb_bounded.roles

  pub kb-plain : (i : ℕ) → PartPlain (part_at (parts_of k)) (part_at (parts_of k) i)
  kb-plain = parts-plain shared k.names (RolesBelow k.roles) k.axioms kb_bounded.names kb_bounded.roles

  -- its role is over roles below the count, and fails on the empty role set
  pub kb_part_roles : (i : ℕ) → PartRole (RolesBelow k.roles) (part_at (parts_of k) i)
  kb_part_roles = parts-roles shared k.names (RolesBelow k.roles) k.axioms kb_bounded.names kb_bounded.roles

  pub kb_part_restricted : (i : ℕ) → PartRole (λ u. role_on u 0 ≡ false) (part_at (parts_of k) i)
  kb_part_restricted = parts-roles shared k.names (λ u. role_on u 0 ≡ false) k.axioms kb_bounded.names kb_restricted

  -- no two parts are alike; so parts of the same kind, role tree and atom are one part
  pub kb_distinct : (i j : ℕ) → i < j → alike (part_at (parts_of k) i) (part_at (parts_of k) j) ≡ false
  kb_distinct = parts_distinct k.names k.axioms

  pub kb-one_part : (i j : ℕ) → SameRestriction (part_at (parts_of k) i) (part_at (parts_of k) j) → i ≡ j
  kb-one_part = distinct_one (parts_of k) kb_distinct
