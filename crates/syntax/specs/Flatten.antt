-- Flattening (01, "Flattening and marks"): the list of rules as a queue. 01 calls a part a mark, a fresh name a fresh trait.
use Rattle.std.specs.Prelude.{ℕ, zero, suc, ◌+◌, Bool, true, false, ◌&&◌, cond, List, [], ◌∷◌, ◌++◌, length, get_or}
use Rattle.std.proofs.Math.Decide.{ℕ_discrete}
use Rattle.std.proofs.Math.Option.{Option, none, some}
use Rattle.syntax.specs.Concepts.{Role, Role-discrete, Axiom}
use Rattle.syntax.specs.Normal.{Tag, tag, Nf, top_n, bottom_n, name_n, not_n, and_n, or_n, exists_n, forall_n, axiom_nf}

-- a filler that needs no fresh name: "a trait, everything or nothing"
pub data Atom : Type 0 where
  everything nothing : Atom
  name_a : ℕ → Atom
  deriving Discrete as Atom-discrete

-- what stands behind the role of a restriction part: an atom, or the fresh name that is the part with a number
pub data Filler : Type 0 where
  atomic : Atom → Filler
  fresh : ℕ → Filler

-- a part's number is its place in the list of parts
pub data Part : Type 0 where
  name_p : ℕ → Part
  fresh_p : Tag → Nf → Part
  exists_p forall_p : Tag → Role → Filler → Part

-- a flattened axiom: a Boolean tree over parts
pub data Flat : Type 0 where
  top_f bottom_f : Flat
  part_f not_f : ℕ → Flat
  and_f or_f : Flat → Flat → Flat

-- a filler in normal form as an atom, if it is one
unfoldable pub atom : Nf → Option Atom
atom top_n = some everything
atom bottom_n = some nothing
atom (name_n t) = some (name_a t)
atom (not_n t) = none
atom (and_n c d) = none
atom (or_n c d) = none
atom (exists_n g u c) = none
atom (forall_n g u c) = none

-- what is on the list: an axiom, or (not F) or filler
pub data Pending : Type 0 where
  whole : Nf → Pending
  guarded : ℕ → Nf → Pending

-- what going through one of them gives: its flattened form, the parts met, and what goes to the end of the list
pub record Walked : Type 0 where
  pub flat : Flat
  pub parts : List Part
  pub later : List Pending

-- a decision as a test
unfoldable pub yes_no : {A : Type 0} → Dec A → Bool
yes_no (yes p) = true
yes_no (no p) = false

-- 02, N4: "Two occurrences with the same kind after normal form, link expressions written alike, and the same filler in normal
-- form share a mark, if that filler is a trait, everything or nothing". Their tags may differ.
unfoldable pub same_role_lem : Role → Role → Bool
same_role_lem u v = yes_no (Role-discrete ℕ_discrete u v)

unfoldable pub same_atom : Atom → Filler → Bool
same_atom a (atomic b) = yes_no (Atom-discrete ℕ_discrete a b)
same_atom a (fresh j) = false

unfoldable pub same_filler : Filler → Filler → Bool
same_filler (atomic a) f = same_atom a f
same_filler (fresh j) f = false

unfoldable pub like_exists : Role → Filler → Part → Bool
like_exists u f (name_p t) = false
like_exists u f (fresh_p g c) = false
like_exists u f (exists_p g v e) = same_role_lem u v && same_filler f e
like_exists u f (forall_p g v e) = false

unfoldable pub like_forall : Role → Filler → Part → Bool
like_forall u f (name_p t) = false
like_forall u f (fresh_p g c) = false
like_forall u f (exists_p g v e) = false
like_forall u f (forall_p g v e) = same_role_lem u v && same_filler f e

unfoldable pub alike : Part → Part → Bool
alike (name_p t) q = false
alike (fresh_p g c) q = false
alike (exists_p g u f) q = like_exists u f q
alike (forall_p g u f) q = like_forall u f q

-- 02, N4, as a relation: the same kind, role tree and atom, whatever the tags
pub data SameRestriction : Part → Part → Type 0 where
  both_exists : {g h : Tag} {u : Role} {a : Atom} → SameRestriction (exists_p g u (atomic a)) (exists_p h u (atomic a))
  both_forall : {g h : Tag} {u : Role} {a : Atom} → SameRestriction (forall_p g u (atomic a)) (forall_p h u (atomic a))

-- the number of the first part like p, of parts whose numbers begin at k
unfoldable pub find_from : Part → ℕ → List Part → Option ℕ
find_from p k [] = none
find_from p k (q ∷ qs) = cond (alike p q) (some k) (find_from p (suc k) qs)

-- where a restriction part stands already among the parts that are there
abbrev pub Lookup : Type 0
Lookup = Part → List Part → Option ℕ

-- 02's lookup, and 01's before it: "Each occurrence has a mark of its own, even where two are written alike."
unfoldable pub shared : Lookup
shared p so = find_from p 0 so

unfoldable pub separate : Lookup
separate p so = none

-- a restriction part, at an earlier place or at the next: "the mark is listed with the record first met"
unfoldable pub placed : Part → List Part → Option ℕ → Walked
placed p so (some j) = record { flat = part_f j; parts = []; later = [] }
placed p so none = record { flat = part_f (length so); parts = p ∷ []; later = [] }

-- an outermost restriction, met when the parts `so` are there: "each one met gets the next mark. If its filler, in normal
-- form, is not a trait, everything or nothing, the filler gets the next mark again as a fresh trait F, and the class (not F)
-- or filler goes to the end of the list of rules"
unfoldable pub meet_one : Lookup → (Filler → Part) → Tag → Nf → List Part → Option Atom → Walked
meet_one find p g c so (some a) = placed (p (atomic a)) so (find (p (atomic a)) so)
meet_one find p g c so none =
    record {
      flat = part_f (length so);
      parts = p (fresh (suc (length so))) ∷ fresh_p g c ∷ [];
      later = guarded (suc (length so)) c ∷ [];
    }

-- "each from left to right, meeting each outermost some or only"
unfoldable pub walk_by : Lookup → Nf → List Part → Walked
walk_by find top_n so = record { flat = top_f; parts = []; later = [] }
walk_by find bottom_n so = record { flat = bottom_f; parts = []; later = [] }
walk_by find (name_n t) so = record { flat = part_f t; parts = []; later = [] }
walk_by find (not_n t) so = record { flat = not_f t; parts = []; later = [] }
walk_by find (and_n c d) so =
    let a : Walked = walk_by find c so in
    let b : Walked = walk_by find d (so ++ a.parts) in
    record { flat = and_f a.flat b.flat; parts = a.parts ++ b.parts; later = a.later ++ b.later }
walk_by find (or_n c d) so =
    let a : Walked = walk_by find c so in
    let b : Walked = walk_by find d (so ++ a.parts) in
    record { flat = or_f a.flat b.flat; parts = a.parts ++ b.parts; later = a.later ++ b.later }
walk_by find (exists_n g u c) so = meet_one find (exists_p g u) g c so (atom c)
walk_by find (forall_n g u c) so = meet_one find (forall_p g u) g c so (atom c)

unfoldable pub walk_pending_by : Lookup → Pending → List Part → Walked
walk_pending_by find (whole c) so = walk_by find c so
walk_pending_by find (guarded f c) so =
    let a : Walked = walk_by find c so in
    record { flat = or_f (not_f f) a.flat; parts = a.parts; later = a.later }

pub record Flattening : Type 0 where
  pub axioms : List Flat
  pub parts : List Part

-- "continue to the end of the list": from its front, new ones put at its end. The number bounds how many are taken.
unfoldable pub run_by : Lookup → ℕ → List Pending → List Part → Flattening
run_by find zero q so = record { axioms = []; parts = [] }
run_by find (suc f) [] so = record { axioms = []; parts = [] }
run_by find (suc f) (p ∷ q) so =
    let w : Walked = walk_pending_by find p so in
    let r : Flattening = run_by find f (q ++ w.later) (so ++ w.parts) in
    record { axioms = w.flat ∷ r.axioms; parts = w.parts ++ r.parts }

-- a bound: one for each on the list, and one for each restriction in it, however deep
unfoldable pub restrictions : Nf → ℕ
restrictions top_n = 0
restrictions bottom_n = 0
restrictions (name_n t) = 0
restrictions (not_n t) = 0
restrictions (and_n c d) = restrictions c + restrictions d
restrictions (or_n c d) = restrictions c + restrictions d
restrictions (exists_n g u c) = suc (restrictions c)
restrictions (forall_n g u c) = suc (restrictions c)

unfoldable pub weight : Pending → ℕ
weight (whole c) = suc (restrictions c)
weight (guarded f c) = suc (restrictions c)

unfoldable pub weights : List Pending → ℕ
weights [] = 0
weights (p ∷ q) = weight p + weights q

-- "marks 0 to T−1 are the traits"
unfoldable pub name_parts_lem : ℕ → List Part
name_parts_lem zero = []
name_parts_lem (suc n) = name_parts_lem n ++ (name_p n ∷ [])

unfoldable pub pendings : List Axiom → List Pending
pendings [] = []
pendings (a ∷ s) = whole (axiom_nf a) ∷ pendings s

-- the flattening of axioms whose names are below T
unfoldable pub flatten_by : Lookup → ℕ → List Axiom → Flattening
flatten_by find T s =
    let r : Flattening = run_by find (weights (pendings s)) (pendings s) (name_parts_lem T) in
    record { axioms = r.axioms; parts = name_parts_lem T ++ r.parts }

-- the flattening that is read and judged
abbrev pub walk : Nf → List Part → Walked
walk = walk_by shared

abbrev pub walk_pending : Pending → List Part → Walked
walk_pending = walk_pending_by shared

abbrev pub flatten : ℕ → List Axiom → Flattening
flatten = flatten_by shared

-- the part with number k; beyond the list a fresh name that holds nowhere
abbrev pub no_part : Part
no_part = fresh_p (tag 0 false 0) bottom_n

abbrev pub part_at : List Part → ℕ → Part
part_at ps k = get_or ps k no_part
