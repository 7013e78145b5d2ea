-- Counting parts by kind: the sum is how many parts there are, names come first, once each, and the bytes that are listed have the kinds
-- that are counted.
use Rattle.std.proofs.Common.{◌≡◌, ℕ, zero, suc, ◌+◌, cond, List, [], ◌∷◌, ◌++◌, length, eqb, refl, sym, ap, ◌∙◌, arith}
use Rattle.std.specs.List.{count_by}
use Rattle.std.proofs.lemmas.List.Sums.{sum_by-cons, sum_by-append}
use mathlib.Core.Option.{Option as Maybe, none, some}
use Rattle.syntax.specs.Concepts.{Axiom}
use Rattle.syntax.specs.Normal.{Tag, Nf, top_n, bottom_n, name_n, not_n, and_n, or_n, exists_n, forall_n}
use Rattle.syntax.specs.Flatten.{Atom, Filler, atomic, fresh, Part, name_p, fresh_p, exists_p, forall_p, atom, Pending, whole, guarded, Walked, Lookup, placed, meet_one, walk_by, walk_pending_by, run_by, weights, name_parts_lem, pendings, flatten_by, shared}
use Rattle.syntax.specs.Parts.{kind_of}
use Rattle.syntax.specs.Reading.{Kb, Reading, refusal, kb, parts_of}
use Rattle.syntax.specs.Counts.{count_kind, PartCounts, counts_of, sum_of}
use Rattle.syntax.specs.Answers.{read_says, SumKept, part_bytes, bytes_of, kinds_listed}

abbrev is_kind : ℕ → Part → ℕ
is_kind n p = cond (eqb (kind_of p) n) 1 0

count_cons : (n : ℕ) (p : Part) (ps : List Part) → count_kind n (p ∷ ps) ≡ is_kind n p + count_kind n ps
count_cons n p ps = sum_by-cons (is_kind n) p ps

count-append : (n : ℕ) (ps qs : List Part) → count_kind n (ps ++ qs) ≡ count_kind n ps + count_kind n qs
count-append n ps qs = sum_by-append (is_kind n) ps qs

-- ---- the sum

one_kind : (p : Part) → is_kind 0 p + is_kind 1 p + is_kind 2 p + is_kind 3 p ≡ 1
unfolding kind_of
one_kind (name_p t) = refl
one_kind (fresh_p g c) = refl
one_kind (exists_p g u f) = refl
one_kind (forall_p g u f) = refl

-- 02, N9: "every call passing them on must keep their sum equal to c"
pub counts_sum : (ps : List Part) → sum_of (counts_of ps) ≡ length ps
counts_sum [] = refl
counts_sum (p ∷ ps) = omega (arith, count_cons 0 p ps, count_cons 1 p ps, count_cons 2 p ps, count_cons 3 p ps, one_kind p, counts_sum ps)

-- of a sheet that is refused none are passed on
pub refused_sum : (s : Reading) (n : PartCounts) (m p : ℕ) → m ∷ p ∷ [] ≡ read_says s → SumKept s n
unfolding read_says
refused_sum (refusal x y) n m p e = tt
refused_sum (kb k) n m p e = absurd (omega (arith, ap length e))

-- ---- a part more

abbrev pub with_part : Part → PartCounts → PartCounts
with_part (name_p t) n = record { names = n.names + 1; fresh = n.fresh; existentials = n.existentials; universals = n.universals }
with_part (fresh_p g c) n = record { names = n.names; fresh = n.fresh + 1; existentials = n.existentials; universals = n.universals }
with_part (exists_p g u f) n = record { names = n.names; fresh = n.fresh; existentials = n.existentials + 1; universals = n.universals }
with_part (forall_p g u f) n = record { names = n.names; fresh = n.fresh; existentials = n.existentials; universals = n.universals + 1 }

abbrev pub counts : ℕ → ℕ → ℕ → ℕ → PartCounts
counts t f e u = record { names = t; fresh = f; existentials = e; universals = u }

pub same_counts : {t t' f f' e e' u u' : ℕ} → t ≡ t' → f ≡ f' → e ≡ e' → u ≡ u' → counts t f e u ≡ counts t' f' e' u'
same_counts p q r s = rw (p, q, r, s) refl

pub counts_push : (ps : List Part) (p : Part) → counts_of (ps ++ (p ∷ [])) ≡ with_part p (counts_of ps)
unfolding kind_of
counts_push ps (name_p t) =
    let q : List Part = name_p t ∷ [] in
    same_counts (count-append 0 ps q) (count-append 1 ps q ∙ omega arith) (count-append 2 ps q ∙ omega arith) (count-append 3 ps q ∙ omega arith)
counts_push ps (fresh_p g c) =
    let q : List Part = fresh_p g c ∷ [] in
    same_counts (count-append 0 ps q ∙ omega arith) (count-append 1 ps q) (count-append 2 ps q ∙ omega arith) (count-append 3 ps q ∙ omega arith)
counts_push ps (exists_p g u f) =
    let q : List Part = exists_p g u f ∷ [] in
    same_counts (count-append 0 ps q ∙ omega arith) (count-append 1 ps q ∙ omega arith) (count-append 2 ps q) (count-append 3 ps q ∙ omega arith)
counts_push ps (forall_p g u f) =
    let q : List Part = forall_p g u f ∷ [] in
    same_counts (count-append 0 ps q ∙ omega arith) (count-append 1 ps q ∙ omega arith) (count-append 2 ps q ∙ omega arith) (count-append 3 ps q)

-- ---- names

names_count : (T : ℕ) → count_kind 0 (name_parts_lem T) ≡ T
unfolding name_parts_lem kind_of
names_count zero = refl
names_count (suc T) = count-append 0 (name_parts_lem T) (name_p T ∷ []) ∙ omega (arith, names_count T)

-- whichever lookup
module _ (find : Lookup) where
  placed-none : (p : Part) (so : List Part) (o : Maybe ℕ) → is_kind 0 p ≡ 0 → count_kind 0 (placed p so o).parts ≡ 0
  unfolding placed
  placed-none p so (some j) e = refl
  placed-none p so none e = omega (arith, e)

  meet_none : (p : Filler → Part) (g : Tag) (c : Nf) (so : List Part) (o : Maybe Atom) → ((f : Filler) → is_kind 0 (p f) ≡ 0) →
      count_kind 0 (meet_one find p g c so o).parts ≡ 0
  unfolding meet_one kind_of
  meet_none p g c so (some a) e = placed-none (p (atomic a)) so (find (p (atomic a)) so) (e (atomic a))
  meet_none p g c so none e = count_cons 0 (p (fresh (suc (length so)))) (fresh_p g c ∷ []) ∙ omega (arith, e (fresh (suc (length so))))

  walk-none : (c : Nf) (so : List Part) → count_kind 0 (walk_by find c so).parts ≡ 0
  unfolding walk_by kind_of
  walk-none top_n so = refl
  walk-none bottom_n so = refl
  walk-none (name_n t) so = refl
  walk-none (not_n t) so = refl
  walk-none (and_n c d) so =
      let so' : List Part = so ++ (walk_by find c so).parts in
      count-append 0 (walk_by find c so).parts (walk_by find d so').parts ∙ omega (arith, walk-none c so, walk-none d so')
  walk-none (or_n c d) so =
      let so' : List Part = so ++ (walk_by find c so).parts in
      count-append 0 (walk_by find c so).parts (walk_by find d so').parts ∙ omega (arith, walk-none c so, walk-none d so')
  walk-none (exists_n g u c) so = meet_none (exists_p g u) g c so (atom c) (λ f. refl)
  walk-none (forall_n g u c) so = meet_none (forall_p g u) g c so (atom c) (λ f. refl)

  pending_none : (p : Pending) (so : List Part) → count_kind 0 (walk_pending_by find p so).parts ≡ 0
  unfolding walk_pending_by
  pending_none (whole c) so = walk-none c so
  pending_none (guarded f c) so = walk-none c so

  run_none : (f : ℕ) (q : List Pending) (so : List Part) → count_kind 0 (run_by find f q so).parts ≡ 0
  unfolding run_by
  run_none zero q so = refl
  run_none (suc f) [] so = refl
  run_none (suc f) (p ∷ q) so =
      let w : Walked = walk_pending_by find p so in
      let rest : List Part = (run_by find f (q ++ w.later) (so ++ w.parts)).parts in
      count-append 0 w.parts rest ∙ omega (arith, pending_none p so, run_none f (q ++ w.later) (so ++ w.parts))

  -- the names come first, once each, and no other part is a name
  pub names_alone : (T : ℕ) (s : List Axiom) → (rest : List Part) × ((flatten_by find T s).parts ≡ name_parts_lem T ++ rest) × (count_kind 0 rest ≡ 0)
  unfolding flatten_by
  names_alone T s = ((run_by find (weights (pendings s)) (pendings s) (name_parts_lem T)).parts, refl, run_none (weights (pendings s)) (pendings s) (name_parts_lem T))

-- so the first count is T
pub names_counted : (k : Kb) → (counts_of (parts_of k)).names ≡ k.names
names_counted k =
    let n = names_alone shared k.names k.axioms in
    ap (count_kind 0) n.1 ∙ count-append 0 (name_parts_lem k.names) n.0 ∙ omega (arith, names_count k.names, n.2)

-- ---- the bytes that are listed

listed_kind : (p : Part) (l : List ℕ) → kinds_listed (part_bytes p ++ l) ≡ kind_of p ∷ kinds_listed l
unfolding part_bytes kinds_listed kind_of
listed_kind (name_p t) l = refl
listed_kind (fresh_p g c) l = refl
listed_kind (exists_p g u f) l = refl
listed_kind (forall_p g u f) l = refl

-- "the number of marks of that kind that the mark list holds"
pub counts_listed : (n : ℕ) (ps : List Part) → count_by (λ k. eqb k n) (kinds_listed (bytes_of ps)) ≡ count_kind n ps
unfolding bytes_of kinds_listed
counts_listed n [] = refl
counts_listed n (p ∷ ps) =
    ap (count_by (λ k. eqb k n)) (listed_kind p (bytes_of ps))
    ∙ sum_by-cons (λ k. cond (eqb k n) 1 0) (kind_of p) (kinds_listed (bytes_of ps))
    ∙ ap (λ m. is_kind n p + m) (counts_listed n ps)
    ∙ sym (count_cons n p ps)
