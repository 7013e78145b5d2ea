-- Flattening flattens, by each faithful lookup: its parts and flattened axioms lay out every axiom, and nothing else is there.
use Prim.Native.Nat.{ℕ, zero, suc, ◌+◌, ◌≤◌, ◌<◌}
use native.Mathlib.Omega.{arith}
use mathlib.Core.Path.{◌≡◌, refl, sym, ap, ◌∙◌, subst}
use mathlib.Core.Bool.{true}
use mathlib.Core.Option.{Option, none, some}
use mathlib.Core.List.{List, [], ◌∷◌, ◌++◌, append_assoc}
use lib.ListN.{length, length-append, get_or-append}
use lib.Seq.{get_or-append_seam, get_or-append-add}
use Rattle.syntax.specs.Concepts.{Role, Concept, top_c, bottom_c, name_c, not_c, and_c, or_c, exists_c, forall_c, Axiom}
use Rattle.syntax.specs.Normal.{Tag, Nf, top_n, bottom_n, name_n, not_n, and_n, or_n, exists_n, forall_n, axiom_nf}
use Rattle.syntax.specs.Flatten.{Atom, Filler, atomic, fresh, Part, name_p, fresh_p, exists_p, forall_p, Flat, part_f, not_f, or_f, atom, Pending, whole, guarded, Walked, alike, Lookup, shared, separate, placed, meet_one, walk_by, walk_pending_by, Flattening, run_by, name_parts_lem, pendings, flatten_by, flatten, no_part, part_at}
use Rattle.syntax.specs.Bounds.{All, EachRole, AxiomNames, AxiomRoles}
use Rattle.syntax.proofs.NormalForm.{EachNf, axiom_forms}
use Rattle.syntax.proofs.Alike.{exists_alike, forall_alike, found_at}
use Rattle.syntax.proofs.Queue.{Left, left-start, left_step, left_end, left_part}
use Rattle.syntax.proofs.Promised.{all_append, names-first, parts-roles, parts-plain}
use Rattle.semantics.specs.Flattens.{AtomAt, Fills, Laid, Origin, of_axiom, of_filler, Faithful, Flattens}

-- each of two lists
all_left : {A : Type 0} (P : A → Type 0) (l l' : List A) → All P (l ++ l') → All P l
all_left P [] l' h = tt
all_left P (a ∷ l) l' h = (h.0, all_left P l l' h.1)

all_right : {A : Type 0} (P : A → Type 0) (l l' : List A) → All P (l ++ l') → All P l'
all_right P [] l' h = h
all_right P (a ∷ l) l' h = all_right P l l' h.1

all_unit : {A : Type 0} (l : List A) → All (λ (a : A). Unit {0}) l
all_unit [] = tt
all_unit (a ∷ l) = (tt, all_unit l)

-- the roles of any concept are roles
each-role : (c : Concept) → EachRole (λ (u : Role). Unit {0}) c
unfolding EachRole
each-role top_c = tt
each-role bottom_c = tt
each-role (name_c t) = tt
each-role (not_c c) = each-role c
each-role (and_c c d) = (each-role c, each-role d)
each-role (or_c c d) = (each-role c, each-role d)
each-role (exists_c r f u c) = (tt, each-role c)
each-role (forall_c r f u c) = (tt, each-role c)

axiom_roles : (s : List Axiom) → AxiomRoles (λ (u : Role). Unit {0}) s
axiom_roles [] = tt
axiom_roles (a ∷ s) = (each-role a.left, each-role a.right, axiom_roles s)

module _ (m : ℕ → Part) where
  -- the parts so far are the first of m
  abbrev Stands : List Part → Type 0
  Stands so = (k : ℕ) → k < length so → m k ≡ part_at so k

  stands_front : (so more : List Part) → Stands (so ++ more) → Stands so
  stands_front so more h k l = h k (omega (arith, length-append so more)) ∙ get_or-append so more no_part k l

  stands-left : (so a b : List Part) → Stands (so ++ (a ++ b)) → Stands (so ++ a)
  stands-left so a b h = stands_front (so ++ a) b (rw append_assoc h)

  stands-next : (so a b : List Part) → Stands (so ++ (a ++ b)) → Stands ((so ++ a) ++ b)
  stands-next so a b h = rw append_assoc h

  stands-first : (so : List Part) (p : Part) (more : List Part) → Stands (so ++ (p ∷ more)) → m (length so) ≡ p
  stands-first so p more h = h (length so) (omega (arith, length-append so (p ∷ more))) ∙ get_or-append_seam so p more no_part

  stands_second : (so : List Part) (p q : Part) → Stands (so ++ (p ∷ q ∷ [])) → m (suc (length so)) ≡ q
  stands_second so p q h =
      ap m (omega arith) ∙ h (length so + 1) (omega (arith, length-append so (p ∷ q ∷ []))) ∙ get_or-append-add so (p ∷ q ∷ []) 1 no_part

  -- each name stands at its own number
  abbrev Named : Nf → Type 0
  Named c = EachNf (λ t. m t ≡ name_p t) (λ u. Unit {0}) c

  abbrev NamedP : Pending → Type 0
  NamedP (whole c) = Named c
  NamedP (guarded j c) = Named c

  abbrev Found : Option Atom → Type 0
  Found (some a) = AtomAt m a
  Found none = Unit

  atom_found : (c : Nf) → Named c → Found (atom c)
  unfolding atom AtomAt
  atom_found top_n h = tt
  atom_found bottom_n h = tt
  atom_found (name_n t) h = h
  atom_found (not_n t) h = tt
  atom_found (and_n c d) h = tt
  atom_found (or_n c d) h = tt
  atom_found (exists_n g u c) h = tt
  atom_found (forall_n g u c) h = tt

  -- What is on the queue comes from the axioms' normal forms (S), or is (not F) or filler for a fresh part F.
  module _ (S : Nf → Type 0) where
    abbrev Source : Pending → Type 0
    Source (whole c) = S c
    Source (guarded j c) = (g : Tag) × (m j ≡ fresh_p g c)

    abbrev Waits : Pending → Type 0
    Waits p = NamedP p × Source p

    placed-waits : (p : Part) (so : List Part) (o : Option ℕ) → All Waits (placed p so o).later
    unfolding placed
    placed-waits p so (some j) = tt
    placed-waits p so none = tt

    both_wait : (so : List Part) (a b : Walked) → Stands (so ++ (a.parts ++ b.parts)) → (Stands (so ++ a.parts) → All Waits a.later) →
        (Stands ((so ++ a.parts) ++ b.parts) → All Waits b.later) → All Waits (a.later ++ b.later)
    both_wait so a b h f g =
        all_append Waits a.later b.later (f (stands-left so a.parts b.parts h)) (g (stands-next so a.parts b.parts h))

    -- whichever lookup
    module _ (find : Lookup) where
      meet_waits : (p : Filler → Part) (g : Tag) (c : Nf) (so : List Part) (o : Option Atom) → Named c →
          Stands (so ++ (meet_one find p g c so o).parts) → All Waits (meet_one find p g c so o).later
      unfolding meet_one
      meet_waits p g c so (some a) n h = placed-waits (p (atomic a)) so (find (p (atomic a)) so)
      meet_waits p g c so none n h = ((n, (g, stands_second so (p (fresh (suc (length so)))) (fresh_p g c) h)), tt)

      walk-waits : (c : Nf) (so : List Part) → Named c → Stands (so ++ (walk_by find c so).parts) →
          All Waits (walk_by find c so).later
      unfolding walk_by
      walk-waits top_n so n h = tt
      walk-waits bottom_n so n h = tt
      walk-waits (name_n t) so n h = tt
      walk-waits (not_n t) so n h = tt
      walk-waits (and_n c d) so n h =
          let so' : List Part = so ++ (walk_by find c so).parts in
          both_wait so (walk_by find c so) (walk_by find d so') h (walk-waits c so n.0) (walk-waits d so' n.1)
      walk-waits (or_n c d) so n h =
          let so' : List Part = so ++ (walk_by find c so).parts in
          both_wait so (walk_by find c so) (walk_by find d so') h (walk-waits c so n.0) (walk-waits d so' n.1)
      walk-waits (exists_n g u c) so n h = meet_waits (exists_p g u) g c so (atom c) n.1 h
      walk-waits (forall_n g u c) so n h = meet_waits (forall_p g u) g c so (atom c) n.1 h

      pending_waits : (p : Pending) (so : List Part) → NamedP p → Stands (so ++ (walk_pending_by find p so).parts) →
          All Waits (walk_pending_by find p so).later
      unfolding walk_pending_by
      pending_waits (whole c) so n h = walk-waits c so n h
      pending_waits (guarded j c) so n h = walk-waits c so n h

  -- What is on the queue is laid out, where R says which trees are flattened axioms.
  module _ (R : Flat → Type 0) where
    abbrev Done : Pending → Type 0
    Done (whole c) = (h : Flat) × R h × Laid m R c h
    Done (guarded j c) = (h : Flat) × R (or_f (not_f j) h) × Laid m R c h

    -- the tree is part k, a restriction p with a filler for c; o is c as an atom
    abbrev Restricted : (Tag → Filler → Part) → Nf → Flat → Option Atom → Type 0
    Restricted p c t o = (k : ℕ) × (e : Tag) × (f : Filler) × (t ≡ part_f k) × (m k ≡ p e f) × Fills m R c (λ h. Laid m R c h) f o

    -- by a faithful lookup
    module _ (find : Lookup) (faith : Faithful find) where
      -- a part like p is p but for its tag
      module _ (p : Tag → Filler → Part)
          (like : (g : Tag) (a : Atom) (q : Part) → alike (p g (atomic a)) q ≡ true → (e : Tag) × (q ≡ p e (atomic a))) where
        placed-laid : (g : Tag) (c : Nf) (a : Atom) (so : List Part) (o : Option ℕ) → find (p g (atomic a)) so ≡ o → AtomAt m a →
            Stands (so ++ (placed (p g (atomic a)) so o).parts) → Restricted p c (placed (p g (atomic a)) so o).flat (some a)
        unfolding placed Fills
        placed-laid g c a so (some j) q found h =
            let w = faith (p g (atomic a)) so j q in
            let l = like g a (part_at so j) w.1 in
            (j, l.0, atomic a, refl, stands_front so [] h j w.0 ∙ l.1, (refl, found))
        placed-laid g c a so none q found h = (length so, g, atomic a, refl, stands-first so (p g (atomic a)) [] h, (refl, found))

        meet_laid : (g : Tag) (c : Nf) (so : List Part) (o : Option Atom) → Found o →
            Stands (so ++ (meet_one find (p g) g c so o).parts) →
            All Done (meet_one find (p g) g c so o).later → Restricted p c (meet_one find (p g) g c so o).flat o
        unfolding meet_one Fills
        meet_laid g c so (some a) found h d = placed-laid g c a so (find (p g (atomic a)) so) refl found h
        meet_laid g c so none found h d =
            let j : ℕ = suc (length so) in (
              length so,
              g,
              fresh j,
              refl,
              stands-first so (p g (fresh j)) (fresh_p g c ∷ []) h,
              (j, g, d.0.0, refl, stands_second so (p g (fresh j)) (fresh_p g c) h, d.0.1, d.0.2),
            )

      walk-laid : (c : Nf) (so : List Part) → Named c → Stands (so ++ (walk_by find c so).parts) →
          All Done (walk_by find c so).later → Laid m R c (walk_by find c so).flat
      unfolding walk_by Laid
      walk-laid top_n so n h d = refl
      walk-laid bottom_n so n h d = refl
      walk-laid (name_n t) so n h d = (refl, n)
      walk-laid (not_n t) so n h d = (refl, n)
      walk-laid (and_n c e) so n h d =
          let a : Walked = walk_by find c so in
          let b : Walked = walk_by find e (so ++ a.parts) in (
            a.flat,
            b.flat,
            refl,
            walk-laid c so n.0 (stands-left so a.parts b.parts h) (all_left Done a.later b.later d),
            walk-laid e (so ++ a.parts) n.1 (stands-next so a.parts b.parts h) (all_right Done a.later b.later d),
          )
      walk-laid (or_n c e) so n h d =
          let a : Walked = walk_by find c so in
          let b : Walked = walk_by find e (so ++ a.parts) in (
            a.flat,
            b.flat,
            refl,
            walk-laid c so n.0 (stands-left so a.parts b.parts h) (all_left Done a.later b.later d),
            walk-laid e (so ++ a.parts) n.1 (stands-next so a.parts b.parts h) (all_right Done a.later b.later d),
          )
      walk-laid (exists_n g u c) so n h d =
          meet_laid (λ e. exists_p e u) (λ g a q. exists_alike g u a q) g c so (atom c) (atom_found c n.1) h d
      walk-laid (forall_n g u c) so n h d =
          meet_laid (λ e. forall_p e u) (λ g a q. forall_alike g u a q) g c so (atom c) (atom_found c n.1) h d

      pending_laid : (p : Pending) (so : List Part) → NamedP p → Stands (so ++ (walk_pending_by find p so).parts) →
          All Done (walk_pending_by find p so).later → R (walk_pending_by find p so).flat → Done p
      unfolding walk_pending_by
      pending_laid (whole c) so n h d r = ((walk_by find c so).flat, r, walk-laid c so n h d)
      pending_laid (guarded j c) so n h d r = ((walk_by find c so).flat, r, walk-laid c so n h d)

  pending_origin : (find : Lookup) → Faithful find → (S : Nf → Type 0) (p : Pending) (so : List Part) → Waits S p →
      Stands (so ++ (walk_pending_by find p so).parts) → All (Done (λ f. Unit)) (walk_pending_by find p so).later →
      Origin m S (walk_pending_by find p so).flat
  unfolding walk_pending_by
  pending_origin find faith S (whole c) so w h d = of_axiom c w.1 (walk-laid (λ f. Unit) find faith c so w.0 h d)
  pending_origin find faith S (guarded j c) so w h d =
      of_filler j w.1.0 c w.1.1 (walk-laid (λ f. Unit) find faith c so w.0 h d)

-- The queue of a flattening: each step makes one flattened axiom, so at most `n` steps are left.
module _ (find : Lookup) (faith : Faithful find) (F : Flattening) where
  abbrev AtMost : ℕ → List Flat → Type 0
  AtMost n done = length F.axioms ≤ n + length done

  left_done : {done : List Flat} {q : List Pending} {so : List Part} → Left find F done q so → length done ≤ length F.axioms
  left_done {done} {q} {so} l = omega (arith, ap length l.axioms, length-append done (run_by find l.fuel q so).axioms)

  left_more : {done : List Flat} {p : Pending} {q : List Pending} {so : List Part} → Left find F done (p ∷ q) so →
      suc (length done) ≤ length F.axioms
  left_more {done} {p} {so = so} l = omega (arith, left_done (left_step l), length-append done ((walk_pending_by find p so).flat ∷ []))

  at_most : (n : ℕ) (done : List Flat) (f : Flat) → AtMost (suc n) done → AtMost n (done ++ (f ∷ []))
  at_most n done f h = omega (arith, length-append done (f ∷ []))

  -- the flattened axiom made last
  left_last : (P : Flat → Type 0) (done : List Flat) (f : Flat) {q : List Pending} {so : List Part} →
      Left find F (done ++ (f ∷ [])) q so → All P F.axioms → P f
  left_last P done f l h = (all_right P done (f ∷ []) (all_left P (done ++ (f ∷ [])) _ (subst (All P) l.axioms h))).0

  abbrev m : ℕ → Part
  m = part_at F.parts

  module _ (S : Nf → Type 0) where
    left_laid : (R : Flat → Type 0) → All R F.axioms → (n : ℕ) (done : List Flat) (q : List Pending) (so : List Part) →
        Left find F done q so → AtMost n done → All (Waits m S) q → All (Done m R) q
    left_laid R r zero done [] so l b w = tt
    left_laid R r zero done (p ∷ q) so l b w = absurd (omega (arith, left_more l))
    left_laid R r (suc n) done [] so l b w = tt
    left_laid R r (suc n) done (p ∷ q) so l b w =
        let a : Walked = walk_pending_by find p so in
        let l' = left_step l in
        let w' = all_append (Waits m S) q a.later w.1 (pending_waits m S find p so w.0.0 (left_part l')) in
        let d = left_laid R r n (done ++ (a.flat ∷ [])) (q ++ a.later) (so ++ a.parts) l' (at_most n done a.flat b) w' in (
          pending_laid m R find faith p so w.0.0 (left_part l') (all_right (Done m R) q a.later d)
              (left_last R done a.flat l' r),
          all_left (Done m R) q a.later d,
        )

    left_origin : (n : ℕ) (done : List Flat) (q : List Pending) (so : List Part) → Left find F done q so → AtMost n done →
        All (Waits m S) q → All (Origin m S) done → All (Origin m S) F.axioms
    left_origin zero done [] so l b w o = subst (All (Origin m S)) (sym (left_end l).1) o
    left_origin zero done (p ∷ q) so l b w o = absurd (omega (arith, left_more l))
    left_origin (suc n) done [] so l b w o = subst (All (Origin m S)) (sym (left_end l).1) o
    left_origin (suc n) done (p ∷ q) so l b w o =
        let a : Walked = walk_pending_by find p so in
        let l' = left_step l in
        let b' = at_most n done a.flat b in
        let w' = all_append (Waits m S) q a.later w.1 (pending_waits m S find p so w.0.0 (left_part l')) in
        let d = left_laid (λ f. Unit) (all_unit F.axioms) n (done ++ (a.flat ∷ [])) (q ++ a.later) (so ++ a.parts) l' b' w' in
        let f = pending_origin m find faith S p so w.0 (left_part l') (all_right (Done m (λ f. Unit)) q a.later d) in
        left_origin n (done ++ (a.flat ∷ [])) (q ++ a.later) (so ++ a.parts) l' b' w' (all_append (Origin m S) done (a.flat ∷ []) o (f, tt))

-- the axioms on the queue
axioms_wait : (m : ℕ → Part) (T : ℕ) → ((t : ℕ) → t < T → m t ≡ name_p t) → (S : Nf → Type 0) (s : List Axiom) → AxiomNames T s →
    All (λ a. S (axiom_nf a)) s → All (Waits m S) (pendings s)
unfolding pendings
axioms_wait m T first S [] n h = tt
axioms_wait m T first S (a ∷ s) n h = ((axiom_forms (λ t. m t ≡ name_p t) (λ u. Unit {0}) T first a n.0 n.1 (each-role a.left) (each-role a.right), h.0), axioms_wait m T first S s n.2 h.1)

axioms_done : (m : ℕ → Part) (R : Flat → Type 0) (s : List Axiom) → All (Done m R) (pendings s) →
    All (λ a. (h : Flat) × R h × Laid m R (axiom_nf a) h) s
unfolding pendings
axioms_done m R [] d = tt
axioms_done m R (a ∷ s) d = (d.0, axioms_done m R s d.1)

-- The theorem, for axioms whose names are below T.
pub flatten_flattens : (find : Lookup) → Faithful find → (T : ℕ) (s : List Axiom) → AxiomNames T s →
    Flattens s (flatten_by find T s).parts (flatten_by find T s).axioms
flatten_flattens find faith T s low =
    let F : Flattening = flatten_by find T s in
    let m : ℕ → Part = part_at F.parts in
    let n : ℕ = length F.axioms in
    let first = names-first find T s in
    let start = left-start find T s in
    record {
      complete = λ R r. axioms_done m R s (left_laid find faith F (λ c. Unit) R r n [] (pendings s) (name_parts_lem T) start
          (omega arith) (axioms_wait m T first (λ c. Unit) s low (all_unit s)));
      sound = λ S h. left_origin find faith F S n [] (pendings s) (name_parts_lem T) start (omega arith)
          (axioms_wait m T first S s low h) tt;
      fillers = parts-plain find T (λ u. Unit) s low (axiom_roles s);
      roles = λ Q q. parts-roles find T Q s low q;
    }

-- 02's lookup is faithful, and 01's before it
pub shared_faithful : Faithful shared
shared_faithful = found_at

pub separate_faithful : Faithful separate
unfolding separate
separate_faithful p so j e = let z : ◌≡◌ {A = ℕ} 0 1 = cc in absurd (omega arith)

-- so the flattening that is read and judged flattens
pub judged_flattens : (T : ℕ) (s : List Axiom) → AxiomNames T s → Flattens s (flatten T s).parts (flatten T s).axioms
judged_flattens T s low = flatten_flattens shared shared_faithful T s low
