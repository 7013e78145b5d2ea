-- The places of restrictions: at which part each record that is a restriction stands, and the table of places as it is filled.
use Rattle.std.proofs.Common.{ℕ, ◌+◌, ◌≤◌, ◌<◌, ◌≡◌, refl, sym, ap, subst₂, Bool, true, false, List, [], ◌∷◌, ◌++◌, length, get_or, Option, Some, zero, suc, arith, add-zero}
use native.Mathlib.Decide.{dec_lt, ℕ_discrete}
use lib.ListN.{set, get_or-eq_default}
use lib.Seq.{get_or-set_same, get_or-set_other}
use Rattle.std.proofs.Math.ListN.{get_or-append}
use Rattle.records.specs.Entries.{Entry}
use Rattle.records.specs.Scan.{record_at_lem, blank}
use Rattle.records.specs.Nodes.{Says}
use Rattle.records.specs.declared.nodes.Node.{Node}
use Rattle.records.specs.declared.nodes.Node.TheVariants.{Exists, Forall}
use Rattle.syntax.specs.Concepts.{Role, role_below}
use Rattle.syntax.specs.Normal.{Tag, tag, Nf, exists_n, forall_n}
use Rattle.syntax.specs.Flatten.{Part, part_at, atom}
use Rattle.syntax.proofs.Alike.{found_at}
use Rattle.flattening.specs.Trees.{operand_of, role_at, nf_below}
use Rattle.flattening.specs.Origins.{part_of, parts_from, parts_in}
use Rattle.flattening.specs.AlikeParts.{FoundAlike}
use Rattle.flattening.specs.declared.trees.Tree.{Tree}
use Rattle.flattening.specs.declared.parts.Atom.{Atom}
use Rattle.flattening.specs.declared.parts.Origin.{Origin}
use Rattle.flattening.specs.declared.parts.Quantifier.{Quantifier}
use Rattle.flattening.specs.declared.parts.Quantifier.TheVariants.{Exists as Some_of, Forall as Only}
use Rattle.flattening.proofs.NormalForms.{nf_exists, nf_forall}
use Rattle.flattening.proofs.PartLists.{parts_length}
use Rattle.tbox.specs.declared.places.Pair.{Pair}
use Rattle.tbox.specs.RestrictionPlaces.{PairFor, PlacedFor, PlaceFor, PlaceAt, place_under, Noted, PlacesOf, pair_at, no_pair}

-- the part of an origin
pub origin_part : (es : List Entry) (k : ℕ) (os : List Origin) (j : ℕ) → j < length os → (o : Origin) → part_at (parts_from es k os) j ≡ part_of es (k + j) (get_or os j o)
unfolding parts_from
origin_part es k [] j h o = absurd (omega arith)
origin_part es k (a ∷ os) zero h o = rw add-zero refl
origin_part es k (a ∷ os) (suc j) h o = let e : suc k + j ≡ k + suc j = omega arith in rw (← e) (origin_part es (suc k) os j (omega arith) o)

-- a part that was found is one of few
pub found_low : (es : List Entry) (os : List Origin) (q : Quantifier) (u : Role) (a : Atom) (j : ℕ) → FoundAlike es os q u a (Some j) → length os ≤ 20 → j < 20
found_low es os q u a j f l = let i = found_at _ (parts_in es os) j (sym (f (tag 0 false 0))) in omega (arith, i.0, parts_length es 0 os)

-- another record
pub place_other : (es : List Entry) (ps : List Part) (r : ℕ) (p : Pair) → (7 ≤ (record_at_lem es r).kind → 9 ≤ (record_at_lem es r).kind) → PlaceAt es ps r p
place_other es ps r p n = record { is = λ below odd h low high. absurd (omega (arith, n low)) }

-- a restriction in normal form
abbrev restricts : Quantifier → Tag → Role → Nf → Nf
restricts Some_of g u c = exists_n g u c
restricts Only g u c = forall_n g u c

place_for : (q : Quantifier) (ps : List Part) (g : Tag) (u : Role) (c : Nf) (v : Option ℕ) → PlacedFor ps q u (atom c) v → PlaceFor ps (restricts q g u c) v
place_for Some_of ps g u c v w = w g
place_for Only ps g u c v w = w g

-- a record that is a restriction, T
module _ (T t u : Tree) (a b : ℕ) (n : Node) (os : List Origin) (p : Pair) where
  abbrev es : List Entry
  es = T.table.now

  -- with one quantifier plainly, and the other under a not
  abbrev BothForms : Quantifier → Quantifier → Type 0
  BothForms q r =
      (below : ℕ) → T.number < below →
      (nf_below false es below T.number ≡ restricts q (tag T.number false b) (role_below es T.number a) (nf_below false es T.number b))
      × (nf_below true es below T.number ≡ restricts r (tag T.number true b) (role_below es T.number a) (nf_below true es T.number b))

  pair_for : (q r : Quantifier) → BothForms q r → t ≡ operand_of T a → u ≡ operand_of T b →
      PairFor (parts_in t.table.now os) q r (role_at t) u p → PlaceAt es (parts_in es os) T.number p
  pair_for q r f d e h = record { is = λ below odd l low high. at below odd l }
    where
      pair : PairFor (parts_in es os) q r (role_below es T.number a) (operand_of T b) p
      pair = subst₂ (λ (t u : Tree). PairFor (parts_in t.table.now os) q r (role_at t) u p) d e h

      at : (below : ℕ) (odd : Bool) → T.number < below → PlaceFor (parts_in es os) (nf_below odd es below T.number) (place_under odd p)
      at below false l = rw (f below l).0 (place_for q _ _ _ _ _ pair.plain)
      at below true l = rw (f below l).1 (place_for r _ _ _ _ _ pair.negated)

  module _ (s : Says (record_at_lem es T.number) n) where
    pub pair_exists : n ≡ Exists a b → t ≡ operand_of T a → u ≡ operand_of T b →
        PairFor (parts_in t.table.now os) Some_of Only (role_at t) u p → PlaceAt es (parts_in es os) T.number p
    pair_exists e =
        let m : Says (record_at_lem es T.number) (Exists a b) = rw e at s in
        pair_for Some_of Only (λ below l. rw (← m.first, ← m.second) (nf_exists es below T.number _ l refl m.kind))

    pub pair_forall : n ≡ Forall a b → t ≡ operand_of T a → u ≡ operand_of T b →
        PairFor (parts_in t.table.now os) Only Some_of (role_at t) u p → PlaceAt es (parts_in es os) T.number p
    pair_forall e =
        let m : Says (record_at_lem es T.number) (Forall a b) = rw e at s in
        pair_for Only Some_of (λ below l. rw (← m.first, ← m.second) (nf_forall es below T.number _ l refl m.kind))

-- the loop: the places of the first n records are noted
module _ {es : List Entry} {ps : List Part} where
  pub noted_none : {l : List Pair} → Noted es ps l 0
  noted_none = record { each = λ r h. absurd (omega arith) }

  -- a record that is no restriction
  pub noted_other : {l : List Pair} {n : ℕ} → (7 ≤ (record_at_lem es n).kind → 9 ≤ (record_at_lem es n).kind) → Noted es ps l n →
      Noted es ps l (n + 1)
  noted_other {l} {n} o f = record { each = λ r h. at r h (ℕ_discrete r n) }
    where
      at : (r : ℕ) → r < n + 1 → Dec (r ≡ n) → PlaceAt es ps r (pair_at l r)
      at r h (yes q) = rw q (place_other es ps n (pair_at l n) o)
      at r h (no q) = f.each r (omega (arith, q))

  -- its pair written
  pub noted_more : {l : List Pair} {n : ℕ} (p : Pair) → n < length l → PlaceAt es ps n p → Noted es ps l n → Noted es ps (set l n p) (n + 1)
  noted_more {l} {n} p k at-n f = record { each = λ r h. at r h (ℕ_discrete r n) }
    where
      at : (r : ℕ) → r < n + 1 → Dec (r ≡ n) → PlaceAt es ps r (pair_at (set l n p) r)
      at r h (yes q) = rw (q, get_or-set_same l n p no_pair k) at-n
      at r h (no q) = rw (get_or-set_other l n r p no_pair q) (f.each r (omega (arith, q)))

  -- all of them, and a rest past the records
  pub places-all : {l : List Pair} {n : ℕ} (rest : List Pair) → length es ≤ length l → length l ≤ n → length ps ≤ 20 → Noted es ps l n →
      PlacesOf es ps (record { pairs = l ++ rest })
  places-all {l} {n} rest all few small f = record { few = small; at = λ r. at r (dec_lt r (length l)) }
    where
      at : (r : ℕ) → Dec (r < length l) → PlaceAt es ps r (pair_at (l ++ rest) r)
      at r (yes q) = rw (get_or-append l rest no_pair r q) (f.each r (omega arith))
      at r (no q) =
          let z : (record_at_lem es r).kind ≡ 0 = ap (λ (e : Entry). e.kind) (get_or-eq_default es blank (omega (arith, q))) in
          place_other es ps r _ (λ l. omega (arith, z))
