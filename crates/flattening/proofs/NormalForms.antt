-- Laws on normal forms by the kind of a record, read plainly and under a not: as fillers, and what they add to the parts.
use Prim.Native.Nat.{ℕ, ◌≤◌, ◌<◌}
use mathlib.Core.Path.{◌≡◌, refl, ap}
use mathlib.Core.Logic.{◌⊎◌, inl, inr}
use mathlib.Core.Bool.{Bool, true, false}
use mathlib.Core.List.{List}
use native.Mathlib.Omega.{arith}
use native.Mathlib.Decide.{ℕ_discrete}
use Rattle.records.specs.Entries.{Entry}
use Rattle.records.specs.Scan.{record_at_lem}
use Rattle.syntax.specs.Concepts.{Role, node_of, concept_below, role_below}
use Rattle.syntax.specs.Normal.{Tag, tag, Nf, top_n, bottom_n, exists_n, forall_n, plain, negated}
use Rattle.flattening.specs.Trees.{nf_below}
use Rattle.syntax.proofs.Trees.{concept_is, concept_past, concept_none}

-- c is a restriction with the filler d
pub record Restriction (d c : Nf) : Type 0 where
  pub tag : Tag
  pub role : Role
  pub is : (c ≡ exists_n tag role d) ⊎ (c ≡ forall_n tag role d)

-- the normal forms of record r by its kind
module _ (es : List Entry) (below r : ℕ) (e : Entry) (h : r < below) (p : e ≡ record_at_lem es r) where
  pub nf_exists : e.kind ≡ 7 →
      (plain (concept_below es below r) ≡ exists_n (tag r false e.second) (role_below es r e.first) (plain (concept_below es r e.second)))
      × (negated (concept_below es below r) ≡ forall_n (tag r true e.second) (role_below es r e.first) (negated (concept_below es r e.second)))
  unfolding plain node_of concept_below role_below
  nf_exists k = rw (concept_is es below r e h p, k) (refl, refl)

  pub nf_forall : e.kind ≡ 8 →
      (plain (concept_below es below r) ≡ forall_n (tag r false e.second) (role_below es r e.first) (plain (concept_below es r e.second)))
      × (negated (concept_below es below r) ≡ exists_n (tag r true e.second) (role_below es r e.first) (negated (concept_below es r e.second)))
  unfolding plain node_of concept_below role_below
  nf_forall k = rw (concept_is es below r e h p, k) (refl, refl)

  -- every other kind is nothing
  pub nf_none : (e.kind ≡ 1 → ⊥) → (e.kind ≡ 3 → ⊥) → (4 ≤ e.kind → 8 < e.kind) →
      (plain (concept_below es below r) ≡ bottom_n) × (negated (concept_below es below r) ≡ top_n)
  unfolding plain
  nf_none n1 n3 o = rw (concept_is es below r e h p, concept_none es r e n1 n3 o) (refl, refl)

  pub nf_restriction : (odd : Bool) → 7 ≤ e.kind → e.kind < 9 → Restriction (nf_below odd es r e.second) (nf_below odd es below r)
  nf_restriction odd l u = at (ℕ_discrete e.kind 7) odd
    where
      at : Dec (e.kind ≡ 7) → (odd : Bool) → Restriction (nf_below odd es r e.second) (nf_below odd es below r)
      at (yes k) true = record { tag = _; role = _; is = inr (nf_exists k).1 }
      at (yes k) false = record { tag = _; role = _; is = inl (nf_exists k).0 }
      at (no k) true = record { tag = _; role = _; is = inl (nf_forall (omega (arith, k))).1 }
      at (no k) false = record { tag = _; role = _; is = inr (nf_forall (omega (arith, k))).0 }

pub nf_past : (es : List Entry) (below r : ℕ) → below ≤ r → (plain (concept_below es below r) ≡ bottom_n) × (negated (concept_below es below r) ≡ top_n)
unfolding plain
nf_past es below r h = rw (concept_past es below r h) (refl, refl)

-- of the same concepts
pub nf_same : (odd : Bool) (es : List Entry) (m n r : ℕ) → concept_below es m r ≡ concept_below es n r → nf_below odd es m r ≡ nf_below odd es n r
nf_same true es m n r e = ap negated e
nf_same false es m n r e = ap plain e
