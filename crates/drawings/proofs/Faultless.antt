-- Laws of records without a fault: there are at most 1,024 individuals, with names and fresh names alone, and connections are between
-- individuals and of roles that exist.
use mathlib.Core.Path.{◌≡◌, refl, sym, ◌∙◌, subst}
use mathlib.Core.Bool.{Bool, true, false, not, ◌||◌, cond}
use mathlib.Core.List.{List, [], ◌∷◌}
use Prim.Native.Nat.{ℕ, suc, ◌+◌, ◌≤◌, ◌<◌}
use native.Mathlib.Decide.{ℕ_discrete}
use native.Mathlib.Omega.{arith}
use lib.Dec.{ltb, leb}
use lib.ListN.{length}
use borrow.Author.Tests.{ltb-true}
use Rattle.bitset.specs.Bits.{Set, bit}
use Rattle.bitset.proofs.Facts.{and_l, and_r_lem}
use Rattle.elimination.specs.Sets.{every}
use Rattle.syntax.specs.Bounds.{All}
use Rattle.drawings.specs.Entries.{Connection, Entry, individual, connection, unreadable, individuals_after, entry_fault, first_fault, names_of, connections_of}
use Rattle.drawings.proofs.EntryLaws.{fault_here, fault_later, fault_few}

-- a connection of roles and individuals below bounds
abbrev pub Within : ℕ → ℕ → Connection → Type 0
Within roles bound c = (c.role < roles) × (c.from < bound) × (c.to < bound)

-- ---- where a fault is 0, there is none

passes : (b : Bool) → cond {A = ℕ} b 0 24 ≡ 0 → b ≡ true
passes true e = refl
passes false e = absurd (omega arith)

later : (b : Bool) (f : ℕ) → cond b 23 f ≡ 0 → f ≡ 0
later true f e = absurd (omega arith)
later false f e = e

module _ (plain : Set) (roles : ℕ) where
  names-fine : (n m : ℕ) → entry_fault plain roles n (individual m) ≡ 0 → every 16 (λ k. not (bit m k) || plain k) ≡ true
  unfolding entry_fault
  names-fine n m e = passes _ (later (leb 1024 n) _ e)

  connection-fine : (n : ℕ) (c : Connection) → entry_fault plain roles n (connection c) ≡ 0 → Within roles n c
  unfolding entry_fault
  connection-fine n c e =
      let t = passes _ e in
      let r = and_r_lem (ltb c.from n) _ t in
      (ltb-true _ _ (and_r_lem (ltb c.to n) _ r), ltb-true _ _ (and_l (ltb c.from n) _ t), ltb-true _ _ (and_l (ltb c.to n) _ r))

  -- where the first fault is 0, so is that of the first record and that of the rest
  first-fine : (n : ℕ) (r : Entry) (es : List Entry) → first_fault plain roles n (r ∷ es) ≡ 0
      → (entry_fault plain roles n r ≡ 0) × (first_fault plain roles (individuals_after n r) es ≡ 0)
  first-fine n r es e = let z = go (ℕ_discrete (entry_fault plain roles n r) 0) in (z, sym (fault_later plain roles n r es z) ∙ e)
    where
      go : Dec (entry_fault plain roles n r ≡ 0) → entry_fault plain roles n r ≡ 0
      go (yes q) = q
      go (no q) = sym (fault_here plain roles n r es q) ∙ e

  -- ---- records without a fault, after n individuals

  pub individuals-few : (n : ℕ) (es : List Entry) → n ≤ 1024 → first_fault plain roles n es ≡ 0 → n + length (names_of es) ≤ 1024
  unfolding individuals_after names_of
  individuals-few n [] h e = omega arith
  individuals-few n (individual m ∷ es) h e =
      let r = first-fine n (individual m) es e in
      omega (arith, individuals-few (n + 1) es (omega (arith, fault_few plain roles n m r.0)) r.1)
  individuals-few n (connection c ∷ es) h e = individuals-few n es h (first-fine n (connection c) es e).1
  individuals-few n (unreadable ∷ es) h e = individuals-few n es h (first-fine n unreadable es e).1

  pub names-plain : (n : ℕ) (es : List Entry) → first_fault plain roles n es ≡ 0
      → All (λ m. every 16 (λ k. not (bit m k) || plain k) ≡ true) (names_of es)
  unfolding individuals_after names_of
  names-plain n [] e = tt
  names-plain n (individual m ∷ es) e = let r = first-fine n (individual m) es e in (names-fine n m r.0, names-plain (n + 1) es r.1)
  names-plain n (connection c ∷ es) e = names-plain n es (first-fine n (connection c) es e).1
  names-plain n (unreadable ∷ es) e = names-plain n es (first-fine n unreadable es e).1

  pub connections-within : (n : ℕ) (es : List Entry) → first_fault plain roles n es ≡ 0
      → All (Within roles (n + length (names_of es))) (connections_of es)
  unfolding individuals_after names_of connections_of
  connections-within n [] e = tt
  connections-within n (individual m ∷ es) e =
      let q : n + 1 + length (names_of es) ≡ n + suc (length (names_of es)) = omega arith in
      subst (λ (b : ℕ). All (Within roles b) (connections_of es)) q (connections-within (n + 1) es (first-fine n (individual m) es e).1)
  connections-within n (connection c ∷ es) e =
      let r = first-fine n (connection c) es e in
      let w = connection-fine n c r.0 in
      ((w.0, omega (arith, w.1), omega (arith, w.2)), connections-within n es r.1)
  connections-within n (unreadable ∷ es) e = connections-within n es (first-fine n unreadable es e).1
