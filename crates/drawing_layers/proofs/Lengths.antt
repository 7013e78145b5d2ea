-- How long the file of three layers is: 3 bytes for each individual, 6 for each connection.
use Prim.Native.Nat.{ℕ, zero, suc, ◌+◌, ◌*◌, ◌^◌, ◌≤◌, ◌<◌}
use native.Mathlib.Nat.{mod-lt}
use native.Mathlib.Omega.{arith}
use mathlib.Core.Path.{◌≡◌, refl, ap, ap₂}
use mathlib.Core.Bool.{Bool, true, false, cond}
use mathlib.Core.List.{List}
use lib.ListN.{length, length-append}
use lib.Pow.{pow_pos}
use Rattle.std.proofs.Common.{add-one}
use Rattle.std.proofs.lemmas.Bool.Decides.{nat_tests}
use Rattle.bitset.specs.Bits.{Set}
use Rattle.semantics.specs.Dominoes.{roles_of}
use Rattle.semantics.proofs.Numbers.{inverse_lt}
use Rattle.drawings.specs.Entries.{individual}
use Rattle.drawings.specs.Laid.{entry_bytes, in_turn}
use Rattle.drawings.specs.Layered.{count, roles_from, layered_file}
use Rattle.drawing_layers.specs.Records.{role_count}
use Rattle.drawing_layers.specs.Pieces.{summed, individual_at, reach_with, reach_of, all_reach, to_layer, to_all, from_layer, plain_names}
use Rattle.drawing_layers.specs.Pieces.{roles_after, roles_before, count_of, reach, layer_connections}
use Rattle.drawing_layers.specs.declared.layers.Layers.{Layers}
use Rattle.drawing_layers.proofs.RoleRecords.{role_bytes_length, role_bytes_none, role_count_few}
use Rattle.drawing_layers.proofs.Pieces.{by_layers, roles_are, row_size, file_size}

-- ---- sums

pub summed_most : (n b : ℕ) (f : ℕ → ℕ) → ((i : ℕ) → i < n → f i ≤ b) → summed n f ≤ n * b
unfolding summed
summed_most zero b f h = omega arith
summed_most (suc n) b f h = omega (arith, summed_most n b f (λ i l. h i (omega arith)), h n (omega arith))

-- ---- lengths of lists one after another

-- each is k times as long as s says
turn_long : {A : Type 0} (n k : ℕ) (f : ℕ → List A) (s : ℕ → ℕ) → ((i : ℕ) → i < n → length (f i) ≡ k * s i)
    → length (in_turn n f) ≡ k * summed n s
unfolding in_turn summed
turn_long zero k f s h = omega arith
turn_long (suc n) k f s h = simp length-append (omega (arith, turn_long n k f s (λ i l. h i (omega arith)), h n (omega arith)))

summed_three : (n : ℕ) (f g h s : ℕ → ℕ) → ((i : ℕ) → i < n → f i + g i + h i ≡ s i) → summed n f + summed n g + summed n h ≡ summed n s
unfolding summed
summed_three zero f g h s e = refl
summed_three (suc n) f g h s e = omega (arith, summed_three n f g h s (λ i l. e i (omega arith)), e n (omega arith))

individuals_long : (n : ℕ) (names : ℕ → ℕ) → length (in_turn n (λ i. entry_bytes (individual (names i)))) ≡ 3 * n
unfolding in_turn entry_bytes
individuals_long zero names = refl
individuals_long (suc n) names = simp length-append (omega (arith, individuals_long n names))

-- ---- the file

role_count_none : (L : ℕ) → role_count L 0 ≡ 0
role_count_none L = omega (arith, role_bytes_length L 0 0 0, ap length (role_bytes_none L 0 0))

module _ (c L : ℕ) (members : List ℕ) where
  abbrev m : ℕ
  m = count c L members

  -- the connections between two individuals
  abbrev reach_to : ℕ → ℕ → ℕ → ℕ → ℕ
  reach_to g i h j = role_count L (roles_from c L members (individual_at c L members g i) (individual_at c L members h j))

  -- of the three layers one is an individual's own, one is after it and one before
  all_three : (g i j : ℕ) → g < 3 → i < m → j < m → reach_to g i 0 j + reach_to g i 1 j + reach_to g i 2 j ≡ reach_with c L members i j
  all_three g i j lg li lj =
      let to = λ (h : ℕ) (lh : h < 3). roles_are c L members g h i j lg lh li lj in
      rw (to 0 (omega arith), to 1 (omega arith), to 2 (omega arith)) (by_layer g lg)
    where
      by_layer : (g : ℕ) → g < 3
          → let to = λ (h : ℕ). role_count L (by_layers c L members g h i j) in to 0 + to 1 + to 2 ≡ reach_with c L members i j
      by_layer g l = let e = role_count_none L in grind (arith, nat_tests)

  to_long : (g i h : ℕ) → length (to_layer c L members (individual_at c L members g i) h) ≡ 6 * summed m (reach_to g i h)
  to_long g i h = turn_long m 6 _ (reach_to g i h) (λ j lj. role_bytes_length L _ _ _)

  row_long : (g i : ℕ) → g < 3 → i < m → length (to_all c L members (individual_at c L members g i)) ≡ 6 * reach_of c L members i
  row_long g i lg li =
      let sum = summed_three m (reach_to g i 0) (reach_to g i 1) (reach_to g i 2) _ (λ j lj. all_three g i j lg li lj) in
      omega (arith, row_size, to_long, sum)

  layer_long : (g : ℕ) → g < 3 → length (from_layer c L members g) ≡ 6 * all_reach c L members
  layer_long g lg = turn_long m 6 _ (reach_of c L members) (λ i li. row_long g i lg li)

  pub file_length : (plain : Set) → length (layered_file c L members plain) ≡ 9 * m + 18 * all_reach c L members
  file_length plain =
      let to = λ (g : ℕ) (lg : g < 3). layer_long g lg in
      omega (arith, file_size, individuals_long m (plain_names c L members plain), to 0 (omega arith), to 1 (omega arith), to 2 (omega arith))

  pub reach_most : (i : ℕ) → reach_of c L members i ≤ m * (2 * L)
  reach_most i = summed_most m (2 * L) _ (λ j l. omega (arith, role_count_few L))

  all_most : all_reach c L members ≤ m * (m * (2 * L))
  all_most = summed_most m (m * (2 * L)) _ (λ i l. reach_most i)

  pub file_bound : (plain : Set) → length (layered_file c L members plain) ≤ 9 * m + 36 * L * (m * m)
  file_bound plain = omega (arith, file_length plain, all_most)

-- ---- counted in the code's struct

pub summed_next : (n : ℕ) (f : ℕ → ℕ) → summed (n + 1) f ≡ summed n f + f n
unfolding summed
summed_next n f = rw add-one refl

module _ (l : Layers) where
  abbrev with_member : ℕ → ℕ → ℕ
  with_member = reach_with l.size.parts l.size.roles l.members.now

  within : (b : Bool) (R n : ℕ) → R < n → cond b R 0 < n
  within true R n h = h
  within false R n h = omega arith

  -- the two numbers that are counted for one pair of members
  pub reach_found : (i j : ℕ) {r s n k : ℕ} → r ≡ roles_after l i j → s ≡ roles_before l i j
      → ((L : ℕ) → L ≤ 4 → r < 2 ^ (2 * L) → n ≡ role_count L r) → ((L : ℕ) → L ≤ 4 → s < 2 ^ (2 * L) → k ≡ role_count L s)
      → n + k ≡ with_member i j
  unfolding roles_of
  reach_found i j p q f g =
      let L = l.size.roles in
      let a = f L l.roles (rw p (within _ _ _ (mod-lt _ (pow_pos (2 * L))))) in
      let b = g L l.roles (rw q (within _ _ _ (inverse_lt L _))) in
      ap₂ ◌+◌ (rw p at a) (rw q at b)

  -- there are few: at most 341 members and 4 roles
  pub with_few : (i j : ℕ) → with_member i j ≤ 8
  with_few i j = omega (arith, l.roles, role_count_few l.size.roles)

  pub some_few : (i j : ℕ) → summed j (with_member i) ≤ j * 8
  some_few i j = summed_most j 8 _ (λ k h. with_few i k)

  pub reach_few : (i : ℕ) → reach l i ≤ 2728
  reach_few i = omega (arith, l.few, some_few i (count_of l))

  pub some_reach_few : (j : ℕ) → summed j (reach l) ≤ j * 2728
  some_reach_few j = summed_most j 2728 _ (λ k h. reach_few k)

  pub layer_few : layer_connections l ≤ 930248
  layer_few = omega (arith, l.few, some_reach_few (count_of l))
