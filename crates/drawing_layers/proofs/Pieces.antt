-- The file of three layers is its pieces: the role set between two individuals by their layers, and the records piece by piece.
use Prim.Native.Nat.{ℕ, ◌+◌, ◌*◌, ◌%◌, ◌≤◌, ◌<◌}
use native.Mathlib.Nat.{mul-le-mul_right}
use native.Mathlib.Omega.{arith}
use mathlib.Core.Path.{◌≡◌, refl, ap, ap₂, ◌∙◌}
use mathlib.Core.Bool.{Bool, ◌&&◌, cond}
use mathlib.Core.List.{List, [], ◌++◌, append-nil}
use lib.ListN.{length, length-append}
use lib.Arith.{digits_div, digits_mod}
use lib.Dec.{eqb}
use borrow.Author.Tests.{eq-eqb, ne_eqb}
use Rattle.std.proofs.lemmas.Bool.Decides.{nat_tests}
use Rattle.bitset.specs.Bits.{Set}
use Rattle.semantics.specs.Layers.{label_at, leads, roles_at}
use Rattle.drawings.specs.Laid.{laid, in_turn, individual_entries, connection_entries, drawn_entries}
use Rattle.drawings.specs.Layered.{count, left, right, roles_from, joined_in, names_in, layered_entries, layered_file}
use Rattle.drawings.proofs.InTurn.{laid_append, laid_turn, turn_same, turn_empty, turn_groups}
use Rattle.drawing_layers.specs.Records.{role_bytes}
use Rattle.drawing_layers.specs.declared.layers.Individual.{Individual}
use Rattle.drawing_layers.specs.declared.layers.Layers.{Layers}
use Rattle.drawing_layers.proofs.RoleRecords.{role_bytes_none}
use Rattle.drawing_layers.specs.Pieces.{individual_at, roles_forth, roles_back, to_layer, to_all, from_layer, layer_individuals}
use Rattle.drawing_layers.specs.Pieces.{count_of, number_of, number_in, IsIndividual, pair_bytes, bytes_to, roles_after, roles_before}

-- ---- the role set from individual i of layer g to individual j of layer h

module _ (c L : ℕ) (members : List ℕ) where
  abbrev m : ℕ
  m = count c L members

  -- none leads within a layer, and one of the two other layers is after it
  abbrev pub by_layers : ℕ → ℕ → ℕ → ℕ → ℕ
  by_layers g h i j = cond (eqb h g) 0 (cond (eqb ((g + 1) % 3) h) (roles_forth c L members i j) (roles_back c L members i j))

  leads_at : (g h i j : ℕ) → i < m → j < m → leads m (left c L members) (right c L members) (individual_at c L members g i) (individual_at c L members h j)
      ≡ (eqb ((g + 1) % 3) h && eqb (right c L members i) (left c L members j))
  unfolding leads
  leads_at g h i j li lj = rw (digits_div g li, digits_mod g li, digits_div h lj, digits_mod h lj) refl

  pub roles_are : (g h i j : ℕ) → g < 3 → h < 3 → i < m → j < m
      → roles_from c L members (individual_at c L members g i) (individual_at c L members h j) ≡ by_layers g h i j
  unfolding roles_at
  roles_are g h i j lg lh li lj =
      rw (leads_at g h i j li lj, leads_at h g j i lj li, digits_mod g li, digits_mod h lj) (by_case g h _ _ _ _ lg lh)
    where
      by_case : (g h : ℕ) (p q : Bool) (r s : ℕ) → g < 3 → h < 3
          → cond (eqb ((g + 1) % 3) h && p) r (cond (eqb ((h + 1) % 3) g && q) s 0)
          ≡ cond (eqb h g) 0 (cond (eqb ((g + 1) % 3) h) (cond p r 0) (cond q s 0))
      by_case g h p q r s lg lh = grind (arith, nat_tests)

  -- ---- the file

  pub row_size : (x : ℕ) → length (to_all c L members x)
      ≡ length (to_layer c L members x 0) + length (to_layer c L members x 1) + length (to_layer c L members x 2)
  unfolding in_turn
  row_size x = simp length-append (omega arith)

  connections_are : laid (connection_entries (3 * m) L (joined_in c L members)) ≡ in_turn 3 (from_layer c L members)
  unfolding connection_entries joined_in role_bytes
  connections_are =
      laid_turn (3 * m) _ ∙ turn_groups 3 m _ ∙ turn_same 3 _ _ (λ g lg. turn_same m _ _ (λ i li. laid_turn (3 * m) _ ∙ turn_groups 3 m _))

  module _ (plain : Set) where
    individuals_are : laid (individual_entries (3 * m) (names_in c L members plain)) ≡ in_turn 3 (λ g. layer_individuals c L members plain)
    unfolding individual_entries names_in label_at laid
    individuals_are =
        laid_turn (3 * m) _ ∙ turn_groups 3 m _
        ∙ turn_same 3 _ _ (λ g lg. turn_same m _ _ (λ i l. append-nil _ ∙ rw (digits_mod g l) refl))

    pub file_is : layered_file c L members plain ≡ in_turn 3 (λ g. layer_individuals c L members plain) ++ in_turn 3 (from_layer c L members)
    unfolding layered_file layered_entries drawn_entries
    file_is = laid_append _ _ ∙ ap₂ ◌++◌ individuals_are connections_are

    -- as long as its six pieces
    pub file_size : length (layered_file c L members plain)
        ≡ 3 * length (layer_individuals c L members plain)
        + (length (from_layer c L members 0) + length (from_layer c L members 1) + length (from_layer c L members 2))
    unfolding in_turn
    file_size = rw file_is (simp length-append (omega arith))

-- ---- in the code's struct

pub number_small : (l : Layers) {g i p : ℕ} → g < 3 → i < count_of l → p ≡ number_of l g 0 → p + i < 65536
number_small l {g = g} lg li e = let two : g ≤ 2 = omega arith in omega (arith, l.few, mul-le-mul_right (count_of l) two)

-- the role set to the layer after or to the layer before
abbrev pub Chosen : Layers → Bool → ℕ → ℕ → ℕ → Type 0
Chosen l b i j R = R ≡ cond b (roles_after l i j) (roles_before l i j)

module _ (l : Layers) (x : Individual) (w : IsIndividual l x) {h : ℕ} where
  -- its own layer
  pub to_own : h ≡ x.layer → bytes_to l (number_in l x) h ≡ []
  to_own e =
      turn_empty (count_of l) _ (λ j lj.
      let r = roles_are l.size.parts l.size.roles l.members.now x.layer h x.member j w.0 (rw e w.0) w.1 lj in
      ap (role_bytes l.size.roles _ _) (r ∙ rw (eq-eqb h x.layer e) refl) ∙ role_bytes_none l.size.roles _ _)

  -- another layer, by numbers made of those of the layers' first individuals
  pub to_other : {j p s R : ℕ} {b : Bool} → h < 3 → j < count_of l → p ≡ number_of l x.layer 0 → s ≡ number_of l h 0
      → b ≡ eqb ((x.layer + 1) % 3) h → (h ≡ x.layer → ⊥) → Chosen l b x.member j R
      → pair_bytes l (number_in l x) h j ≡ role_bytes l.size.roles (p + x.member) (s + j) R
  to_other {j = j} {p = p} {s = s} lh lj ep es eb n e =
      let u : p + x.member ≡ number_in l x = omega arith in
      let v : s + j ≡ number_of l h j = omega arith in
      let r = roles_are l.size.parts l.size.roles l.members.now x.layer h x.member j w.0 lh w.1 lj in
      rw (u, v, e, eb) (ap (role_bytes l.size.roles _ _) (r ∙ rw (ne_eqb h x.layer n) refl))
