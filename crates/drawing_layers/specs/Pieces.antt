-- The pieces of a drawing in three layers, in the order in which they are written: individuals by layer; connections by layer and
-- individual, to each layer. And how many connections there are.
use Rattle.std.specs.Prelude.{ℕ, zero, suc, ◌+◌, ◌*◌, ◌<◌, ◌≡◌, ◌&&◌, cond, List, eqb}
use Rattle.bitset.specs.Bits.{Set, bit, word}
use Rattle.semantics.specs.Dominoes.{inverse}
use Rattle.drawings.specs.Entries.{individual}
use Rattle.drawings.specs.Laid.{entry_bytes, in_turn}
use Rattle.drawings.specs.Layered.{count, left, roles, right, roles_from, layered_file}
use Rattle.drawing_layers.specs.Records.{role_bytes, role_count}
use Rattle.drawing_layers.specs.declared.layers.Sides.{Sides}
use Rattle.drawing_layers.specs.declared.layers.Individual.{Individual}
use Rattle.drawing_layers.specs.declared.layers.Layers.{Layers}

-- the sum of the first n values
unfoldable pub summed : ℕ → (ℕ → ℕ) → ℕ
summed zero f = 0
summed (suc n) f = summed n f + f n

-- ---- of c parts, L roles and the members of a set

module _ (c L : ℕ) (members : List ℕ) where
  -- individual i of layer g
  abbrev pub individual_at : ℕ → ℕ → ℕ
  individual_at g i = g * count c L members + i

  -- the role set from an individual of member i to one of member j, in the layer after its own, and in the layer before
  abbrev pub roles_forth : ℕ → ℕ → ℕ
  roles_forth i j = cond (eqb (right c L members i) (left c L members j)) (roles c L members j) 0

  abbrev pub roles_back : ℕ → ℕ → ℕ
  roles_back i j = cond (eqb (right c L members j) (left c L members i)) (inverse L (roles c L members i)) 0

  -- how many connections lead from an individual of member i to those of member j; to all; and from all individuals of a layer
  abbrev pub reach_with : ℕ → ℕ → ℕ
  reach_with i j = role_count L (roles_forth i j) + role_count L (roles_back i j)

  abbrev pub reach_of : ℕ → ℕ
  reach_of i = summed (count c L members) (reach_with i)

  abbrev pub all_reach : ℕ
  all_reach = summed (count c L members) reach_of

  -- the connections from x to individual j of layer h; to all of the layer; to all; and from all of layer g
  abbrev pub to_one : ℕ → ℕ → ℕ → List ℕ
  to_one x h j = role_bytes L x (individual_at h j) (roles_from c L members x (individual_at h j))

  abbrev pub to_layer : ℕ → ℕ → List ℕ
  to_layer x h = in_turn (count c L members) (to_one x h)

  abbrev pub to_all : ℕ → List ℕ
  to_all x = in_turn 3 (to_layer x)

  abbrev pub from_layer : ℕ → List ℕ
  from_layer g = in_turn (count c L members) (λ i. to_all (individual_at g i))

  -- `plain` says which parts are names or fresh names
  module _ (plain : Set) where
    -- the names of an individual of member i, and its record; those of a layer
    abbrev pub plain_names : ℕ → ℕ
    plain_names i = word c (λ k. plain k && bit (right c L members i) k)

    abbrev pub member_bytes : ℕ → List ℕ
    member_bytes i = entry_bytes (individual (plain_names i))

    abbrev pub layer_individuals : List ℕ
    layer_individuals = in_turn (count c L members) member_bytes

-- ---- in the code's struct

module _ (l : Layers) where
  abbrev c : ℕ
  c = l.size.parts

  abbrev L : ℕ
  L = l.size.roles

  abbrev pub count_of : ℕ
  count_of = count c L l.members.now

  abbrev pub left_at : ℕ → ℕ
  left_at = left c L l.members.now

  abbrev pub roles_in : ℕ → ℕ
  roles_in = roles c L l.members.now

  abbrev pub right_at : ℕ → ℕ
  right_at = right c L l.members.now

  abbrev pub number_of : ℕ → ℕ → ℕ
  number_of = individual_at c L l.members.now

  abbrev pub number_in : Individual → ℕ
  number_in x = number_of x.layer x.member

  abbrev pub IsIndividual : Individual → Type 0
  IsIndividual x = (x.layer < 3) × (x.member < count_of)

  -- what of member i decides the connections that begin at its individuals
  pub record SidesOf (i : ℕ) (e : Sides) : Type 0 where
    pub left : e.left ≡ left_at i
    pub right : e.right ≡ right_at i
    pub back : e.back ≡ inverse L (roles_in i)

  abbrev pub roles_after : ℕ → ℕ → ℕ
  roles_after = roles_forth c L l.members.now

  abbrev pub roles_before : ℕ → ℕ → ℕ
  roles_before = roles_back c L l.members.now

  abbrev pub reach : ℕ → ℕ
  reach = reach_of c L l.members.now

  abbrev pub layer_connections : ℕ
  layer_connections = all_reach c L l.members.now

  abbrev pub names_of_member : ℕ → ℕ
  names_of_member = plain_names c L l.members.now (bit l.plain)

  abbrev pub individual_bytes : ℕ → List ℕ
  individual_bytes i = entry_bytes (individual (names_of_member i))

  abbrev pub individuals_bytes : List ℕ
  individuals_bytes = layer_individuals c L l.members.now (bit l.plain)

  abbrev pub pair_bytes : ℕ → ℕ → ℕ → List ℕ
  pair_bytes = to_one c L l.members.now

  abbrev pub bytes_to : ℕ → ℕ → List ℕ
  bytes_to = to_layer c L l.members.now

  abbrev pub row_bytes : ℕ → List ℕ
  row_bytes = to_all c L l.members.now

  abbrev pub layer_bytes : ℕ → List ℕ
  layer_bytes = from_layer c L l.members.now

  -- all of it
  abbrev pub file_of : List ℕ
  file_of = layered_file c L l.members.now (bit l.plain)
