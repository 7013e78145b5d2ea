-- The dominoes of an interpretation (002, Definition 3).
use Rattle.std.specs.Prelude.{ℕ, ◌*◌, ◌/◌, ◌%◌, Bool, false, not, ◌&&◌, ◌||◌, cond, length, eqb}
use Rattle.bitset.specs.Bits.{word}
use Rattle.elimination.specs.Sets.{every, some}
use Rattle.syntax.specs.Flatten.{Part, name_p, fresh_p, exists_p, forall_p, part_at}
use Rattle.syntax.specs.Reading.{Kb, parts_of}
use Rattle.semantics.specs.Interpretations.{Interpretation, role_in, holds_nf}
use Rattle.semantics.specs.Dominoes.{Dominoes}
use Rattle.semantics.specs.Views.{filler_in}

-- a filler's part at an individual: "a fresh trait holds of an item where its filler does"
unfoldable pub plain_at : Interpretation → Part → ℕ → Bool
plain_at I (name_p t) y = I.has y t
plain_at I (fresh_p g c) y = holds_nf I c y
plain_at I (exists_p g u f) y = false
plain_at I (forall_p g u f) y = false

-- a part at an individual, where part k is m k
unfoldable pub read_part : Interpretation → (ℕ → Part) → Part → ℕ → Bool
read_part I m (name_p t) x = I.has x t
read_part I m (fresh_p g c) x = holds_nf I c x
read_part I m (exists_p g u f) x = some I.individuals (λ y. role_in I.joined u x y && filler_in f (λ k. plain_at I (m k) y))
read_part I m (forall_p g u f) x = every I.individuals (λ y. not (role_in I.joined u x y) || filler_in f (λ k. plain_at I (m k) y))

unfoldable pub parts_in : Interpretation → (ℕ → Part) → ℕ → ℕ → Bool
parts_in I m x k = read_part I m (m k) x

-- the roles from x to y: bit 2k is role k, bit 2k + 1 its inverse
unfoldable pub role_bit : (ℕ → ℕ → ℕ → Bool) → ℕ → ℕ → ℕ → Bool
role_bit J x y b = cond (eqb (b % 2) 0) (J (b / 2) x y) (J (b / 2) y x)

unfoldable pub role_set : ℕ → (ℕ → ℕ → ℕ → Bool) → ℕ → ℕ → ℕ
role_set L J x y = word (2 * L) (role_bit J x y)

-- "It has a pairing for every ordered pair of items, an item with itself included": for L roles, c parts, and the parts that
-- each individual has
unfoldable pub projection_of : Interpretation → ℕ → ℕ → (ℕ → ℕ → Bool) → Dominoes
projection_of I L c lab A R B =
    some I.individuals (λ x. some I.individuals (λ y.
    eqb A (word c (lab x)) && (eqb R (role_set L I.joined x y) && eqb B (word c (lab y)))))

-- 002, Definition 3: the domino projection of an interpretation, for a knowledge base
unfoldable pub projection : Interpretation → Kb → Dominoes
projection I k = projection_of I k.roles (length (parts_of k)) (parts_in I (part_at (parts_of k)))
