-- A label is one of c parts, and the roles between two individuals are a role set of L roles.
use Prim.Native.Nat.{ℕ, ◌*◌, ◌^◌, ◌<◌}
use Rattle.bitset.proofs.Laws.{word_lt}
use Rattle.semantics.specs.Conditions.{View}
use Rattle.semantics.proofs.Projecting.{role_lt}
use Rattle.drawings.specs.Entries.{Drawing}
use Rattle.drawings.specs.Checking.{connects, roles_between, has_part, label}

module _ (v : View) (d : Drawing) where
  pub label_lt : (x : ℕ) → label v d x < 2 ^ v.parts
  unfolding label
  label_lt x = word_lt v.parts (has_part v d x)

  pub roles_lt : (x y : ℕ) → roles_between v d x y < 2 ^ (2 * v.roles)
  unfolding roles_between
  roles_lt x y = role_lt (connects d.connections) x y v.roles
