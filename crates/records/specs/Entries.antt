-- A record as the definitions see it.
use Rattle.std.specs.Prelude.{ℕ, Bool}

-- its kind, its two body bytes (0 where there is none), whether a later record names it, whether it is a role that holds on the
-- empty role set, its sort (1 concept, 2 role, 3 axiom), and whether it is a leaf
pub record Entry : Type 0 where
  pub kind : ℕ
  pub first : ℕ
  pub second : ℕ
  pub named : Bool
  pub vacuous : Bool
  pub sort : ℕ
  pub leaf : Bool
