-- A role set is a remainder.
use native.Mathlib.Nat.{mod-lt}
use lib.Pow.{pow_pos}
use Rattle.semantics.specs.Dominoes.{roles_of}
use Rattle.drawing_layers.proofs.layers.Layers.sides.Goals as goal

pub inverse-requires : goal.inverse-requires
unfolding roles_of
inverse-requires c = (c.args.self.now.roles, rw c.roles.ensures (mod-lt _ (pow_pos _)))
