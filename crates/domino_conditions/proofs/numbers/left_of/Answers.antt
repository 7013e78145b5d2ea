use mathlib.Core.Path.{ap}
use Prim.Native.Nat.{ℕ, ◌+◌, ◌/◌, ◌^◌}
use Rattle.semantics.specs.Dominoes.{left_of}
use Rattle.domino_conditions.proofs.Rows.{twice}
use Rattle.domino_conditions.proofs.numbers.left_of.Goals as goal

pub returns : goal.returns
unfolding left_of
returns c = ap (λ (x : ℕ). c.args.n / 2 ^ (x + c.args.size.parts)) (twice c.args.size.roles)
