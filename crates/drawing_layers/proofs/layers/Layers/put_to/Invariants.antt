-- Those to the individuals of the first j members are put; `after` says whether they are of the layer after.
use Rattle.std.proofs.Common.{◌≡◌, ◌+◌, ◌%◌, eqb}
use Rattle.output.specs.Output.{Puts}
use Rattle.drawings.specs.Laid.{in_turn}
use Rattle.drawing_layers.specs.Pieces.{number_in, pair_bytes}
use Rattle.drawing_layers.proofs.layers.Layers.put_to.Given as goal

abbrev pub invariant-loop-j : goal.invariant-loop-j
invariant-loop-j l = record {
  put : Puts (in_turn l.j (pair_bytes l.self (number_in l.self l.fn.from) l.layer)) l.fn.at l.fn.out l.out l.at;
  side : l.after ≡ eqb ((l.fn.from.layer + 1) % 3) l.layer;
}
