-- The invariant: the parts are the first i names.
use Rattle.std.proofs.Common.{◌≡◌, ◌≤◌, List, length}
use Rattle.records.specs.Entries.{Entry}
use Rattle.syntax.specs.Flatten.{name_parts_lem}
use Rattle.flattening.specs.Origins.{parts_in}
use Rattle.flattening.proofs.parts.name_parts.Given as goal

abbrev pub invariant-loop-i : goal.invariant-loop-i
invariant-loop-i g l = record {
  size : length l.parts.items ≡ l.i;
  room : l.i ≤ g.row.N;
  names : (es : List Entry) → parts_in es l.parts.items ≡ name_parts_lem l.i;
}
