-- The invariant: the bytes of the parts before i are written, the rest is kept.
use Rattle.std.proofs.Common.{◌≡◌, ◌*◌, ◌++◌, take, drop}
use Rattle.std.specs.List.{flat_map}
use Rattle.flattening.specs.Origins.{slot_bytes}
use Rattle.tbox.proofs.write_parts.Given as goal

abbrev pub invariant-loop-i : goal.invariant-loop-i
invariant-loop-i l = l.list ≡ flat_map slot_bytes (take l.i l.parts) ++ drop (3 * l.i) l.initial.list
