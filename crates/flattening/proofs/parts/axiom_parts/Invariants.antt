-- The invariant: the axioms of the records before i are gone through.
use Rattle.std.proofs.Common.{◌≡◌, ◌++◌}
use Rattle.flattening.specs.Origins.{parts_in}
use Rattle.flattening.proofs.QueueParts.{axioms_to}
use Rattle.flattening.proofs.parts.axiom_parts.Given as goal

abbrev pub invariant-loop-i : goal.invariant-loop-i
invariant-loop-i g l =
    parts_in l.table l.parts.items ≡ parts_in l.table l.initial.parts.items ++ axioms_to l.table l.i (parts_in l.table l.initial.parts.items)
