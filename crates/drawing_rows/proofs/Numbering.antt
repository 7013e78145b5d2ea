-- The connections of records without a fault are numbered: at most 1,024 individuals and 4 roles.
use mathlib.Core.Path.{◌≡◌}
use mathlib.Core.List.{List}
use Prim.Native.Nat.{ℕ, ◌≤◌}
use native.Mathlib.Omega.{arith}
use Rattle.bitset.specs.Bits.{Set}
use Rattle.drawings.specs.Entries.{Entry, first_fault, connections_of}
use Rattle.syntax.proofs.Promised.{all_more}
use Rattle.drawings.proofs.Faultless.{Within, individuals-few, connections-within}
use Rattle.drawing_rows.specs.Rows.{AllNumbered, Numbered}

pub all_numbered : (plain : Set) (roles : ℕ) (es : List Entry) → roles ≤ 4 → first_fault plain roles 0 es ≡ 0
    → AllNumbered (connections_of es)
all_numbered plain roles es h e =
    let few = individuals-few plain roles 0 es (omega arith) e in
    all_more (Within roles _) Numbered
    (λ c w. record { from = omega (arith, few, w.1); to = omega (arith, few, w.2); role = omega (arith, h, w.0) }) (connections_of es)
    (connections-within plain roles 0 es e)
