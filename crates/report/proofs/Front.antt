-- What the evening program does not read says nothing.
use Prim.Native.Nat.{ℕ}
use mathlib.Core.Path.{◌≡◌}
use mathlib.Core.List.{List}
use lib.ListN.{take}
use Rattle.syntax.proofs.Prefix.{read_front}
use Rattle.report.specs.Lines.{printed}

-- it reads no more than 766 bytes, and prints the lines of the whole input
pub printed_front : (input : List ℕ) → printed (take 766 input) ≡ printed input
unfolding printed
printed_front input = rw read_front
