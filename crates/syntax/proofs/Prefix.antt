-- The first 766 bytes of a sheet decide how it is read: a sheet that long is refused, and by those bytes.
use Prim.Native.Nat.{ℕ, ◌≤◌}
use mathlib.Core.Path.{◌≡◌, ap}
use mathlib.Core.List.{List}
use lib.ListN.{length, take}
use Rattle.records.proofs.Prefix.{long-faulty, scan_front}
use Rattle.syntax.specs.Reading.{refusal, reading, read_kb}

-- "a sheet that long always holds a fault by then"
pub long-refused : (limit : ℕ) (sheet : List ℕ) → 766 ≤ length sheet → (n : ℕ) × (p : ℕ) × (read_kb limit sheet ≡ refusal n p)
unfolding read_kb reading
long-refused limit sheet long = let w = long-faulty sheet long in (w.0, w.1, ap (reading limit) w.2)

-- its first 766 bytes decide
pub read_front : (limit : ℕ) (sheet : List ℕ) → read_kb limit (take 766 sheet) ≡ read_kb limit sheet
unfolding read_kb
read_front limit sheet = ap (reading limit) (scan_front sheet)
