-- `filler_in_label` meets its contract. A label is a machine word, and has no part from 64 on.
use mathlib.Core.Path.{refl, sym, ap, ◌∙◌}
use Prim.Native.Nat.{ℕ, ◌%◌, ◌^◌, ◌<◌}
use native.Mathlib.Nat.{div-eq_of_lt, lt_of_lt_of_le}
use lib.Dec.{eqb}
use lib.Pow.{pow_mono}
use borrow.Author.Tests.{le-ltb}
use Rattle.bitset.specs.Bits.{bit}
use Rattle.domino_conditions.specs.Tables.{filler_in_label_lem}
use Rattle.domino_conditions.proofs.conditions.filler_in_label.Goals as goal

pub returns-in-Everything : goal.returns-in-Everything
unfolding filler_in_label_lem
returns-in-Everything c = rw c.in-Everything.is refl

pub returns-in-Nothing : goal.returns-in-Nothing
unfolding filler_in_label_lem
returns-in-Nothing c = rw c.in-Nothing.is

pub returns-then-k-lt64 : goal.returns-then-k-lt64
unfolding filler_in_label_lem
returns-then-k-lt64 c = rw c.in-Part.is (c.part_in_label.ensures ∙ ap (bit c.args.label) c.from.ensures)

pub returns-else-k-lt64 : goal.returns-else-k-lt64
unfolding filler_in_label_lem
returns-else-k-lt64 c =
    let below : c.args.label < 2 ^ c.in-Part.k = lt_of_lt_of_le c.ranges.label.fits (pow_mono {i = 64} {j = c.in-Part.k} c.if-k-lt64.false) in
    rw c.in-Part.is (le-ltb c.in-Part.k 64 c.if-k-lt64.false ∙ sym (ap (λ (x : ℕ). eqb (x % 2) 1) (div-eq_of_lt below)))
