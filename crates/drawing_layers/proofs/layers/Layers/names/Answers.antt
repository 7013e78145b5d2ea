-- The right label has at most twelve bits, of which those of the plain parts are kept.
use Prim.Native.Nat.{ℕ, ◌^◌, ◌≤◌, ◌<◌}
use native.Mathlib.Nat.{mod-lt}
use native.Mathlib.Omega.{arith}
use mathlib.Core.Path.{◌≡◌, sym, ◌∙◌}
use mathlib.Core.Bool.{◌&&◌, and_comm}
use lib.Pow.{pow_pos}
use Rattle.std.specs.Int.Bits.{bit_and}
use Rattle.std.proofs.lemmas.Nat.{and_le_l}
use Rattle.bitset.specs.Bits.{bit, word}
use Rattle.bitset.proofs.Laws.{word_bits, word_ext, bit_and_lem}
use Rattle.domino_conditions.proofs.Rows.{few_labels}
use Rattle.semantics.specs.Dominoes.{right_of_lem}
use Rattle.drawing_layers.proofs.layers.Layers.names.Goals as goal

label_lt : (c n : ℕ) → right_of_lem c n < 2 ^ c
unfolding right_of_lem
label_lt c n = mod-lt n (pow_pos c)

label_fits : (c n : ℕ) → c ≤ 12 → right_of_lem c n < 4096
label_fits c n h = few_labels c (right_of_lem c n) h (label_lt c n)

kept : (c b plain : ℕ) → b < 2 ^ c → bit_and b plain ≡ word c (λ k. bit plain k && bit b k)
kept c b plain h =
    sym (word_bits c (bit_and b plain) (omega (arith, and_le_l b plain)))
    ∙ word_ext c _ _ (λ k l. bit_and_lem b plain k ∙ and_comm (bit b k) (bit plain k))

pub overflow_cast-result : goal.overflow_cast-result
overflow_cast-result c = omega (arith, c.right.ensures, label_fits)

pub returns : goal.returns
returns c = rw c.right.ensures (kept _ _ _ (label_lt _ _))
