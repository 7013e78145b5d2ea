-- `bitset::insert` meets its contract: one word changes, by a mask.
use mathlib.Core.Path.{ap, ◌∙◌}
use Prim.Native.Nat.{ℕ, ◌/◌, ◌%◌, ◌<◌}
use native.Mathlib.Omega.{arith}
use lib.ListN.{get_or, set}
use lib.Bits.{bit_or}
use Rattle.bitset.specs.Bits.{inserted}
use Rattle.bitset.proofs.Words.{shl_one, word_insert}
use Rattle.bitset.proofs.insert.Goals as goal

pub returns : goal.returns
unfolding inserted
returns c = let n = c.args.n in
    let s = c.args.set.now in
    let w = get_or s (n / 64) 0 in
    let l : n % 64 < 64 = omega arith in
    ap (λ (v : ℕ). set s (n / 64) v)
    (ap (λ (m : ℕ). bit_or w m) (shl_one (n % 64) l)
    ∙ word_insert 64 w (n % 64) (omega arith) l)
