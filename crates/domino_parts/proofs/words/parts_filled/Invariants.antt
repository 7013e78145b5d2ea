-- So far the word of the parts that were met.
use Rattle.std.proofs.Common.{◌≡◌}
use Rattle.bitset.specs.Bits.{word}
use Rattle.domino_conditions.specs.Tables.{view}
use Rattle.domino_parts.proofs.words.parts_filled.Given as goal

abbrev pub invariant-loop-k : goal.invariant-loop-k
invariant-loop-k l = l.parts ≡ word l.k (λ k. (view l.base).has k l.label)
