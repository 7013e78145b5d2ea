-- So far the word of the parts that were met.
use Rattle.std.proofs.Common.{◌≡◌}
use Rattle.bitset.specs.Bits.{word}
use Rattle.domino_conditions.specs.Tables.{view}
use Rattle.domino_parts.specs.PartWords.{is_of_lem}
use Rattle.domino_parts.proofs.words.parts_of.Given as goal

abbrev pub invariant-loop-k : goal.invariant-loop-k
invariant-loop-k l = l.parts ≡ word l.k (λ k. is_of_lem l.fn.quantifier ((view l.base).kind k))
