use Rattle.semantics.proofs.Numbers.{inverse_lt, inverse_twice}
use Rattle.domino_settling.proofs.matching.Run.new.Goals as goal

pub invariant_of-result : goal.invariant_of-result
invariant_of-result c = record {
  few = c.requires.0;
  label = c.requires.1;
  converse = rw c.inverse.ensures (inverse_lt c.args.size.roles c.args.r);
  first = rw (c.index.ensures, c.inverse.ensures, inverse_twice c.args.size.roles c.args.r c.requires.2);
}
