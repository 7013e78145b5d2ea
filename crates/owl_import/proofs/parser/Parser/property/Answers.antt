use Rattle.std.proofs.Common.{refl}
use Rattle.owl_import.specs.Grammar.{property_by}
use Rattle.owl_import.proofs.Stepping.{next_then, next_wrong, property_other, reads_done}
use Rattle.owl_import.proofs.parser.Parser.property.Goals as goal

pub returns-in-PropertyNamed-clause-reads : goal.returns-in-PropertyNamed-clause-reads
unfolding property_by
returns-in-PropertyNamed-clause-reads c =
    next_then _ _ _ c.next-word.ensures _ property_by _ _ _ c.in-PropertyNamed.is (reads_done _ _ _ _ _ refl refl refl (refl, c.next-word.ensures.sheet))

pub returns-in_default-clause-reads : goal.returns-in_default-clause-reads
returns-in_default-clause-reads c =
    next_then _ _ _ c.next-word.ensures _ property_by c.next-word.result.0 _ _ refl
    (rw (property_other _ c.next-word.result.0 _ c.in_default.not-PropertyNamed) (next_wrong _ _ _ c.next-word.ensures _ _ _ c.wrong.ensures))
