use Rattle.std.proofs.Common.{refl}
use Rattle.std.proofs.lemmas.Result.{err_from_is_err_and}
use Rattle.owl_import.specs.Grammar.{done}
use Rattle.owl_import.proofs.Stepping.{begun_stop, begun_then, reads_done, written}
use Rattle.owl_import.proofs.parser.Parser.leaf.Goals as goal

pub returns-in_err-begin-clause-reads : goal.returns-in_err-begin-clause-reads
returns-in_err-begin-clause-reads c =
    let p = err_from_is_err_and c.from_residual.result c.from_residual.ensures.1 in rw (p.1, p.2)
    (begun_stop _ _ _ _ _ _ _ _ c.in_err-begin.ensures.reads)

pub returns-clause-reads : goal.returns-clause-reads
returns-clause-reads c =
    let w = c.put.ensures in
    begun_then _ _ _ _ _ _ _ _ (λ room s. done (tt {0}) room s) c.in_ok-begin.ensures.reads
    (reads_done _ _ _ _ _ refl refl refl (written _ _ c.begin.new.self.sheet _ _ c.in_ok-begin.ensures.opens.sheet w.bytes w.count w.number))
