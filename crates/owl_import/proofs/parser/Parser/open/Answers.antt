use Rattle.std.proofs.lemmas.Result.{err_from_is_err_and}
use Rattle.owl_import.specs.Grammar.{opening}
use Rattle.owl_import.proofs.Stepping.{begun_stop, begun_then, opening_reads, reads_more}
use Rattle.owl_import.proofs.parser.Parser.open.Goals as goal

pub returns-in_err-begin-clause-reads : goal.returns-in_err-begin-clause-reads
returns-in_err-begin-clause-reads c =
    let p = err_from_is_err_and c.from_residual.result c.from_residual.ensures.1 in rw (p.1, p.2)
    (begun_stop _ _ _ _ _ _ _ _ c.in_err-begin.ensures.reads)

pub returns-clause-reads : goal.returns-clause-reads
returns-clause-reads c =
    begun_then _ _ _ _ _ _ _ _ opening c.in_ok-begin.ensures.reads
    (reads_more _ _ _ _ _ _ (opening_reads _ _ _ c.expect.ensures.reads) (λ _ _ _. tt))
