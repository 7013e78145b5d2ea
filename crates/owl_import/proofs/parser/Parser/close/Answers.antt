use Rattle.std.proofs.Common.{refl}
use Rattle.std.proofs.lemmas.Result.{err_from_is_err_and}
use Rattle.owl_import.proofs.Stepping.{reads_err, reads_ok, closing_reads, written}
use Rattle.owl_import.proofs.parser.Parser.close.Goals as goal

pub returns-in_err-expect-clause-reads : goal.returns-in_err-expect-clause-reads
returns-in_err-expect-clause-reads c =
    let p = err_from_is_err_and c.from_residual.result c.from_residual.ensures.1 in rw (p.1, p.2)
    (reads_err _ _ _ _ _ _ _ (closing_reads _ _ _ c.in_err-expect.ensures.reads))

pub returns-clause-reads : goal.returns-clause-reads
returns-clause-reads c =
    reads_ok _ _ _ _ _ _ _ _ (closing_reads _ _ _ c.in_ok-expect.ensures.reads) refl refl refl
    (λ _ same. let w = c.put.ensures in written _ _ c.expect.new.self.sheet _ _ same w.bytes w.count w.number)
