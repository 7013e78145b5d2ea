use Rattle.owl_import.proofs.Stepping.{leaves, role_named, inverse_open, inverse_stop, inverse_done, role_wrong}
use Rattle.owl_import.proofs.parser.Parser.role.Goals as goal

pub returns-in-PropertyNamed-clause-reads : goal.returns-in-PropertyNamed-clause-reads
returns-in-PropertyNamed-clause-reads c = role_named _ _ _ c.next-word.ensures _ _ c.in-PropertyNamed.n c.in-PropertyNamed.is c.leaf.ensures.reads

pub returns-in_err-open-in-InverseOf-clause-reads : goal.returns-in_err-open-in-InverseOf-clause-reads
returns-in_err-open-in-InverseOf-clause-reads c =
    rw (leaves _ _ c.from_residual.ensures.1) (inverse_open _ _ _ c.next-word.ensures c.in-InverseOf.is _ _ _ c.in_err-open-in-InverseOf.ensures.reads)

pub returns-in_err-n-in-InverseOf-clause-reads : goal.returns-in_err-n-in-InverseOf-clause-reads
returns-in_err-n-in-InverseOf-clause-reads c =
    let o = c.in_ok-open-in-InverseOf.ensures in
    rw (leaves _ _ c.from_residual-in_err-n-in-InverseOf.ensures.1) (inverse_stop _ _ _ c.next-word.ensures c.in-InverseOf.is _ _ o.reads o.opens _ _ _ c.in_err-n-in-InverseOf.ensures.reads)

pub returns-in_ok-n-in-InverseOf-clause-reads : goal.returns-in_ok-n-in-InverseOf-clause-reads
returns-in_ok-n-in-InverseOf-clause-reads c =
    let o = c.in_ok-open-in-InverseOf.ensures in
    inverse_done _ _ _ c.next-word.ensures c.in-InverseOf.is _ _ o.reads o.opens _ _ _ _ c.in_ok-n-in-InverseOf.ensures.reads c.close.ensures.reads

pub returns-in_default-clause-reads : goal.returns-in_default-clause-reads
returns-in_default-clause-reads c = role_wrong _ _ _ c.next-word.ensures _ _ c.wrong.ensures c.in_default.not-PropertyNamed c.in_default.not-InverseOf
