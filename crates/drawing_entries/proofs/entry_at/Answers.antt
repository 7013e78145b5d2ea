use Rattle.std.proofs.Common.{sym, arith}
use Rattle.drawings.proofs.EntryLaws.{individual_at, connection_at, unreadable_at}
use Rattle.drawing_entries.proofs.entry_at.Goals as goal

pub returns-in-64 : goal.returns-in-64
returns-in-64 c = rw c.two_bytes.ensures (sym (individual_at c.args.file.now c.args.at c.in-64.is (omega arith)))

pub returns-in-65 : goal.returns-in-65
returns-in-65 c =
    rw (c.from.ensures, c.two_bytes-in-65.ensures, c.from-in-65.ensures, c.two_bytes-in-65-2.ensures, c.from-in-65-2.ensures)
    (sym (connection_at c.args.file.now c.args.at c.in-65.is (omega arith)))

pub returns-in_default : goal.returns-in_default
returns-in_default c =
    sym (unreadable_at c.args.file.now c.args.at (λ k. omega arith) (λ k. omega (arith, k, c.in-64.is)))

pub returns-in_default-2 : goal.returns-in_default-2
returns-in_default-2 c =
    sym (unreadable_at c.args.file.now c.args.at (λ k. omega (arith, k, c.in-65.is)) (λ k. omega arith))

pub returns-in_default-3 : goal.returns-in_default-3
returns-in_default-3 c =
    sym (unreadable_at c.args.file.now c.args.at (λ k. omega (arith, k)) (λ k. omega (arith, k)))
