use Rattle.std.proofs.Common.{sym, ◌∙◌}
use Rattle.records.proofs.Entries.{entries-named, entries-past}
use Rattle.records.proofs.Faults.{name-none, name-past, name-at}
use Rattle.records.proofs.Telling.{wanted_none, wanted_some}
use Rattle.records.proofs.table.Table.name.Goals as goal

pub returns-then-is_none : goal.returns-then-is_none
returns-then-is_none c = sym (name-none _ _ _ (wanted_none _ c.if-is_none.ensures))

pub returns-then-i-len : goal.returns-then-i-len
returns-then-i-len c =
    entries-named _ _ _ _ _ _ _ c.self.view_is c.deref_mut.ensures.value c.from-i.ensures c.if-i-len.true c.len.ensures.value
    ∙ name-at _ _ _ (wanted_some _ c.if-is_none.ensures)

pub returns-else-i-len : goal.returns-else-i-len
returns-else-i-len c =
    sym (name-past _ _ _ (entries-past _ _ _ _ _ c.self.view_is c.from-i.ensures c.if-i-len.false c.len.ensures.value))
