use Rattle.domino_conditions.proofs.Polarity.{wanted_none, wanted_if}
use Rattle.domino_conditions.proofs.conditions.wanted_of_row.Goals as goal

pub returns-in_err-filler : goal.returns-in_err-filler
returns-in_err-filler c = rw c.from_residual.ensures (wanted_none c.args.part.now c.args.quantifier c.args.a c.args.k c.in_err-filler.ensures)

pub returns : goal.returns
returns c = rw c.then_some.ensures
    (wanted_if c.args.part.now c.args.quantifier c.args.a c.args.k _ _ c.in_ok-filler.ensures c.part_in_label.ensures _ c.as_wanted.ensures)
