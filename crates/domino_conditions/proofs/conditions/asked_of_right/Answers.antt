use Rattle.domino_conditions.proofs.Polarity.{asked_none, asked_on}
use Rattle.domino_conditions.proofs.conditions.asked_of_right.Goals as goal

pub returns-in_err-filler : goal.returns-in_err-filler
returns-in_err-filler c = rw c.from_residual.ensures (asked_none c.args.part.now c.args.quantifier c.args.a c.args.k c.args.r c.in_err-filler.ensures)

pub returns : goal.returns
returns c =
    asked_on c.args.part.now c.args.quantifier c.args.a c.args.k c.args.r c.in_ok-filler.filler _ _ _ c.in_ok-filler.ensures
    c.part_in_label.ensures c.as_wanted.ensures c.if-as_wanted.false c.member.ensures c.if-not-member.false
