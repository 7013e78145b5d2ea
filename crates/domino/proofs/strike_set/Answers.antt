use Rattle.domino.proofs.Striking.{strike-absent, strike-kept, strike_took}
use Rattle.domino.proofs.strike_set.Goals as goal

pub returns-then-not-member : goal.returns-then-not-member
returns-then-not-member c = strike-absent _ _ c.args.number _ c.member.ensures c.if-not-member.true

pub returns-in-Some : goal.returns-in-Some
returns-in-Some c =
    strike_took _ c.args.set.now c.args.number _ _ c.in-Some.condition c.requires.1
    c.member.ensures c.if-not-member.false c.in-Some.ensures c.clear.ensures

pub returns-in-None : goal.returns-in-None
returns-in-None c = strike-kept _ _ c.args.number _ c.member.ensures c.if-not-member.false c.in-None.ensures
