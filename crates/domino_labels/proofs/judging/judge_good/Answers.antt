-- `judge_good` meets its contract.
use borrow.Author.Rules.{rules}
use Rattle.domino_conditions.specs.Tables.{view}
use Rattle.domino_labels.proofs.Judged.{puts_canon}
use Rattle.domino_labels.proofs.judging.judge_good.Goals as goal

pub returns : goal.returns
returns c =
    puts_canon (view c.args.base.now) _ _ _ _ _ _ c.opening-opening.ensures c.thin_good.ensures c.put_all-survivors.ensures.added
    (search rules)
