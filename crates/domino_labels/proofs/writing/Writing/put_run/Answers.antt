-- `put_run` meets its contract.
use mathlib.Core.Path.{refl}
use Rattle.domino_conditions.proofs.Rows.{run_part}
use Rattle.domino_initial.proofs.Dropping.{words_fit}
use Rattle.domino_labels.proofs.PutRuns.{puts_same, own_fit, own_roles, run_by_part, run_by_words}
use Rattle.domino_labels.proofs.writing.Writing.put_run.Goals as goal

pub put_part-requires : goal.put_part-requires
put_part-requires c =
    run_part _ _ _ _ (own_fit c.args.self.now c.args.row.now c.requires.0) c.args.r _ _ _
    (own_roles c.args.self.now c.args.row.now c.requires.0 c.args.r c.requires.1) c.if-size-lt6.true c.index-at.ensures c.labels.ensures refl

pub put_words-requires : goal.put_words-requires
put_words-requires c =
    words_fit _ _ _ _ c.args.r _ _ _ (own_fit c.args.self.now c.args.row.now c.requires.0)
    (own_roles c.args.self.now c.args.row.now c.requires.0 c.args.r c.requires.1) c.if-size-lt6.false c.index-at.ensures c.pow.ensures refl

pub returns-then-size-lt6 : goal.returns-then-size-lt6
returns-then-size-lt6 c =
    puts_same _ _ refl refl refl
    (run_by_part c.args.self.now c.args.row.now c.requires.0 c.args.r c.requires.1 _ c.fitting_both-mask.ensures _ c.index-at.ensures _ _ _ _
    c.if-size-lt6.true c.labels.ensures c.put_part.ensures)

pub returns-else-size-lt6 : goal.returns-else-size-lt6
returns-else-size-lt6 c =
    puts_same _ _ refl refl refl
    (run_by_words c.args.self.now c.args.row.now c.requires.0 c.args.r c.requires.1 _ c.fitting_both-mask.ensures _ c.index-at.ensures _ _ _ _
    c.if-size-lt6.false c.pow.ensures c.put_words.ensures)
