-- `judge_set` meets its contract.
use native.Mathlib.Omega.{arith}
use Rattle.bitset.proofs.RunLaws.{trim_words}
use Rattle.bitset.proofs.Words.{are-by}
use Rattle.domino_conditions.specs.Tables.{view}
use Rattle.domino_labels.proofs.Judged.{judges, puts_none, labels_room}
use Rattle.domino_labels.proofs.judging.judge_set.Goals as goal

pub whole_words_empty-requires : goal.whole_words_empty-requires
whole_words_empty-requires c =
    let b = c.args.base.now in
    let t = trim_words b.size.parts (omega (arith, b.size.within)) in
    (omega (arith, c.words_for-2.ensures, t), omega (arith, c.words_for-2.ensures, t))

pub returns-then-whole_words_empty : goal.returns-then-whole_words_empty
returns-then-whole_words_empty c =
    let b = c.args.base.now in
    judges (view b) _ _ _ _ _ c.words_for.ensures c.requires (are-by c.args.set.now (λ i. grind arith)) c.empty_words.ensures
    (puts_none (view b) _ _ c.good_labels-live.ensures (c.whole_words_empty.ensures c.if-whole_words_empty.true)
    (labels_room b.size.parts _ (omega (arith, b.size.within)) c.words_for-2.ensures) _)

pub returns : goal.returns
returns c =
    judges (view c.args.base.now) _ _ _ _ _ c.words_for.ensures c.requires (are-by c.args.set.now (λ i. grind arith)) c.empty_words.ensures
    c.judge_good.ensures
