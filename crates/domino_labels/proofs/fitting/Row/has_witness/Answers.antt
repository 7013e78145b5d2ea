-- No role set before r, and no word before w of the labels in the run r, gives a witness.
use mathlib.Core.Path.{refl, sym, ◌∙◌}
use native.Mathlib.Omega.{arith}
use Rattle.elimination.proofs.Quantifiers.{some-none, some_more}
use Rattle.domino_labels.proofs.Serving.{words_few, run_off, run_none, run_hit, found_none, found_hit, found_never}
use Rattle.domino_labels.proofs.fitting.Row.has_witness.Goals as goal
use Rattle.domino_labels.proofs.fitting.Row.has_witness.Goals.{then-may_serve+else-loop-w-test, else-may_serve}

pub search-init : goal.search-init
search-init c = (refl, some-none _)

pub loop-w-init : goal.loop-w-init
loop-w-init c = (c.search.invariant.0, some-none _)

pub any_live-requires : goal.any_live-requires
any_live-requires c =
    words_few _ _ _ (omega (arith, c.args.self.now.fitting.now.base.now.size.within)) c.words_for-words.ensures c.loop-w-test.true

pub loop-w-preserved : goal.loop-w-preserved
loop-w-preserved c = (c.loop-w.invariant.0, some_more _ _ c.loop-w.invariant.1 (sym c.any_live.ensures ∙ c.if-any_live.false))

pub search-preserved : goal.search-preserved
search-preserved c = (
  elim c.if-may_serve.branch [
    | then-may_serve+else-loop-w-test w ↦ w.found-is ∙ w.loop-w.invariant.0
    | else-may_serve w ↦ w.found-is ∙ c.search.invariant.0
  ],
  some_more _ _ c.search.invariant.1
      (elim c.if-may_serve.branch [
        | then-may_serve+else-loop-w-test w ↦ run_none _ _ _ _ _ c.requires _ _ _ _ _ _ _ w.fitting_both.ensures c.sought-wanted.ensures
            w.and-mask.ensures w.low_word-low.ensures w.high-above.ensures c.words_for-words.ensures
            _ w.loop-w.auto.w-end w.loop-w-test.false w.loop-w.invariant.1
        | else-may_serve w ↦ run_off _ _ _ _ _ _ _ (omega (arith, c.role_sets-r-end.ensures, c.search-test.true)) c.may_serve.ensures
            w.if-may_serve.false
      ]),
)

pub returns-after-search : goal.returns-after-search
returns-after-search c =
    c.search.invariant.0
    ∙ found_none c.args.self.now _ _ _ _ _ _ c.role_sets-r-end.ensures c.search.auto.r-end c.search-test.false c.search.invariant.1

pub returns-then-any_live : goal.returns-then-any_live
returns-then-any_live c =
    found_hit c.args.self.now _ _ _ _ _ _ c.role_sets-r-end.ensures c.search-test.true
    (run_hit _ _ _ _ _ c.requires _ _ _ _ _ _ _ c.fitting_both.ensures c.sought-wanted.ensures c.and-mask.ensures c.low_word-low.ensures
    c.high-above.ensures c.words_for-words.ensures _ _ _ c.loop-w-test.true c.any_live.ensures c.if-any_live.true c.may_serve.ensures
    c.if-may_serve.true)

pub returns-then-wanted-ge4096 : goal.returns-then-wanted-ge4096
returns-then-wanted-ge4096 c = found_never c.args.self.now _ _ _ _ _ c.sought-wanted.ensures c.if-wanted-ge4096.true
