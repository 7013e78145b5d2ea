-- `put_words` meets its contract.
use native.Mathlib.Nat.{add-zero}
use native.Mathlib.Omega.{arith}
use Rattle.bitset.proofs.AddedLaws.{added_none}
use Rattle.domino_labels.proofs.PutRuns.{put_le, ones_both, word_put, word_skipped}
use Rattle.domino_labels.proofs.writing.put_words.Goals as goal
use Rattle.domino_labels.proofs.writing.put_words.Goals.{then-allows, else-allows}

pub loop-i-init : goal.loop-i-init
loop-i-init c = rw (add-zero c.args.start) (added_none _ _ _)

pub overflow_add-total : goal.overflow_add-total
overflow_add-total c =
    let m = put_le _ _ _ _ _ _ c.loop-i.invariant in
    omega (arith, ones_both c.low_word-low.result _ (c.fits-live c.loop-i.i))

pub loop-i-preserved : goal.loop-i-preserved
loop-i-preserved c =
    elim c.if-allows.branch [
      | then-allows w ↦ word_put _ _ _ _ _ _ _ c.loop-i.invariant _ c.high-above.ensures _ c.allows.ensures _ w.if-allows.true
          c.low_word-low.ensures (c.fits-live c.loop-i.i) (omega (arith, c.loop-i.invariant.long)) _ _ _ w.set-is w.from-total.ensures
          w.total-is
      | else-allows w ↦ word_skipped _ _ _ _ _ _ _ c.loop-i.invariant _ c.high-above.ensures _ c.allows.ensures w.if-allows.false _ _
          w.set-is w.total-is
    ]
