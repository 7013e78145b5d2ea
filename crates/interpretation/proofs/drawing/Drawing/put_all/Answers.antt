use mathlib.Core.Path.{sym}
use native.Mathlib.Omega.{arith}
use Rattle.bitset.proofs.Words.{are-by}
use Rattle.interpretation.specs.Drawings.{view_of, drawn}
use Rattle.interpretation.proofs.Putting.{rows_none, all_put}
use Rattle.interpretation.proofs.RowsOf.{counted}
use Rattle.interpretation.proofs.Pairs.{pair_none, pair_all}
use Rattle.interpretation.proofs.drawing.Drawing.put_all.Goals as goal

pub loop-start-init : goal.loop-start-init
loop-start-init c = let d = c.args.self.now in (omega arith, rows_none d _, sym (pair_none (view_of d) (drawn d)))

pub returns : goal.returns
returns c =
    let d = c.args.self.now in
    let i = c.loop-start.invariant in
    record {
      set =
          all_put d c.args.set.now _ _ _ _ _ c.requires.1 c.words_for.ensures c.clear_words.ensures i.1 (omega arith)
          (are-by c.args.set.now (λ i. grind arith));
      pair = pair_all (view_of d) (drawn d) _ _ (omega (arith, counted d)) i.2;
    }
