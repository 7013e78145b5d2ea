use mathlib.Core.Path.{◌∙◌}
use native.Mathlib.Omega.{arith}
use Rattle.domino_conditions.specs.Tables.{view}
use Rattle.domino_conditions.proofs.Rows.{few_labels}
use Rattle.domino_labels.proofs.RowBits.{row_words}
use Rattle.domino_labels.proofs.fitting.Fitting.row.Goals as goal

pub filled-requires : goal.filled-requires
filled-requires c = let b = c.args.self.now.base.now in few_labels b.size.parts _ (omega (arith, b.size.within)) c.requires

pub invariant_of-result : goal.invariant_of-result
invariant_of-result c =
    let b = c.args.self.now.base.now in
    let t = c.args.self.now.tables in
    record {
      words = row_words (view b) (omega (arith, b.size.within)) c.args.label _ _ c.requires
          (c.from.ensures ∙ t.existentials) (c.from-2.ensures ∙ t.universals)
          _ (c.from-filled.ensures ∙ c.filled.ensures b c.args.self.now.filled c.requires) _ c.asks.ensures;
    }
