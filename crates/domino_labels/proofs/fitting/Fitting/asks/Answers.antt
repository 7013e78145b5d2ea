use mathlib.Core.Path.{◌∙◌}
use native.Mathlib.Omega.{arith}
use Rattle.domino_conditions.specs.Tables.{view}
use Rattle.domino_labels.proofs.RowBits.{asking_word}
use Rattle.domino_labels.proofs.fitting.Fitting.asks.Goals as goal

pub returns : goal.returns
returns c =
    let b = c.args.self.now.base.now in
    let t = c.args.self.now.tables in
    asking_word (view b) (omega (arith, b.size.within)) c.args.label _ _ c.requires
    (c.from-existentials.ensures ∙ t.existentials) (c.from-universals.ensures ∙ t.universals)
