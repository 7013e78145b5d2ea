use mathlib.Core.Path.{refl, sym, ◌∙◌}
use Rattle.bitset.specs.Bits.{look}
use Rattle.domino_labels.specs.Fittings.{row_view}
use Rattle.domino_labels.proofs.Serving.{supported_by}
use Rattle.domino_labels.proofs.fitting.Row.is_supported.Goals as goal

pub returns-then-witnessed : goal.returns-then-witnessed
returns-then-witnessed c =
    supported_by (row_view c.args.self.now) (look c.args.live.now) _ _ _ (sym c.if-witnessed.true ∙ c.witnessed.ensures)
    c.witnessed-then-witnessed.ensures

pub returns-else-witnessed : goal.returns-else-witnessed
returns-else-witnessed c =
    c.if-witnessed.false
    ∙ supported_by (row_view c.args.self.now) (look c.args.live.now) _ _ _ (sym c.if-witnessed.false ∙ c.witnessed.ensures) refl
