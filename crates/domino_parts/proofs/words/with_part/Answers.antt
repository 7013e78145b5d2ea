use mathlib.Core.Path.{sym, ◌∙◌}
use Rattle.domino_parts.proofs.WordsByPart.{word_on, word_off}
use Rattle.domino_parts.proofs.words.with_part.Goals as goal

pub returns-then-on : goal.returns-then-on
returns-then-on c D e f = word_on c.args.k c.args.parts D e c.pow.result c.pow.ensures (sym f ∙ c.if-on.true)

pub returns-else-on : goal.returns-else-on
returns-else-on c D e f = word_off c.args.k c.args.parts D e (sym f ∙ c.if-on.false)
