use Rattle.std.proofs.Common.{◌∙◌}
use Rattle.owl_words.proofs.Tokening.{in_table}
use Rattle.owl_words.proofs.known_word.Goals as goal

pub returns : goal.returns
returns c = c.lookup.ensures ∙ in_table _
