-- `bitset::runs::empty_words` meets its contract: the first words are 0, and the rest is as it was.
use Rattle.bitset.proofs.RunLaws.{emptied_front}
use Rattle.bitset.proofs.runs.empty_words.Goals as goal

pub returns : goal.returns
returns c = emptied_front _ _ _ c.requires (c.fill.ensures.after (λ y e. e))
