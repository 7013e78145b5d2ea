use borrow.Author.Rules.{rules}
use Rattle.domino_labels.specs.Fittings.{view_of}
use Rattle.domino_labels.proofs.ThinnedLaws.{rested_canon}
use Rattle.domino_labels.proofs.live.thin_good.Goals as goal

pub invariant_of-thin_all : goal.invariant_of-thin_all
invariant_of-thin_all c = record { inside = c.requires.inside }

pub returns : goal.returns
returns c = rested_canon (view_of c.args.fitting.now) _ _ _ c.requires (search rules) c.thin_all.ensures.rested
