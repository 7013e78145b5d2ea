use borrow.Author.Rules.{rules}
use native.Mathlib.Omega.{arith}
use Rattle.bitset.proofs.Words.{are-by}
use Rattle.domino_conditions.specs.Tables.{view}
use Rattle.domino_conditions.proofs.Shifts.{words-few, trimmed}
use Rattle.domino_initial.proofs.Dropping.{kept_in}
use Rattle.domino_settling.proofs.Settled.{settles}
use Rattle.domino_settling.proofs.Sweeps.{swept_as}
use Rattle.domino_settling.proofs.settling.settle_set.Goals as goal

pub count-requires : goal.count-requires
count-requires c = (omega arith, omega (arith, words-few c.args.base.now.size.parts c.args.base.now.size.roles c.args.base.now.size.within))

pub returns : goal.returns
returns c = settles (view c.args.base.now) c.args.set.now _ _ _ _ _
    (are-by c.args.set.now (λ i. grind arith)) c.requires (trimmed _ _ _ _ _ c.domino_bits.ensures c.trim.ensures)
    (kept_in _ _ _ _ _ _ (search rules) c.drop_defective.ensures.kept) (swept_as _ _ _ _ (search rules) c.sweep_all.ensures.swept) c.words_for.ensures c.count.ensures
