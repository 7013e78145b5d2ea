use mathlib.Core.Path.{refl, sym as flip, ◌∙◌}
use native.Mathlib.Omega.{arith}
use Rattle.domino_conditions.specs.Tables.{view}
use Rattle.domino_conditions.proofs.Rows.{size_as, few_labels, row_fit, row_fits}
use Rattle.domino_settling.proofs.Sweeps.{fails-number, sweep_bad, sweep_idle, sweep_clear, sweep_match, same-set, still_opened}
use Rattle.domino_settling.proofs.settling.Sweep.sweep_row.Goals as goal

pub is_good-requires : goal.is_good-requires
is_good-requires c = few_labels c.args.self.now.base.now.size.parts _ (omega arith) c.requires

pub returns-then-not-is_good : goal.returns-then-not-is_good
returns-then-not-is_good c = same-set _ _ refl refl (sweep_bad _ _ c.requires _ c.args.self.now.opened (flip c.is_good.ensures ∙ c.if-not-is_good.true))

pub whole_words_empty-requires : goal.whole_words_empty-requires
whole_words_empty-requires c = row_fits _ _ _ _ (row_fit c.args.self.now.base.now _ _ (record { label = c.requires; room = c.args.self.now.room })) _ _ _ c.index-at.ensures (size_as _ _ _ c.row_size-count.ensures) refl

pub returns-then-whole_words_empty : goal.returns-then-whole_words_empty
returns-then-whole_words_empty c = same-set _ _ refl refl (sweep_idle _ _ c.requires _ _ _ c.index-at.ensures c.row_size-count.ensures
    (c.whole_words_empty.ensures c.if-whole_words_empty.true))

pub clear_run-requires : goal.clear_run-requires
clear_run-requires c = row_fits _ _ _ _ (row_fit c.args.self.now.base.now _ _ (record { label = c.requires; room = c.args.self.now.room })) _ _ _ c.index-at.ensures (size_as _ _ _ c.row_size-count.ensures) refl

pub returns-in-None : goal.returns-in-None
returns-in-None c = same-set _ _ refl refl (sweep_match _ _ c.requires _ _ _ (flip c.in-None.ensures) c.args.self.now.opened (c.match_row.ensures _ refl refl))

pub returns-in-Some : goal.returns-in-Some
returns-in-Some c = same-set _ _ refl refl (sweep_clear _ _ c.requires _ _ _ _ _ (fails-number _ _ c.in-Some.ensures)
    c.index-at.ensures c.row_size-count.ensures c.clear_run.ensures)

pub invariant_of-self-in-None : goal.invariant_of-self-in-None
invariant_of-self-in-None c = record {
  room = omega (arith, c.match_row.auto.set, c.args.self.now.room);
  opened = still_opened _ _ _ _ _ _ _ (c.match_row.ensures (view c.args.self.now.base.now) refl refl) c.args.self.now.opened;
}
