use mathlib.Core.Path.{sym, ◌∙◌}
use Prim.Native.Nat.{◌≤◌}
use native.Mathlib.Omega.{arith}
use Rattle.bitset.proofs.Laws.{bit_and_lt}
use Rattle.semantics.proofs.Numbers.{inverse_lt}
use Rattle.domino_conditions.specs.Tables.{view}
use Rattle.domino_conditions.proofs.Rows.{few_labels}
use Rattle.domino_labels.proofs.FittingMasks.{picks_both}
use Rattle.domino_labels.proofs.fitting.Row.fitting_both.Goals as goal

pub parts_on-back-requires : goal.parts_on-back-requires
parts_on-back-requires c = rw c.inverse.ensures (inverse_lt _ c.args.r)

pub by-requires : goal.by-requires
by-requires c =
    let row = c.args.self.now in
    let b = row.fitting.now.base.now in
    few_labels b.size.parts _ (omega (arith, b.size.within)) (bit_and_lt _ row.asks _ row.words.asks.small)

pub returns : goal.returns
returns c =
    let row = c.args.self.now in
    let f = row.fitting.now in
    let v = view f.base.now in
    let few : v.parts ≤ 12 = omega (arith, f.base.now.size.within) in
    picks_both v row.label row.asks row.have row.lack row.words c.args.r _ c.parts_on.ensures _ _ c.inverse.ensures c.parts_on-back.ensures
    (sym (f.both c.args.r c.requires.0) ∙ c.requires.1) few _ _
    (c.by.ensures v few f.asks (bit_and_lt _ row.asks _ row.words.asks.small)) c.and.ensures
