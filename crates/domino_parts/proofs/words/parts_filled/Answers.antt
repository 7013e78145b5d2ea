use mathlib.Core.Path.{refl, sym, ap, ◌∙◌}
use native.Mathlib.Omega.{arith}
use Rattle.domino_conditions.specs.Tables.{kind_has}
use Rattle.bitset.specs.Bits.{word}
use Rattle.tbox.specs.declared.base.Part.{Part}
use Rattle.domino_conditions.proofs.Polarity.{part_here, part_count}
use Rattle.domino_parts.proofs.WordsByPart.{word_small, word_fits, word_end}
use Rattle.domino_parts.proofs.words.parts_filled.Goals as goal

pub loop-k-init : goal.loop-k-init
unfolding word
loop-k-init c = refl

pub with_part-parts-requires : goal.with_part-parts-requires
with_part-parts-requires c =
    let n = part_count c.args.base.now _ c.deref-part-items.ensures.0 in
    let w = c.args.base.now.size.within in
    (omega (arith, n, w, c.loop-k-test.true), word_small _ _ _ c.loop-k.invariant)

pub loop-k-preserved : goal.loop-k-preserved
loop-k-preserved c =
    let h = part_here c.args.base.now _ c.loop-k.k _ c.deref-part-items.ensures.0 c.loop-k-test.true in
    c.with_part-parts.ensures _ c.loop-k.invariant (c.has_filler.ensures ∙ ap (λ (p : Part). kind_has p.kind c.args.label) (sym h))

pub overflow_cast-result : goal.overflow_cast-result
overflow_cast-result c =
    let n = part_count c.args.base.now _ c.deref-part-items.ensures.0 in
    omega (arith, word_fits _ _ _ c.loop-k.invariant (omega (arith, n, c.args.base.now.size.within)))

pub returns : goal.returns
returns c =
    let n = part_count c.args.base.now _ c.deref-part-items.ensures.0 in
    word_end _ _ _ c.loop-k.invariant _ (omega (arith, n, c.loop-k-test.false))
