-- A word's members are added, or it has none.
use Prim.Native.Nat.{◌+◌, ◌*◌, ◌%◌, min}
use native.Mathlib.Omega.{arith}
use mathlib.Core.Path.{◌≡◌, ap, ◌∙◌}
use lib.ListN.{length-take}
use Rattle.bitset.specs.Bits.{look}
use Rattle.semantics.specs.Layers.{rising}
use Rattle.domino_conditions.proofs.Rows.{total_le}
use Rattle.drawing_layers.proofs.Listing.{rising_past}
use Rattle.drawing_layers.proofs.members.members_of.Goals as goal
use Rattle.drawing_layers.proofs.members.members_of.Goals.{then-word-ne0+in_ok-add_members, else-word-ne0}

pub add_members-requires : goal.add_members-requires
add_members-requires c =
    let few = total_le _ _ c.args.size.within in
    let long = length-take c.words_for.result c.args.set.now in
    let at : min (64 * c.loop-w.w) c.dominoes-total.result ≡ c.loop-w.w * 64 % 18446744073709551616 =
    omega (arith, few, long) in
    (omega (arith, at), omega (arith, at, long), omega (arith, at, few), c.loop-w.invariant.listed ∙ ap (rising (look c.args.set.now)) at)

pub loop-w-preserved : goal.loop-w-preserved
loop-w-preserved c =
    let few = total_le _ _ c.args.size.within in
    let long = length-take c.words_for.result c.args.set.now in
    elim c.if-word-ne0.branch [
      | then-word-ne0+in_ok-add_members w ↦
          let e : w.min.result ≡ min (64 * (c.loop-w.w + 1)) c.dominoes-total.result = omega (arith, few, long) in
          record { listed = rw w.members-is (w.in_ok-add_members.ensures ∙ ap (rising (look c.args.set.now)) e) }
      | else-word-ne0 w ↦
          record { listed = rw w.members-is (c.loop-w.invariant.listed ∙ rising_past _ _ _ _ (omega (arith, long)) w.if-word-ne0.false) }
    ]
