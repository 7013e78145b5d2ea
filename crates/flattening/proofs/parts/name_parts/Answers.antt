-- A name more is the next part.
use Rattle.std.proofs.Common.{arith, refl}
use Rattle.syntax.specs.Flatten.{name_parts_lem}
use Rattle.flattening.specs.Origins.{parts_from}
use Rattle.flattening.proofs.PartLists.{names_push}
use Rattle.flattening.proofs.parts.name_parts.Goals as goal

pub loop-i-init : goal.loop-i-init
unfolding name_parts_lem parts_from
loop-i-init g c = record { size = rw c.new-parts.ensures refl; room = omega arith; names = λ es. rw c.new-parts.ensures refl }

pub loop-i-preserved : goal.loop-i-preserved
loop-i-preserved g c =
    let e = c.in_ok-try_push.ensures in
    let v = c.loop-i.invariant in
    record {
      size = omega (arith, e.len, v.size);
      room = omega (arith, e.variant.0 refl, v.size);
      names = λ es. names_push es _ _ _ e.ok (v.names es);
    }
