-- Each record's places, by the loop; past the records stands no restriction.
use Rattle.std.proofs.Common.{rules, arith}
use Rattle.flattening.proofs.PartLists.{parts_length}
use Rattle.tbox.proofs.PlacesFound.{places-all}
use Rattle.tbox.proofs.places.Places.of.Goals as goal

pub returns : goal.returns
returns c =
    places-all _ (search (rules)) (search (rules)) (omega (arith, parts_length c.args.table.now 0 c.args.parts.now)) c.loop-r.invariant
