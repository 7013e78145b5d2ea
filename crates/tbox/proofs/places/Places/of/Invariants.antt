-- The invariant: the places of the records before r.
use Rattle.flattening.specs.Origins.{parts_in}
use Rattle.tbox.specs.RestrictionPlaces.{Noted}
use Rattle.tbox.proofs.places.Places.of.Given as goal

abbrev pub invariant-loop-r : goal.invariant-loop-r
invariant-loop-r l = Noted l.table (parts_in l.table l.parts) l.pair-items l.r
