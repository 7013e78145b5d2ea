-- A restriction's two places; another record has none.
use Rattle.tbox.proofs.PlacesFound.{pair_exists, pair_forall}
use Rattle.tbox.proofs.places.Parts.of_record.Goals as goal

pub returns-in-Some-Exists : goal.returns-in-Some-Exists
returns-in-Some-Exists c = let at = c.in-Some-Exists in
    pair_exists (record { table = c.args.table; number = c.args.number; below = 256 }) _ _ _ _ _ _ _
    at.ensures.2 at.field-0-is c.operand.ensures c.operand-in-Some-Exists.ensures c.of_restriction.ensures

pub returns-in-Some-Forall : goal.returns-in-Some-Forall
returns-in-Some-Forall c = let at = c.in-Some-Forall in
    pair_forall (record { table = c.args.table; number = c.args.number; below = 256 }) _ _ _ _ _ _ _
    at.ensures.2 at.field-0-is c.operand-in-Some-Forall.ensures c.operand-in-Some-Forall-2.ensures c.of_restriction-in-Some-Forall.ensures
