-- A name and a fresh name have no role; a restriction's is that of its source.
use Rattle.std.proofs.Common.{refl}
use Rattle.syntax.specs.Parts.{role_holds}
use Rattle.tbox.proofs.BaseTables.{no_role_is, filler_or_next, restriction_is}
use Rattle.tbox.proofs.loading.part_at.Goals as goal

pub returns-in-Name : goal.returns-in-Name
unfolding role_holds
returns-in-Name c = rw c.in-Name.is (no_role_is _ _ c.default.ensures.0 (λ w l. c.default.ensures.1.at w 0 l) refl)

pub returns-in-Fresh : goal.returns-in-Fresh
unfolding role_holds
returns-in-Fresh c = rw c.in-Fresh.is (no_role_is _ _ refl (λ w l. c.default-in-Fresh.ensures.1.at w 0 l) refl)

pub returns-in-Restriction : goal.returns-in-Restriction
returns-in-Restriction c = rw c.in-Restriction.is (restriction_is _ _ _ _ _ _ _ (filler_or_next _ _ _ c.map_or.ensures) c.role_words.ensures)
