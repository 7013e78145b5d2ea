-- A part by its kind, its filler and then its role.
use Rattle.std.proofs.Common.{sym, ◌∙◌}
use mathlib.Core.Bool.{false≢true}
use Rattle.flattening.proofs.AlikeSearch.{told_none, told_kind, told_filler, told_role}
use Rattle.flattening.proofs.sharing.is_alike.Goals as goal
use Rattle.flattening.proofs.sharing.is_alike.Goals.{then-eq, else-eq}

pub returns-in-Name : goal.returns-in-Name
returns-in-Name c = told_none _ _ _ _ _ c.in-Name.is

pub returns-then-eq-2 : goal.returns-then-eq-2
returns-then-eq-2 c =
    elim c.if-eq.branch [
      | then-eq w ↦ told_role _ _ _ _ _ _ _ _ c.in-Restriction.is (sym w.if-eq.true ∙ c.eq.ensures) (sym c.if-eq-2.true ∙ w.value-is ∙ w.eq-then-eq.ensures)
          _ (rw (rw c.restricted_role-other.ensures.0 at c.restricted_role-other.ensures.1) at c.same_role.ensures)
      | else-eq w ↦ absurd (false≢true (sym w.if-eq.false ∙ sym w.value-is ∙ c.if-eq-2.true))
    ]

pub returns-else-eq-2 : goal.returns-else-eq-2
returns-else-eq-2 c =
    rw c.if-eq-2.false (elim c.if-eq.branch [
      | then-eq w ↦ told_filler _ _ _ _ _ _ _ _ c.in-Restriction.is (sym w.if-eq.true ∙ c.eq.ensures) (sym c.if-eq-2.false ∙ w.value-is ∙ w.eq-then-eq.ensures)
      | else-eq w ↦ told_kind _ _ _ _ _ _ _ _ c.in-Restriction.is (sym w.if-eq.false ∙ c.eq.ensures)
    ])
