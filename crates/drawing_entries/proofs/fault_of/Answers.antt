use Rattle.std.proofs.Common.{sym, refl, ◌≡◌, Bool, true, false, not, cond, arith, ◌<◌, ◌^◌}
use Rattle.std.specs.Bool.{then_some}
use Rattle.refusals.specs.declared.Reason.TheVariants.{NoSuchNumber}
use Rattle.drawing_entries.specs.Reading.{fault_number}
use Rattle.drawings.proofs.EntryLaws.{fault_full, fault_names, fault_none, fault_absent}
use Rattle.drawing_entries.proofs.fault_of.Goals as goal

refused : (b : Bool) → fault_number (then_some (not b) NoSuchNumber) ≡ cond b 0 24
refused true = refl
refused false = refl

pub returns-then-count-ge-MOST_INDIVIDUALS : goal.returns-then-count-ge-MOST_INDIVIDUALS
returns-then-count-ge-MOST_INDIVIDUALS c = rw c.in-Individual.is (sym (fault_full _ _ _ _ c.if-count-ge-MOST_INDIVIDUALS.true))

pub returns-else-count-ge-MOST_INDIVIDUALS : goal.returns-else-count-ge-MOST_INDIVIDUALS
returns-else-count-ge-MOST_INDIVIDUALS c =
    let h : c.in-Individual.names < 2 ^ 16 = omega arith in
    rw (
      c.then_some.ensures,
      c.in-Individual.is,
      c.from.ensures,
      c.from-in-Individual.ensures,
      fault_names c.args.plain c.args.roles c.args.count c.in-Individual.names c.if-count-ge-MOST_INDIVIDUALS.false h,
    )
    (refused _)

pub returns-then-c-roles : goal.returns-then-c-roles
returns-then-c-roles c = rw c.in-Connection.is (sym (fault_none _ _ _ _ c.if-c-count.true c.if-c-count-2.true c.if-c-roles.true))

pub returns-else-c-count : goal.returns-else-c-count
returns-else-c-count c = rw c.in-Connection.is (sym (fault_absent _ _ _ _ (λ f t r. omega (arith, f, t, r, c.else-c-count.either))))
