-- A part more is one of its kind more; the sum is how far the loop has come.
use Rattle.std.proofs.Common.{refl, ap, ◌∙◌, arith}
use Rattle.flattening.specs.Origins.{parts_from}
use Rattle.flattening.specs.declared.parts.Origin.TheVariants.{Restriction}
use Rattle.tbox.proofs.CountedParts.{counted_all, counted_more}
use Rattle.tbox.proofs.count_parts.Goals as goal
use Rattle.tbox.proofs.count_parts.Goals.{in-Name, in-Fresh, in-Restriction-Exists-default-default, in-Restriction-Forall-default-default}

pub loop-origin-init : goal.loop-origin-init
unfolding parts_from
loop-origin-init c = record { parts = λ es. refl; roles = refl }

pub overflow_add-counts : goal.overflow_add-counts
overflow_add-counts c = omega (arith, counted_all _ _ _ _ c.loop-origin.invariant c.loop-origin-test.true)

pub overflow_add-counts-in-Fresh : goal.overflow_add-counts-in-Fresh
overflow_add-counts-in-Fresh c = omega (arith, counted_all _ _ _ _ c.loop-origin.invariant c.loop-origin-test.true)

pub overflow_add-counts-in-Restriction-Exists-default-default : goal.overflow_add-counts-in-Restriction-Exists-default-default
overflow_add-counts-in-Restriction-Exists-default-default c = omega (arith, counted_all _ _ _ _ c.loop-origin.invariant c.loop-origin-test.true)

pub overflow_add-counts-in-Restriction-Forall-default-default : goal.overflow_add-counts-in-Restriction-Forall-default-default
overflow_add-counts-in-Restriction-Forall-default-default c = omega (arith, counted_all _ _ _ _ c.loop-origin.invariant c.loop-origin-test.true)

pub loop-origin-preserved : goal.loop-origin-preserved
loop-origin-preserved c =
    let more = counted_more _ _ _ _ c.loop-origin.invariant c.loop-origin-test.true in
    elim c.match-origin.branch [
      | in-Name w ↦ rw w.counts-is (more _ _ _ w.in-Name.is (λ es. refl) refl)
      | in-Fresh w ↦ rw w.counts-is (more _ _ _ w.in-Fresh.is (λ es. refl) refl)
      | in-Restriction-Exists-default-default w ↦
          let r = w.in-Restriction-Exists-default-default in
          rw w.counts-is (more _ _ _ (r.is ∙ ap (λ q. Restriction q r.field-1 r.field-2) (rw r.is at r.field-0-is)) (λ es. refl) refl)
      | in-Restriction-Forall-default-default w ↦
          let r = w.in-Restriction-Forall-default-default in
          rw w.counts-is (more _ _ _ (r.is ∙ ap (λ q. Restriction q r.field-1 r.field-2) (rw r.is at r.field-0-is)) (λ es. refl) refl)
    ]
