-- No role set before r, and no right label before b of the run r, gives a witness.
use mathlib.Core.Path.{refl, sym, ◌∙◌}
use native.Mathlib.Omega.{arith}
use Rattle.elimination.proofs.Quantifiers.{some-none, some_more}
use Rattle.domino_conditions.proofs.Rows.{run_room, row_at}
use Rattle.domino_conditions.proofs.Witnesses.{witness-by, witness_more, in_none, in_end, in_hit, found_none, found_hit}
use Rattle.domino_conditions.proofs.conditions.DominoSet.has_witness.Goals as goal
use Rattle.domino_conditions.proofs.conditions.DominoSet.has_witness.Goals.{then-member+else-loop-b-test, else-member}

pub search-init : goal.search-init
search-init c = (refl, some-none _)

pub loop-b-init : goal.loop-b-init
loop-b-init c = (c.search.invariant.0, some-none _)

pub overflow_add-at : goal.overflow_add-at
overflow_add-at c =
    let small = run_room _ _ _ _ (row_at c.args.self.now _ c.requires) c.search.r c.loop-b.b _ _ (omega (arith, c.role_sets-r-end.ensures))
    (omega (arith, c.labels-labels.ensures)) c.index-at.ensures refl in
    omega (arith, small.1)

pub is_witness-requires : goal.is_witness-requires
is_witness-requires c =
    let inside = run_room _ _ _ _ (row_at c.args.self.now _ c.requires) c.search.r c.loop-b.b _ _ (omega (arith, c.role_sets-r-end.ensures))
    (omega (arith, c.labels-labels.ensures)) c.index-at.ensures refl in
    omega (arith, inside.0)

pub loop-b-preserved : goal.loop-b-preserved
loop-b-preserved c = (
  c.loop-b.invariant.0,
  witness_more _ _ _ _ _ _ _ _ _ c.loop-b.invariant.1 c.index-at.ensures c.is_witness.ensures c.if-is_witness.false,
)

pub search-preserved : goal.search-preserved
search-preserved c = (
  elim c.if-member.branch [
    | then-member+else-loop-b-test w ↦ w.found-is ∙ w.loop-b.invariant.0
    | else-member w ↦ w.found-is ∙ c.search.invariant.0
  ],
  some_more _ _ c.search.invariant.1
      (elim c.if-member.branch [
        | then-member+else-loop-b-test w ↦ in_end _ _ _ _ _ _ _ _ _ c.labels-labels.ensures w.loop-b.auto.b-end w.loop-b-test.false w.loop-b.invariant.1
        | else-member w ↦ in_none _ _ _ _ _ _ _ _ c.member.ensures w.if-member.false
      ]),
)

pub returns-after-search : goal.returns-after-search
returns-after-search c =
    c.search.invariant.0
    ∙ found_none c.args.self.now c.args.part.now c.args.quantifier c.args.filler c.args.a _ _ c.role_sets-r-end.ensures c.search.auto.r-end c.search-test.false
    c.search.invariant.1

pub returns-then-is_witness : goal.returns-then-is_witness
returns-then-is_witness c =
    found_hit c.args.self.now c.args.part.now c.args.quantifier c.args.filler c.args.a _ _ c.role_sets-r-end.ensures c.search-test.true
    (in_hit _ _ _ _ _ _ _ _ _ _ c.labels-labels.ensures c.loop-b-test.true c.member.ensures c.if-member.true
    (sym (witness-by _ _ _ _ _ _ _ _ _ c.index-at.ensures c.is_witness.ensures) ∙ c.if-is_witness.true))
