use mathlib.Core.Bool.{false≢true}
use mathlib.Core.Path.{refl, sym as flip, ◌∙◌}
use native.Mathlib.Omega.{arith}
use Rattle.domino_labels.specs.Fittings.{view_of}
use Rattle.domino_labels.proofs.ThinnedLaws.{label_word, cleared_inside, row_supported, row_lives, thinned_stays, thinned_goes, lent}
use Rattle.domino_labels.proofs.live.Thinning.thin_label.Goals.{then-not-member-via-then-not-member}
use Rattle.domino_labels.proofs.live.Thinning.thin_label.Goals.{then-not-member-via-else-not-member+then-is_supported}
use Rattle.domino_labels.proofs.live.Thinning.thin_label.Goals as goal

pub member-requires : goal.member-requires
member-requires c = label_word _ _ _ c.requires (omega arith) (omega arith)

pub is_supported-requires : goal.is_supported-requires
is_supported-requires c =
    row_lives c.args.self.now.fitting.now c.args.a _ _ _ c.row.ensures c.args.self.now.inside c.member.ensures c.if-not-member.false

pub returns-then-not-member : goal.returns-then-not-member
returns-then-not-member c = elim c.then-not-member.branch [
  | then-not-member-via-then-not-member w ↦ rw (w.self-is)
      (lent _ _ refl refl (thinned_stays _ _ _ (λ t. absurd (false≢true (flip w.if-not-member.true ∙ c.member.ensures ∙ t)))))
  | then-not-member-via-else-not-member+then-is_supported w ↦ rw (w.self-is)
      (lent _ _ refl refl (thinned_stays _ _ _ (λ t. row_supported _ _ _ _ _ w.row.ensures w.is_supported.ensures ∙ w.if-is_supported.true)))
]

pub invariant_of-self-2 : goal.invariant_of-self-2
invariant_of-self-2 c = record {
  inside = rw (c.clear.ensures)
      (cleared_inside (view_of c.args.self.now.fitting.now) _ _ (label_word _ _ _ c.requires (omega arith) (omega arith))
      c.args.self.now.inside);
}

pub returns : goal.returns
returns c = lent _ _ refl refl (rw (c.clear.ensures)
    (thinned_goes _ _ _ (label_word _ _ _ c.requires (omega arith) (omega arith)) c.requires (flip c.member.ensures ∙ c.if-not-member.false)
    (row_supported _ _ _ _ _ c.row.ensures c.is_supported.ensures ∙ c.if-is_supported.false)))
