-- Labels in a table: their size, which break an axiom, and one more.
use mathlib.Core.Path.{◌≡◌, sym, ap, subst, ◌∙◌}
use mathlib.Core.Bool.{Bool, not}
use mathlib.Core.List.{List}
use Prim.Native.Nat.{ℕ, ◌+◌, ◌^◌, ◌<◌}
use native.Mathlib.Omega.{arith}
use lib.ListN.{get_or, set, length-set}
use Rattle.bitset.specs.Bits.{look}
use Rattle.drawings.specs.Checking.{label, breaks_at}
use Rattle.drawings.proofs.Ranges.{label_lt}
use Rattle.domino_conditions.proofs.Rows.{few_labels}
use Rattle.domino_parts.proofs.Making.{set_next}
use Rattle.interpretation.specs.declared.drawing.Drawing.{Drawing}
use Rattle.interpretation.specs.Drawings.{view_of, drawn, Labelled}

module _ (d : Drawing) (x : ℕ) where
  module _ (labels : List ℕ) (n r : ℕ) (L : Labelled d labels n) (h : x < n) (e : r ≡ get_or labels x 0) where
    pub label_small : r < 4096
    label_small =
        let few = d.base.now.size.within in
        few_labels d.base.now.size.parts r (omega (arith, few)) (subst (λ (a : ℕ). a < 2 ^ d.base.now.size.parts) (sym (e ∙ L.are x h)) (label_lt (view_of d) (drawn d) x))

    -- the test of the table's label tells whether the individual breaks an axiom
    pub breaks_as : (b : Bool) → b ≡ look d.base.now.good r → breaks_at (view_of d) (drawn d) x ≡ not b
    unfolding breaks_at
    breaks_as b f = ap not (ap (look d.base.now.good) (sym (e ∙ L.are x h)) ∙ sym f)

-- one label more
pub labelled_next : (d : Drawing) (labels : List ℕ) (n r : ℕ) → Labelled d labels n → n < 1024 → r ≡ label (view_of d) (drawn d) n
    → Labelled d (set labels n r) (n + 1)
labelled_next d labels n r L h e =
    record {
      long = length-set labels n r ∙ L.long;
      are = set_next labels n r (label (view_of d) (drawn d)) (omega (arith, L.long)) L.are e;
    }
