-- The tables of words by the six bits that are asked for, entry by entry, and the word of what a mask allows of the labels below 64.
use mathlib.Core.Path.{◌≡◌, refl, ap, ap₂, ◌∙◌}
use mathlib.Core.Bool.{Bool, true, false, not, ◌&&◌, ◌||◌}
use mathlib.Core.List.{List}
use Prim.Native.Nat.{ℕ, ◌%◌}
use native.Mathlib.Nat.{mod-lt}
use native.Mathlib.Omega.{arith}
use lib.Bits.{bit_and}
use lib.Dec.{eqb}
use lib.ListN.{get_or}
use borrow.Author.Tests.{eqb-true}
use Rattle.bitset.specs.Bits.{bit, word, word_at}
use Rattle.bitset.proofs.Laws.{bit_mod, word_at_ext, word_at_and}
use Rattle.elimination.specs.Sets.{every}
use Rattle.elimination.proofs.Quantifiers.{all-at, all_same, every_and}
use Rattle.domino_conditions.specs.Polarity.{as_wanted_lem}
use Rattle.domino_initial.specs.RightMasks.{allows_bit, allows_low}
use Rattle.domino_initial.specs.declared.masks.RightMask.{RightMask}
use Rattle.domino_initial.specs.declared.masks.TheConstants.{CONTAINING, AVOIDING}
use Rattle.domino_initial.proofs.MaskBits.{meets_bit}

-- a label has all of six bits (true), or none of them (false)
unfoldable meets_six : Bool → ℕ → ℕ → Bool
meets_six w h b = every 6 (meets_bit w h b)

-- a table has the word of each six bits
abbrev IsTable : Bool → List ℕ → Type 0
IsTable w t = every 64 (λ h. eqb (get_or t h 0) (word_at (meets_six w h) 0)) ≡ true

containing : IsTable true CONTAINING
unfolding every meets_six word word_at
containing = refl

avoiding : IsTable false AVOIDING
unfolding every meets_six word word_at
avoiding = refl

-- the six lowest bits decide
entry_word : (w : Bool) (t : List ℕ) → IsTable w t → (h : ℕ) → get_or t (h % 64) 0 ≡ word_at (meets_six w h) 0
unfolding meets_six
entry_word w t e h =
    eqb-true _ _ (all-at 64 (λ k. eqb (get_or t k 0) (word_at (meets_six w k) 0)) e (h % 64) (mod-lt h (omega arith)))
    ∙ word_at_ext (meets_six w (h % 64)) (meets_six w h) 0
    (λ b. all_same 6 _ _ (λ q l. ap (λ (x : Bool). not x || as_wanted_lem w (bit b q)) (bit_mod h 6 q l)))

pub low_of_tables : (d : RightMask)
    → bit_and (get_or CONTAINING (d.have % 64) 0) (get_or AVOIDING (d.lack % 64) 0) ≡ word_at (allows_low d) 0
unfolding allows_low allows_bit meets_six
low_of_tables d =
    ap₂ bit_and (entry_word true CONTAINING containing d.have) (entry_word false AVOIDING avoiding d.lack)
    ∙ word_at_and (meets_six true d.have) (meets_six false d.lack) 0
    ∙ word_at_ext (λ b. meets_six true d.have b && meets_six false d.lack b) (allows_low d) 0
    (λ b. every_and 6 (meets_bit true d.have b) (meets_bit false d.lack b))
