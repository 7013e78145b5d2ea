-- Sets of labels in 64 words, and the search in them.
use Rattle.std.specs.Prelude.{ℕ, ◌-◌, ◌*◌, ◌^◌, ◌<◌, ◌≤◌, ◌≡◌, Bool, false, not, ◌&&◌, List, eqb, get_or}
use Rattle.std.specs.Int.Bits.{bit_and}
use Rattle.bitset.specs.Bits.{Set, look, words_for_lem}
use Rattle.elimination.specs.Sets.{some}
use Rattle.semantics.specs.Conditions.{View}
use Rattle.labels.specs.Labels.{spanned}
use Rattle.flattening.specs.declared.parts.Quantifier.{Quantifier}
use Rattle.tbox.specs.declared.base.Filler.{Filler}
use Rattle.tbox.specs.declared.base.Part.{Part}
use Rattle.domino_conditions.specs.Tables.{filler_in_label_lem, role_holds_on_lem}
use Rattle.domino_conditions.specs.Polarity.{wants, as_wanted_lem}
use Rattle.domino_initial.specs.RightMasks.{allows}
use Rattle.domino_initial.specs.declared.masks.RightMask.{RightMask}

-- in the words that hold the labels, only labels are in
abbrev pub Inside : View → List ℕ → Type 0
Inside v ws = (b : ℕ) → 2 ^ v.parts ≤ b → b < 64 * words_for_lem (2 ^ v.parts) → look ws b ≡ false

-- the good labels
pub record GoodLabels (v : View) (ws : List ℕ) : Type 0 where
  pub inside : Inside v ws
  pub good : (A : ℕ) → A < 2 ^ v.parts → look ws A ≡ v.good A

-- of the labels of word w, one is in and allowed: by its six low bits in a word, by those above in a mask
unfoldable pub any_live_lem : List ℕ → ℕ → RightMask → ℕ → Bool
any_live_lem ws low above w = allows above w && not (eqb (bit_and (get_or ws w 0) low) 0)

-- the labels that a mask allows and that are live, as numbers from word `start` on
abbrev pub allowed_live : RightMask → List ℕ → ℕ → Set
allowed_live d ws start n = allows d (n - 64 * start) && look ws (n - 64 * start)

-- among the dominoes that the labels ws span: one of the left label A with a role set of p, and with a right label that has the
-- filler f, or lacks it, as the quantifier wants
unfoldable pub found_in : View → List ℕ → ℕ → Part → Quantifier → Filler → Bool
found_in v ws A p q f =
    some (2 ^ (2 * v.roles))
    (λ R. role_holds_on_lem p R && some (2 ^ v.parts) (λ B. as_wanted_lem (wants q) (filler_in_label_lem f B) && spanned v (look ws) A R B))
