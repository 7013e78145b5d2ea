-- The search for a part's witness in the row of a live label, by role sets and by words of right labels.
use mathlib.Core.Path.{◌≡◌, refl, sym as flip, ap, ap₂, ◌∙◌}
use mathlib.Core.Bool.{Bool, true, false, ◌&&◌, false≢true, and_assoc, and_comm}
use mathlib.Core.List.{List}
use Prim.Native.Nat.{ℕ, ◌+◌, ◌*◌, ◌/◌, ◌%◌, ◌^◌, ◌≤◌, ◌<◌}
use native.Mathlib.Nat.{lt_of_le_of_lt, lt_of_lt_of_le}
use native.Mathlib.Omega.{arith}
use lib.Bits.{bit_and, and_le_r}
use lib.Dec.{ltb, ltb→lt, nltb→le}
use lib.ListN.{get_or}
use Rattle.bitset.specs.Bits.{Set, bit, look, word_at, words_for_lem}
use Rattle.bitset.proofs.Facts.{either, and_l, and_r_lem, and_i, and_out, is_false, iff_eq}
use Rattle.bitset.proofs.Laws.{word_at_lt, bit_first, bit_and_lem}
use Rattle.bitset.proofs.RunLaws.{trim_words}
use Rattle.elimination.specs.Sets.{some}
use Rattle.elimination.proofs.Quantifiers.{any_intro, any_found, any_same, and_some, some_bit}
use Rattle.semantics.specs.Conditions.{View}
use Rattle.labels.specs.Labels.{fits_both, spanned, supported}
use Rattle.labels.proofs.Covering.{spanned_both}
use Rattle.labels.proofs.Fits.{both_closed}
use Rattle.flattening.specs.declared.parts.Quantifier.{Quantifier}
use Rattle.tbox.specs.declared.base.Filler.{Filler}
use Rattle.tbox.specs.declared.base.Part.{Part}
use Rattle.tbox.specs.Promise.{part_in}
use Rattle.domino_conditions.specs.Tables.{filler_in_label_lem, role_holds_on_lem}
use Rattle.domino_conditions.specs.Polarity.{wants, as_wanted_lem, has_witness_lem, witnessed}
use Rattle.domino_conditions.proofs.Polarity.{witnessed-delex, witnessed-deluni}
use Rattle.domino_conditions.proofs.Rows.{few_labels}
use Rattle.domino_conditions.proofs.Witnesses.{search_for}
use Rattle.domino_initial.specs.RightMasks.{allows, allows_low, high_of}
use Rattle.domino_initial.specs.declared.masks.RightMask.{RightMask}
use Rattle.domino_initial.proofs.MaskBits.{allows_split, allows_over}
use Rattle.domino_labels.specs.Rows.{Picks}
use Rattle.domino_labels.specs.Fittings.{row_view, RoleSet}
use Rattle.domino_labels.specs.Live.{Inside, any_live_lem, found_in}
use Rattle.domino_labels.specs.Searches.{Lives, found}
use Rattle.domino_labels.specs.declared.fitting.Row.{Row}

-- ---- words of labels

pub words_few : (c w words : ℕ) → c ≤ 12 → words ≡ words_for_lem (2 ^ c) → w < words → w < 64
words_few c w words h e l = omega (arith, trim_words c h)

-- ---- one word

module _ (d above : RightMask) (low : ℕ) (ws : List ℕ) (el : low ≡ word_at (allows_low d) 0) (ea : above ≡ high_of d) where
  bits_small : (w : ℕ) → bit_and (get_or ws w 0) low < 2 ^ 64
  bits_small w = lt_of_le_of_lt (and_le_r (get_or ws w 0) low) (rw el (word_at_lt (allows_low d) 0))

  -- of the labels of word w, one is in and allowed
  live_word : (w : ℕ) → any_live_lem ws low above w ≡ some 64 (λ k. look ws (64 * w + k) && allows d (64 * w + k))
  unfolding any_live_lem
  live_word w =
      let x : ℕ = get_or ws w 0 in
      ap₂ (λ (m : RightMask) (b : Bool). allows m w && b) ea (some_bit 64 (bit_and x low) (bits_small w))
      ∙ and_some 64 (allows (high_of d) w) (bit (bit_and x low))
      ∙ any_same 64 _ _ (λ k h.
      let p : w ≡ (64 * w + k) / 64 = omega arith in
      let q : k ≡ (64 * w + k) % 64 = omega arith in
      let y : Bool = allows (high_of d) w in
      let z : Bool = allows_low d k in
      ap (λ (b : Bool). y && b) (bit_and_lem x low k ∙ ap (λ (b : Bool). bit x k && b) (bit_first (allows_low d) low k el h))
      ∙ flip (and_assoc y (bit x k) z) ∙ ap (λ (b : Bool). b && z) (and_comm y (bit x k)) ∙ and_assoc (bit x k) y z
      ∙ ap₂ ◌&&◌ (ap₂ (λ (i j : ℕ). bit (get_or ws i 0) j) p q) (flip (allows_split d w k h)))

  -- ---- all words

  module _ (v : View) (inside : Inside v ws) where
    in_label : (b : ℕ) → b < 64 * words_for_lem (2 ^ v.parts) → look ws b ≡ true → b < 2 ^ v.parts
    in_label b l e =
        either (ltb b (2 ^ v.parts)) (ltb→lt b (2 ^ v.parts))
        (λ t. absurd (false≢true (flip (inside b (nltb→le b (2 ^ v.parts) t) l) ∙ e)))

    pub live_words : some (words_for_lem (2 ^ v.parts)) (any_live_lem ws low above) ≡ some (2 ^ v.parts) (λ B. look ws B && allows d B)
    live_words =
        let n : ℕ = words_for_lem (2 ^ v.parts) in
        let in_mask : ℕ → Bool = λ B. look ws B && allows d B in
        iff_eq (some n (any_live_lem ws low above)) (some (2 ^ v.parts) in_mask)
        (λ e.
        let f = any_found n (any_live_lem ws low above) e in
        let g = any_found 64 (λ k. in_mask (64 * f.0 + k)) (flip (live_word f.0) ∙ f.2) in
        any_intro (2 ^ v.parts) in_mask (64 * f.0 + g.0)
        (in_label (64 * f.0 + g.0) (omega (arith, f.1, g.1)) (and_l (look ws (64 * f.0 + g.0)) _ g.2)) g.2)
        (λ e.
        let f = any_found (2 ^ v.parts) in_mask e in
        let q : f.0 ≡ 64 * (f.0 / 64) + f.0 % 64 = omega arith in
        any_intro n (any_live_lem ws low above) (f.0 / 64) (omega (arith, f.1))
        (live_word (f.0 / 64) ∙ any_intro 64 (λ k. in_mask (64 * (f.0 / 64) + k)) (f.0 % 64) (omega arith) (ap in_mask (flip q) ∙ f.2)))

-- ---- one role set

module _ (row : Row) (ws : List ℕ) (p : Part) (q : Quantifier) (f : Filler) where
  -- is (A, R, B) a witness, where A is the row's label
  abbrev serves : ℕ → ℕ → Bool
  serves R B = as_wanted_lem (wants q) (filler_in_label_lem f B) && spanned (row_view row) (look ws) row.label R B

  unfoldable pub run_serves : ℕ → Bool
  run_serves R = role_holds_on_lem p R && some (2 ^ (row_view row).parts) (serves R)

  -- what is spanned is closed both ways
  spanned_closed : (R B : ℕ) → RoleSet row R → spanned (row_view row) (look ws) row.label R B ≡ true → look row.fitting.now.closed R ≡ true
  spanned_closed R B h e =
      row.fitting.now.both R h
      ∙ both_closed (row_view row) row.label R B (spanned_both (row_view row) (look ws) row.label R B e)

  pub run_off : (R : ℕ) (y : Bool) → RoleSet row R → y ≡ (role_holds_on_lem p R && look row.fitting.now.closed R) → y ≡ false
      → run_serves R ≡ false
  unfolding run_serves
  run_off R y h e n =
      is_false (run_serves R) (λ t.
      let g = any_found (2 ^ (row_view row).parts) (serves R) (and_r_lem (role_holds_on_lem p R) _ t) in
      false≢true (flip n ∙ e
      ∙ and_i (and_l (role_holds_on_lem p R) _ t)
      (spanned_closed R g.0 h (and_r_lem (as_wanted_lem (wants q) (filler_in_label_lem f g.0)) _ g.2))))

  module _ (l : Lives row ws) (R : ℕ) (m wanted mask above : RightMask) (low words : ℕ)
      (fitting : Picks (row_view row) (fits_both (row_view row) row.label R) m)
      (sought : (b : ℕ) → b < 4096 → allows wanted b ≡ as_wanted_lem (wants q) (filler_in_label_lem f b))
      (both : (b : ℕ) → allows mask b ≡ (allows m b && allows wanted b))
      (el : low ≡ word_at (allows_low mask) 0) (ea : above ≡ high_of mask) (ew : words ≡ words_for_lem (2 ^ (row_view row).parts)) where
    serves_is : (B : ℕ) → B < 2 ^ (row_view row).parts → (look ws B && allows mask B) ≡ serves R B
    unfolding spanned
    serves_is B b =
        let small : B < 4096 = few_labels (row_view row).parts B (omega (arith, row.fitting.now.base.now.size.within)) b in
        let x : Bool = look ws B in
        let y : Bool = fits_both (row_view row) row.label R B in
        let z : Bool = as_wanted_lem (wants q) (filler_in_label_lem f B) in
        rw (both B, fitting B b, sought B small, l.lives) (flip (and_assoc x y z) ∙ and_comm (x && y) z)

    run_is : some words (any_live_lem ws low above) ≡ some (2 ^ (row_view row).parts) (serves R)
    run_is =
        ap (λ (n : ℕ). some n (any_live_lem ws low above)) ew
        ∙ live_words mask above low ws el ea (row_view row) l.inside
        ∙ any_same (2 ^ (row_view row).parts) _ _ serves_is

    pub run_none : (w : ℕ) → w ≤ words → words ≤ w → some w (any_live_lem ws low above) ≡ false → run_serves R ≡ false
    unfolding run_serves
    run_none w u d e =
        let n : words ≡ w = omega arith in
        and_out (role_holds_on_lem p R) _ (flip run_is ∙ ap (λ (x : ℕ). some x (any_live_lem ws low above)) n ∙ e)

    pub run_hit : (w : ℕ) (x y : Bool) → w < words → x ≡ any_live_lem ws low above w → x ≡ true
        → y ≡ (role_holds_on_lem p R && look row.fitting.now.closed R) → y ≡ true → run_serves R ≡ true
    unfolding run_serves
    run_hit w x y u e t i h =
        and_i (and_l (role_holds_on_lem p R) _ (flip i ∙ h)) (flip run_is ∙ any_intro words (any_live_lem ws low above) w u (flip e ∙ t))

  -- ---- all role sets

  found_is : found row ws p q f ≡ some (2 ^ (2 * (row_view row).roles)) run_serves
  unfolding found_in run_serves
  found_is = refl

  pub found_none : (R sets : ℕ) → sets ≡ 2 ^ (2 * (row_view row).roles) → R ≤ sets → sets ≤ R → some R run_serves ≡ false
      → false ≡ found row ws p q f
  found_none R sets g u d e =
      let s : 2 ^ (2 * (row_view row).roles) ≡ R = omega arith in
      flip (found_is ∙ ap (λ (n : ℕ). some n run_serves) s ∙ e)

  pub found_hit : (R sets : ℕ) → sets ≡ 2 ^ (2 * (row_view row).roles) → R < sets → run_serves R ≡ true → true ≡ found row ws p q f
  found_hit R sets g u e = flip (found_is ∙ any_intro (2 ^ (2 * (row_view row).roles)) run_serves R (omega arith) e)

  -- no label is as wanted
  pub found_never : (wanted : RightMask) → ((b : ℕ) → b < 4096 → allows wanted b ≡ as_wanted_lem (wants q) (filler_in_label_lem f b))
      → 4096 ≤ wanted.have → false ≡ found row ws p q f
  unfolding run_serves
  found_never wanted e h =
      flip (found_is
      ∙ is_false (some (2 ^ (2 * (row_view row).roles)) run_serves) (λ t.
      let r = any_found (2 ^ (2 * (row_view row).roles)) run_serves t in
      let b = any_found (2 ^ (row_view row).parts) (serves r.0) (and_r_lem (role_holds_on_lem p r.0) _ r.2) in
      let small : b.0 < 4096 = few_labels (row_view row).parts b.0 (omega (arith, row.fitting.now.base.now.size.within)) b.1 in
      false≢true (flip (allows_over wanted b.0 (lt_of_lt_of_le small h)) ∙ e b.0 small
      ∙ and_l (as_wanted_lem (wants q) (filler_in_label_lem f b.0)) _ b.2)))

  -- of part k it is the witness of the conditions
  pub found_for : (k : ℕ) → part_in row.fitting.now.base.now k ≡ p → ((B : ℕ) → filler_in_label_lem f B ≡ (row_view row).has k B)
      → found row ws p q f ≡ has_witness_lem (row_view row) (wants q) (spanned (row_view row) (look ws)) row.label k
  unfolding found_in
  found_for k h e = search_for row.fitting.now.base.now (spanned (row_view row) (look ws)) row.label k p q f h e

-- ---- both conditions

pub supported_by : (v : View) (Λ : Set) (A : ℕ) (y z : Bool) → y ≡ witnessed v true (spanned v Λ) A → z ≡ witnessed v false (spanned v Λ) A
    → (y && z) ≡ supported v Λ A
unfolding supported
supported_by v Λ A y z e g = ap₂ ◌&&◌ (e ∙ witnessed-delex v (spanned v Λ) A) (g ∙ witnessed-deluni v (spanned v Λ) A)
