-- The label that follows from all successors of an individual is its label.
use mathlib.Core.Path.{◌≡◌, refl, sym, ap, ap₂, ◌∙◌}
use mathlib.Core.Bool.{Bool, true, false, not, ◌&&◌, ◌||◌, cond}
use mathlib.Core.List.{List, [], ◌∷◌}
use Prim.Native.Nat.{ℕ, zero, suc, ◌^◌, ◌≤◌, ◌<◌}
use native.Mathlib.Omega.{arith}
use lib.Dec.{eqb, ltb}
use lib.ListN.{get_or}
use borrow.Author.Tests.{eqb-true, ltb-true}
use Rattle.bitset.specs.Bits.{bit}
use Rattle.bitset.proofs.Facts.{and_l, and_r_lem, imp_e, is_false}
use Rattle.bitset.proofs.Laws.{word_lt, word_ext, word_bits, word_past, bit_word, bit_past}
use Rattle.elimination.specs.Sets.{every, some}
use Rattle.elimination.proofs.Quantifiers.{all-at, all_intro, all_same, any_same, not_any}
use Rattle.semantics.specs.Conditions.{View}
use Rattle.domino_parts.specs.PartWords.{is_of_lem}
use Rattle.drawings.proofs.Ranges.{roles_lt}
use Rattle.drawings.specs.Entries.{entries_of, names_of}
use Rattle.drawings.specs.Checking.{is_plain, file_fault, names_at, roles_between, has_part, label}
use Rattle.drawings.proofs.Faultless.{names-plain}
use Rattle.syntax.specs.Bounds.{All}
use Rattle.drawing_rows.specs.Rows.{byte_at}
use Rattle.flattening.specs.declared.parts.Quantifier.TheVariants.{Exists, Forall}
use Rattle.std.specs.Prelude.{Some}
use Rattle.interpretation.specs.declared.tables.Tables.{Tables}
use Rattle.interpretation.specs.declared.individual_labels.Successors.{Successors}
use Rattle.interpretation.specs.declared.drawing.Drawing.{Drawing}
use Rattle.interpretation.specs.Successors.{TablesOf, SuccessorsTo, concluded}
use Rattle.interpretation.specs.Drawings.{view_of, drawn, count_of, RowOf}
use Rattle.interpretation.proofs.RowsOf.{counted}

-- what holds of each of a list and of 0 holds at each place
each_at : (P : ℕ → Type 0) → P 0 → (l : List ℕ) → All P l → (x : ℕ) → P (get_or l x 0)
each_at P z [] h x = z
each_at P z (m ∷ l) h zero = h.0
each_at P z (m ∷ l) h (suc x) = each_at P z l h.1 x

-- a part of one of three kinds: what was met, what was missed, and what is drawn
pub by_kind : (kind : ℕ) (b met missed ex un : Bool) → (b ≡ true → kind < 2) → ex ≡ eqb kind 2 → un ≡ eqb kind 3
    → ((b || (met && ex)) || (not missed && un)) ≡ cond (eqb kind 2) met (cond (eqb kind 3) (not missed) b)
by_kind kind b met missed ex un plain e f = rw (e, f) (go (eqb kind 2) refl (eqb kind 3) refl)
  where
    off : 2 ≤ kind → b ≡ false
    off h = is_false b (λ t. omega (arith, h, plain t))

    go : (p : Bool) → eqb kind 2 ≡ p → (q : Bool) → eqb kind 3 ≡ q → ((b || (met && p)) || (not missed && q)) ≡ cond p met (cond q (not missed) b)
    go true i true j = let x : kind ≡ 2 = eqb-true _ _ i in let y : kind ≡ 3 = eqb-true _ _ j in absurd (omega arith)
    go true i false j = let x : kind ≡ 2 = eqb-true _ _ i in rw (off (omega arith)) (tidy met (not missed))
      where
        tidy : (m n : Bool) → ((false || (m && true)) || (n && false)) ≡ m
        tidy true true = refl
        tidy true false = refl
        tidy false true = refl
        tidy false false = refl
    go false i true j = let y : kind ≡ 3 = eqb-true _ _ j in rw (off (omega arith)) (tidy met (not missed))
      where
        tidy : (m n : Bool) → ((false || (m && false)) || (n && true)) ≡ n
        tidy true true = refl
        tidy true false = refl
        tidy false true = refl
        tidy false false = refl
    go false i false j = tidy b met (not missed)
      where
        tidy : (b m n : Bool) → ((b || (m && false)) || (n && false)) ≡ b
        tidy true true true = refl
        tidy true true false = refl
        tidy true false n = refl
        tidy false true true = refl
        tidy false true false = refl
        tidy false false true = refl
        tidy false false false = refl

module _ (d : Drawing) where
  abbrev v : View
  v = view_of d

  -- the names and fresh names that were read are those that are drawn
  pub read_as : (x : ℕ) → get_or d.names.now x 0 ≡ names_at (drawn d) x
  read_as x = ap (λ (l : List ℕ). get_or l x 0) d.read

  -- each is one
  plain_at : (x k : ℕ) → k < 16 → bit (names_at (drawn d) x) k ≡ true → is_plain v k ≡ true
  unfolding file_fault
  plain_at x k h =
      imp_e (bit (names_at (drawn d) x) k) (is_plain v k)
      (all-at 16 (λ j. not (bit (names_at (drawn d) x) j) || is_plain v j)
      (each_at (λ m. every 16 (λ j. not (bit m j) || is_plain v j) ≡ true)
      (all_intro 16 _ (λ j l. ap (λ (b : Bool). not b || is_plain v j) (bit_past 0 0 j (omega arith) (omega arith))))
      (names_of (entries_of d.file.now)) (names-plain (is_plain v) d.base.now.size.roles 0 (entries_of d.file.now) d.sound) x) k h)

  plain_kind : (x k : ℕ) → k < 16 → bit (names_at (drawn d) x) k ≡ true → (k < v.parts) × (v.kind k < 2)
  unfolding is_plain
  plain_kind x k h e =
      let p = plain_at x k h e in
      (ltb-true _ _ (and_l (ltb k v.parts) (ltb (v.kind k) 2) p), ltb-true _ _ (and_r_lem (ltb k v.parts) (ltb (v.kind k) 2) p))

  module _ (t : Tables) (T : TablesOf v d.names.now t) (x : ℕ) (row : List ℕ) (R : RowOf d x row) where
    reaches_as : (k y : ℕ) → k < v.parts → y < count_of d → bit (get_or t.parts.holds (byte_at row y) 0) k ≡ v.holds k (roles_between v (drawn d) x y)
    unfolding roles_between
    reaches_as k y h l =
        ap (λ (r : ℕ). bit (get_or t.parts.holds r 0) k) (R.bytes y l)
        ∙ ap (λ (w : ℕ). bit w k) (T.parts.holds (roles_between v (drawn d) x y) (roles_lt v (drawn d) x y))
        ∙ bit_word v.parts _ k h

    filled_as : (k y : ℕ) → k < v.parts → y < count_of d → bit (get_or t.fillers y 0) k ≡ v.has k (names_at (drawn d) y)
    filled_as k y h l = ap (λ (w : ℕ). bit w k) (T.fillers y l) ∙ bit_word v.parts _ k h ∙ ap (v.has k) (read_as y)

    module _ (c : Successors) (C : SuccessorsTo t row (count_of d) c) where
      met_as : (k : ℕ) → k < v.parts → bit c.met k ≡ some (count_of d) (λ y. v.holds k (roles_between v (drawn d) x y) && v.has k (names_at (drawn d) y))
      met_as k h = C.met k ∙ any_same (count_of d) _ _ (λ y l. ap₂ ◌&&◌ (reaches_as k y h l) (filled_as k y h l))

      missed_as : (k : ℕ) → k < v.parts → not (bit c.missed k) ≡ every (count_of d) (λ y. not (v.holds k (roles_between v (drawn d) x y)) || v.has k (names_at (drawn d) y))
      missed_as k h =
          ap not (C.missed k) ∙ not_any (count_of d) _
          ∙ all_same (count_of d) _ _ (λ y l. turn _ _ ∙ ap₂ (λ (a b : Bool). not a || b) (reaches_as k y h l) (filled_as k y h l))
        where
          turn : (a b : Bool) → not (a && not b) ≡ (not a || b)
          turn true true = refl
          turn true false = refl
          turn false b = refl

      -- beyond the parts nothing is concluded
      concluded_past : (m k : ℕ) → m ≡ get_or d.names.now x 0 → v.parts ≤ k → k < 16 → concluded t c m k ≡ false
      unfolding concluded
      concluded_past m k e h l =
          rw (
            e ∙ read_as x,
            is_false (bit (names_at (drawn d) x) k) (λ p. omega (arith, h, (plain_kind x k l p).0)),
            T.parts.existentials,
            T.parts.universals,
            bit_past v.parts _ k (word_lt v.parts (λ j. is_of_lem (Some Exists) (v.kind j))) h,
            bit_past v.parts _ k (word_lt v.parts (λ j. is_of_lem (Some Forall) (v.kind j))) h,
          ) (none (bit c.met k) (not (bit c.missed k)))
        where
          none : (a b : Bool) → ((false || (a && false)) || (b && false)) ≡ false
          none true true = refl
          none true false = refl
          none false true = refl
          none false false = refl

      concluded_as : (m k : ℕ) → m ≡ get_or d.names.now x 0 → k < v.parts → k < 16 → concluded t c m k ≡ has_part v (drawn d) x k
      unfolding concluded has_part is_of_lem
      concluded_as m k e h l =
          by_kind (v.kind k) (bit m k) (bit c.met k) (bit c.missed k) _ _
          (λ p. (plain_kind x k l (ap (λ (z : ℕ). bit z k) (sym (e ∙ read_as x)) ∙ p)).1)
          (ap (λ (z : ℕ). bit z k) T.parts.existentials ∙ bit_word v.parts _ k h)
          (ap (λ (z : ℕ). bit z k) T.parts.universals ∙ bit_word v.parts _ k h)
          ∙ rw (met_as k h, missed_as k h, e ∙ read_as x, ← counted d) refl

      -- so the word of what is concluded is the label
      pub label_concluded : (r m : ℕ) → r < 2 ^ 16 → m ≡ get_or d.names.now x 0 → ((k : ℕ) → k < 16 → bit r k ≡ concluded t c m k)
          → r ≡ label v (drawn d) x
      unfolding label
      label_concluded r m h e f =
          let few = d.base.now.size.within in
          sym (word_bits 16 r h) ∙ word_ext 16 (bit r) (concluded t c m) f
          ∙ word_past v.parts 16 (concluded t c m) (omega (arith, few)) (λ k i j. concluded_past m k e i j)
          ∙ word_ext v.parts (concluded t c m) (has_part v (drawn d) x) (λ k i. concluded_as m k e i (omega (arith, few, i)))
