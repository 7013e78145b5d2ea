-- What checking a drawn interpretation answers and leaves, from what loading, reading its individuals and the check itself say.
use Prim.Native.Nat.{ℕ, ◌≤◌, ◌<◌}
use native.Mathlib.Decide.{dec_lt}
use native.Mathlib.Omega.{arith}
use mathlib.Core.Path.{◌≡◌, refl, sym, ap, ap₂, subst, ◌∙◌, fun_ext}
use mathlib.Core.Bool.{Bool, ◌&&◌}
use mathlib.Core.List.{List, [], ◌∷◌}
use lib.Dec.{ltb}
use lib.ListN.{length}
use borrow.Author.Tests.{lt-ltb, le-ltb, ne_eqb, eq-eqb}
use Rattle.std.specs.Prelude.{Ok, Err, None, ◌≢◌}
use Rattle.bitset.specs.Bits.{bit, words_for_lem}
use Rattle.bitset.proofs.Laws.{word_lt, bit_word, bit_past}
use Rattle.elimination.specs.Calls.{written}
use Rattle.refusals.specs.Numbers.{number}
use Rattle.refusals.specs.declared.Refusal.{Refusal}
use Rattle.refusals.proofs.Numbering.{number_not_zero}
use Rattle.syntax.specs.Reading.{Kb, Reading}
use Rattle.semantics.specs.Dominoes.{total}
use Rattle.semantics.specs.Conditions.{View, dominoes, held}
use Rattle.semantics.specs.Views.{kb_view}
use Rattle.tbox.specs.declared.base.Base.{Base}
use Rattle.domino_conditions.specs.Tables.{view}
use Rattle.domino.specs.OwnSteps.{LoadsFor}
use Rattle.domino.proofs.OnSet.{says-refusal, leaves-refusal, says-enough, leaves-enough}
use Rattle.domino.proofs.Agreement.{Agree, base_agrees}
use Rattle.domino_parts.specs.PartWords.{is_of_lem, of_kind}
use Rattle.drawings.specs.Entries.{entries_of, first_fault, drawing_of}
use Rattle.drawings.specs.Checking.{Breach, breach_numbers, is_plain, file_fault, drawn_set, breach}
use Rattle.drawing_entries.specs.Reading.{Reads}
use Rattle.interpretation.specs.declared.drawing.Finding.{Finding}
use Rattle.interpretation.specs.Answers.{finding_is, file_says, file_leaves, check_says, check_leaves, ChecksPlant}
use Rattle.interpretation.proofs.Agreement.{says_same, leaves_same}

-- ---- the parts that are names or fresh names, as a word

module _ (v : View) (p : ℕ) (e : p ≡ of_kind v None) where
  pub plain_is : (k : ℕ) → bit p k ≡ is_plain v k
  unfolding is_plain is_of_lem
  plain_is k = ap (λ (x : ℕ). bit x k) e ∙ go (dec_lt k v.parts)
    where
      go : Dec (k < v.parts) → bit (of_kind v None) k ≡ (ltb k v.parts && ltb (v.kind k) 2)
      go (yes l) = rw (lt-ltb k v.parts l) (bit_word v.parts _ k l)
      go (no l) = rw (le-ltb k v.parts (omega (arith, l))) (bit_past v.parts (of_kind v None) k (word_lt v.parts _) (omega (arith, l)))

  -- what reading by it finds
  plain_fault : (file : List ℕ) → first_fault (bit p) v.roles 0 (entries_of file) ≡ file_fault v file
  unfolding file_fault
  plain_fault file = ap (λ (q : ℕ → Bool). first_fault q v.roles 0 (entries_of file)) (fun_ext plain_is)

  pub read_sound : (file : List ℕ) → first_fault (bit p) v.roles 0 (entries_of file) ≡ 0 → file_fault v file ≡ 0
  read_sound file e = sym (plain_fault file) ∙ e

-- ---- a file with a fault, and one without

module _ (v : View) (file ws : List ℕ) where
  pub faulty_says : (n : ℕ) → n ≡ file_fault v file → n ≢ 0 → file_says v file ≡ n ∷ 0 ∷ []
  unfolding file_says
  faulty_says n e f = rw (← e, ne_eqb n 0 f) refl

  pub faulty_leaves : (n : ℕ) → n ≡ file_fault v file → n ≢ 0 → file_leaves v file ws ≡ ws
  unfolding file_leaves
  faulty_leaves n e f = rw (← e, ne_eqb n 0 f) refl

  module _ (e : file_fault v file ≡ 0) where
    pub whole_says : file_says v file ≡ 0 ∷ 0 ∷ breach_numbers (breach v (drawing_of file))
    unfolding file_says
    whole_says = rw (eq-eqb _ _ e) refl

    pub whole_leaves : file_leaves v file ws ≡ written (held v) (dominoes v) (drawn_set v (drawing_of file)) ws
    unfolding file_leaves
    whole_leaves = rw (eq-eqb _ _ e) refl

-- ---- the call

module _ (s : Reading) (file ws : List ℕ) where
  pub check_refused : (r : Refusal) → LoadsFor s (length ws) (Err r) → ChecksPlant s file ws ws (Err r)
  unfolding check_says check_leaves
  check_refused r l = record {
    answer = sym (says-refusal _ ws s (number r.reason) r.place l);
    set = sym (leaves-refusal _ ws s (number r.reason) r.place l);
  }

  -- a sheet that is read, and words enough: what was done on the tables was done on the knowledge base
  module _ (b : Base) (l : LoadsFor s (length ws) (Ok b)) where
    abbrev k : Kb
    k = l.0

    agrees : Agree (view b) (kb_view k)
    agrees = base_agrees k b l.2

    enough : held (kb_view k) ≤ length ws
    enough = subst (λ (x : ℕ). words_for_lem x ≤ length ws) (ap₂ total l.2.count l.2.roles) l.3

    says_is : check_says s file ws ≡ file_says (view b) file
    unfolding check_says
    says_is = rw l.1 (says-enough _ ws k enough ∙ sym (says_same (view b) (kb_view k) agrees file))

    leaves_is : check_leaves s file ws ≡ file_leaves (view b) file ws
    unfolding check_leaves
    leaves_is = rw l.1 (leaves-enough _ ws k enough ∙ sym (leaves_same (view b) (kb_view k) agrees file ws))

    pub file_refused : (p : ℕ) (names : List ℕ) (r : Refusal) → p ≡ of_kind (view b) None
        → Reads p b.size.roles file names (Err r) → ChecksPlant s file ws ws (Err r)
    file_refused p names r e f =
        let q = f.0 ∙ plain_fault (view b) p e file in
        record {
          answer = rw f.1 (sym (says_is ∙ faulty_says (view b) file ws (number r.reason) q (number_not_zero r.reason)));
          set = sym (leaves_is ∙ faulty_leaves (view b) file ws (number r.reason) q (number_not_zero r.reason));
        }

    -- the file has no fault, and the drawing was checked
    pub check_whole : (vs : List ℕ) (x : Finding) → file_fault (view b) file ≡ 0
        → finding_is x ≡ breach (view b) (drawing_of file)
        → vs ≡ written (held (view b)) (dominoes (view b)) (drawn_set (view b) (drawing_of file)) ws → ChecksPlant s file ws vs (Ok x)
    check_whole vs x e f q = record {
      answer = ap (λ (y : Breach). 0 ∷ 0 ∷ breach_numbers y) f ∙ sym (says_is ∙ whole_says (view b) file ws e);
      set = q ∙ sym (leaves_is ∙ whole_leaves (view b) file ws e);
    }
