-- What is demanded of a check: what it refuses, and what that leaves; the set that it writes; what its answer means; that an
-- interpretation in which all holds is a model, and that judging drops none of its dominoes.
use Prim.Native.Nat.{ℕ, ◌*◌, ◌≤◌, ◌<◌}
use native.Mathlib.Decide.{dec_lt}
use native.Mathlib.Omega.{arith}
use mathlib.Core.Path.{◌≡◌, refl, sym, ap, ◌∙◌}
use mathlib.Core.Logic.{◌⊎◌, inl, inr, ⊎_elim, ◌↔◌}
use mathlib.Core.Bool.{Bool, true, false, cond, false≢true}
use mathlib.Core.List.{List, [], ◌∷◌}
use lib.Dec.{eqb, leb}
use lib.ListN.{length, drop}
use borrow.Author.Tests.{leb-true, le-leb}
use Rattle.std.specs.Prelude.{◌≢◌, Result}
use Rattle.bitset.specs.Bits.{Set, look}
use Rattle.bitset.proofs.Facts.{and_l, and_r_lem, and_i, or_case, or_l, or_r_lem}
use Rattle.bitset.proofs.RunLaws.{words-room}
use Rattle.elimination.specs.Sets.{Same}
use Rattle.elimination.specs.Calls.{written}
use Rattle.elimination.proofs.Written.{written-look, written-past, written-spare}
use Rattle.refusals.specs.declared.Refusal.{Refusal}
use Rattle.syntax.specs.Reading.{Kb, Reading, refusal, kb, read_kb}
use Rattle.syntax.specs.Answers.{limit}
use Rattle.syntax.proofs.Refusals.{UpTo, read_refusals, refusal-number}
use Rattle.semantics.specs.Interpretations.{models}
use Rattle.semantics.specs.Conditions.{View, dominoes, canon, held}
use Rattle.semantics.specs.Views.{kb_view}
use Rattle.domino.specs.Answers.{is_set_refusal, judge_leaves}
use Rattle.domino.proofs.OnSet.{says-refused, leaves-refused, says-short, leaves-short, says-enough, leaves-enough}
use Rattle.domino.proofs.Demand1.{set_refusals}
use Rattle.domino.proofs.WordsEnough.{judge_leaves_lem}
use Rattle.drawings.specs.Entries.{Drawing, Entry, individual, connection, unreadable, entries_of, individuals_after, entry_fault, first_fault, drawing_of}
use Rattle.drawings.specs.Checking.{Breach, unbroken, at, between, breach_numbers, interpretation, is_plain, file_fault, drawn_set, breach}
use Rattle.drawings.proofs.EntryLaws.{fault_here, fault_later}
use Rattle.drawings.specs.Meanings.{Says}
use Rattle.drawings.proofs.Breaches.{breach_means}
use Rattle.drawings.proofs.Keeping.{drawn_models, holds_canon}
use Rattle.interpretation.specs.declared.drawing.Finding.{Finding}
use Rattle.interpretation.specs.Demanded.{Refused}
use Rattle.interpretation.specs.Answers.{check_numbers, file_says, file_leaves, is_file_fault, is_check_refusal, check_says, check_leaves, ChecksPlant}
use Rattle.interpretation.proofs.Answers.{faulty_says, faulty_leaves, whole_says, whole_leaves}

-- ---- the numbers of refusals

file_faults : (n : ℕ) → (is_file_fault n ≡ true) ↔ ((22 ≤ n) × (n ≤ 25))
unfolding is_file_fault
file_faults n = (
  λ e. (leb-true 22 n (and_l (leb 22 n) (leb n 25) e), leb-true n 25 (and_r_lem (leb 22 n) (leb n 25) e)),
  λ h. and_i (le-leb 22 n h.0) (le-leb n 25 h.1),
)

fault_some : (n : ℕ) → is_file_fault n ≡ true → n ≢ 0
fault_some n t z = omega (arith, z, (file_faults n).0 t)

-- they are 1 to 10, 16, 17 and 22 to 25
pub check_refusal_numbers : (n : ℕ) → (is_check_refusal n ≡ true) ↔ (UpTo 10 n ⊎ ((22 ≤ n) × (n ≤ 25)))
unfolding is_check_refusal
check_refusal_numbers n = (
  λ e. ⊎_elim (λ t. inl ((set_refusals n).0 t)) (λ t. inr ((file_faults n).0 t)) (or_case (is_set_refusal n) (is_file_fault n) e),
  λ h. ⊎_elim (λ t. or_l (is_file_fault n) ((set_refusals n).1 t)) (λ t. or_r_lem (is_set_refusal n) ((file_faults n).1 t)) h,
)

-- those after reading's
abbrev Late : ℕ → Type 0
Late n = (n ≡ 10) ⊎ ((22 ≤ n) × (n ≤ 25))

not_reading : (n : ℕ) → Late n → UpTo 9 n → ⊥
not_reading n (inl i) (inl h) = omega (arith, h.1)
not_reading n (inl i) (inr h) = omega (arith, h.0)
not_reading n (inr i) (inl h) = omega (arith, i.0, h.1)
not_reading n (inr i) (inr h) = omega (arith, i.0, h.1)

-- a fault of a file is one of its four, or none
abbrev Known : ℕ → Type 0
Known f = (f ≡ 0) ⊎ (is_file_fault f ≡ true)

module _ (plain : Set) (roles : ℕ) where
  entry_known : (n : ℕ) (e : Entry) → Known (entry_fault plain roles n e)
  unfolding entry_fault is_file_fault
  entry_known n (individual m) = go (leb 1024 n) _
    where
      go : (a b : Bool) → Known (cond a 23 (cond b 0 24))
      go true b = inr refl
      go false true = inl refl
      go false false = inr refl
  entry_known n (connection c) = go _
    where
      go : (b : Bool) → Known (cond b 0 24)
      go true = inl refl
      go false = inr refl
  entry_known n unreadable = inr refl

  first_known : (n : ℕ) (es : List Entry) → Known (first_fault plain roles n es)
  unfolding first_fault is_file_fault
  first_known n [] = go (eqb n 0)
    where
      go : (b : Bool) → Known (cond b 25 0)
      go true = inr refl
      go false = inl refl
  first_known n (e ∷ es) = go (entry_known n e) (first_known (individuals_after n e) es)
    where
      go : Known (entry_fault plain roles n e) → Known (first_fault plain roles (individuals_after n e) es)
          → Known (first_fault plain roles n (e ∷ es))
      go (inl z) f = rw (fault_later plain roles n e es z) f
      go (inr t) f = rw (fault_here plain roles n e es (fault_some (entry_fault plain roles n e) t)) (inr t)

file_known : (v : View) (file : List ℕ) → Known (file_fault v file)
unfolding file_fault
file_known v file = first_known (is_plain v) v.roles 0 (entries_of file)

-- ---- how a check ends

-- of a sheet that is read: the set is too short, the file has a fault, or what it draws is checked
data Ends (k : Kb) (file ws says vs : List ℕ) : Type 0 where
  short : length ws < held (kb_view k) → says ≡ 10 ∷ 0 ∷ [] → vs ≡ ws → Ends k file ws says vs
  faulty : (n : ℕ) → is_file_fault n ≡ true → says ≡ n ∷ 0 ∷ [] → vs ≡ ws → Ends k file ws says vs
  done : held (kb_view k) ≤ length ws → says ≡ 0 ∷ 0 ∷ breach_numbers (breach (kb_view k) (drawing_of file))
      → vs ≡ written (held (kb_view k)) (dominoes (kb_view k)) (drawn_set (kb_view k) (drawing_of file)) ws → Ends k file ws says vs

check_ends : (k : Kb) (file ws : List ℕ) → Ends k file ws (check_says (kb k) file ws) (check_leaves (kb k) file ws)
unfolding check_says check_leaves
check_ends k file ws = go (dec_lt (length ws) (held v)) (file_known v file)
  where
    v : View
    v = kb_view k

    go : Dec (length ws < held v) → Known (file_fault v file) → Ends k file ws (check_says (kb k) file ws) (check_leaves (kb k) file ws)
    go (yes h) f = short h (says-short _ ws k h) (leaves-short _ ws k h)
    go (no h) f =
        let enough : held v ≤ length ws = omega (arith, h) in
        let says = says-enough (λ k ws. file_says (kb_view k) file) ws k enough in
        let leaves = leaves-enough (λ k ws. file_leaves (kb_view k) file ws) ws k enough in
        let n = file_fault v file in
        ⊎_elim
        (λ z. done enough (says ∙ whole_says v file ws z) (leaves ∙ whole_leaves v file ws z))
        (λ t.
        let o = fault_some n t in
        faulty n t (says ∙ faulty_says v file ws n refl o) (leaves ∙ faulty_leaves v file ws n refl o)) f

-- an answer has three numbers at least
longer : (b : Breach) → 3 ≤ length (0 ∷ 0 ∷ breach_numbers b)
longer unbroken = omega arith
longer (at x) = omega arith
longer (between x y) = omega arith

not_longer : (b : Breach) (n p : ℕ) → n ∷ p ∷ [] ≡ 0 ∷ 0 ∷ breach_numbers b → ⊥
not_longer b n p e = omega (arith, longer b, ap (λ (l : List ℕ). length l) e)

-- and tells the breach
breach_told : (a b : Breach) → breach_numbers a ≡ breach_numbers b → a ≡ b
breach_told unbroken unbroken e = refl
breach_told unbroken (at x) e = let z : ◌≡◌ {A = ℕ} 0 1 = cc in absurd (omega arith)
breach_told unbroken (between x y) e = let z : ◌≡◌ {A = ℕ} 0 2 = cc in absurd (omega arith)
breach_told (at x) unbroken e = let z : ◌≡◌ {A = ℕ} 1 0 = cc in absurd (omega arith)
breach_told (at x) (at y) e = let z : x ≡ y = cc in ap at z
breach_told (at x) (between y w) e = let z : ◌≡◌ {A = ℕ} 1 2 = cc in absurd (omega arith)
breach_told (between x y) unbroken e = let z : ◌≡◌ {A = ℕ} 2 0 = cc in absurd (omega arith)
breach_told (between x y) (at w) e = let z : ◌≡◌ {A = ℕ} 2 1 = cc in absurd (omega arith)
breach_told (between x y) (between u w) e = let i : x ≡ u = cc in let j : y ≡ w = cc in rw (i, j) refl

-- ---- for any answer and words that meet the contract

module _ (sheet file ws vs : List ℕ) (r : Result Finding Refusal) (c : ChecksPlant (read_kb limit sheet) file ws vs r) where
  -- one that is not reading's
  refused_late : (n p : ℕ) → Late n → p ≡ 0 → vs ≡ ws → Refused sheet ws vs n p
  refused_late n p t z q = record {
    reasoned = record {
      among = (check_refusal_numbers n).1 (⊎_elim (λ i. inl (inl (omega arith, omega arith))) inr t);
      as_read = λ e. absurd (not_reading n t ((read_refusals n).0 e));
      nowhere = λ e. z;
    };
    untouched = q;
  }

  -- for a sheet that is read as k
  module _ (k : Kb) (e : read_kb limit sheet ≡ kb k) where
    abbrev v : View
    v = kb_view k

    abbrev d : Drawing
    d = drawing_of file

    ends : Ends k file ws (check_numbers r) vs
    ends = rw (c.answer, c.set, e) (check_ends k file ws)

    -- "Errors: the sheet's, then 10, then" the file's; where there are none it answers the first breach
    pub check_short : length ws < held v → check_numbers r ≡ 10 ∷ 0 ∷ []
    unfolding check_says
    check_short h = rw (c.answer, e) (says-short _ ws k h)

    pub check_faulty : held v ≤ length ws → file_fault v file ≢ 0 → check_numbers r ≡ file_fault v file ∷ 0 ∷ []
    unfolding check_says
    check_faulty h f = rw (c.answer, e) (says-enough _ ws k h ∙ faulty_says v file ws _ refl f)

    pub check_done : held v ≤ length ws → file_fault v file ≡ 0 → check_numbers r ≡ 0 ∷ 0 ∷ breach_numbers (breach v d)
    unfolding check_says
    check_done h z = rw (c.answer, e) (says-enough _ ws k h ∙ whole_says v file ws z)

    -- words past those needed are as before
    pub check_past : drop (held v) vs ≡ drop (held v) ws
    check_past = go ends
      where
        go : Ends k file ws (check_numbers r) vs → drop (held v) vs ≡ drop (held v) ws
        go (short h s q) = ap (drop (held v)) q
        go (faulty n t s q) = ap (drop (held v)) q
        go (done h s q) = ap (drop (held v)) q ∙ written-past (held v) (dominoes v) _ ws

    refused_read : (n p : ℕ) → check_numbers r ≡ n ∷ p ∷ [] → Refused sheet ws vs n p
    refused_read n p a = go ends
      where
        go : Ends k file ws (check_numbers r) vs → Refused sheet ws vs n p
        go (short h s q) =
            let i : 10 ≡ n = cc in
            let j : 0 ≡ p = cc in
            refused_late n p (inl (sym i)) (sym j) q
        go (faulty m t s q) =
            let i : m ≡ n = cc in
            let j : 0 ≡ p = cc in
            refused_late n p (inr ((file_faults n).0 (rw (← i) t))) (sym j) q
        go (done h s q) = absurd (not_longer (breach v d) n p (sym a ∙ s))

    -- an answer tells what breaks first, and the words needed hold the dominoes alone
    record Answered (b : Breach) : Type 0 where
      enough : held v ≤ length ws
      tells : breach v d ≡ b
      set : vs ≡ written (held v) (dominoes v) (drawn_set v d) ws

    answered : (b : Breach) → check_numbers r ≡ 0 ∷ 0 ∷ breach_numbers b → Answered b
    answered b a = go ends
      where
        go : Ends k file ws (check_numbers r) vs → Answered b
        go (short h s q) = absurd (not_longer b 10 0 (sym s ∙ a))
        go (faulty n t s q) = absurd (not_longer b n 0 (sym s ∙ a))
        go (done h s q) = record { enough = h; tells = breach_told (breach v d) b (ap (drop 2) (sym s ∙ a)); set = q }

    module _ (b : Breach) (a : check_numbers r ≡ 0 ∷ 0 ∷ breach_numbers b) where
      -- "the answer names the first item that breaks a rule, or else the first ordered pair of items"
      pub check_means : Says v d b
      check_means = (breach_means v d b).0 (answered b a).tells

      -- "write the plant's pairings, self-pairings included, as a set, spare bits cleared"
      pub check_set : Same (dominoes v) (look vs) (drawn_set v d)
      check_set n h =
          ap (λ (l : List ℕ). look l n) (answered b a).set
          ∙ written-look (held v) (dominoes v) (drawn_set v d) ws (words-room (dominoes v)) n h

      pub check_spare : (n : ℕ) → dominoes v ≤ n → n < 64 * held v → look vs n ≡ false
      check_spare n h l =
          ap (λ (l : List ℕ). look l n) (answered b a).set ∙ written-spare (held v) (dominoes v) (drawn_set v d) ws n h l

    -- "whether every flattened rule and link rule holds for every item": if so, what is drawn is a model
    module _ (a : check_numbers r ≡ 0 ∷ 0 ∷ 0 ∷ []) where
      pub check_holds_models : models (interpretation d) k ≡ true
      check_holds_models = drawn_models limit sheet k e d (answered unbroken a).tells

      -- "If all hold, judging drops none of these": judging the sheet with as many words
      pub check_holds_kept : (us : List ℕ) → length us ≡ length ws → (n : ℕ) → n < dominoes v → look vs n ≡ true
          → look (judge_leaves (read_kb limit sheet) us) n ≡ true
      check_holds_kept us l n h t =
          let w = answered unbroken a in
          rw (e, judge_leaves_lem k us (omega (arith, w.enough)))
          (written-look (held v) (dominoes v) (canon v) us (words-room (dominoes v)) n h
          ∙ holds_canon limit sheet k e d w.tells n h (sym (check_set unbroken a n h) ∙ t))

  pub check_sheet_refused : (n p : ℕ) → read_kb limit sheet ≡ refusal n p → check_numbers r ≡ n ∷ p ∷ []
  unfolding check_says
  check_sheet_refused n p e = rw (c.answer, e) (says-refused _ ws n p)

  -- "Errors: the sheet's, then 10, then by record 22, .. 23, .. 24, .. at the end 25, ..; the set is untouched"
  pub check_refusals : (n p : ℕ) → check_numbers r ≡ n ∷ p ∷ [] → Refused sheet ws vs n p
  unfolding check_leaves is_check_refusal is_set_refusal
  check_refusals n p a = go (read_kb limit sheet) refl
    where
      go : (s : Reading) → read_kb limit sheet ≡ s → Refused sheet ws vs n p
      go (refusal m q) e =
          let t : m ∷ q ∷ [] ≡ n ∷ p ∷ [] = sym (check_sheet_refused m q e) ∙ a in
          let i : m ≡ n = cc in
          let j : q ≡ p = cc in
          let f : read_kb limit sheet ≡ refusal n p = rw (← i, ← j) e in
          record {
            reasoned = record {
              among = or_l _ (or_l _ (refusal-number limit sheet f));
              as_read = λ x. f;
              nowhere = λ x. absurd (false≢true (sym x ∙ refusal-number limit sheet f));
            };
            untouched = c.set ∙ ap (λ (s : Reading). check_leaves s file ws) e ∙ leaves-refused _ ws m q;
          }
      go (kb k) e = refused_read k e n p a
