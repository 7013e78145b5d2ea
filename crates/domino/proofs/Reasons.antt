-- What a strike tells; settle, judge and lists of calls leave what the test without a number leaves; how the answers tell a set at
-- rest.
use mathlib.Core.Path.{◌≡◌, refl, sym as flip, ap, ap₂, ◌∙◌, fun_ext}
use mathlib.Core.Bool.{Bool, true, false, not, cond, false≢true}
use mathlib.Core.List.{List, [], ◌∷◌}
use Prim.Native.Nat.{ℕ, zero, suc, ◌≤◌, ◌<◌}
use native.Mathlib.Decide.{dec_lt}
use native.Mathlib.Omega.{arith}
use lib.Dec.{T, eqb, eqb→eq}
use lib.ListN.{length, get_or}
use borrow.Author.Tests.{ne_eqb, not-true}
use Rattle.bitset.specs.Bits.{Set, look, are_words}
use Rattle.bitset.proofs.Facts.{either, T_of, is_true, of_true}
use Rattle.bitset.proofs.RunLaws.{words-room}
use Rattle.elimination.specs.Calls.{run_with, strike_words, settle_words, act_words}
use Rattle.elimination.proofs.CallsOnWords.{after-initial}
use Rattle.syntax.specs.Bounds.{All}
use Rattle.syntax.specs.Reading.{Kb, kb, read_kb}
use Rattle.syntax.specs.Answers.{limit}
use Rattle.semantics.specs.Conditions.{View, order, FirstFails, dominoes, initial, lacks, defective, condition, condition_at, defect_at, held}
use Rattle.semantics.specs.Views.{kb_view}
use Rattle.semantics.proofs.Defects.{defect_le, defect-first, first-defect, defect_passes, passes_defect, defect-later, defective-is, lacks_monotone}
use Rattle.domino.specs.Answers.{Absent, Struck, Kept}
use Rattle.domino.specs.Answers.{verdict_numbers, verdict_of, open_leaves, strike_says}
use Rattle.domino.specs.Demanded.{StableWords, calls_leave}
use Rattle.domino.specs.Reasons.{absent, struck, kept, Tells, fails_some, AsBefore, Resting}
use Rattle.domino.proofs.WordsEnough.{open_leaves_lem, strike-says, strike-beyond, strike-leaves, settle-leaves}
use Rattle.domino.proofs.Demand1.{opened-settled}
use Rattle.domino.proofs.Demand3.{calls_leave_lem, calls_leave_long}

-- ---- the answer on a domino: `there` says that it is in the set, d is its defect, `none` that it has none

abbrev answer : ℕ → Bool → Bool → ℕ → List ℕ
answer n there none d = 0 ∷ 0 ∷ n ∷ verdict_numbers (cond there (cond none Kept (Struck d)) Absent)

abbrev verdict_in : List ℕ → ℕ
verdict_in says = get_or says 3 0

struck-answer : (n k : ℕ) (there none : Bool) (d : ℕ) → answer n there none d ≡ struck k n → (there ≡ true) × (none ≡ false) × (d ≡ k)
struck-answer n k false none d e = absurd (omega (arith, ap verdict_in e))
struck-answer n k true true d e = absurd (omega (arith, ap verdict_in e))
struck-answer n k true false d e = (refl, refl, ap (λ (says : List ℕ). get_or says 4 0) e)

absent-answer : (n : ℕ) (there none : Bool) (d : ℕ) → answer n there none d ≡ absent n → there ≡ false
absent-answer n false none d e = refl
absent-answer n true true d e = absurd (omega (arith, ap verdict_in e))
absent-answer n true false d e = absurd (omega (arith, ap verdict_in e))

kept-answer : (n : ℕ) (there none : Bool) (d : ℕ) → answer n there none d ≡ kept n → (there ≡ true) × (none ≡ true)
kept-answer n false none d e = absurd (omega (arith, ap verdict_in e))
kept-answer n true true d e = (refl, refl)
kept-answer n true false d e = absurd (omega (arith, ap verdict_in e))

some_number : (d : ℕ) → eqb d 0 ≡ false → 0 < d
some_number zero e = absurd (false≢true (flip e))
some_number (suc d) e = omega arith

-- ---- the laws of the first failing condition, by number

module _ (v : View) (S : Set) (n : ℕ) where
  first-at : (k : ℕ) → 0 < k → defect_at v S n ≡ k → FirstFails (condition_at v S n) order k
  unfolding defect_at
  first-at = defect-first v _ _ _ _

  at_first : (k : ℕ) → FirstFails (condition_at v S n) order k → defect_at v S n ≡ k
  unfolding defect_at
  at_first = first-defect v _ _ _ _

  -- condition 0 asks nothing
  first_some : (k : ℕ) → FirstFails (condition_at v S n) order k → 0 < k
  unfolding condition
  first_some zero f = absurd (false≢true (flip f.fails))
  first_some (suc k) f = omega arith

  passes_at : defect_at v S n ≡ 0 → All (λ (k : ℕ). condition_at v S n k ≡ true) order
  unfolding defect_at
  passes_at = defect_passes v _ _ _ _

  at_passes : All (λ (k : ℕ). condition_at v S n k ≡ true) order → defect_at v S n ≡ 0
  unfolding defect_at
  at_passes = passes_defect v _ _ _ _

  at_le : defect_at v S n ≤ 7
  unfolding defect_at
  at_le = defect_le v _ _ _ _

  at-later : initial v n ≡ true → (defect_at v S n ≡ 0 → ⊥) → (4 ≤ defect_at v S n) × (defect_at v S n ≤ 6)
  unfolding defect_at initial
  at-later = defect-later v _ _ _ _

-- ---- a strike

module _ (k : Kb) (ws : List ℕ) (h : held (kb_view k) ≤ length ws) where
  says : (n : ℕ) → n < dominoes (kb_view k)
      → strike_says (kb k) n ws ≡ answer n (look ws n) (eqb (defect_at (kb_view k) (look ws) n) 0) (defect_at (kb_view k) (look ws) n)
  unfolding verdict_of
  says n l = strike-says k ws h n l

  -- in the set, and with a defect
  says-struck : (n d : ℕ) → n < dominoes (kb_view k) → look ws n ≡ true → defect_at (kb_view k) (look ws) n ≡ d → 0 < d
      → strike_says (kb k) n ws ≡ struck d n
  says-struck n d l e f g =
      says n l ∙ ap (λ (b : Bool). answer n b (eqb (defect_at (kb_view k) (look ws) n) 0) (defect_at (kb_view k) (look ws) n)) e
      ∙ ap (λ (x : ℕ). answer n true (eqb x 0) x) f ∙ ap (λ (b : Bool). answer n true b d) (ne_eqb d 0 (λ q. omega arith))

  tells_of : (n : ℕ) → n < dominoes (kb_view k) → Tells (kb k) (kb_view k) ws n
  tells_of n l =
      let v : View = kb_view k in
      let d : ℕ = defect_at v (look ws) n in
      let s = says n l in
      record {
        absent_if = λ e. s ∙ ap (λ (b : Bool). answer n b (eqb d 0) d) e;
        struck_if = λ i e f. says-struck n i l e (at_first v (look ws) n i f) (first_some v (look ws) n i f);
        kept_if = λ e p.
            s ∙ ap (λ (b : Bool). answer n b (eqb d 0) d) e ∙ ap (λ (x : ℕ). answer n true (eqb x 0) x) (at_passes v (look ws) n p);
        absent_means = λ e. absent-answer n (look ws n) (eqb d 0) d (flip s ∙ e);
        struck_means = λ i e.
            let w = struck-answer n i (look ws n) (eqb d 0) d (flip s ∙ e) in
            let p : 0 < i = omega (arith, some_number (defect_at (kb_view k) (look ws) n) w.1, w.2) in
            (w.0, first-at v (look ws) n i p w.2, p, omega (arith, at_le v (look ws) n, w.2));
        kept_means = λ e.
            let w = kept-answer n (look ws n) (eqb d 0) d (flip s ∙ e) in
            (w.0, passes_at v (look ws) n (eqb→eq d 0 (of_true w.1)));
      }

-- a strike is told of a number below the number of dominoes
told_below : (k : Kb) (ws : List ℕ) → held (kb_view k) ≤ length ws → (n i : ℕ)
    → strike_says (kb k) n ws ≡ struck i n → n < dominoes (kb_view k)
told_below k ws h n i e = go (dec_lt n (dominoes (kb_view k)))
  where
    go : Dec (n < dominoes (kb_view k)) → n < dominoes (kb_view k)
    go (yes l) = l
    go (no l) = absurd (omega (arith, ap (λ (s : List ℕ). get_or s 0 0) (flip (strike-beyond k ws h n (omega (arith, l))) ∙ e)))

-- ---- what is left

test-is : (v : View) → defective v ≡ fails_some v
test-is v = fun_ext (λ S. fun_ext (λ n. defective-is v S n))

as_before : (k : Kb) (ws : List ℕ) → held (kb_view k) ≤ length ws → AsBefore (kb k) (kb_view k) ws
as_before k ws h =
    let v : View = kb_view k in
    let us : List ℕ = open_leaves (kb k) ws in
    let long : held (kb_view k) ≤ length (open_leaves (kb k) ws) = omega (arith, calls_leave_long k [] ws h) in
    record {
      test = defective-is v;
      strikes = λ n. strike-leaves k ws h n ∙ ap (λ (f : Set → ℕ → Bool). strike_words (dominoes v) f n ws) (test-is v);
      settles = settle-leaves k ws h ∙ ap (λ (f : Set → ℕ → Bool). settle_words (held v) (dominoes v) f ws) (test-is v);
      judges =
          opened-settled k ws h ∙ settle-leaves k us long
          ∙ ap (λ (f : Set → ℕ → Bool). settle_words (held v) (dominoes v) f us) (test-is v);
      calls = λ cs.
          calls_leave_lem k cs ws h
          ∙ ap₂ (λ (f : Set → ℕ → Bool) (us : List ℕ). run_with (act_words (held v) (dominoes v) f) cs us) (test-is v) (flip (open_leaves_lem k ws h));
    }

-- ---- at rest

-- struck: in the set, with that defect
told : (k : Kb) (ws : List ℕ) → held (kb_view k) ≤ length ws → (n i : ℕ) → strike_says (kb k) n ws ≡ struck i n
    → (n < dominoes (kb_view k)) × (look ws n ≡ true) × (0 < i) × (defect_at (kb_view k) (look ws) n ≡ i)
told k ws h n i e =
    let l : n < dominoes (kb_view k) = told_below k ws h n i e in
    let d : ℕ = defect_at (kb_view k) (look ws) n in
    let w = struck-answer n i (look ws n) (eqb d 0) d (flip (says k ws h n l) ∙ e) in
    (l, w.0, omega (arith, some_number (defect_at (kb_view k) (look ws) n) w.1, w.2), w.2)

resting_of : (k : Kb) (ws : List ℕ) → T (are_words ws) → held (kb_view k) ≤ length ws → Resting (kb k) (kb_view k) ws
unfolding StableWords
resting_of k ws t h =
    let v : View = kb_view k in
    record {
      no_strike = λ r n i e. let w = told k ws h n i e in omega (arith, r n w.0 w.1, w.2, w.3);
      at_rest = λ f n l e.
          let d : ℕ = defect_at v (look ws) n in
          either (eqb d 0) (eqb→eq d 0)
          (λ u. absurd (f n d l (says-struck k ws h n d l e refl (some_number d (not-true (eqb d 0) (is_true (not (eqb d 0)) u))))));
      later = λ cs n i e.
          let us : List ℕ = calls_leave (kb k) cs ws in
          let w = told k us (omega (arith, calls_leave_long k cs ws h)) n i e in
          let o : initial v n ≡ true =
          is_true (initial v n)
          (after-initial (held v) (dominoes v) (initial v) (lacks v) (lacks_monotone v) (words-room (dominoes v)) cs ws t h n w.0
          (T_of (ap (λ (l : List ℕ). look l n) (calls_leave_lem k cs ws h)) (of_true w.1))) in
          let m = at-later v (look us) n o (λ q. omega (arith, w.2, w.3, q)) in
          (omega (arith, m.0, w.3), omega (arith, m.1, w.3));
    }

-- ---- for a sheet that is read

module _ (sheet : List ℕ) (k : Kb) (e : read_kb limit sheet ≡ kb k) (ws : List ℕ) (h : held (kb_view k) ≤ length ws) where
  pub strike_tells : (n : ℕ) → n < dominoes (kb_view k) → Tells (read_kb limit sheet) (kb_view k) ws n
  strike_tells n l = rw e (tells_of k ws h n l)

  pub leaves_as_before : AsBefore (read_kb limit sheet) (kb_view k) ws
  leaves_as_before = rw e (as_before k ws h)

  pub strikes_rest : T (are_words ws) → Resting (read_kb limit sheet) (kb_view k) ws
  strikes_rest t = rw e (resting_of k ws t h)
