-- What judge decides, from its contract alone: a refusal with its number and place, or whether the sheet has a finite model.
use Prim.Native.Nat.{ℕ, ◌≤◌, ◌<◌}
use native.Mathlib.Omega.{arith}
use mathlib.Core.Path.{◌≡◌, refl, sym as flip, ap, ◌∙◌}
use mathlib.Core.Logic.{◌⊎◌, inl, inr, ⊎_elim, ◌↔◌}
use mathlib.Core.Bool.{Bool, true, false, cond}
use mathlib.Core.List.{List, [], ◌∷◌}
use lib.Dec.{eqb}
use lib.ListN.{length, drop}
use Rattle.bitset.specs.Bits.{look, size}
use Rattle.records.specs.Places.{is_record_fault, is_reference_fault}
use Rattle.records.proofs.Places.{place_none}
use Rattle.syntax.specs.Reading.{Kb, Reading, refusal, kb, read_kb, is_read_refusal}
use Rattle.syntax.specs.Answers.{limit}
use Rattle.syntax.proofs.Refusals.{one_more, refusal-number, refusal-placed}
use Rattle.semantics.specs.Dominoes.{Met, number}
use Rattle.semantics.specs.Conditions.{View, dominoes, canon, canon_dominoes, held}
use Rattle.semantics.specs.Views.{kb_view}
use Rattle.semantics.proofs.Numbers.{number_lt}
use Rattle.semantics.proofs.Canonical.{canon-largest}
use Rattle.semantics.proofs.Verdict.{sheet-verdict, model_dominoes}
use Rattle.std.specs.Prelude.{Result, Ok, Err}
use Rattle.refusals.specs.Numbers.{number as number_of}
use Rattle.refusals.specs.declared.Refusal.{Refusal}
use Rattle.domino_labels.specs.declared.judging.Judgement.{Judgement}
use Rattle.domino_labels.specs.Judging.{met}
use Rattle.domino.specs.Answers.{is_set_refusal, on_set, judge_says, judge_leaves, Judges}
use Rattle.domino.specs.Decides.{RefusedRightly, DecidedRightly, Decides}
use Rattle.domino.proofs.OnSet.{on_why, on_cases, says-refusal, leaves-refusal}
use Rattle.elimination.proofs.Written.{written-past}
use Rattle.domino.proofs.WordsEnough.{judge_says_lem, judge_leaves_lem}
use Rattle.domino.proofs.Demand2.{canon-number, judged, values, verdict-is, survives}

-- lists of other lengths
pub unequal : {A : Type 0} (a b : List ℕ) → a ≡ b → length a < length b → A
unequal a b e h = absurd (omega (arith, ap length e))

-- ---- a refusal

module _ (sheet before : List ℕ) (n p : ℕ) (e : on_set refusal kb (read_kb limit sheet) (length before) ≡ refusal n p) where
  refused_rightly : RefusedRightly sheet before before n p
  unfolding is_set_refusal is_record_fault is_reference_fault
  refused_rightly =
      let w = on_why (read_kb limit sheet) (length before) n p e in
      record {
        why = w;
        among = (one_more (is_read_refusal n) n 10).1 (⊎_elim (λ f. inl (refusal-number limit sheet f)) (λ f. inr f.3) w);
        placed = ⊎_elim (refusal-placed limit sheet) (λ f. rw (f.3, f.4) (place_none sheet 10 refl refl)) w;
        untouched = refl;
      }

  judge_says_so : judge_says (read_kb limit sheet) before ≡ n ∷ p ∷ []
  unfolding judge_says
  judge_says_so = says-refusal _ before (read_kb limit sheet) n p e

  judge_leaves_so : judge_leaves (read_kb limit sheet) before ≡ before
  unfolding judge_leaves
  judge_leaves_so = leaves-refusal _ before (read_kb limit sheet) n p e

  from-refusal : (after : List ℕ) (r : Result Judgement Refusal) → Judges (read_kb limit sheet) before after r → Decides sheet before after r
  from-refusal after (Err r) j =
      let a : n ∷ p ∷ [] ≡ number_of r.reason ∷ r.place ∷ [] = flip (j.answer ∙ judge_says_so) in
      let i : n ≡ number_of r.reason = cc in
      let u : p ≡ r.place = cc in
      let s : before ≡ after = flip (j.set ∙ judge_leaves_so) in
      same i u s refused_rightly
    where
      same : {m q : ℕ} {us : List ℕ} → n ≡ m → p ≡ q → before ≡ us → RefusedRightly sheet before before n p → RefusedRightly sheet before us m q
      same i u s h = rw (← i, ← u, ← s) h
  from-refusal after (Ok x) j = unequal (n ∷ p ∷ []) _ (flip (j.answer ∙ judge_says_so)) (omega arith)

-- ---- an answer

-- a verdict, as a number and as a truth value
verdict_of_lem : {X : Type 0} (m : Bool) → ((◌≡◌ {A = ℕ} (cond m 1 0) 1) × X) ⊎ ((◌≡◌ {A = ℕ} (cond m 1 0) 0) × (X → ⊥))
    → ((m ≡ true) ↔ X) × ((m ≡ false) ↔ (X → ⊥))
verdict_of_lem true (inl f) = ((λ e. f.1, λ x. refl), (λ e x. let z : ◌≡◌ {A = ℕ} 0 1 = cc in omega arith, λ g. absurd (g f.1)))
verdict_of_lem true (inr f) = absurd (omega (arith, f.0))
verdict_of_lem false (inl f) = absurd (omega (arith, f.0))
verdict_of_lem false (inr f) = ((λ e. let z : ◌≡◌ {A = ℕ} 0 1 = cc in absurd (omega arith), λ x. absurd (f.1 x)), (λ e. f.1, λ g. refl))

module _ (sheet before : List ℕ) (k : Kb) (e : read_kb limit sheet ≡ kb k) (h : held (kb_view k) ≤ length before) where
  says : judge_says (read_kb limit sheet) before ≡ judge_says (kb k) before
  says = ap (λ (s : Reading). judge_says s before) e

  module _ (x : Judgement) (after : List ℕ) (j : Judges (read_kb limit sheet) before after (Ok x)) where
    abbrev o : ℕ
    o = x.opening

    abbrev n : ℕ
    n = x.survivors

    abbrev m : Bool
    m = met x

    answers : judge_says (kb k) before ≡ 0 ∷ 0 ∷ o ∷ n ∷ cond m 1 0 ∷ []
    answers = flip (j.answer ∙ says)

    leaves : after ≡ judge_leaves (kb k) before
    leaves = j.set ∙ ap (λ (s : Reading). judge_leaves s before) e

    verdict : ((m ≡ true) ↔ Met (canon_dominoes (kb_view k))) × ((m ≡ false) ↔ (Met (canon_dominoes (kb_view k)) → ⊥))
    verdict =
        verdict_of_lem m (verdict-is k before h (cond m 1 0) (eqb (size (dominoes (kb_view k)) (canon (kb_view k))) 0) refl
        (values k before h o n (cond m 1 0) answers).2)

    decided_rightly : DecidedRightly k before after o n m
    decided_rightly =
        let v : View = kb_view k in
        let t = sheet-verdict limit sheet k e in
        let w = values k before h o n (cond m 1 0) answers in
        let left : (p : ℕ) → look after p ≡ look (judge_leaves (kb k) before) p = λ p. ap (λ (us : List ℕ). look us p) leaves in
        record {
          enough = h;
          can_be_met = (λ q. t.0 (verdict.0.0 q), λ q. verdict.0.1 (t.1 q));
          cannot_be_met = (
            λ q I pos i. verdict.1.0 q (t.1 (I, pos, i)),
            λ f. verdict.1.1 (λ i. let s = t.0 i in f s.0 s.1 s.2),
          );
          members = λ A R B d.
              left (number v.parts v.roles A R B)
              ∙ judged k before h (number v.parts v.roles A R B) (number_lt v.parts v.roles A R B d)
              ∙ canon-number v A R B d;
          largest = canon-largest v;
          words = leaves ∙ judge_leaves_lem k before h;
          past = ap (drop (held v)) (leaves ∙ judge_leaves_lem k before h) ∙ written-past (held v) (dominoes v) (canon v) before;
          models-inside = λ I i A R B d.
              left (number v.parts v.roles A R B) ∙ survives k before h A R B (model_dominoes limit sheet k e I i A R B d);
          opening-size = w.0;
          survivor_count = w.1;
        }

  from-read : (after : List ℕ) (r : Result Judgement Refusal) → Judges (read_kb limit sheet) before after r → Decides sheet before after r
  from-read after (Err r) j = unequal (number_of r.reason ∷ r.place ∷ []) _ (j.answer ∙ says ∙ judge_says_lem k before h) (omega arith)
  from-read after (Ok x) j = (k, e, decided_rightly x after j)

-- for any bytes and words, and any answer and words that meet the contract of judge
pub decides : (sheet before after : List ℕ) (r : Result Judgement Refusal) → Judges (read_kb limit sheet) before after r → Decides sheet before after r
decides sheet before after r j =
    ⊎_elim (λ f. from-refusal sheet before f.0 f.1 f.2 after r j) (λ f. from-read sheet before f.0 f.1 f.2 after r j)
    (on_cases (read_kb limit sheet) (length before))
