-- Demand 2: judging leaves the canonical set, the largest stable set; its verdict, its counts, its converses, and models.
use mathlib.Core.Path.{◌≡◌, refl, sym as flip, ap, ◌∙◌}
use mathlib.Core.Logic.{◌⊎◌, inl, inr}
use mathlib.Core.Bool.{Bool, true, false, not, cond}
use mathlib.Core.List.{List, [], ◌∷◌}
use Prim.Native.Nat.{ℕ, zero, suc, ◌≤◌, ◌<◌}
use native.Mathlib.Nat.{le_refl}
use native.Mathlib.Omega.{arith}
use lib.Dec.{T, eqb}
use lib.ListN.{length, get_or, take}
use borrow.Author.Tests.{eqb-true, eqb-false}
use Rattle.bitset.specs.Bits.{Set, look, words, are_words, size}
use Rattle.bitset.proofs.Facts.{either, T_of, is_true, of_true}
use Rattle.bitset.proofs.Sizes.{size_none}
use Rattle.bitset.proofs.RunLaws.{words-room}
use Rattle.elimination.specs.Sets.{below, Same}
use Rattle.elimination.specs.Elimination.{is_stable}
use Rattle.elimination.proofs.Settling.{stable_same, canonical-largest}
use Rattle.elimination.proofs.Written.{written_front, written-look, written-spare}
use Rattle.syntax.specs.Reading.{Kb, kb, read_kb}
use Rattle.syntax.specs.Answers.{limit}
use Rattle.semantics.specs.Dominoes.{Met, Domino, number, left_of, roles_of, right_of_lem, inverse, numbered, unnumbered}
use Rattle.semantics.specs.Conditions.{View, dominoes, initial, lacks, defective, canon, canon_dominoes, held}
use Rattle.semantics.specs.Views.{kb_view}
use Rattle.semantics.proofs.Numbers.{number_lt, left-number}
use Rattle.semantics.proofs.Defects.{lacks_monotone, defective_monotone}
use Rattle.semantics.proofs.Canonical.{dominoes_of, of_domino, of_number, of_unnumbered, canon-stable, canon-largest, canon-sym, canon-begins}
use Rattle.semantics.proofs.Stages.{final_canon, final_reached}
use Rattle.semantics.proofs.Verdict.{sheet-verdict, model_dominoes}
use Rattle.domino.specs.Answers.{open_leaves, judge_says, judge_leaves}
use Rattle.domino.specs.Demanded.{Demand2, FixedBySheet, NeverStranded, Demand2Models}
use Rattle.domino.proofs.WordsEnough.{open_leaves_lem, judge_says_lem, judge_leaves_lem, ones-left, stable-words, words-stable}

-- ---- the canonical set on numbers and as dominoes

module _ (v : View) where
  -- a domino is in it exactly if its number is
  pub canon-number : (A R B : ℕ) → Domino v.parts v.roles A R B → canon v (number v.parts v.roles A R B) ≡ canon_dominoes v A R B
  unfolding canon_dominoes dominoes_of
  canon-number A R B d = flip (of_number v (canon v) A R B d)

  canon_range : (A R B : ℕ) → canon_dominoes v A R B ≡ true → Domino v.parts v.roles A R B
  unfolding canon_dominoes dominoes_of
  canon_range A R B e = of_domino v (canon v) A R B e

  -- a number in it is that of a domino in it
  canon_domino : (n : ℕ) → n < dominoes v → T (canon v n)
      → canon_dominoes v (left_of v.parts v.roles n) (roles_of v.parts v.roles n) (right_of_lem v.parts n) ≡ true
  unfolding canon_dominoes dominoes_of unnumbered
  canon_domino n h t = of_unnumbered v (canon v) n h ∙ is_true (canon v n) t

  pub canon-most : (F : Set) → T (is_stable (dominoes v) (defective v) F) → (n : ℕ) → n < dominoes v → T (F n) → T (canon v n)
  unfolding canon
  canon-most F r = canonical-largest (dominoes v) (initial v) (lacks v) (lacks_monotone v) F r

-- a set whose size is not 0 has a member
size_member : (n : ℕ) (D : Set) → (size n D ≡ 0 → ⊥) → (p : ℕ) × (p < n) × T (D p)
unfolding size
size_member zero D f = absurd (f refl)
size_member (suc n) D f =
    either (D n) (λ t. (n, le_refl (suc n), t))
    (λ t. let r = size_member n D (λ e. f (rw (out (D n) t) (omega arith))) in (r.0, omega (arith, r.1), r.2))
  where
    out : (b : Bool) → T (not b) → b ≡ false
    out true t = absurd t
    out false t = refl

module _ (v : View) where
  -- the set has a member exactly if its size is not 0
  some_left : (size (dominoes v) (canon v) ≡ 0 → ⊥) → Met (canon_dominoes v)
  some_left f =
      let r = size_member (dominoes v) (canon v) f in
      (left_of v.parts v.roles r.0, roles_of v.parts v.roles r.0, right_of_lem v.parts r.0, canon_domino v r.0 r.1 r.2)

  none_left : size (dominoes v) (canon v) ≡ 0 → Met (canon_dominoes v) → ⊥
  none_left e m =
      let d = canon_range v m.0 m.1 m.2 m.3 in
      size_none (dominoes v) (canon v) e (number v.parts v.roles m.0 m.1 m.2)
      (number_lt v.parts v.roles m.0 m.1 m.2 d) (of_true (canon-number v m.0 m.1 m.2 d ∙ m.3))

-- ---- what judge answers and leaves

module _ (k : Kb) (ws : List ℕ) (h : held (kb_view k) ≤ length ws) where
  pub judged : Same (dominoes (kb_view k)) (look (judge_leaves (kb k) ws)) (canon (kb_view k))
  judged p l =
      ap (λ (us : List ℕ). look us p) (judge_leaves_lem k ws h)
      ∙ written-look (held (kb_view k)) (dominoes (kb_view k)) (canon (kb_view k)) ws (words-room (dominoes (kb_view k))) p l

  -- the three values of an answer that is no refusal
  pub values : (opening survivors met : ℕ) → judge_says (kb k) ws ≡ 0 ∷ 0 ∷ opening ∷ survivors ∷ met ∷ []
      → (opening ≡ size (dominoes (kb_view k)) (initial (kb_view k))) × (survivors ≡ size (dominoes (kb_view k)) (canon (kb_view k)))
      × (met ≡ cond (eqb (size (dominoes (kb_view k)) (canon (kb_view k))) 0) 0 1)
  values opening survivors met e =
      let q = flip e ∙ judge_says_lem k ws h in
      (ap (λ (l : List ℕ). get_or l 2 0) q, ap (λ (l : List ℕ). get_or l 3 0) q, ap (λ (l : List ℕ). get_or l 4 0) q)

  pub verdict-is : (met : ℕ) (b : Bool) → eqb (size (dominoes (kb_view k)) (canon (kb_view k))) 0 ≡ b → met ≡ cond b 0 1
      → ((met ≡ 1) × Met (canon_dominoes (kb_view k))) ⊎ ((met ≡ 0) × (Met (canon_dominoes (kb_view k)) → ⊥))
  verdict-is met true q e = inr (e, none_left (kb_view k) (eqb-true (size (dominoes (kb_view k)) (canon (kb_view k))) 0 q))
  verdict-is met false q e = inl (e, some_left (kb_view k) (eqb-false (size (dominoes (kb_view k)) (canon (kb_view k))) 0 q))

  judging-is : T (are_words ws) → Demand2 (kb k) (kb_view k) ws
  unfolding numbered
  judging-is t =
      let v : View = kb_view k in
      let same = judged in
      record {
        members = λ A R B d. same (number v.parts v.roles A R B) (number_lt v.parts v.roles A R B d) ∙ canon-number v A R B d;
        spare = λ n l u.
            ap (λ (us : List ℕ). look us n) (judge_leaves_lem k ws h) ∙ written-spare (held v) (dominoes v) (canon v) ws n l u;
        largest = canon-largest v;
        stable = stable-words v (judge_leaves (kb k) ws)
            (stable_same (dominoes v) (defective v) (defective_monotone v) (canon v) (look (judge_leaves (kb k) ws))
            (λ p l. flip (same p l)) (canon-stable v));
        most = λ vs r p l u. T_of (flip (same p l)) (canon-most v (look vs) (words-stable v vs r) p l u);
        definition_5 = λ i f A R B d.
            same (number v.parts v.roles A R B) (number_lt v.parts v.roles A R B d)
            ∙ canon-number v A R B d ∙ flip (final_canon v i f A R B d);
        definition_5-ends = final_reached v;
        verdict = λ o n m e. verdict-is m (eqb (size (dominoes v) (canon v)) 0) refl (values o n m e).2;
        counts = λ o n m e.
            let w = values o n m e in (
              w.0 ∙ ones-left v (initial v) ws (open_leaves (kb k) ws) (open_leaves_lem k ws h) t h,
              w.1 ∙ ones-left v (canon v) ws (judge_leaves (kb k) ws) (judge_leaves_lem k ws h) t h,
            );
      }

  -- a domino of the canonical set is in the words left
  pub survives : (A R B : ℕ) → canon_dominoes (kb_view k) A R B ≡ true
      → look (judge_leaves (kb k) ws) (number (kb_view k).parts (kb_view k).roles A R B) ≡ true
  survives A R B e =
      let v : View = kb_view k in
      let d = canon_range v A R B e in
      judged (number v.parts v.roles A R B) (number_lt v.parts v.roles A R B d) ∙ canon-number v A R B d ∙ e

  -- and so is its converse, which begins with its right label
  unstranded : NeverStranded (kb k) (kb_view k) ws
  unstranded =
      let v : View = kb_view k in
      let c : ℕ = v.parts in
      let L : ℕ = v.roles in
      record {
        converse = λ A R B d e.
            survives B (inverse L R) A
            (canon-sym v A R B (flip (canon-number v A R B d) ∙ flip (judged (number c L A R B) (number_lt c L A R B d)) ∙ e));
        begins = λ n l e.
            let B : ℕ = right_of_lem c n in
            let w = canon-begins v (left_of c L n) (roles_of c L n) B (canon_domino v n l (of_true (flip (judged n l) ∙ e))) in
            let R : ℕ = w.0 in
            let C : ℕ = w.1 in
            let d = canon_range v B R C w.2 in
            (number c L B R C, number_lt c L B R C d, survives B R C w.2, left-number c L B R C d);
      }

-- neither the words needed that are left nor what is said depends on the words lent
module _ (k : Kb) where
  front : (ws : List ℕ) → held (kb_view k) ≤ length ws
      → take (held (kb_view k)) (judge_leaves (kb k) ws) ≡ words (held (kb_view k)) (below (dominoes (kb_view k)) (canon (kb_view k)))
  front ws h =
      let v : View = kb_view k in
      ap (take (held v)) (judge_leaves_lem k ws h) ∙ written_front (held v) (dominoes v) (canon v) ws

  fixed : (ws vs : List ℕ) → held (kb_view k) ≤ length ws → held (kb_view k) ≤ length vs → FixedBySheet (kb k) (kb_view k) ws vs
  fixed ws vs h l =
      record { leaves = front ws h ∙ flip (front vs l); says = judge_says_lem k ws h ∙ flip (judge_says_lem k vs l) }

pub fixed_by-sheet : (sheet : List ℕ) (k : Kb) → read_kb limit sheet ≡ kb k → (ws vs : List ℕ) → held (kb_view k) ≤ length ws
    → held (kb_view k) ≤ length vs → FixedBySheet (read_kb limit sheet) (kb_view k) ws vs
fixed_by-sheet sheet k e ws vs h l = rw e (fixed k ws vs h l)

pub demand_2 : (sheet : List ℕ) (k : Kb) → read_kb limit sheet ≡ kb k → (ws : List ℕ) → T (are_words ws)
    → held (kb_view k) ≤ length ws → Demand2 (read_kb limit sheet) (kb_view k) ws
demand_2 sheet k e ws t h = rw e (judging-is k ws h t)

-- 02, N5: "No sheet can lead there"
pub never_stranded : (sheet : List ℕ) (k : Kb) → read_kb limit sheet ≡ kb k → (ws : List ℕ)
    → held (kb_view k) ≤ length ws → NeverStranded (read_kb limit sheet) (kb_view k) ws
never_stranded sheet k e ws h = rw e (unstranded k ws h)

pub demand_2-models : (sheet : List ℕ) (k : Kb) → read_kb limit sheet ≡ kb k → Demand2Models k
demand_2-models sheet k e =
    record {
      inside = model_dominoes limit sheet k e;
      met = λ I pos m. (sheet-verdict limit sheet k e).1 (I, pos, m);
    }
