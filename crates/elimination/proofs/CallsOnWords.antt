-- Open, strike and settle on words do to the set what they should, and demand 3 holds of the words.
-- Assumes of the test of defects that it is monotone, and nothing else.
use mathlib.Core.Path.{◌≡◌, refl, sym, ap, subst, ◌∙◌}
use mathlib.Core.Bool.{Bool, true, false, not, ◌&&◌, cond}
use mathlib.Core.List.{List, [], ◌∷◌}
use Prim.Native.Nat.{ℕ, ◌*◌, ◌≤◌, ◌<◌}
use native.Mathlib.Omega.{arith}
use lib.Dec.{T, eqb, ltb, eqb→eq, ltb→lt, lt→ltb, T_not, not_T}
use lib.ListN.{take, drop, length}
use Rattle.bitset.specs.Bits.{Set, look, words, are_words, without, cleared}
use Rattle.elimination.specs.Sets.{below, Sub, Same}
use Rattle.elimination.specs.Elimination.{is_stable, settled, Monotone, Within, defective_by, canonical}
use Rattle.elimination.specs.Calls.{Call, strike, settle, run_with, act, run_calls, struck, written, act_words, after, Demand3Words}
use Rattle.bitset.proofs.Facts.{and_left, and_right, and_both, T_same}
use Rattle.bitset.proofs.Words.{words_same, are-cleared, length-cleared, look-cleared, front}
use Rattle.elimination.proofs.Settling.{same_sub, same_sub', stable_same, defective_by_mono, within_remove, within_same, within-stable}
use Rattle.elimination.proofs.Written.{below_by, written-long, written-are, written-past, written-look, written-spare, drop-cleared}
use Rattle.elimination.proofs.Calls.{run_seen, run_same, run_sub, run_holds, run_stable, passes_stable}

-- ---- settling in place: a loop that clears the bits of defective members keeps `Within`, and where the set is stable
-- the words are those of what settling leaves
module _ (k N : ℕ) (room : N ≤ 64 * k) (defective : Set → ℕ → Bool) (mono : Monotone N defective) (D : Set) where
  pub within-cleared : (ws : List ℕ) (n : ℕ) → k ≤ length ws → n < N → Within N defective D (look ws) → T (defective (look ws) n) → Within N defective D (look (cleared ws n))
  within-cleared ws n l h w t =
      within_same N defective mono D (without (look ws) n) (look (cleared ws n)) (within_remove N defective mono D (look ws) n w t)
      (λ p q. sym (look-cleared ws n (omega arith) p))

  pub within-ends : (ws : List ℕ) → T (are_words ws) → k ≤ length ws → ((p : ℕ) → p < 64 * k → T (look ws p) → p < N)
      → Within N defective D (look ws) → T (is_stable N defective (look ws)) → take k ws ≡ words k (below N (settled N defective D))
  within-ends ws t l spare w r =
      let e = within-stable N defective mono D (look ws) w r in
      front k ws t l
      ∙ words_same k (look ws) (below N (settled N defective D))
      (below_by (64 * k) N (look ws) (settled N defective D)
      (λ p m h. T_same (look ws p) false (λ u. let q : p < N = spare p h u in omega arith) (λ u. absurd u)) e)

-- a choice by a test
cond_case : (P : List ℕ → Type 0) (b : Bool) (x y : List ℕ) → (T b → P x) → (T (not b) → P y) → P (cond b x y)
cond_case P true x y f g = f tt
cond_case P false x y f g = g tt

module _ (k N : ℕ) (room : N ≤ 64 * k) (ws₀ : List ℕ) where
  -- what every call keeps of the words
  record Intact (ws : List ℕ) : Type 0 where
    are : T (are_words ws)
    long : k ≤ length ws
    past : drop k ws ≡ drop k ws₀
    spare : (p : ℕ) → N ≤ p → p < 64 * k → look ws p ≡ false

  written_intact : (D : Set) (ws : List ℕ) → T (are_words ws) → k ≤ length ws → drop k ws ≡ drop k ws₀ → Intact (written k N D ws)
  written_intact D ws t l e = record {
    are = written-are k N D ws t;
    long = omega (arith, written-long k N D ws l);
    past = written-past k N D ws ∙ e;
    spare = written-spare k N D ws;
  }

  module _ (defective : Set → ℕ → Bool) where
    stay : (c : Call) (ws : List ℕ) → Intact ws → Intact (act_words k N defective c ws)
    stay (strike n) ws g =
        cond_case Intact (ltb n N && (look ws n && defective (look ws) n)) (cleared ws n) ws
        (λ t.
        let h : n < N = ltb→lt n N (and_left (ltb n N) (look ws n && defective (look ws) n) t) in
        let l : k ≤ length ws = g.long in
        record {
          are = are-cleared ws n g.are;
          long = omega (arith, length-cleared ws n);
          past = drop-cleared k ws n (omega arith) ∙ g.past;
          spare = λ p m l. look-cleared ws n (omega arith) p ∙ ap (λ (b : Bool). b && not (eqb p n)) (g.spare p m l);
        })
        (λ t. g)
    stay settle ws g = written_intact (settled N defective (look ws)) ws g.are g.long g.past

    does : (c : Call) (ws : List ℕ) → Intact ws → Same N (look (act_words k N defective c ws)) (act N defective c (look ws))
    does (strike n) ws g =
        cond_case (λ (vs : List ℕ). Same N (look vs) (struck N defective (look ws) n)) (ltb n N && (look ws n && defective (look ws) n)) (cleared ws n) ws
        (λ t p h.
        let m : n < N = ltb→lt n N (and_left (ltb n N) (look ws n && defective (look ws) n) t) in
        let l : k ≤ length ws = g.long in
        look-cleared ws n (omega arith) p
        ∙ ap (λ (b : Bool). look ws p && not b)
        (T_same (eqb p n) (eqb p n && (ltb n N && defective (look ws) n))
        (λ u. and_both (eqb p n) (ltb n N && defective (look ws) n) u
        (and_both (ltb n N) (defective (look ws) n) (lt→ltb n N m)
        (and_right (look ws n) (defective (look ws) n) (and_right (ltb n N) (look ws n && defective (look ws) n) t))))
        (and_left (eqb p n) (ltb n N && defective (look ws) n))))
        (λ t p h.
        T_same (look ws p) (struck N defective (look ws) n p)
        (λ u. and_both (look ws p) (not (eqb p n && (ltb n N && defective (look ws) n))) u
        (not_T (eqb p n && (ltb n N && defective (look ws) n))
        (λ v.
        let e : p ≡ n = eqb→eq p n (and_left (eqb p n) (ltb n N && defective (look ws) n) v) in
        let w : T (ltb n N && defective (look ws) n) = and_right (eqb p n) (ltb n N && defective (look ws) n) v in
        T_not (ltb n N && (look ws n && defective (look ws) n)) t
        (and_both (ltb n N) (look ws n && defective (look ws) n) (and_left (ltb n N) (defective (look ws) n) w)
        (and_both (look ws n) (defective (look ws) n) (subst (λ (m : ℕ). T (look ws m)) e u) (and_right (ltb n N) (defective (look ws) n) w))))))
        (and_left (look ws p) (not (eqb p n && (ltb n N && defective (look ws) n)))))
    does settle ws g = written-look k N (settled N defective (look ws)) ws room

    stays : (cs : List Call) (ws : List ℕ) → Intact ws → Intact (run_with (act_words k N defective) cs ws)
    stays [] ws g = g
    stays (c ∷ cs) ws g = stays cs (act_words k N defective c ws) (stay c ws g)

-- ---- demand 3 on words
module _ (k N : ℕ) (initial : Set) (lacks : Set → ℕ → Bool) (mono : Monotone N lacks) (room : N ≤ 64 * k) where
  -- the words after a list of calls hold the set after it
  after-seen : (cs : List Call) (ws : List ℕ) → T (are_words ws) → k ≤ length ws
      → Same N (look (after k N initial lacks cs ws)) (run_calls N (defective_by initial lacks) cs initial)
  after-seen cs ws t l p h =
      let defective = defective_by initial lacks in
      let opened = written k N initial ws in
      let lm : Monotone N (defective_by initial lacks) = defective_by_mono N initial lacks mono in
      run_seen N defective lm (List ℕ) look (act_words k N defective) (Intact k N room ws) (stay k N room ws defective)
      (does k N room ws defective) cs opened (written_intact k N room ws initial ws t l refl) p h
      ∙ run_same N defective lm cs (look opened) initial (written-look k N initial ws room) p h

  -- no call puts anything in
  pub after-initial : (cs : List Call) (ws : List ℕ) → T (are_words ws) → k ≤ length ws
      → Sub N (look (after k N initial lacks cs ws)) initial
  after-initial cs ws t l p h u =
      run_sub N (defective_by initial lacks) (defective_by_mono N initial lacks mono) cs initial p h
      (same_sub N (look (after k N initial lacks cs ws)) (run_calls N (defective_by initial lacks) cs initial) (after-seen cs ws t l) p h u)

  pub demand_3-words : (cs : List Call) (ws : List ℕ) → T (are_words ws) → k ≤ length ws → Demand3Words k N initial lacks cs ws
  demand_3-words cs ws t l =
      let defective = defective_by initial lacks in
      let opened = written k N initial ws in
      let lm : Monotone N (defective_by initial lacks) = defective_by_mono N initial lacks mono in
      let start : Intact k N room ws opened = written_intact k N room ws initial ws t l refl in
      let end : Intact k N room ws (after k N initial lacks cs ws) = stays k N room ws defective cs opened start in
      let seen : Same N (look (after k N initial lacks cs ws)) (run_calls N (defective_by initial lacks) cs initial) = after-seen cs ws t l in
      let arrived : T (is_stable N (defective_by initial lacks) (look (after k N initial lacks cs ws))) → Same N (look (after k N initial lacks cs ws)) (canonical N initial lacks) = λ r p h.
      seen p h ∙ run_stable N defective lm cs initial (stable_same N defective lm (look (after k N initial lacks cs ws)) (run_calls N defective cs initial) seen r) p h in
      record {
        past = end.past;
        keeps = λ p h u. same_sub' N (look (after k N initial lacks cs ws)) (run_calls N defective cs initial) seen p h (run_holds N defective lm cs initial p h u);
        exact = λ r.
            front k (after k N initial lacks cs ws) end.are end.long
            ∙ words_same k (look (after k N initial lacks cs ws)) (below N (canonical N initial lacks))
            (below_by (64 * k) N (look (after k N initial lacks cs ws)) (canonical N initial lacks) end.spare (arrived r));
        ends = λ r w z.
            stable_same N defective lm (run_calls N defective cs initial) (look (after k N initial lacks cs ws)) (λ p h. sym (seen p h)) (passes_stable N defective lm r cs initial w z);
      }
