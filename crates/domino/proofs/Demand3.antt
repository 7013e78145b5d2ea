-- Demand 3: what a single call does, and what every list of strikes and settlings from words just opened does.
use mathlib.Core.Path.{◌≡◌, refl, sym as flip, ap, ap₂, subst, ◌∙◌}
use mathlib.Core.Bool.{Bool, true, false, not, ◌&&◌, cond, and-true, and-false}
use mathlib.Core.List.{List, [], ◌∷◌}
use Prim.Native.Nat.{ℕ, ◌*◌, ◌≤◌, ◌<◌}
use native.Mathlib.Decide.{ℕ_discrete, dec_lt}
use native.Mathlib.Omega.{arith}
use lib.Dec.{T, eqb, ltb}
use lib.ListN.{length, get_or, take, drop}
use borrow.Author.Tests.{lt-ltb, le-ltb, ltb-true, eq-eqb, ne_eqb}
use Rattle.bitset.specs.Bits.{Set, look, are_words, cleared, size}
use Rattle.bitset.proofs.Facts.{T_of}
use Rattle.bitset.proofs.Words.{look-cleared}
use Rattle.bitset.proofs.RunLaws.{words-room}
use Rattle.elimination.specs.Sets.{Same}
use Rattle.elimination.specs.Elimination.{is_stable, settled, Monotone, Largest}
use Rattle.elimination.specs.Calls.{Call, strike, settle, run_with, strike_words, act_words, after, Demand3Words}
use Rattle.elimination.proofs.Settling.{same_sub, same_sub', stable_same, settled-largest}
use Rattle.elimination.proofs.CallsOnWords.{demand_3-words}
use Rattle.elimination.proofs.Written.{written-long, written-look, written-spare, written_front, strike-long}
use Rattle.syntax.specs.Reading.{Kb, kb, read_kb}
use Rattle.syntax.specs.Answers.{limit}
use Rattle.semantics.specs.Conditions.{View, dominoes, initial, lacks, defective, defect_at, canon, held}
use Rattle.semantics.specs.Views.{kb_view}
use Rattle.semantics.proofs.Defects.{lacks_monotone, defective-is, defective_monotone, defect-at_same}
use Rattle.domino.specs.Answers.{Verdict}
use Rattle.domino.specs.Answers.{verdict_numbers, verdict_of, open_leaves, strike_says, strike_leaves, settle_leaves}
use Rattle.domino.specs.Demanded.{StableWords, called, calls_leave, Demand3, Demand3Calls, SpareIgnored}
use Rattle.domino.proofs.WordsEnough.{open_says_lem, open_leaves_lem, strike-says, strike-beyond, strike-leaves, settle-says, settle-leaves, judge_leaves_lem, ones-left, stable-words, words-stable}

-- ---- single calls

-- a strike of a number below N: `fine` says that it is not defective
strike-named : (N : ℕ) (def : Set → ℕ → Bool) (n : ℕ) (ws : List ℕ) (fine : Bool) → n < N → N ≤ 64 * length ws → def (look ws) n ≡ not fine
    → look (strike_words N def n ws) n ≡ (look ws n && fine)
strike-named N def n ws fine h r e = rw (lt-ltb n N h, e) (go (look ws n) fine refl)
  where
    go : (b y : Bool) → look ws n ≡ b → look (cond (b && not y) (cleared ws n) ws) n ≡ (b && y)
    go true true q = q
    go true false q =
        look-cleared ws n (omega arith) n ∙ ap (λ (b : Bool). look ws n && not b) (eq-eqb n n refl) ∙ and-false (look ws n)
    go false y q = q

strike-others : (N : ℕ) (def : Set → ℕ → Bool) (n p : ℕ) (ws : List ℕ) → N ≤ 64 * length ws → (p ≡ n → ⊥)
    → look (strike_words N def n ws) p ≡ look ws p
strike-others N def n p ws r f = go (ltb n N) refl (look ws n && def (look ws) n)
  where
    go : (a : Bool) → ltb n N ≡ a → (b : Bool) → look (cond (a && b) (cleared ws n) ws) p ≡ look ws p
    go true q true =
        let h : n < N = ltb-true n N q in
        look-cleared ws n (omega arith) p ∙ ap (λ (b : Bool). look ws p && not b) (ne_eqb p n f) ∙ and-true (look ws p)
    go true q false = refl
    go false q b = refl

-- the largest stable subset, in other words
largest_same : (N : ℕ) (def : Set → ℕ → Bool) → Monotone N def → (D E F : Set) → Same N F E → Largest N def D E → Largest N def D F
largest_same N def mono D E F e a =
    record {
      inside = λ p h t. a.inside p h (same_sub N F E e p h t);
      stable = stable_same N def mono E F (λ p h. flip (e p h)) a.stable;
      most = λ G s r p h t. same_sub' N F E e p h (a.most G s r p h t);
    }

-- what a strike leaves, number by number
module _ (k : Kb) (ws : List ℕ) (h : held (kb_view k) ≤ length ws) (n : ℕ) where
  room : dominoes (kb_view k) ≤ 64 * length ws
  room = omega (arith, words-room (dominoes (kb_view k)))

  struck-at : n < dominoes (kb_view k) → look (strike_leaves (kb k) n ws) n ≡ (look ws n && eqb (defect_at (kb_view k) (look ws) n) 0)
  struck-at l =
      ap (λ (us : List ℕ). look us n) (strike-leaves k ws h n)
      ∙ strike-named (dominoes (kb_view k)) (defective (kb_view k)) n ws (eqb (defect_at (kb_view k) (look ws) n) 0) l room
      (defective-is (kb_view k) (look ws) n)

  others-at : (p : ℕ) → (p ≡ n → ⊥) → look (strike_leaves (kb k) n ws) p ≡ look ws p
  others-at p f =
      ap (λ (us : List ℕ). look us p) (strike-leaves k ws h n)
      ∙ strike-others (dominoes (kb_view k)) (defective (kb_view k)) n p ws room f

single_calls : (k : Kb) (ws : List ℕ) → T (are_words ws) → held (kb_view k) ≤ length ws → Demand3Calls (kb k) (kb_view k) ws
single_calls k ws t h =
    let v : View = kb_view k in
    let N : ℕ = dominoes v in
    let left : Set = settled N (defective v) (look ws) in
    let at : (us vs : List ℕ) (n : ℕ) → us ≡ vs → look us n ≡ look vs n = λ us vs n e. ap (λ (l : List ℕ). look l n) e in
    let best : Largest N (defective v) (look ws) (look (settle_leaves (kb k) ws)) =
    largest_same N (defective v) (defective_monotone v) (look ws) left (look (settle_leaves (kb k) ws))
    (λ p l. at _ _ p (settle-leaves k ws h) ∙ written-look (held v) N left ws (words-room (dominoes v)) p l)
    (settled-largest N (defective v) (defective_monotone v) (look ws)) in
    record {
      opened = λ p l. at _ _ p (open_leaves_lem k ws h) ∙ written-look (held v) N (initial v) ws (words-room (dominoes v)) p l;
      opened-spare = λ n l u. at _ _ n (open_leaves_lem k ws h) ∙ written-spare (held v) N (initial v) ws n l u;
      opened-count =
          open_says_lem k ws h
          ∙ ap (λ (m : ℕ). 0 ∷ 0 ∷ m ∷ []) (ones-left v (initial v) ws (open_leaves (kb k) ws) (open_leaves_lem k ws h) t h);
      struck = struck-at k ws h;
      others = others-at k ws h;
      refused = λ n l.
          strike-leaves k ws h n ∙ ap (λ (b : Bool). cond (b && (look ws n && defective v (look ws) n)) (cleared ws n) ws) (le-ltb n N l);
      stable = stable-words v (settle_leaves (kb k) ws) best.stable;
      largest = best;
      spare = λ n l u. at _ _ n (settle-leaves k ws h) ∙ written-spare (held v) N left ws n l u;
      count =
          settle-says k ws h
          ∙ ap (λ (m : ℕ). 0 ∷ 0 ∷ m ∷ []) (ones-left v left ws (settle_leaves (kb k) ws) (settle-leaves k ws h) t h);
    }

pub demand_3-calls : (sheet : List ℕ) (k : Kb) → read_kb limit sheet ≡ kb k → (ws : List ℕ) → T (are_words ws)
    → held (kb_view k) ≤ length ws → Demand3Calls (read_kb limit sheet) (kb_view k) ws
demand_3-calls sheet k e ws t h = rw e (single_calls k ws t h)

-- ---- words with the same dominoes in them, and perhaps other spare bits

module _ (k : Kb) (ws vs : List ℕ) (h : held (kb_view k) ≤ length ws) (l : held (kb_view k) ≤ length vs)
    (e : Same (dominoes (kb_view k)) (look ws) (look vs)) where
  verdict_same : (n : ℕ) → n < dominoes (kb_view k) → verdict_of (kb_view k) (look ws) n ≡ verdict_of (kb_view k) (look vs) n
  unfolding verdict_of
  verdict_same n q = rw (e n q, defect-at_same (kb_view k) (look ws) (look vs) e n q)

  says_same : (n : ℕ) → Dec (n < dominoes (kb_view k)) → strike_says (kb k) n ws ≡ strike_says (kb k) n vs
  says_same n (yes q) =
      strike-says k ws h n q ∙ ap (λ (x : Verdict). 0 ∷ 0 ∷ n ∷ verdict_numbers x) (verdict_same n q) ∙ flip (strike-says k vs l n q)
  says_same n (no q) = strike-beyond k ws h n (omega arith) ∙ flip (strike-beyond k vs l n (omega arith))

  leaves_same : (n p : ℕ) → p < dominoes (kb_view k) → Dec (p ≡ n)
      → look (strike_leaves (kb k) n ws) p ≡ look (strike_leaves (kb k) n vs) p
  leaves_same n p q (yes i) =
      let r : n < dominoes (kb_view k) = omega arith in
      let d : eqb (defect_at (kb_view k) (look ws) n) 0 ≡ eqb (defect_at (kb_view k) (look vs) n) 0 =
      ap (λ (m : ℕ). eqb m 0) (defect-at_same (kb_view k) (look ws) (look vs) e n r) in
      rw i (struck-at k ws h n r ∙ ap₂ ◌&&◌ (e n r) d ∙ flip (struck-at k vs l n r))
  leaves_same n p q (no i) = others-at k ws h n p i ∙ e p q ∙ flip (others-at k vs l n p i)

  ignored : SpareIgnored (kb k) (kb_view k) ws vs
  ignored =
      record {
        says = λ n. says_same n (dec_lt n (dominoes (kb_view k)));
        leaves = λ n p q. leaves_same n p q (ℕ_discrete p n);
      }

pub spare_ignored : (sheet : List ℕ) (k : Kb) → read_kb limit sheet ≡ kb k → (ws vs : List ℕ) → held (kb_view k) ≤ length ws
    → held (kb_view k) ≤ length vs → Same (dominoes (kb_view k)) (look ws) (look vs)
    → SpareIgnored (read_kb limit sheet) (kb_view k) ws vs
spare_ignored sheet k e ws vs h l same = rw e (ignored k ws vs h l same)

-- ---- the calls are those of elimination

act-long : (v : View) (c : Call) (us : List ℕ) → held v ≤ length us → length (act_words (held v) (dominoes v) (defective v) c us) ≡ length us
act-long v (strike n) us h = strike-long (dominoes v) (defective v) n us
act-long v settle us h = written-long (held v) (dominoes v) (settled (dominoes v) (defective v) (look us)) us h

call_is : (k : Kb) (c : Call) (us : List ℕ) → held (kb_view k) ≤ length us
    → called (kb k) c us ≡ act_words (held (kb_view k)) (dominoes (kb_view k)) (defective (kb_view k)) c us
call_is k (strike n) us h = strike-leaves k us h n
call_is k settle us h = settle-leaves k us h

calls_are : (k : Kb) (cs : List Call) (us : List ℕ) → held (kb_view k) ≤ length us
    → run_with (called (kb k)) cs us ≡ run_with (act_words (held (kb_view k)) (dominoes (kb_view k)) (defective (kb_view k))) cs us
calls_are k [] us h = refl
calls_are k (c ∷ cs) us h =
    ap (run_with (called (kb k)) cs) (call_is k c us h)
    ∙ calls_are k cs (act_words (held (kb_view k)) (dominoes (kb_view k)) (defective (kb_view k)) c us) (omega (arith, act-long (kb_view k) c us h))

pub calls_leave_lem : (k : Kb) (cs : List Call) (ws : List ℕ) → held (kb_view k) ≤ length ws
    → calls_leave (kb k) cs ws ≡ after (held (kb_view k)) (dominoes (kb_view k)) (initial (kb_view k)) (lacks (kb_view k)) cs ws
calls_leave_lem k cs ws h =
    ap (run_with (called (kb k)) cs) (open_leaves_lem k ws h)
    ∙ calls_are k cs _ (omega (arith, written-long (held (kb_view k)) (dominoes (kb_view k)) (initial (kb_view k)) ws h))

calls-long : (k : Kb) (cs : List Call) (us : List ℕ) → held (kb_view k) ≤ length us → length (run_with (called (kb k)) cs us) ≡ length us
calls-long k [] us h = refl
calls-long k (c ∷ cs) us h =
    let l : length (called (kb k) c us) ≡ length us = ap length (call_is k c us h) ∙ act-long (kb_view k) c us h in
    calls-long k cs (called (kb k) c us) (omega arith) ∙ l

pub calls_leave_long : (k : Kb) (cs : List Call) (ws : List ℕ) → held (kb_view k) ≤ length ws → length (calls_leave (kb k) cs ws) ≡ length ws
calls_leave_long k cs ws h =
    let l : length (open_leaves (kb k) ws) ≡ length ws =
    ap length (open_leaves_lem k ws h) ∙ written-long (held (kb_view k)) (dominoes (kb_view k)) (initial (kb_view k)) ws h in
    calls-long k cs (open_leaves (kb k) ws) (omega arith) ∙ l

-- ---- a list of calls

list_of_calls : (k : Kb) (cs : List Call) (ws : List ℕ) → T (are_words ws) → held (kb_view k) ≤ length ws → Demand3 (kb k) (kb_view k) cs ws
unfolding canon
list_of_calls k cs ws t h =
    let v : View = kb_view k in
    let a : List ℕ = after (held v) (dominoes v) (initial v) (lacks v) cs ws in
    let same : calls_leave (kb k) cs ws ≡ a = calls_leave_lem k cs ws h in
    let d : Demand3Words (held v) (dominoes v) (initial v) (lacks v) cs ws =
    demand_3-words (held v) (dominoes v) (initial v) (lacks v) (lacks_monotone v) (words-room (dominoes v)) cs ws t h in
    record {
      past = ap (drop (held v)) same ∙ d.past;
      keeps = λ p l u. subst (λ (us : List ℕ). T (look us p)) (flip same) (d.keeps p l
          (T_of (ap (λ (us : List ℕ). look us p) (judge_leaves_lem k ws h) ∙ written-look (held v) (dominoes v) (canon v) ws (words-room (dominoes v)) p l) u));
      exact = λ r.
          ap (take (held v)) same
          ∙ d.exact (subst (λ (us : List ℕ). T (is_stable (dominoes v) (defective v) (look us))) same (words-stable v (calls_leave (kb k) cs ws) r))
          ∙ flip (ap (take (held v)) (judge_leaves_lem k ws h) ∙ written_front (held v) (dominoes v) (canon v) ws);
      ends = λ o r e l p.
          let q : size (dominoes v) (initial v) ≡ o = ap (λ (l : List ℕ). get_or l 2 0) (flip (open_says_lem k ws h) ∙ e) in
          subst (StableWords v) (flip same) (stable-words v a (d.ends r p (omega arith)));
    }

pub demand_3 : (sheet : List ℕ) (k : Kb) → read_kb limit sheet ≡ kb k → (cs : List Call) (ws : List ℕ) → T (are_words ws)
    → held (kb_view k) ≤ length ws → Demand3 (read_kb limit sheet) (kb_view k) cs ws
demand_3 sheet k e cs ws t h = rw e (list_of_calls k cs ws t h)
