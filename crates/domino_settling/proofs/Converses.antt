-- A domino whose converse is out is defective: the steps of matching runs and rows are steps of Passed.
use mathlib.Core.Path.{◌≡◌, refl, sym as flip, ap, subst, ◌∙◌}
use mathlib.Core.Bool.{Bool, true, false, not, ◌&&◌, ◌||◌, or-false}
use mathlib.Core.List.{List}
use Prim.Native.Nat.{ℕ, ◌+◌, ◌-◌, ◌*◌, ◌/◌, ◌%◌, ◌^◌, ◌≤◌, ◌<◌}
use native.Mathlib.Nat.{add_assoc, add-zero}
use native.Mathlib.Omega.{arith}
use lib.Dec.{T, T_not, not_T}
use lib.ListN.{length, get_or}
use Rattle.bitset.specs.Bits.{Set, look, cleared}
use Rattle.bitset.specs.Runs.{Empty}
use Rattle.bitset.proofs.Facts.{and_right, T_of, or_right, is_true, of_true}
use Rattle.bitset.proofs.Words.{length-cleared}
use Rattle.bitset.proofs.RunLaws.{stretch_empty}
use Rattle.semantics.specs.Dominoes.{Dominoes, total, number, left_of, roles_of, right_of_lem, inverse, numbered}
use Rattle.semantics.specs.Conditions.{View, delex, deluni, sym, sustained, dominoes, initial, lacks, defective}
use Rattle.semantics.proofs.Numbers.{number_lt, inverse_lt, inverse_twice}
use Rattle.domino_settling.specs.declared.matching.Run.{Run}
use Rattle.domino_settling.specs.declared.matching.Matching.{Matching}
use Rattle.tbox.specs.declared.base.Size.{Size}
use Rattle.domino_settling.specs.Sweeps.{unmatched, Passed, IsRun, RoomFor, MatchedIn}
use Rattle.domino_conditions.proofs.Rows.{total_le, next_run, run_end, run_part, run_le, at_place}
use Rattle.domino_conditions.proofs.Shifts.{words_numbers}
use Rattle.domino_initial.proofs.Dropping.{labels_words, run_words}
use Rattle.domino_settling.proofs.Passed.{pass_empty, pass-none, pass_stay, pass_clear, pass_on, pass-at}

-- the converse is out: the domino lacks something
pub unmatched-lacks : (v : View) (S : Set) (n : ℕ) → T (unmatched v S n) → T (lacks v S n)
unfolding unmatched lacks sustained
unmatched-lacks v S n t =
    let D : Dominoes = numbered v.parts v.roles S in
    let A : ℕ = left_of v.parts v.roles n in
    let R : ℕ = roles_of v.parts v.roles n in
    let B : ℕ = right_of_lem v.parts n in
    not_T (delex v D A && (deluni v D A && sym v D A R B))
    (λ u. T_not (sym v D A R B) t (and_right (deluni v D A) (sym v D A R B) (and_right (delex v D A) (deluni v D A && sym v D A R B) u)))

pub unmatched-defective : (v : View) (S : Set) (n : ℕ) → T (unmatched v S n) → T (defective v S n)
unmatched-defective v S n t = or_right (not (initial v n)) (lacks v S n) (unmatched-lacks v S n t)

-- a byte of a word is 0, and a word
pub byte_empty : (ws : List ℕ) (at from i k : ℕ) → (at + from) % 64 ≡ 0 → i < 8 → k ≡ 8 * i → get_or ws ((at + from) / 64) 0 / 2 ^ k % 256 ≡ 0
    → Empty (at + (from + k)) (at + (from + k + 8)) ws
byte_empty ws at from i k h l e z =
    let j : (at + (from + k)) / 64 ≡ (at + from) / 64 = omega arith in
    let q : (at + (from + k)) % 64 ≡ k = omega arith in
    stretch_empty ws (at + (from + k)) _ 8 (omega arith) (omega arith) (rw (j, q) z)

pub word_empty : (ws : List ℕ) (at i k : ℕ) → at % 64 ≡ 0 → k ≡ 64 * i → get_or ws (at / 64 + i) 0 ≡ 0 → Empty (at + k) (at + (k + 64)) ws
word_empty ws at i k h e z =
    let j : (at + k) / 64 ≡ at / 64 + i = omega arith in
    let q : (at + k) % 64 ≡ 0 = omega arith in
    stretch_empty ws (at + k) _ 64 (omega arith) (omega arith) (rw (j, q, z) refl)

-- ---- from x to y each domino whose converse is out went
module _ (c l : ℕ) where
  pub record Matched (x y : ℕ) (ws vs : List ℕ) (m : Bool) : Type 0 where
    pub long : length vs ≡ length ws
    pub passed : (v : View) → v.parts ≡ c → v.roles ≡ l → Passed v (unmatched v) x y ws vs m

  pub matched_none : (x y : ℕ) (ws : List ℕ) → x ≡ y → Matched x y ws ws false
  matched_none x y ws e = record { long = refl; passed = λ v p q. pass-none v (unmatched v) x y ws e }

  -- a part without a member
  pub matched_empty : (x y : ℕ) (ws : List ℕ) → Empty x y ws → Matched x y ws ws false
  matched_empty x y ws z = record { long = refl; passed = λ v p q. pass_empty v (unmatched v) x y ws z }

  -- a part, after it the next
  pub matched_on : (x y u z : ℕ) (ws vs us : List ℕ) (b r : Bool) → Matched x y ws vs b → y ≡ u → Matched u z vs us r
      → Matched x z ws us (b || r)
  matched_on x y u z ws vs us b r j t k = record {
    long = k.long ∙ j.long;
    passed = λ v p q. pass_on v (unmatched v) x u z ws vs us b (rw (← t) (j.passed v p q)) r (k.passed v p q);
  }

  -- a part, after it one without a member
  pub matched_past : (x y u z : ℕ) (ws vs : List ℕ) (b : Bool) → Matched x y ws vs b → y ≡ u → Empty u z vs → Matched x z ws vs b
  matched_past x y u z ws vs b j t e =
      subst (λ (m : Bool). Matched x z ws vs m) (or-false b) (matched_on x y u z ws vs vs b false j t (matched_empty u z vs e))

-- ---- a run

-- the converse of (a, r, b), for q the inverse of r, is (b, q, a)
unmatched-at : (v : View) (c l a q at b : ℕ) → v.parts ≡ c → v.roles ≡ l → a < 2 ^ c → q < 2 ^ (2 * l) → b < 2 ^ c
    → at ≡ number c l a (inverse l q) 0 → (S : Set) → unmatched v S (at + b) ≡ not (S (number c l b q a))
unfolding unmatched sym numbered
unmatched-at v c l a q at b p o la lq lb e S =
    let d = at_place c l a (inverse l q) b (record { left = la; roles = inverse_lt l q; right = lb }) in
    rw (p, o, e, d.left, d.right, d.roles, inverse_twice l q lq)

module _ (run : Run) where
  abbrev c : ℕ
  c = run.size.parts

  abbrev l : ℕ
  l = run.size.roles

  abbrev r : ℕ
  r = inverse l run.back

  -- it ends at or before the last domino
  pub run_in : run.at + 2 ^ c ≤ total c l
  run_in = omega (arith, run.first, run_le c l run.left r run.label (inverse_lt l run.back), next_run c l run.left r)

  -- a place of it is in the words
  module _ (words : ℕ) (room : RoomFor run words) (b : ℕ) (lb : b < 2 ^ c) where
    pub run_place : (w : ℕ) → w ≡ words → ((run.at + b) / 64 < w) × (run.at + b < 16777216)
    run_place w e =
        let t = total_le c l run.size.within in
        let i = run_in in
        (omega arith, omega arith)

    -- and so is its converse's
    pub converse_place : (n w : ℕ) → n ≡ number c l b run.back run.left → w ≡ words → n / 64 < w
    converse_place n w e g =
        let t = number_lt c l b run.back run.left (record { left = lb; roles = run.converse; right = run.label }) in
        omega arith

    unmatched-is : (v : View) → v.parts ≡ c → v.roles ≡ l → (S : Set) → unmatched v S (run.at + b) ≡ not (S (number c l b run.back run.left))
    unmatched-is v p q S = unmatched-at v c l run.left run.back run.at b p q run.label run.converse lb run.first S

    -- the converse is in, if the domino is
    pub match_stay : (x : ℕ) (ws vs : List ℕ) (d : Bool)
        → (look vs (run.at + b) ≡ true → look vs (number c l b run.back run.left) ≡ true)
        → Matched c l x (run.at + b) ws vs d → Matched c l x (run.at + (b + 1)) ws vs d
    match_stay x ws vs d t k =
        rw (← add_assoc run.at b 1) (record {
          long = k.long;
          passed = λ v p q. pass_stay v (unmatched v) x (run.at + b) ws vs d (k.passed v p q)
              (λ u w.
              T_not (look vs (number c l b run.back run.left)) (T_of (unmatched-is v p q (look vs)) w)
              (of_true (t (is_true (look vs (run.at + b)) u))));
        })

    -- the converse is out
    pub match_clear : (x : ℕ) (ws vs : List ℕ) (d : Bool) → length ws ≡ words → look vs (run.at + b) ≡ true
        → look vs (number c l b run.back run.left) ≡ false
        → Matched c l x (run.at + b) ws vs d → Matched c l x (run.at + (b + 1)) ws (cleared vs (run.at + b)) true
    match_clear x ws vs d n t u k =
        rw (← add_assoc run.at b 1) (record {
          long = length-cleared vs (run.at + b) ∙ k.long;
          passed = λ v p q.
              let z : total c l ≡ dominoes v = rw (p, q) in
              let i = run_in in
              pass_clear v (unmatched v) x (run.at + b) ws vs d (k.passed v p q) (omega arith) (omega arith) (of_true t)
              (unmatched-defective v (look vs) (run.at + b)
              (T_of (flip (unmatched-is v p q (look vs))) (of_true (ap not u))));
        })

  -- a word of it
  pub word-place : (words i w : ℕ) → RoomFor run words → 6 ≤ c → i < 2 ^ (c - 6) → w ≡ words
      → (run.at / 64 + i < w) × (64 * i + 64 ≤ 2 ^ c) × (run.at % 64 ≡ 0) × (i * 2 ^ 6 % 2 ^ 64 ≡ 64 * i)
  word-place words i w room six h g =
      let t = total_le c l run.size.within in
      let k = run_in in
      let s = labels_words c (2 ^ (c - 6)) six refl in
      let m = run_words c l run.left r run.at six run.first in
      (omega arith, omega arith, omega arith, words_numbers i (omega arith))

  -- a run of fewer than 64 labels is part of a word
  pub part_place : (words count : ℕ) → RoomFor run words → c < 6 → count ≡ 2 ^ c
      → (run.at / 64 < words) × (count ≤ 32) × (run.at % 64 + count ≤ 64)
  part_place words count room h e =
      run_part c l run.left words (record { within = run.size.within; few = run.few; label = run.label; room = room }) r run.at count words
      (inverse_lt l run.back) h run.first e refl

-- what is known of a run's matching, as a step of Matched
pub matched_of : {b e : ℕ} (s t : Matching) {m : Bool} → MatchedIn b e s t m
    → Matched s.run.size.parts s.run.size.roles (s.run.at + b) (s.run.at + e) s.set.now t.set.now m
matched_of s t k = record { long = k.long; passed = k.matched }

pub in_run : {b e : ℕ} (s t : Matching) {m : Bool} → t.set.ghost_name ≡ s.set.ghost_name → t.run ≡ s.run
    → Matched s.run.size.parts s.run.size.roles (s.run.at + b) (s.run.at + e) s.set.now t.set.now m → MatchedIn b e s t m
in_run s t h i k = record { set = h; run = i; long = k.long; matched = k.passed }

pub in_none : (b e : ℕ) (s : Matching) → b ≡ e → MatchedIn b e s s false
in_none b e s q = in_run s s refl refl (matched_none _ _ _ _ _ (ap (λ (x : ℕ). s.run.at + x) q))

module _ (b e f g : ℕ) (s t : Matching) (x : Bool) (j : MatchedIn b e s t x) (q : e ≡ f) where
  pub in_on : (u : Matching) (y : Bool) → MatchedIn f g t u y → MatchedIn b g s u (x || y)
  in_on u y k = in_run s u (k.set ∙ j.set) (k.run ∙ j.run)
      (matched_on _ _ _ _ _ _ _ _ _ _ _ (matched_of s t j) (ap (λ (x : ℕ). s.run.at + x) q)
      (subst (λ (r : Run). Matched r.size.parts r.size.roles (r.at + f) (r.at + g) t.set.now u.set.now y) j.run (matched_of t u k)))

  pub in_past : Empty (s.run.at + f) (s.run.at + g) t.set.now → MatchedIn b g s t x
  in_past z = in_run s t j.set j.run (matched_past _ _ _ _ _ _ _ _ _ (matched_of s t j) (ap (λ (x : ℕ). s.run.at + x) q) z)

-- the words that are left, written otherwise
pub matched_as : (b e : ℕ) (s t : Matching) (us : List ℕ) (x : Bool) → us ≡ t.set.now → MatchedIn b e s t x
    → Matched s.run.size.parts s.run.size.roles (s.run.at + b) (s.run.at + e) s.set.now us x
matched_as b e s t us x q k = rw q (matched_of s t k)

-- the whole of the run (a, r, _)
pub matched_run : (run : Run) (s : Size) (a r : ℕ) (ws vs : List ℕ) (m : Bool) → IsRun s a r run
    → Matched run.size.parts run.size.roles (run.at + 0) (run.at + 2 ^ run.size.parts) ws vs m
    → Matched s.parts s.roles (number s.parts s.roles a r 0) (number s.parts s.roles a (r + 1) 0) ws vs m
matched_run run s a r ws vs m i k =
    let p : run.size.parts ≡ s.parts = ap (λ (x : Size). x.parts) i.size in
    let q : run.size.roles ≡ s.roles = ap (λ (x : Size). x.roles) i.size in
    record {
      long = k.long;
      passed = λ v f g. pass-at v (unmatched v) _ _ _ _ ws vs m (add-zero run.at ∙ i.first)
          (run_end s.parts s.roles a r run.at (2 ^ run.size.parts) i.first (ap (λ (x : ℕ). 2 ^ x) p)) (k.passed v (f ∙ flip p) (g ∙ flip q));
    }
