-- Laws of Passed: a member stays or goes, adjacent ranges join.
use mathlib.Core.Path.{◌≡◌, refl, sym as flip, ap, subst, subst₂, ◌∙◌}
use mathlib.Core.Bool.{Bool, true, false, false≢true, ◌||◌, or-true, or-false}
use mathlib.Core.List.{List}
use Prim.Native.Nat.{ℕ, ◌+◌, ◌*◌, ◌≤◌, ◌<◌}
use native.Mathlib.Nat.{le_refl}
use native.Mathlib.Omega.{arith}
use native.Mathlib.Decide.{ℕ_discrete}
use lib.Dec.{T, ltb, ltb→lt, nltb→le, not_T}
use lib.ListN.{length}
use Rattle.bitset.specs.Bits.{Set, look, size, cleared}
use Rattle.bitset.specs.Runs.{Empty}
use Rattle.bitset.proofs.Facts.{either, and_left, T_of}
use Rattle.bitset.proofs.Words.{are-cleared, length-cleared, look-cleared}
use Rattle.bitset.proofs.Sizes.{size_mono, size_strict}
use Rattle.bitset.proofs.RunLaws.{look_same, look_other}
use Rattle.elimination.specs.Sets.{Sub}
use Rattle.elimination.proofs.Settling.{within-start, within_trans}
use Rattle.elimination.proofs.CallsOnWords.{within-cleared}
use Rattle.semantics.specs.Conditions.{View, dominoes, defective}
use Rattle.semantics.proofs.Defects.{defective_monotone}
use Rattle.domino_settling.specs.Sweeps.{Passed}

module _ (v : View) (test : Set → ℕ → Bool) where
  -- a range in which none is found that fails the test
  pub pass_idle : (a e : ℕ) (ws : List ℕ) → ((n : ℕ) → a ≤ n → n < e → T (look ws n) → T (test (look ws) n) → ⊥) → Passed v test a e ws ws false
  pass_idle a e ws f = record {
    long = refl;
    are = λ t. t;
    within = within-start (dominoes v) (defective v) (defective_monotone v) (look ws);
    outside = λ n h. refl;
    still = λ q. (refl, f);
    fewer = λ q. absurd (false≢true q);
  }

  -- a range without a member
  pub pass_empty : (a e : ℕ) (ws : List ℕ) → Empty a e ws → Passed v test a e ws ws false
  unfolding Empty
  pass_empty a e ws z = pass_idle a e ws (λ n h l t u. T_of (z n h l) t)

  pub pass-none : (a e : ℕ) (ws : List ℕ) → a ≡ e → Passed v test a e ws ws false
  pass-none a e ws q = pass_idle a e ws (λ n h l. absurd (omega arith))

  module _ (a n : ℕ) (ws vs : List ℕ) (b : Bool) (k : Passed v test a n ws vs b) where
    -- the next number is out, or passes the test
    pub pass_stay : (T (look vs n) → T (test (look vs) n) → ⊥) → Passed v test a (n + 1) ws vs b
    pass_stay f = record {
      long = k.long;
      are = k.are;
      within = k.within;
      outside = k.outside;
      still = λ e. ((k.still e).0, λ m h l. go e m h l (ℕ_discrete m n));
      fewer = k.fewer;
    }
      where
        go : b ≡ false → (m : ℕ) → a ≤ m → m < n + 1 → Dec (m ≡ n) → T (look vs m) → T (test (look vs) m) → ⊥
        go e m h l (yes q) = subst (λ (x : ℕ). T (look vs x) → T (test (look vs) x) → ⊥) (flip q) f
        go e m h l (no q) = (k.still e).1 m h (omega arith)

    -- it is defective, and taken out
    pub pass_clear : n < dominoes v → dominoes v ≤ 64 * length ws → T (look vs n) → T (defective v (look vs) n) → Passed v test a (n + 1) ws (cleared vs n) true
    pass_clear h room t u =
        let l : 64 * length vs ≡ 64 * length ws = ap (λ (x : ℕ). 64 * x) k.long in
        let r : n < 64 * length vs = omega arith in
        let s : Sub (dominoes v) (look (cleared vs n)) (look vs) =
        λ m q w. and_left (look vs m) _ (T_of (look-cleared vs n (omega arith) m) w) in
        record {
          long = length-cleared vs n ∙ k.long;
          are = λ w. are-cleared vs n (k.are w);
          within = within-cleared (length vs) (dominoes v) (omega arith) (defective v) (defective_monotone v) (look ws) vs n (le_refl (length vs)) h k.within u;
          outside = λ m q. look_other vs n m r (λ e. omega arith) ∙ k.outside m q;
          still = λ e. absurd (false≢true (flip e));
          fewer = λ e.
              let x = size_strict (dominoes v) (look (cleared vs n)) (look vs) s n h t (not_T (look (cleared vs n) n) (λ w. T_of (look_same vs n r) w)) in
              let y = size_mono (dominoes v) (look vs) (look ws) k.within.inside in omega arith;
        }

  module _ (a e g : ℕ) (ws vs us : List ℕ) (b : Bool) (j : Passed v test a e ws vs b) where
    pass_moved : Passed v test e g vs us true → Passed v test a g ws us true
    pass_moved k = record {
      long = k.long ∙ j.long;
      are = λ t. k.are (j.are t);
      within = within_trans (dominoes v) (defective v) (defective_monotone v) (look ws) (look vs) (look us) j.within k.within;
      outside = λ n h. k.outside n h ∙ j.outside n h;
      still = λ q. absurd (false≢true (flip q));
      fewer = λ q.
          let x = k.fewer refl in
          let y = size_mono (dominoes v) (look vs) (look ws) j.within.inside in omega arith;
    }

    pass-still : Passed v test e g vs us false → Passed v test a g ws us b
    pass-still k =
        let s = (k.still refl).0 in
        record {
          long = k.long ∙ j.long;
          are = λ t. k.are (j.are t);
          within = within_trans (dominoes v) (defective v) (defective_monotone v) (look ws) (look vs) (look us) j.within k.within;
          outside = λ n h. k.outside n h ∙ j.outside n h;
          still = λ q. (
            s ∙ (j.still q).0,
            λ n h l.
                either (ltb n e)
                (λ t. subst (λ (x : List ℕ). T (look x n) → T (test (look x) n) → ⊥) (flip s) ((j.still q).1 n h (ltb→lt n e t)))
                (λ t. (k.still refl).1 n (nltb→le n e t) l),
          );
          fewer = λ q. subst (λ (x : List ℕ). size (dominoes v) (look x) < size (dominoes v) (look ws)) (flip s) (j.fewer q);
        }

    -- the next range: r says whether anything went there
    pub pass_on : (r : Bool) → Passed v test e g vs us r → Passed v test a g ws us (b || r)
    pass_on true k = rw or-true (pass_moved k)
    pass_on false k = rw or-false (pass-still k)

  -- the same range, written otherwise
  pub pass-at : (a b d e : ℕ) (ws vs : List ℕ) (m : Bool) → a ≡ b → d ≡ e → Passed v test a d ws vs m → Passed v test b e ws vs m
  pass-at a b d e ws vs m p q k = subst₂ (λ (x y : ℕ). Passed v test x y ws vs m) p q k
