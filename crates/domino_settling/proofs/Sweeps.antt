-- The sweep of a row is a step of Passed: a row without its witnesses goes, in another each domino is matched; and where a sweep
-- changes nothing, what is left is what settling leaves.
use mathlib.Core.Path.{◌≡◌, refl, sym as flip, ap, subst, subst₂, ◌∙◌}
use mathlib.Core.Bool.{Bool, true, false, not, ◌&&◌, ◌||◌, cond, false≢true}
use mathlib.Core.List.{List}
use Prim.Native.Nat.{ℕ, ◌+◌, ◌*◌, ◌^◌, ◌≤◌, ◌<◌}
use native.Mathlib.Omega.{arith}
use lib.Dec.{T, T_not, not_T}
use lib.ListN.{length}
use Rattle.bitset.specs.Bits.{Set, look, size, are_words}
use Rattle.bitset.specs.Runs.{Emptied, Empty}
use Rattle.bitset.proofs.Facts.{and_left, T_of, and_out, or_cases, or_right, is_true, of_true, and_l}
use Rattle.bitset.proofs.Sizes.{size_strict}
use Rattle.bitset.proofs.RunLaws.{in_or_out}
use Rattle.elimination.specs.Sets.{Sub}
use Rattle.elimination.specs.Elimination.{Within}
use Rattle.elimination.proofs.Settling.{stable-by, within-start, within_less, within_trans, within-stable}
use Rattle.semantics.specs.Dominoes.{Dominoes, number, left_of, roles_of, right_of_lem, numbered}
use Rattle.semantics.specs.Conditions.{View, kb, delex, deluni, sym, initially, sustained, dominoes, initial, lacks, defective}
use Rattle.semantics.proofs.Defects.{defective_monotone}
use Rattle.domino_conditions.specs.Polarity.{row_defect_lem}
use Rattle.domino_settling.specs.Sweeps.{unmatched, Passed, Swept, Stays, SweptFrom, SweptRow, SweptOnce, SweptAll, row_of}
use Rattle.domino_settling.specs.declared.settling.Sweep.{Sweep}
use Rattle.domino_conditions.specs.Tables.{condition_number, view}
use Rattle.domino_conditions.specs.declared.conditions.Condition.{Condition}
use Rattle.domino_conditions.specs.declared.conditions.Condition.TheVariants.{Kb, Ex, Uni, DelEx, DelUni, Sym, Rbox}
use Rattle.domino_conditions.proofs.Rows.{size_as, number-zero, row_le, left_in_row, row_end}
use Rattle.domino_conditions.proofs.Polarity.{witnessed-delex, witnessed-deluni}
use Rattle.domino_settling.proofs.Passed.{pass-none, pass_idle, pass_empty, pass_on, pass-at}

-- ---- the witnesses of a row

abbrev row_first : Bool → Bool → ℕ
row_first d u = cond d (cond u 0 5) 4

first-four : (d u s : Bool) → (row_first d u ≡ 0 → ⊥) → T (not (d && (u && s)))
first-four false u s f = tt
first-four true false s f = tt
first-four true true s f = absurd (f refl)

none_first : (d u s : Bool) → row_first d u ≡ 0 → T (not (d && (u && s))) → T (not s)
none_first false u s e t = absurd (omega arith)
none_first true false s e t = absurd (omega arith)
none_first true true s e t = t

row_first_lem : (v : View) (D : Dominoes) (A : ℕ) → row_defect_lem v D A ≡ row_first (delex v D A) (deluni v D A)
unfolding row_defect_lem
row_first_lem v D A = rw (witnessed-delex v D A, witnessed-deluni v D A)

-- a row with a defect: each domino of it lacks something
pub row-lacks : (v : View) (S : Set) (n a : ℕ) → left_of v.parts v.roles n ≡ a
    → (row_defect_lem v (numbered v.parts v.roles S) a ≡ 0 → ⊥) → T (lacks v S n)
unfolding lacks sustained
row-lacks v S n a e f =
    let D : Dominoes = numbered v.parts v.roles S in
    let A : ℕ = left_of v.parts v.roles n in
    first-four (delex v D A) (deluni v D A) (sym v D A (roles_of v.parts v.roles n) (right_of_lem v.parts n))
    (λ q. f (ap (row_defect_lem v D) (flip e) ∙ row_first_lem v D A ∙ q))

-- a row without: what lacks something is unmatched
pub row-unmatched : (v : View) (S : Set) (n a : ℕ) → left_of v.parts v.roles n ≡ a
    → row_defect_lem v (numbered v.parts v.roles S) a ≡ 0 → T (lacks v S n) → T (unmatched v S n)
unfolding lacks sustained unmatched
row-unmatched v S n a e f =
    let D : Dominoes = numbered v.parts v.roles S in
    let A : ℕ = left_of v.parts v.roles n in
    none_first (delex v D A) (deluni v D A) (sym v D A (roles_of v.parts v.roles n) (right_of_lem v.parts n))
    (flip (row_first_lem v D A) ∙ ap (row_defect_lem v D) e ∙ f)

-- a condition that fails has a number
pub fails-number : (k : Condition) (n : ℕ) → condition_number k ≡ n → n ≡ 0 → ⊥
fails-number Kb n e f = omega arith
fails-number Ex n e f = omega arith
fails-number Uni n e f = omega arith
fails-number DelEx n e f = omega arith
fails-number DelUni n e f = omega arith
fails-number Sym n e f = omega arith
fails-number Rbox n e f = omega arith

-- ---- a row

module _ (v : View) (a : ℕ) (la : a < 2 ^ v.parts) where
  abbrev pub from : ℕ
  from = number v.parts v.roles a 0 0

  abbrev pub upto : ℕ
  upto = number v.parts v.roles (a + 1) 0 0

  row_ends : (at size : ℕ) → at ≡ from → size ≡ 2 ^ (2 * v.roles + v.parts) → at + size ≡ upto
  row_ends at size e f = row_end v.parts v.roles a at size e (size_as v.parts v.roles size f)

  here : (n : ℕ) → from ≤ n → n < upto → left_of v.parts v.roles n ≡ a
  here n h l = left_in_row v.parts v.roles a n h l

  -- the label fails condition 1, so none of it is in
  pub sweep_bad : (ws : List ℕ) → Sub (dominoes v) (look ws) (initial v) → v.good a ≡ false → Passed v (defective v) from upto ws ws false
  unfolding initial initially kb
  sweep_bad ws s g =
      pass_idle v (defective v) from upto ws (λ n h l t u.
      let i = is_true (initial v n) (s n (omega (arith, row_le v.parts v.roles a la)) t) in
      false≢true (flip g ∙ ap v.good (flip (here n h l)) ∙ and_l (v.good (left_of v.parts v.roles n)) _ i))

  -- none of it is in
  pub sweep_idle : (ws : List ℕ) (at size : ℕ) → at ≡ from → size ≡ 2 ^ (2 * v.roles + v.parts) → Empty at (at + size) ws
      → Passed v (defective v) from upto ws ws false
  sweep_idle ws at size e f k =
      pass-at v (defective v) at from (at + size) upto ws ws false e (row_ends at size e f)
      (pass_empty v (defective v) at (at + size) ws k)

  -- a part lacks its witness, so all of it goes
  module _ (ws vs : List ℕ) (m : Bool) (f : row_defect_lem v (numbered v.parts v.roles (look ws)) a ≡ 0 → ⊥) (k : Emptied from upto ws vs m) where
    smaller : Sub (dominoes v) (look vs) (look ws)
    smaller n h u =
        in_or_out from upto n (λ i l. and_left (look ws n) false (T_of (k.kept.inside n i l) u)) (λ i. T_of (k.kept.outside n i) u)

    out : (n : ℕ) → from ≤ n → n < upto → T (look vs n) → ⊥
    out n h l u = T_of (k.kept.inside n h l ∙ and_out (look ws n) false refl) u

    gone : (n : ℕ) → T (look ws n) → T (not (look vs n)) → T (defective v (look ws) n)
    gone n u w =
        in_or_out from upto n (λ h l. or_right (not (initial v n)) (lacks v (look ws) n) (row-lacks v (look ws) n a (here n h l) f))
        (λ h. absurd (T_not (look vs n) w (T_of (flip (k.kept.outside n h)) u)))

    cleared : Passed v (defective v) from upto ws vs m
    cleared = record {
      long = k.kept.long;
      are = k.kept.are;
      within = within_less (dominoes v) (defective v) (defective_monotone v) (look ws) (look ws) (look vs)
          (within-start (dominoes v) (defective v) (defective_monotone v) (look ws)) smaller (λ n h u w. gone n u w);
      outside = λ n h. k.kept.outside n (λ x z. omega (arith, row_le v.parts v.roles a la));
      still = λ q. (k.still q, λ n h l u w. out n h l u);
      fewer = λ q.
          let r = k.gone q in
          size_strict (dominoes v) (look vs) (look ws) smaller r.0 (omega (arith, row_le v.parts v.roles a la, r.2)) (of_true r.3)
          (not_T (look vs r.0) (out r.0 r.1 r.2));
    }

  pub sweep_clear : (ws vs : List ℕ) (at size : ℕ) (m : Bool) → (row_defect_lem v (numbered v.parts v.roles (look ws)) a ≡ 0 → ⊥) → at ≡ from
      → size ≡ 2 ^ (2 * v.roles + v.parts) → Emptied at (at + size) ws vs m → Passed v (defective v) from upto ws vs m
  sweep_clear ws vs at size m f e g k =
      cleared ws vs m f (subst₂ (λ (x y : ℕ). Emptied x y ws vs m) e (row_ends at size e g) k)

  -- each part has its witness, so what was matched is not defective
  pub sweep_match : (ws vs : List ℕ) (m : Bool) → row_defect_lem v (numbered v.parts v.roles (look ws)) a ≡ 0 → Sub (dominoes v) (look ws) (initial v)
      → Passed v (unmatched v) from upto ws vs m → Passed v (defective v) from upto ws vs m
  sweep_match ws vs m f s k = record {
    long = k.long;
    are = k.are;
    within = k.within;
    outside = k.outside;
    still = λ q. (
      (k.still q).0,
      λ n h l t d.
          let e = (k.still q).0 in
          let i : T (initial v n) = s n (omega (arith, row_le v.parts v.roles a la)) (subst (λ (x : List ℕ). T (look x n)) e t) in
          let z : row_defect_lem v (numbered v.parts v.roles (look vs)) a ≡ 0 =
          ap (λ (x : List ℕ). row_defect_lem v (numbered v.parts v.roles (look x)) a) e ∙ f in
          or_cases (not (initial v n)) (lacks v (look vs) n) d (λ u. T_not (initial v n) u i)
          (λ u. (k.still q).1 n h l t (row-unmatched v (look vs) n a (here n h l) z u)),
    );
    fewer = k.fewer;
  }

-- ---- one row after another
pub same-set : {b e : ℕ} (s t : Sweep) {m : Bool} → t.set.ghost_name ≡ s.set.ghost_name → t.base ≡ s.base
    → Passed (view s.base.now) (defective (view s.base.now)) b e s.set.now t.set.now m → SweptFrom b e s t m
same-set s t j k p = record { stays = record { set = j; base = k }; passed = p }

pub swept-first : (s : Sweep) → SweptFrom 0 (row_of s 0) s s false
swept-first s = record {
  stays = record { set = refl; base = refl };
  passed = pass-none (view s.base.now) (defective (view s.base.now)) 0 (row_of s 0) s.set.now
      (flip (number-zero s.base.now.size.parts s.base.now.size.roles));
}

pub stays_on : {s t u : Sweep} → Stays s t → Stays t u → Stays s u
stays_on j k = record { set = k.set ∙ j.set; base = k.base ∙ j.base }

module _ (s t u : Sweep) (x y : Bool) where
  pub swept_on : (a : ℕ) → SweptFrom 0 (row_of s a) s t x → SweptRow a t u y → SweptFrom 0 (row_of s (a + 1)) s u (x || y)
  swept_on a j k = record {
    stays = stays_on j.stays k.stays;
    passed = pass_on (view s.base.now) (defective (view s.base.now)) 0 (row_of s a) (row_of s (a + 1)) s.set.now t.set.now u.set.now x j.passed y
        (subst (λ b. Passed (view b.now) (defective (view b.now)) (number b.now.size.parts b.now.size.roles a 0 0)
        (number b.now.size.parts b.now.size.roles (a + 1) 0 0) t.set.now u.set.now y) j.stays.base k.passed);
  }

-- what is left still meets the conditions of the initial set
pub still_opened : (v : View) (test : Set → ℕ → Bool) (a e : ℕ) (ws vs : List ℕ) (m : Bool) → Passed v test a e ws vs m
    → Sub (dominoes v) (look ws) (initial v) → Sub (dominoes v) (look vs) (initial v)
still_opened v test a e ws vs m k s n h t = s n h (k.within.inside n h t)

-- ---- sweeps one after another

-- only what is defective went
pub record Between (v : View) (ws vs : List ℕ) : Type 0 where
  pub long : length vs ≡ length ws
  pub are : T (are_words ws) → T (are_words vs)
  pub within : Within (dominoes v) (defective v) (look ws) (look vs)
  pub outside : (n : ℕ) → dominoes v ≤ n → look vs n ≡ look ws n

module _ (v : View) where
  pub between_none : (ws : List ℕ) → Between v ws ws
  between_none ws = record {
    long = refl;
    are = λ t. t;
    within = within-start (dominoes v) (defective v) (defective_monotone v) (look ws);
    outside = λ n h. refl;
  }

  pub between_more : (test : Set → ℕ → Bool) (a e : ℕ) (ws vs us : List ℕ) (m : Bool) → Between v ws vs → Passed v test a e vs us m → Between v ws us
  between_more test a e ws vs us m j k = record {
    long = k.long ∙ j.long;
    are = λ t. k.are (j.are t);
    within = within_trans (dominoes v) (defective v) (defective_monotone v) (look ws) (look vs) (look us) j.within k.within;
    outside = λ n h. k.outside n h ∙ j.outside n h;
  }

  -- the last one changed nothing
  pub between_last : (ws vs us : List ℕ) (m : Bool) → m ≡ false → Between v ws vs → Passed v (defective v) 0 (dominoes v) vs us m → Swept v ws us
  between_last ws vs us m q j k =
      let b = between_more (defective v) 0 (dominoes v) ws vs us m j k in
      record {
        long = b.long;
        are = b.are;
        leaves = within-stable (dominoes v) (defective v) (defective_monotone v) (look ws) (look us) b.within
            (stable-by (dominoes v) (defective v) (look us) (λ n h. (k.still q).1 n (omega arith) h));
        outside = b.outside;
      }

-- the same of a sweep's set
pub record SweptSome (s t : Sweep) : Type 0 where
  pub stays : Stays s t
  pub between : Between (view s.base.now) s.set.now t.set.now

pub some-none : (s : Sweep) → SweptSome s s
some-none s = record { stays = record { set = refl; base = refl }; between = between_none (view s.base.now) s.set.now }

module _ (s t u : Sweep) {m : Bool} where
  -- a sweep after others, as one of the knowledge base of the first
  again : SweptSome s t → SweptOnce t u m
      → Passed (view s.base.now) (defective (view s.base.now)) 0 (dominoes (view s.base.now)) t.set.now u.set.now m
  again j k = subst (λ b. Passed (view b.now) (defective (view b.now)) 0 (dominoes (view b.now)) t.set.now u.set.now m) j.stays.base k.passed

  pub some_more : SweptSome s t → SweptOnce t u m → SweptSome s u
  some_more j k = record {
    stays = stays_on j.stays k.stays;
    between = between_more (view s.base.now) _ _ _ _ _ _ _ j.between (again j k);
  }

  pub some-last : m ≡ false → SweptSome s t → SweptOnce t u m → SweptAll s u
  some-last q j k = record {
    stays = stays_on j.stays k.stays;
    swept = between_last (view s.base.now) _ _ _ _ q j.between (again j k);
  }

-- the words that are left, written otherwise
pub swept_as : (v : View) (ws vs us : List ℕ) → us ≡ vs → Swept v ws vs → Swept v ws us
swept_as v ws vs us e k = rw e k
