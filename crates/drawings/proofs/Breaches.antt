-- The least number that passes a test; and what the answer of a check means: where a drawing breaks first, or that it breaks nowhere.
use Prim.Native.Nat.{ℕ, zero, suc, ◌+◌, ◌≤◌, ◌<◌}
use native.Mathlib.Decide.{dec_lt}
use native.Mathlib.Numerals.{add-one}
use native.Mathlib.Omega.{arith}
use mathlib.Core.Path.{◌≡◌, refl, sym, ◌∙◌, subst}
use mathlib.Core.Logic.{◌↔◌, ◌⊎◌, inl, inr}
use mathlib.Core.Bool.{Bool, true, false, cond, false≢true}
use lib.Dec.{ltb}
use borrow.Author.Tests.{lt-ltb, le-ltb, ltb-true}
use Rattle.bitset.proofs.Facts.{dec, is_false, iff_eq, below_suc}
use Rattle.elimination.specs.Sets.{some}
use Rattle.elimination.proofs.Quantifiers.{any_intro, any_found}
use Rattle.semantics.specs.Conditions.{View}
use Rattle.drawings.specs.Entries.{Drawing}
use Rattle.drawings.specs.Meanings.{NoneBreaks, Says}
use Rattle.drawings.specs.Checking.{least, Breach, unbroken, at, between, individuals, breaks_at, breaks_between, pair_below, pair_breach, breach}

-- ---- the least number

module _ (f : ℕ → Bool) where
  -- one number more: the least stays, is the new number, or there is none yet
  pub least_none : least 0 f ≡ 0
  unfolding least
  least_none = refl

  pub least_stays : (n : ℕ) → least n f < n → least (n + 1) f ≡ least n f
  unfolding least
  least_stays n h = rw (add-one n, lt-ltb (least n f) n h) refl

  pub least_here : (n : ℕ) → least n f ≡ n → f n ≡ true → least (n + 1) f ≡ n
  unfolding least
  least_here n h e = rw (add-one n, h, le-ltb n n (omega arith), e) refl

  pub least_past : (n : ℕ) → least n f ≡ n → f n ≡ false → least (n + 1) f ≡ n + 1
  unfolding least
  least_past n h e = rw (add-one n, h, le-ltb n n (omega arith), e) refl

  -- k is the least number below n that passes, or n if none does
  pub record IsLeast (n k : ℕ) : Type 0 where
    pub within : k ≤ n
    pub passes : k < n → f k ≡ true
    pub before : (j : ℕ) → j < k → f j ≡ false

  pub least_right : (n : ℕ) → IsLeast n (least n f)
  least_right zero =
      record {
        within = omega (arith, least_none);
        passes = λ h. absurd (omega arith);
        before = λ j h. absurd (omega (arith, least_none));
      }
  least_right (suc n) = rw (← add-one n) (step (least_right n) (dec_lt (least n f) n) (dec (f n)))
    where
      step : IsLeast n (least n f) → Dec (least n f < n) → (f n ≡ true) ⊎ (f n ≡ false) → IsLeast (n + 1) (least (n + 1) f)
      step l (yes h) b = rw (least_stays n h) (record { within = omega arith; passes = λ i. l.passes h; before = l.before })
      step l (no h) (inl p) =
          let e : least n f ≡ n = omega (arith, l.within, h) in
          rw (least_here n e p) (record { within = omega arith; passes = λ i. p; before = λ j i. l.before j (omega (arith, i, e)) })
      step l (no h) (inr q) =
          let e : least n f ≡ n = omega (arith, l.within, h) in
          rw (least_past n e q)
          (record {
            within = omega arith;
            passes = λ i. absurd (omega arith);
            before = λ j i. below_suc j n (omega arith) (λ p. rw p q) (λ h. l.before j (omega (arith, h, e)));
          })

  -- there is one such number
  pub least_only : (n k : ℕ) → IsLeast n k → least n f ≡ k
  least_only n k l = omega (arith, l.within, m.within, low, high)
    where
      m : IsLeast n (least n f)
      m = least_right n

      low : k < least n f → ⊥
      low h = false≢true (sym (m.before k h) ∙ l.passes (omega (arith, m.within, h)))

      high : least n f < k → ⊥
      high h = false≢true (sym (l.before (least n f) h) ∙ m.passes (omega (arith, l.within, h)))

  -- none passes
  pub least_fails : (n : ℕ) → ((j : ℕ) → j < n → f j ≡ false) → least n f ≡ n
  least_fails n h = least_only n n (record { within = omega arith; passes = λ i. absurd (omega arith); before = h })

  -- the first that passes
  pub least_first : (n k : ℕ) → k < n → f k ≡ true → ((j : ℕ) → j < k → f j ≡ false) → least n f ≡ k
  least_first n k h p b = least_only n k (record { within = omega arith; passes = λ i. p; before = b })

  -- it is below n exactly if some number is
  pub least_some : (n : ℕ) → ltb (least n f) n ≡ some n f
  least_some n =
      iff_eq (ltb (least n f) n) (some n f)
      (λ e. let h = ltb-true (least n f) n e in any_intro n f (least n f) h ((least_right n).passes h))
      (λ e. let w = any_found n f e in lt-ltb (least n f) n (omega (arith, w.1, past w.0 w.2)))
    where
      past : (j : ℕ) → f j ≡ true → j < least n f → ⊥
      past j p i = false≢true (sym ((least_right n).before j i) ∙ p)

-- a search that finds the least number: none before k passes, and k does
pub least_found : (f : ℕ → Bool) (n k : ℕ) → least k f ≡ k → k < n → f k ≡ true → least n f ≡ k
least_found f n k e h p = least_first f n k h p (λ j l. (least_right f k).before j (omega (arith, e, l)))

-- once found it stays
pub least_later : (f : ℕ → Bool) (m k : ℕ) → m ≤ k → least m f < m → least k f ≡ least m f
least_later f m k h l = let r = least_right f m in least_first f k (least m f) (omega arith) (r.passes l) r.before

-- ---- the answer of a check

module _ (v : View) (d : Drawing) where
  abbrev n : ℕ
  n = individuals v d

  -- does some pair from x on break
  abbrev pub some_from : ℕ → Bool
  some_from x = some n (breaks_between v d x)

  pub none_from : (x : ℕ) → ((y : ℕ) → y < n → breaks_between v d x y ≡ false) → some_from x ≡ false
  none_from x h = is_false (some_from x) (λ e. let w = any_found n (breaks_between v d x) e in false≢true (sym (h w.0 w.1) ∙ w.2))

  each_of : (x : ℕ) → some_from x ≡ false → (y : ℕ) → y < n → breaks_between v d x y ≡ false
  each_of x e y l = is_false (breaks_between v d x y) (λ p. false≢true (sym e ∙ any_intro n (breaks_between v d x) y l p))

  pairs_say : NoneBreaks v d → Says v d (pair_breach v d)
  unfolding pair_below
  pairs_say h = go (least n some_from) (least_right some_from n) (dec_lt (least n some_from) n)
    where
      go : (x : ℕ) → IsLeast some_from n x → Dec (x < n) → Says v d (cond (ltb x n) (between x (least n (breaks_between v d x))) unbroken)
      go x l (yes i) =
          let m = least_right (breaks_between v d x) n in
          let w = any_found n (breaks_between v d x) (l.passes i) in
          let y : least n (breaks_between v d x) < n =
          ltb-true _ n (least_some (breaks_between v d x) n ∙ any_intro n (breaks_between v d x) w.0 w.1 w.2) in
          rw (lt-ltb x n i)
          (h, record { from = i; to = y; passes = m.passes y; before = λ z w p q. each_of z (l.before z p) w q; beside = m.before })
      go x l (no i) = rw (le-ltb x n (omega arith)) (record { each = h; pairs = λ z w p q. each_of z (l.before z (omega arith)) w q })

  pub breach_says : Says v d (breach v d)
  unfolding breach
  breach_says = go (least n (breaks_at v d)) (least_right (breaks_at v d) n) (dec_lt (least n (breaks_at v d)) n)
    where
      go : (x : ℕ) → IsLeast (breaks_at v d) n x → Dec (x < n) → Says v d (cond (ltb x n) (at x) (pair_breach v d))
      go x l (yes i) = rw (lt-ltb x n i) (record { within = i; passes = l.passes i; before = l.before })
      go x l (no i) = rw (le-ltb x n (omega arith)) (pairs_say (λ z p. l.before z (omega arith)))

  none_breach : NoneBreaks v d → breach v d ≡ pair_breach v d
  unfolding breach
  none_breach h = rw (least_fails (breaks_at v d) n h, le-ltb n n (omega arith)) refl

  -- it says so only there
  pub says_breach : (b : Breach) → Says v d b → breach v d ≡ b
  unfolding breach pair_below
  says_breach unbroken h =
      none_breach h.each ∙ rw (least_fails some_from n (λ x l. none_from x (λ y. h.pairs x y l)), le-ltb n n (omega arith)) refl
  says_breach (at x) h = rw (least_first (breaks_at v d) n x h.within h.passes h.before, lt-ltb x n h.within) refl
  says_breach (between x y) h =
      let p = h.1 in
      none_breach h.0
      ∙ rw (
        least_first some_from n x p.from (any_intro n (breaks_between v d x) y p.to p.passes) (λ z l. none_from z (λ w. p.before z w l)),
        lt-ltb x n p.from,
        least_first (breaks_between v d x) n y p.to p.passes p.beside,
      ) refl

  pub breach_means : (b : Breach) → breach v d ≡ b ↔ Says v d b
  breach_means b = (λ e. subst (Says v d) e breach_says, says_breach b)
