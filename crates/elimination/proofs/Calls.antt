-- Every list of strikes and settlings keeps what settling keeps, and enough passes leave nothing else: demand 3 on sets.
-- Assumes of `defective` that it is monotone, and nothing else.
use mathlib.Core.Path.{◌≡◌, refl, sym, ap, ap₂, subst, ◌∙◌}
use mathlib.Core.Bool.{Bool, not, ◌&&◌}
use mathlib.Core.List.{List, [], ◌∷◌, ◌++◌}
use Prim.Native.Nat.{ℕ, zero, suc, ◌≤◌, ◌<◌}
use native.Mathlib.Omega.{arith}
use lib.Dec.{T, eqb, ltb, eqb→eq, eqb_refl, lt→ltb, ltb→lt, T_not, not_T}
use Rattle.bitset.specs.Bits.{Set, size}
use Rattle.elimination.specs.Sets.{Sub, Same}
use Rattle.elimination.specs.Elimination.{is_stable, settled, Monotone, defective_by}
use Rattle.elimination.specs.Calls.{Call, strike, settle, strikes, pass, Passes, struck, act, run_calls, run_with, Demand3}
use Rattle.bitset.proofs.Facts.{either, and_left, and_right, and_both, T_same, T_of, or_cases}
use Rattle.bitset.proofs.Sizes.{size_mono, size_strict, size_none}
use Rattle.elimination.proofs.Settling.{sub_refl, same_by, same_sub, same_sub', stable-at, stable-by, not-stable, stable_same, settled-sub, settled-stable, settled-keeps, settled_same, defective_by_mono}
use Rattle.elimination.proofs.Quantifiers.{every-at}

module _ (N : ℕ) (defective : Set → ℕ → Bool) (mono : Monotone N defective) where
  -- ---- a strike
  pub struck-sub : (D : Set) (n : ℕ) → Sub N (struck N defective D n) D
  struck-sub D n p h t = and_left (D p) (not (eqb p n && (ltb n N && defective D n))) t

  -- it removes the number if this is defective
  pub struck-gone : (D : Set) (n : ℕ) → n < N → T (defective D n) → T (not (struck N defective D n n))
  struck-gone D n h u =
      not_T (struck N defective D n n)
      (λ t. T_not (eqb n n && (ltb n N && defective D n)) (and_right (D n) (not (eqb n n && (ltb n N && defective D n))) t)
      (and_both (eqb n n) (ltb n N && defective D n) (eqb_refl n) (and_both (ltb n N) (defective D n) (lt→ltb n N h) u)))

  -- another number stays, and so does one that is not defective, and every one if the number is refused
  pub struck_stays : (D : Set) (n p : ℕ) → (p ≡ n → n < N → T (defective D n) → ⊥) → struck N defective D n p ≡ D p
  struck_stays D n p f =
      T_same (struck N defective D n p) (D p) (λ t. and_left (D p) (not (eqb p n && (ltb n N && defective D n))) t)
      (λ t. and_both (D p) (not (eqb p n && (ltb n N && defective D n))) t
      (not_T (eqb p n && (ltb n N && defective D n))
      (λ u.
      let v : T (ltb n N && defective D n) = and_right (eqb p n) (ltb n N && defective D n) u in
      f (eqb→eq p n (and_left (eqb p n) (ltb n N && defective D n) u))
      (ltb→lt n N (and_left (ltb n N) (defective D n) v))
      (and_right (ltb n N) (defective D n) v))))

  struck-keeps : (F D : Set) (n : ℕ) → Sub N F D → T (is_stable N defective F) → Sub N F (struck N defective D n)
  struck-keeps F D n s r p h t =
      T_of (sym (struck_stays D n p
      (λ e l u. stable-at N defective F r n l (subst (λ (k : ℕ). T (F k)) e t) (mono F D s n l u))))
      (s p h t)

  -- ---- a list of calls
  pub act-sub : (c : Call) (D : Set) → Sub N (act N defective c D) D
  act-sub (strike n) D = struck-sub D n
  act-sub settle D = settled-sub N defective D

  act-keeps : (c : Call) (F D : Set) → Sub N F D → T (is_stable N defective F) → Sub N F (act N defective c D)
  act-keeps (strike n) F D s r = struck-keeps F D n s r
  act-keeps settle F D s r = settled-keeps N defective mono F D s r

  pub run_sub : (cs : List Call) (D : Set) → Sub N (run_calls N defective cs D) D
  run_sub [] D = λ p h t. t
  run_sub (c ∷ cs) D = λ p h t. act-sub c D p h (run_sub cs (act N defective c D) p h t)

  pub run_keeps : (cs : List Call) (F D : Set) → Sub N F D → T (is_stable N defective F) → Sub N F (run_calls N defective cs D)
  run_keeps [] F D s r = s
  run_keeps (c ∷ cs) F D s r = run_keeps cs F (act N defective c D) (act-keeps c F D s r) r

  run_append : (xs bs : List Call) (D : Set) → run_calls N defective (xs ++ bs) D ≡ run_calls N defective bs (run_calls N defective xs D)
  run_append [] bs D = refl
  run_append (a ∷ xs) bs D = run_append xs bs (act N defective a D)

  -- after every list of calls all that settling keeps is there; and if the set is stable, nothing else
  pub run_holds : (cs : List Call) (D : Set) → Sub N (settled N defective D) (run_calls N defective cs D)
  run_holds cs D = run_keeps cs (settled N defective D) D (settled-sub N defective D) (settled-stable N defective D)

  pub run_stable : (cs : List Call) (D : Set) → T (is_stable N defective (run_calls N defective cs D)) → Same N (run_calls N defective cs D) (settled N defective D)
  run_stable cs D r =
      same_by N (run_calls N defective cs D) (settled N defective D) (settled-keeps N defective mono (run_calls N defective cs D) D (run_sub cs D) r) (run_holds cs D)

  -- a stable set stays as it is
  pub run_still : (cs : List Call) (D : Set) → T (is_stable N defective D) → Same N (run_calls N defective cs D) D
  run_still cs D r = same_by N (run_calls N defective cs D) D (run_sub cs D) (run_keeps cs D D (sub_refl N D) r)

  run_still-stable : (cs : List Call) (D : Set) → T (is_stable N defective D) → T (is_stable N defective (run_calls N defective cs D))
  run_still-stable cs D r = stable_same N defective mono D (run_calls N defective cs D) (λ p h. sym (run_still cs D r p h)) r

  -- ---- passes: what is defective and struck is gone
  act-defective : (c : Call) (D : Set) (p : ℕ) → p < N → T (defective D p) → T (defective (act N defective c D) p)
  act-defective c D p h u = mono (act N defective c D) D (act-sub c D) p h u

  gone_stays : (cs : List Call) (D : Set) (p : ℕ) → p < N → T (not (D p)) → T (not (run_calls N defective cs D p))
  gone_stays cs D p h t = not_T (run_calls N defective cs D p) (λ u. T_not (D p) t (run_sub cs D p h u))

  struck_run : (cs : List Call) (D : Set) (p : ℕ) → p < N → T (defective D p) → T (strikes p cs) → T (not (run_calls N defective cs D p))
  struck_run [] D p h u t = absurd t
  struck_run (strike n ∷ cs) D p h u t =
      or_cases (eqb p n) (strikes p cs) t
      (λ e. gone_stays cs (struck N defective D n) p h
      (subst (λ (m : ℕ). T (not (struck N defective D m p))) (eqb→eq p n e) (struck-gone D p h u)))
      (λ s. struck_run cs (struck N defective D n) p h (act-defective (strike n) D p h u) s)
  struck_run (settle ∷ cs) D p h u t = struck_run cs (settled N defective D) p h (act-defective settle D p h u) t

  -- a pass removes a member unless the set is stable
  pub pass_less : (cs : List Call) (D : Set) → T (pass N cs) → T (not (is_stable N defective D)) → size N (run_calls N defective cs D) < size N D
  pass_less cs D r t =
      let w = not-stable N defective D t in
      size_strict N (run_calls N defective cs D) D (run_sub cs D) w.0 w.1 w.2
      (struck_run cs D w.0 w.1 w.3 (every-at N (λ p. strikes p cs) r w.0 w.1))

  -- after as many passes as the set has members it is stable
  pub passes_stable : (k : ℕ) (cs : List Call) (D : Set) → Passes N k cs → size N D ≤ k → T (is_stable N defective (run_calls N defective cs D))
  passes_stable zero cs D w l =
      stable-by N defective (run_calls N defective cs D) (λ p h t u. size_none N D (omega arith) p h (run_sub cs D p h t))
  passes_stable (suc k) cs D w l =
      let a = w.0 in
      let r = w.1 in
      let b = w.2 in
      let D₁ = run_calls N defective a D in
      let D₂ = run_calls N defective r D₁ in
      let e : run_calls N defective cs D ≡ run_calls N defective b D₂ =
      ap (λ (c : List Call). run_calls N defective c D) w.3 ∙ run_append a (r ++ b) D ∙ run_append r b D₁ in
      subst (λ (E : Set). T (is_stable N defective E)) (sym e)
      (either (is_stable N defective D₁)
      (λ t. run_still-stable b D₂ (run_still-stable r D₁ t))
      (λ t. passes_stable k b D₂ w.5
      (omega (arith, pass_less r D₁ w.4 t, size_mono N D₁ D (run_sub a D)))))

  -- ---- sets with the same members go the same way
  gate : (D E : Set) (n : ℕ) → Sub N D E → T (ltb n N && defective E n) → T (ltb n N && defective D n)
  gate D E n s t =
      let v : T (ltb n N) = and_left (ltb n N) (defective E n) t in
      and_both (ltb n N) (defective D n) v (mono D E s n (ltb→lt n N v) (and_right (ltb n N) (defective E n) t))

  pub act_same : (c : Call) (D E : Set) → Same N D E → Same N (act N defective c D) (act N defective c E)
  act_same (strike n) D E e = λ p h.
      ap₂ (λ (a b : Bool). a && not (eqb p n && b)) (e p h)
      (T_same (ltb n N && defective D n) (ltb n N && defective E n) (gate E D n (same_sub' N D E e)) (gate D E n (same_sub N D E e)))
  act_same settle D E e = settled_same N defective mono D E e

  pub run_same : (cs : List Call) (D E : Set) → Same N D E → Same N (run_calls N defective cs D) (run_calls N defective cs E)
  run_same [] D E e = e
  run_same (c ∷ cs) D E e = run_same cs (act N defective c D) (act N defective c E) (act_same c D E e)

  -- a state of another kind, seen as a set: if each call does to what is seen what it does to a set, so does every list of them
  pub run_seen : (S : Type 0) (see : S → Set) (work : Call → S → S) (good : S → Type 0)
      → ((c : Call) (s : S) → good s → good (work c s))
      → ((c : Call) (s : S) → good s → Same N (see (work c s)) (act N defective c (see s)))
      → (cs : List Call) (s : S) → good s → Same N (see (run_with work cs s)) (run_calls N defective cs (see s))
  run_seen S see work good stay does [] s g = λ p h. refl
  run_seen S see work good stay does (c ∷ cs) s g = λ p h.
      run_seen S see work good stay does cs (work c s) (stay c s g) p h
      ∙ run_same cs (see (work c s)) (act N defective c (see s)) (does c s g) p h

module _ (N : ℕ) (initial : Set) (lacks : Set → ℕ → Bool) (mono : Monotone N lacks) where
  -- ---- demand 3 on sets, for any list of calls
  pub demand_3 : (cs : List Call) → Demand3 N initial lacks cs
  demand_3 cs =
      record {
        keeps = run_holds N (defective_by initial lacks) (defective_by_mono N initial lacks mono) cs initial;
        exact = run_stable N (defective_by initial lacks) (defective_by_mono N initial lacks mono) cs initial;
        ends = λ k w l. passes_stable N (defective_by initial lacks) (defective_by_mono N initial lacks mono) k cs initial w l;
      }
