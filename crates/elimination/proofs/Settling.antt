-- Settling leaves the largest stable subset, and so does every order of removing defective members that ends in a stable set;
-- the canonical set is the largest stable set of all. Assumes of `defective` that it is monotone, and nothing else.
use mathlib.Core.Path.{◌≡◌, refl, sym, ap, subst, ◌∙◌}
use mathlib.Core.Bool.{Bool, true, false, not, ◌&&◌}
use mathlib.Core.List.{List, [], ◌∷◌}
use Prim.Native.Nat.{ℕ, zero, suc, ◌≤◌, ◌<◌}
use native.Mathlib.Omega.{arith}
use lib.Dec.{T, eqb, ltb, eqb→eq, T_not, not_T}
use Rattle.bitset.specs.Bits.{Set, without, size}
use Rattle.elimination.specs.Sets.{Sub, Same}
use Rattle.elimination.specs.Elimination.{is_stable, step, steps, settling, settled, Monotone, Largest, Within, removed, removals, defective_by, canonical}
use Rattle.elimination.proofs.Quantifiers.{every-at, every-by, every-not}
use Rattle.bitset.proofs.Facts.{either, and_left, and_right, and_both, T_same, T_of, not-not, or_cases, or_left, or_right}
use Rattle.bitset.proofs.Sizes.{size_strict, size_le, size_none}

module _ (N : ℕ) where
  pub sub_refl : (D : Set) → Sub N D D
  sub_refl D p h t = t

  pub sub_trans : (D E F : Set) → Sub N D E → Sub N E F → Sub N D F
  sub_trans D E F s u p h t = u p h (s p h t)

  pub same_by : (D E : Set) → Sub N D E → Sub N E D → Same N D E
  same_by D E s u p h = T_same (D p) (E p) (s p h) (u p h)

  pub same_sub : (D E : Set) → Same N D E → Sub N D E
  same_sub D E e p h t = T_of (e p h) t

  pub same_sub' : (D E : Set) → Same N D E → Sub N E D
  same_sub' D E e p h t = T_of (sym (e p h)) t

module _ (N : ℕ) (defective : Set → ℕ → Bool) where
  -- ---- stable, as a fact, and a defective member of a set that is not
  pub stable-at : (D : Set) → T (is_stable N defective D) → (p : ℕ) → p < N → T (D p) → T (defective D p) → ⊥
  unfolding is_stable
  stable-at D r p h t u =
      T_not (D p && defective D p) (every-at N (λ q. not (D q && defective D q)) r p h) (and_both (D p) (defective D p) t u)

  pub stable-by : (D : Set) → ((p : ℕ) → p < N → T (D p) → T (defective D p) → ⊥) → T (is_stable N defective D)
  unfolding is_stable
  stable-by D f =
      every-by N (λ q. not (D q && defective D q))
      (λ p h. not_T (D p && defective D p) (λ t. f p h (and_left (D p) (defective D p) t) (and_right (D p) (defective D p) t)))

  pub not-stable : (D : Set) → T (not (is_stable N defective D)) → (p : ℕ) × (p < N) × T (D p) × T (defective D p)
  unfolding is_stable
  not-stable D t =
      let r = every-not N (λ q. not (D q && defective D q)) t in
      let b : T (D r.0 && defective D r.0) = not-not (D r.0 && defective D r.0) r.2 in
      (r.0, r.1, and_left (D r.0) (defective D r.0) b, and_right (D r.0) (defective D r.0) b)

  -- ---- a step removes a member unless the set is stable
  pub step-sub : (D : Set) → Sub N (step N defective D) D
  step-sub D p h t = and_left (D p) (not (defective D p)) t

  pub step_less : (D : Set) → T (not (is_stable N defective D)) → size N (step N defective D) < size N D
  step_less D t =
      let r = not-stable D t in
      size_strict N (step N defective D) D (step-sub D) r.0 r.1 r.2
      (not_T (step N defective D r.0) (λ u. T_not (defective D r.0) (and_right (D r.0) (not (defective D r.0)) u) r.3))

  -- a set that a step does not change is stable
  pub still-stable : (D : Set) → Same N (step N defective D) D → T (is_stable N defective D)
  still-stable D e =
      stable-by D (λ p h t u. T_not (defective D p) (and_right (D p) (not (defective D p)) (same_sub' N (step N defective D) D e p h t)) u)

  -- ---- what settling leaves is a subset, and stable
  settling_case : (P : Set → Type 0) (k : ℕ) (D : Set) → (T (is_stable N defective D) → P D)
      → (T (not (is_stable N defective D)) → P (settling N defective k (step N defective D))) → P (settling N defective (suc k) D)
  settling_case P k D f g = go (is_stable N defective D) f g
    where
      go : (b : Bool) → (T b → P D) → (T (not b) → P (settling N defective k (step N defective D)))
          → P (elim b [ true ↦ D | false ↦ settling N defective k (step N defective D) ])
      go true u v = u tt
      go false u v = v tt

  settling-sub : (k : ℕ) (D : Set) → Sub N (settling N defective k D) D
  settling-sub zero D = λ p h t. t
  settling-sub (suc k) D =
      settling_case (λ (E : Set). Sub N E D) k D (λ r p h t. t)
      (λ r p h t. step-sub D p h (settling-sub k (step N defective D) p h t))

  settling-stable : (k : ℕ) (D : Set) → size N D ≤ k → T (is_stable N defective (settling N defective k D))
  settling-stable zero D l = stable-by D (λ p h t u. size_none N D (omega arith) p h t)
  settling-stable (suc k) D l =
      settling_case (λ (E : Set). T (is_stable N defective E)) k D (λ r. r)
      (λ r. settling-stable k (step N defective D) (omega (arith, step_less D r)))

  pub settled-sub : (D : Set) → Sub N (settled N defective D) D
  unfolding settled
  settled-sub D = settling-sub N D

  pub settled-stable : (D : Set) → T (is_stable N defective (settled N defective D))
  unfolding settled
  settled-stable D = settling-stable N D (size_le N D)

  module _ (mono : Monotone N defective) where
    -- ---- every stable subset is kept
    pub step_keeps : (F D : Set) → Sub N F D → T (is_stable N defective F) → Sub N F (step N defective D)
    step_keeps F D s r p h t =
        and_both (D p) (not (defective D p)) (s p h t) (not_T (defective D p) (λ u. stable-at F r p h t (mono F D s p h u)))

    settling-keeps : (k : ℕ) (F D : Set) → Sub N F D → T (is_stable N defective F) → Sub N F (settling N defective k D)
    settling-keeps zero F D s r = s
    settling-keeps (suc k) F D s r =
        settling_case (λ (E : Set). Sub N F E) k D (λ u. s)
        (λ u. settling-keeps k F (step N defective D) (step_keeps F D s r) r)

    pub settled-keeps : (F D : Set) → Sub N F D → T (is_stable N defective F) → Sub N F (settled N defective D)
    unfolding settled
    settled-keeps F D s r = settling-keeps N F D s r

    -- settling leaves the largest stable subset
    pub settled-largest : (D : Set) → Largest N defective D (settled N defective D)
    settled-largest D =
        record { inside = settled-sub D; stable = settled-stable D; most = λ F s r. settled-keeps F D s r }

    -- of which there is only one
    pub largest-one : (D E F : Set) → Largest N defective D E → Largest N defective D F → Same N E F
    largest-one D E F a b =
        same_by N E F (b.most E a.inside a.stable) (a.most F b.inside b.stable)

    -- a stable set is left as it is
    pub settled_fixed : (D : Set) → T (is_stable N defective D) → Same N (settled N defective D) D
    settled_fixed D r = same_by N (settled N defective D) D (settled-sub D) (settled-keeps D D (sub_refl N D) r)

    -- sets with the same members are settled alike
    pub stable_same : (D E : Set) → Same N D E → T (is_stable N defective D) → T (is_stable N defective E)
    stable_same D E e r =
        stable-by E (λ p h t u. stable-at D r p h (same_sub' N D E e p h t) (mono D E (same_sub N D E e) p h u))

    pub settled_same : (D E : Set) → Same N D E → Same N (settled N defective D) (settled N defective E)
    settled_same D E e =
        same_by N (settled N defective D) (settled N defective E)
        (settled-keeps (settled N defective D) E (λ p h t. same_sub N D E e p h (settled-sub D p h t)) (settled-stable D))
        (settled-keeps (settled N defective E) D (λ p h t. same_sub' N D E e p h (settled-sub E p h t)) (settled-stable E))

    -- ---- Definition 5: a set that the next step does not change is what settling leaves
    steps-keeps : (k : ℕ) (F D : Set) → Sub N F D → T (is_stable N defective F) → Sub N F (steps N defective k D)
    steps-keeps zero F D s r = s
    steps-keeps (suc k) F D s r = steps-keeps k F (step N defective D) (step_keeps F D s r) r

    pub steps-sub : (k : ℕ) (D : Set) → Sub N (steps N defective k D) D
    steps-sub zero D p h t = t
    steps-sub (suc k) D p h t = step-sub D p h (steps-sub k (step N defective D) p h t)

    pub steps-suc : (k : ℕ) (D : Set) → steps N defective (suc k) D ≡ step N defective (steps N defective k D)
    steps-suc zero D = refl
    steps-suc (suc k) D = steps-suc k (step N defective D)

    pub definition_5 : (i : ℕ) (D : Set) → Same N (steps N defective (suc i) D) (steps N defective i D) → Same N (steps N defective i D) (settled N defective D)
    definition_5 i D e =
        let r : T (is_stable N defective (steps N defective i D)) =
        still-stable (steps N defective i D) (λ p h. sym (ap (λ (E : Set). E p) (steps-suc i D)) ∙ e p h) in
        same_by N (steps N defective i D) (settled N defective D)
        (settled-keeps (steps N defective i D) D (steps-sub i D) r)
        (steps-keeps i (settled N defective D) D (settled-sub D) (settled-stable D))

    -- and there is one, after as many steps as the set has members at the most
    steps-stable : (k : ℕ) (D : Set) → size N D ≤ k → T (is_stable N defective (steps N defective k D))
    steps-stable zero D l = stable-by D (λ p h t u. size_none N D (omega arith) p h t)
    steps-stable (suc k) D l =
        either (is_stable N defective D)
        (λ r. stable_same D (steps N defective (suc k) D)
        (same_by N D (steps N defective (suc k) D) (steps-keeps (suc k) D D (sub_refl N D) r) (steps-sub (suc k) D)) r)
        (λ r. steps-stable k (step N defective D) (omega (arith, step_less D r)))

    -- and every later one is the same
    steps-settled : (k : ℕ) (D : Set) → size N D ≤ k → Same N (steps N defective k D) (settled N defective D)
    steps-settled k D l =
        same_by N (steps N defective k D) (settled N defective D)
        (settled-keeps (steps N defective k D) D (steps-sub k D) (steps-stable k D l))
        (steps-keeps k (settled N defective D) D (settled-sub D) (settled-stable D))

    pub definition_5-ends : (D : Set) → Same N (steps N defective (size N D) D) (settled N defective D)
    definition_5-ends D = steps-settled (size N D) D (omega arith)

    pub definition_5-still : (D : Set) → Same N (steps N defective (suc (size N D)) D) (steps N defective (size N D) D)
    definition_5-still D p h =
        steps-settled (suc (size N D)) D (omega arith) p h ∙ sym (steps-settled (size N D) D (omega arith) p h)

    -- ---- a loop that removes defective members in place, in any order
    pub within-start : (D : Set) → Within N defective D D
    within-start D = record { holds = settled-sub D; inside = sub_refl N D }

    -- one or many at once may go, if they are defective in the set as it is
    pub within_less : (D W U : Set) → Within N defective D W → Sub N U W
        → ((p : ℕ) → p < N → T (W p) → T (not (U p)) → T (defective W p)) → Within N defective D U
    within_less D W U w s f =
        record {
          holds = λ p h t.
              either (U p) (λ v. v)
              (λ v. absurd
              (stable-at (settled N defective D) (settled-stable D) p h t
              (mono (settled N defective D) W w.holds p h (f p h (w.holds p h t) v))));
          inside = λ p h t. w.inside p h (s p h t);
        }

    pub within_same : (D W U : Set) → Within N defective D W → Same N W U → Within N defective D U
    within_same D W U w e =
        record { holds = λ p h t. same_sub N W U e p h (w.holds p h t); inside = λ p h t. w.inside p h (same_sub' N W U e p h t) }

    -- one loop after another
    pub within_trans : (D W U : Set) → Within N defective D W → Within N defective W U → Within N defective D U
    within_trans D W U a b =
        record {
          holds = λ p h t. b.holds p h (settled-keeps (settled N defective D) W a.holds (settled-stable D) p h t);
          inside = λ p h t. a.inside p h (b.inside p h t);
        }

    without_sub : (D : Set) (n : ℕ) → Sub N (without D n) D
    without_sub D n p h t = and_left (D p) (not (eqb p n)) t

    -- one number goes
    pub within_remove : (D W : Set) (n : ℕ) → Within N defective D W → T (defective W n) → Within N defective D (without W n)
    within_remove D W n w u =
        within_less D W (without W n) w (without_sub W n)
        (λ p h t v.
        either (eqb p n) (λ e. subst (λ (m : ℕ). T (defective W m)) (sym (eqb→eq p n e)) u)
        (λ e. absurd (T_not (without W n p) v (and_both (W p) (not (eqb p n)) t e))))

    -- where the set is stable, it is what settling leaves
    pub within-stable : (D W : Set) → Within N defective D W → T (is_stable N defective W) → Same N W (settled N defective D)
    within-stable D W w r =
        same_by N W (settled N defective D) (settled-keeps W D w.inside r) w.holds

    within-removed : (ns : List ℕ) (D W : Set) → Within N defective D W → T (removals N defective ns W) → Within N defective D (removed ns W)
    within-removed [] D W w t = w
    within-removed (n ∷ ns) D W w t =
        within-removed ns D (without W n)
        (within_remove D W n w (and_right (ltb n N) (defective W n) (and_left (ltb n N && defective W n) (removals N defective ns (without W n)) t)))
        (and_right (ltb n N && defective W n) (removals N defective ns (without W n)) t)

    -- so whatever the order in which defective members go, if the end is stable it is what settling leaves
    pub removed-stable : (ns : List ℕ) (D : Set) → T (removals N defective ns D) → T (is_stable N defective (removed ns D))
        → Same N (removed ns D) (settled N defective D)
    removed-stable ns D t r = within-stable D (removed ns D) (within-removed ns D D (within-start D) t) r

-- ---- the canonical set
module _ (N : ℕ) (initial : Set) (lacks : Set → ℕ → Bool) (mono : Monotone N lacks) where
  pub defective_by_mono : Monotone N (defective_by initial lacks)
  defective_by_mono D E s p h t =
      or_cases (not (initial p)) (lacks E p) t (or_left (not (initial p)) (lacks D p))
      (λ u. or_right (not (initial p)) (lacks D p) (mono D E s p h u))

  -- a stable set is part of the initial one
  pub stable-initial : (F : Set) → T (is_stable N (defective_by initial lacks) F) → Sub N F initial
  stable-initial F r p h t =
      either (initial p) (λ u. u)
      (λ u. absurd (stable-at N (defective_by initial lacks) F r p h t (or_left (not (initial p)) (lacks F p) u)))

  -- so the canonical set is the largest of all stable sets
  pub canonical-stable : T (is_stable N (defective_by initial lacks) (canonical N initial lacks))
  canonical-stable = settled-stable N (defective_by initial lacks) initial

  pub canonical-largest : (F : Set) → T (is_stable N (defective_by initial lacks) F) → Sub N F (canonical N initial lacks)
  canonical-largest F r = settled-keeps N (defective_by initial lacks) defective_by_mono F initial (stable-initial F r) r

  -- a part of the initial set in which none lacks anything is part of the canonical one
  pub canonical-sound : (P : Set) → Sub N P initial → ((p : ℕ) → p < N → T (P p) → T (lacks P p) → ⊥) → Sub N P (canonical N initial lacks)
  canonical-sound P s f =
      canonical-largest P
      (stable-by N (defective_by initial lacks) P
      (λ p h t u. or_cases (not (initial p)) (lacks P p) u (λ v. T_not (initial p) v (s p h t)) (f p h t)))

  -- from the initial set on, Definition 5 asks only what a domino lacks
  lacks-stable : (F : Set) → T (is_stable N (defective_by initial lacks) F) → T (is_stable N lacks F)
  lacks-stable F r =
      stable-by N lacks F (λ p h t u. stable-at N (defective_by initial lacks) F r p h t (or_right (not (initial p)) (lacks F p) u))

  pub canonical-lacks : Same N (canonical N initial lacks) (settled N lacks initial)
  canonical-lacks =
      same_by N (canonical N initial lacks) (settled N lacks initial)
      (settled-keeps N lacks mono (canonical N initial lacks) initial (settled-sub N (defective_by initial lacks) initial) (lacks-stable (canonical N initial lacks) canonical-stable))
      (canonical-sound (settled N lacks initial) (settled-sub N lacks initial) (stable-at N lacks (settled N lacks initial) (settled-stable N lacks initial)))
