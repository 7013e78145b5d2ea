-- Of which condition a domino's defect is the number; a larger set has fewer defective dominoes, and the same set the same ones.
use mathlib.Core.Path.{◌≡◌, refl, sym as flip, ap, subst, ◌∙◌}
use mathlib.Core.Bool.{Bool, true, false, not, ◌&&◌, ◌||◌, cond}
use mathlib.Core.List.{List, [], ◌∷◌, ◌++◌}
use Prim.Native.Nat.{ℕ, ◌*◌, ◌^◌, ◌≤◌, ◌<◌}
use native.Mathlib.Omega.{arith}
use lib.Dec.{eqb}
use Rattle.bitset.specs.Bits.{Set, bit}
use Rattle.bitset.proofs.Facts.{not_mono, is_true, of_true, and_l, and_r_lem, and_i, imp_e, imp_i, iff_eq}
use Rattle.elimination.specs.Sets.{some, Same}
use Rattle.elimination.specs.Elimination.{Monotone}
use Rattle.elimination.proofs.Settling.{defective_by_mono}
use Rattle.elimination.proofs.Quantifiers.{all-at, all_intro, any_intro, any_found}
use Rattle.syntax.specs.Bounds.{All}
use Rattle.semantics.specs.Dominoes.{Dominoes, Domino, number, left_of, roles_of, right_of_lem, inverse, numbered}
use Rattle.semantics.specs.Conditions.{View, order, first_failing, FirstFails, kb, ex, uni, rbox, witness, delex, deluni, sym, condition, defect, initially, sustained, SameDominoes, dominoes, initial, lacks, defective, defect_at}
use Rattle.semantics.proofs.Numbers.{number_lt, domino_of, inverse_lt}

-- ---- the first number of a list whose test fails

module _ (test : ℕ → Bool) where
  fails-first : (ks : List ℕ) (k : ℕ) → FirstFails test ks k → first_failing test ks ≡ k
  unfolding first_failing
  fails-first ks k f = rw f.stands (go f.before f.pass)
    where
      go : (js : List ℕ) → All (λ (j : ℕ). test j ≡ true) js → first_failing test (js ++ (k ∷ f.after)) ≡ k
      go [] p = rw f.fails
      go (j ∷ js) p = rw p.0 (go js p.1)

  first-fails : (ks : List ℕ) (k : ℕ) → 0 < k → first_failing test ks ≡ k → FirstFails test ks k
  unfolding first_failing
  first-fails [] k h q = absurd (omega arith)
  first-fails (j ∷ ks) k h q = go (test j) refl q (first-fails ks k h)
    where
      go : (b : Bool) → test j ≡ b → cond b (first_failing test ks) j ≡ k → (first_failing test ks ≡ k → FirstFails test ks k)
          → FirstFails test (j ∷ ks) k
      go false e q r = subst (FirstFails test (j ∷ ks)) q (record { before = []; after = ks; stands = refl; pass = tt; fails = e })
      go true e q r =
          record {
            before = j ∷ (r q).before;
            after = (r q).after;
            stands = ap (λ (l : List ℕ). j ∷ l) (r q).stands;
            pass = (e, (r q).pass);
            fails = (r q).fails;
          }

  -- the first is in the list, if any fails
  first_in : (P : ℕ → Type 0) (ks : List ℕ) → P 0 → All P ks → P (first_failing test ks)
  unfolding first_failing
  first_in P [] z p = z
  first_in P (j ∷ ks) z p = go (test j) (first_in P ks z p.1)
    where
      go : (b : Bool) → P (first_failing test ks) → P (cond b (first_failing test ks) j)
      go false r = p.0
      go true r = r

  -- none fails
  first-none : (ks : List ℕ) → All (λ (k : ℕ). 0 < k) ks → first_failing test ks ≡ 0 → All (λ (k : ℕ). test k ≡ true) ks
  unfolding first_failing
  first-none [] z q = tt
  first-none (j ∷ ks) z q = go (test j) refl q (first-none ks z.1)
    where
      go : (b : Bool) → test j ≡ b → cond b (first_failing test ks) j ≡ 0 → (first_failing test ks ≡ 0 → All (λ (k : ℕ). test k ≡ true) ks)
          → All (λ (k : ℕ). test k ≡ true) (j ∷ ks)
      go false e q r = absurd (omega (arith, z.0))
      go true e q r = (e, r q)

  none_first : (ks : List ℕ) → All (λ (k : ℕ). test k ≡ true) ks → first_failing test ks ≡ 0
  unfolding first_failing
  none_first [] p = refl
  none_first (j ∷ ks) p = rw p.0 (none_first ks p.1)

order-some : All (λ (k : ℕ). 0 < k) order
order-some = (omega arith, (omega arith, (omega arith, (omega arith, (omega arith, (omega arith, (omega arith, tt)))))))

order_le : All (λ (k : ℕ). k ≤ 7) order
order_le = (omega arith, (omega arith, (omega arith, (omega arith, (omega arith, (omega arith, (omega arith, tt)))))))

-- ---- the conditions

-- the first of seven tests that fails: one of them fails; if the first four pass, it is a later one
first-not : (a b c g d e f : Bool)
    → (not (a && (b && (c && g))) || not (d && (e && f)))
    ≡ not (eqb (cond a (cond b (cond c (cond g (cond d (cond e (cond f 0 6) 5) 4) 7) 3) 2) 1) 0)
first-not false b c g d e f = refl
first-not true false c g d e f = refl
first-not true true false g d e f = refl
first-not true true true false d e f = refl
first-not true true true true false e f = refl
first-not true true true true true false f = refl
first-not true true true true true true false = refl
first-not true true true true true true true = refl

first-later : (d e f : Bool) → let k : ℕ = cond d (cond e (cond f 0 6) 5) 4 in (k ≡ 0 → ⊥) → (4 ≤ k) × (k ≤ 6)
first-later false e f h = (omega arith, omega arith)
first-later true false f h = (omega arith, omega arith)
first-later true true false h = (omega arith, omega arith)
first-later true true true h = absurd (h refl)

module _ (v : View) where
  -- the defect, condition by condition
  pub defect_cases : (D : Dominoes) (A R B : ℕ)
      → defect v D A R B ≡ cond (kb v A) (cond (ex v A R B) (cond (uni v A R B) (cond (rbox v R)
      (cond (delex v D A) (cond (deluni v D A) (cond (sym v D A R B) 0 6) 5) 4) 7) 3) 2) 1
  unfolding defect first_failing condition
  defect_cases D A R B = refl

  -- a defect is the number of the first condition that fails, and no defect is that none fails
  pub defect_le : (D : Dominoes) (A R B : ℕ) → defect v D A R B ≤ 7
  unfolding defect
  defect_le D A R B = first_in (condition v D A R B) (λ (k : ℕ). k ≤ 7) order (omega arith) order_le

  pub defect-first : (D : Dominoes) (A R B k : ℕ) → 0 < k → defect v D A R B ≡ k → FirstFails (condition v D A R B) order k
  unfolding defect
  defect-first D A R B = first-fails (condition v D A R B) order

  pub first-defect : (D : Dominoes) (A R B k : ℕ) → FirstFails (condition v D A R B) order k → defect v D A R B ≡ k
  unfolding defect
  first-defect D A R B = fails-first (condition v D A R B) order

  pub defect_passes : (D : Dominoes) (A R B : ℕ) → defect v D A R B ≡ 0 → All (λ (k : ℕ). condition v D A R B k ≡ true) order
  unfolding defect
  defect_passes D A R B = first-none (condition v D A R B) order order-some

  pub passes_defect : (D : Dominoes) (A R B : ℕ) → All (λ (k : ℕ). condition v D A R B k ≡ true) order → defect v D A R B ≡ 0
  unfolding defect
  passes_defect D A R B = none_first (condition v D A R B) order

  pub defect-none : (D : Dominoes) (A R B : ℕ) → defect v D A R B ≡ 0 → (initially v A R B ≡ true) × (sustained v D A R B ≡ true)
  unfolding condition initially sustained
  defect-none D A R B q =
      let p = defect_passes D A R B q in (
        and_i p.0 (and_i p.1.0 (and_i p.1.1.0 p.1.1.1.0)),
        and_i p.1.1.1.1.0 (and_i p.1.1.1.1.1.0 p.1.1.1.1.1.1.0),
      )

  -- what meets the conditions of the initial set meets each
  pub initially_each : (A R B : ℕ) → initially v A R B ≡ true →
      (kb v A ≡ true) × (ex v A R B ≡ true) × (uni v A R B ≡ true) × (rbox v R ≡ true)
  unfolding initially
  initially_each A R B p =
      let i = and_r_lem (kb v A) (ex v A R B && (uni v A R B && rbox v R)) p in
      let j = and_r_lem (ex v A R B) (uni v A R B && rbox v R) i in (
        and_l (kb v A) (ex v A R B && (uni v A R B && rbox v R)) p,
        and_l (ex v A R B) (uni v A R B && rbox v R) i,
        and_l (uni v A R B) (rbox v R) j,
        and_r_lem (uni v A R B) (rbox v R) j,
      )

  pub none-defect : (D : Dominoes) (A R B : ℕ) → initially v A R B ≡ true → sustained v D A R B ≡ true → defect v D A R B ≡ 0
  unfolding condition sustained
  none-defect D A R B p q =
      let i = initially_each A R B p in
      let s = and_r_lem (delex v D A) (deluni v D A && sym v D A R B) q in
      let d = and_l (delex v D A) (deluni v D A && sym v D A R B) q in
      let u = and_l (deluni v D A) (sym v D A R B) s in
      let y = and_r_lem (deluni v D A) (sym v D A R B) s in
      passes_defect D A R B (i.0, (i.1, (i.2, (i.3, (d, (u, (y, tt)))))))

  -- what meets the conditions of the initial set fails another, if any
  pub defect-later : (D : Dominoes) (A R B : ℕ) → initially v A R B ≡ true → (defect v D A R B ≡ 0 → ⊥) →
      (4 ≤ defect v D A R B) × (defect v D A R B ≤ 6)
  defect-later D A R B p =
      let i = initially_each A R B p in
      rw (defect_cases D A R B, i.0, i.1, i.2, i.3)
      (first-later (delex v D A) (deluni v D A) (sym v D A R B))

  -- defective is to have a defect
  pub defective-is : (S : Set) (n : ℕ) → defective v S n ≡ not (eqb (defect_at v S n) 0)
  unfolding initial lacks defect_at initially sustained
  defective-is S n =
      let D : Dominoes = numbered v.parts v.roles S in
      let A : ℕ = left_of v.parts v.roles n in
      let R : ℕ = roles_of v.parts v.roles n in
      let B : ℕ = right_of_lem v.parts n in
      first-not (kb v A) (ex v A R B) (uni v A R B) (rbox v R) (delex v D A) (deluni v D A) (sym v D A R B)
      ∙ ap (λ (k : ℕ). not (eqb k 0)) (flip (defect_cases D A R B))

  -- ---- witnesses

  pub witness_found : (D : Dominoes) (A k : ℕ) (test : ℕ → Bool) → witness v D A k test ≡ true → (R : ℕ) × (B : ℕ) × (R < 2 ^ (2 * v.roles))
      × (B < 2 ^ v.parts) × (v.holds k R ≡ true) × (test B ≡ true) × (D A R B ≡ true)
  unfolding witness
  witness_found D A k test e =
      let w = any_found _ (λ R. v.holds k R && some (2 ^ v.parts) (λ B. test B && D A R B)) e in
      let R : ℕ = w.0 in
      let u = any_found (2 ^ v.parts) (λ B. test B && D A R B) (and_r_lem (v.holds k R) (some (2 ^ v.parts) (λ B. test B && D A R B)) w.2) in
      let B : ℕ = u.0 in (
        R,
        B,
        w.1,
        u.1,
        and_l (v.holds k R) (some (2 ^ v.parts) (λ B. test B && D A R B)) w.2,
        and_l (test B) (D A R B) u.2,
        and_r_lem (test B) (D A R B) u.2,
      )

  pub witness-by : (D : Dominoes) (A k : ℕ) (test : ℕ → Bool) (R B : ℕ) → R < 2 ^ (2 * v.roles) → B < 2 ^ v.parts → v.holds k R ≡ true
      → test B ≡ true → D A R B ≡ true → witness v D A k test ≡ true
  unfolding witness
  witness-by D A k test R B r b h t d =
      any_intro (2 ^ (2 * v.roles)) (λ R. v.holds k R && some (2 ^ v.parts) (λ B. test B && D A R B)) R r
      (and_i h (any_intro (2 ^ v.parts) (λ B. test B && D A R B) B b (and_i t d)))

  -- ---- a larger set

  module _ (D E : Dominoes) (A : ℕ) (part : (R B : ℕ) → R < 2 ^ (2 * v.roles) → B < 2 ^ v.parts → D A R B ≡ true → E A R B ≡ true) where
    witness_mono : (k : ℕ) (test : ℕ → Bool) → witness v D A k test ≡ true → witness v E A k test ≡ true
    witness_mono k test e =
        let w = witness_found D A k test e in
        witness-by E A k test w.0 w.1 w.2 w.3 w.4 w.5 (part w.0 w.1 w.2 w.3 w.6)

    imp_mono : (a b c : Bool) → (b ≡ true → c ≡ true) → (not a || b) ≡ true → (not a || c) ≡ true
    imp_mono a b c f e = imp_i a c (λ p. f (imp_e a b e p))

    delex_mono : delex v D A ≡ true → delex v E A ≡ true
    unfolding delex
    delex_mono e =
        all_intro v.parts _ (λ k h.
        imp_mono (eqb (v.kind k) 2 && bit A k) (witness v D A k (v.has k)) _ (witness_mono k (v.has k)) (all-at v.parts _ e k h))

    deluni_mono : deluni v D A ≡ true → deluni v E A ≡ true
    unfolding deluni
    deluni_mono e =
        all_intro v.parts _ (λ k h.
        imp_mono _ _ _ (witness_mono k (λ B. not (v.has k B)))
        (all-at v.parts _ e k h))

    larger : (R B : ℕ) → (sym v D A R B ≡ true → sym v E A R B ≡ true) → sustained v D A R B ≡ true → sustained v E A R B ≡ true
    unfolding sustained
    larger R B f e =
        let r = and_r_lem (delex v D A) (deluni v D A && sym v D A R B) e in
        and_i (delex_mono (and_l (delex v D A) (deluni v D A && sym v D A R B) e))
        (and_i (deluni_mono (and_l (deluni v D A) (sym v D A R B) r)) (f (and_r_lem (deluni v D A) (sym v D A R B) r)))

  -- what a set sustains, a larger one does
  pub sustained_mono : (D E : Dominoes) → ((A R B : ℕ) → D A R B ≡ true → E A R B ≡ true)
      → (A R B : ℕ) → sustained v D A R B ≡ true → sustained v E A R B ≡ true
  unfolding sym
  sustained_mono D E part A R B = larger D E A (λ R B r b. part A R B) R B (part B (inverse v.roles R) A)

  -- larger among the dominoes is enough
  pub sustained-within : (D E : Dominoes) → ((A R B : ℕ) → Domino v.parts v.roles A R B → D A R B ≡ true → E A R B ≡ true)
      → (A R B : ℕ) → A < 2 ^ v.parts → B < 2 ^ v.parts → sustained v D A R B ≡ true → sustained v E A R B ≡ true
  unfolding sym
  sustained-within D E part A R B a b =
      larger D E A (λ R B r b. part A R B (record { left = a; roles = r; right = b })) R B
      (part B (inverse v.roles R) A (record { left = b; roles = inverse_lt v.roles R; right = a }))

  -- ---- sets with the same dominoes

  module _ (D E : Dominoes) (same : SameDominoes v D E) (A : ℕ) (a : A < 2 ^ v.parts) where
    part_of : (R B : ℕ) → R < 2 ^ (2 * v.roles) → B < 2 ^ v.parts → D A R B ≡ true → E A R B ≡ true
    part_of R B r b e = flip (same A R B (record { left = a; roles = r; right = b })) ∙ e

  module _ (D E : Dominoes) (same : SameDominoes v D E) (A R B : ℕ) (a : A < 2 ^ v.parts) (b : B < 2 ^ v.parts) where
    other : SameDominoes v E D
    other A R B d = flip (same A R B d)

    delex_same : delex v D A ≡ delex v E A
    delex_same =
        iff_eq (delex v D A) (delex v E A) (delex_mono D E A (part_of D E same A a)) (delex_mono E D A (part_of E D other A a))

    deluni_same : deluni v D A ≡ deluni v E A
    deluni_same =
        iff_eq (deluni v D A) (deluni v E A) (deluni_mono D E A (part_of D E same A a)) (deluni_mono E D A (part_of E D other A a))

    sym_same : sym v D A R B ≡ sym v E A R B
    unfolding sym
    sym_same = same B (inverse v.roles R) A (record { left = b; roles = inverse_lt v.roles R; right = a })

    pub sustained_same : sustained v D A R B ≡ sustained v E A R B
    unfolding sustained
    sustained_same = rw (delex_same, deluni_same, sym_same)

    pub defect_same : defect v D A R B ≡ defect v E A R B
    defect_same = rw (defect_cases D A R B, defect_cases E A R B, delex_same, deluni_same, sym_same)

  pub numbered_same : (S U : Set) → Same (dominoes v) S U
      → SameDominoes v (numbered v.parts v.roles S) (numbered v.parts v.roles U)
  unfolding numbered
  numbered_same S U e A R B d = e (number v.parts v.roles A R B) (number_lt v.parts v.roles A R B d)

  -- the first failing condition of a domino depends on the set's numbers of dominoes alone
  pub defect-at_same : (S U : Set) → Same (dominoes v) S U → (n : ℕ) → n < dominoes v → defect_at v S n ≡ defect_at v U n
  unfolding defect_at
  defect-at_same S U e n h =
      let d = domino_of v.parts v.roles n h in
      defect_same _ _ (numbered_same S U e) _ _ _ d.left d.right

  pub lacks_monotone : Monotone (dominoes v) (lacks v)
  unfolding lacks numbered
  lacks_monotone D E s n h =
      let d = domino_of v.parts v.roles n h in
      let X : Dominoes = numbered v.parts v.roles D in
      let Y : Dominoes = numbered v.parts v.roles E in
      let A : ℕ = left_of v.parts v.roles n in
      let R : ℕ = roles_of v.parts v.roles n in
      let B : ℕ = right_of_lem v.parts n in
      not_mono (sustained v X A R B) (sustained v Y A R B)
      (λ t. of_true (sustained-within X Y
      (λ A R B p e. is_true (Y A R B) (s (number v.parts v.roles A R B) (number_lt v.parts v.roles A R B p) (of_true e)))
      A R B d.left d.right (is_true (sustained v X A R B) t)))

  pub defective_monotone : Monotone (dominoes v) (defective v)
  defective_monotone = defective_by_mono (dominoes v) (initial v) (lacks v) lacks_monotone
