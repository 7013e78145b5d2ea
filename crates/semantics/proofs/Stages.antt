-- Definition 5's stages are the steps of elimination from the initial set; one of them is not changed by the next, and such a stage
-- is the canonical set.
use mathlib.Core.Path.{◌≡◌, refl, sym as flip, ap, ap₂, ◌∙◌}
use mathlib.Core.Bool.{Bool, true, false, not, ◌&&◌, ◌||◌}
use Prim.Native.Nat.{ℕ, zero, suc, ◌≤◌}
use native.Mathlib.Omega.{arith}
use lib.Dec.{T}
use Rattle.bitset.specs.Bits.{Set, size}
use Rattle.elimination.specs.Sets.{Same}
use Rattle.elimination.specs.Elimination.{steps}
use Rattle.elimination.proofs.Settling.{steps-sub, steps-suc, definition_5, definition_5-still}
use Rattle.semantics.specs.Dominoes.{Domino, number, left_of, roles_of, right_of_lem, numbered}
use Rattle.semantics.specs.Conditions.{View, sustained, stage, SameDominoes, Final, dominoes, initial, lacks, defective, canon, canon_dominoes}
use Rattle.semantics.proofs.Numbers.{number_lt, left-number, roles-number, right-number, domino_of, number_of}
use Rattle.semantics.proofs.Defects.{sustained_same, defective_monotone}
use Rattle.semantics.proofs.Canonical.{dominoes_of, of_number}

-- in a part of the initial set, its conditions need not be asked again
asked_once : (d i s : Bool) → (T d → T i) → (d && not (not i || not s)) ≡ (d && s)
asked_once false i s f = refl
asked_once true true true f = refl
asked_once true true false f = refl
asked_once true false s f = absurd (f tt)

module _ (v : View) where
  abbrev stepped : ℕ → Set
  stepped i = steps (dominoes v) (defective v) i (initial v)

  -- 002: "all dominoes in 𝔻ᵢ satisfying" delex, deluni and sym
  stepped_next : (i : ℕ) (A R B : ℕ) → Domino v.parts v.roles A R B
      → numbered v.parts v.roles (stepped (suc i)) A R B
      ≡ (numbered v.parts v.roles (stepped i) A R B && sustained v (numbered v.parts v.roles (stepped i)) A R B)
  unfolding numbered lacks
  stepped_next i A R B d =
      let c : ℕ = v.parts in
      let L : ℕ = v.roles in
      let D : Set = stepped i in
      let n : ℕ = number c L A R B in
      let kept : Bool = sustained v (numbered c L D) (left_of c L n) (roles_of c L n) (right_of_lem c n) in
      let same : kept ≡ sustained v (numbered c L D) A R B =
      rw (left-number c L A R B d, roles-number c L A R B d, right-number c L A R B d) in
      ap (λ (E : Set). E n) (steps-suc (dominoes v) (defective v) (defective_monotone v) i (initial v))
      ∙ asked_once (D n) (initial v n) kept
      (steps-sub (dominoes v) (defective v) (defective_monotone v) i (initial v) n (number_lt c L A R B d))
      ∙ ap (λ (b : Bool). D n && b) same

  pub stage-steps : (i : ℕ) → SameDominoes v (stage v i) (numbered v.parts v.roles (stepped i))
  unfolding stage initial numbered
  stage-steps zero A R B d =
      let c : ℕ = v.parts in
      let L : ℕ = v.roles in
      rw (left-number c L A R B d, roles-number c L A R B d, right-number c L A R B d)
  stage-steps (suc i) A R B d =
      ap₂ ◌&&◌ (stage-steps i A R B d)
      (sustained_same v (stage v i) (numbered v.parts v.roles (stepped i)) (stage-steps i) A R B d.left d.right)
      ∙ flip (stepped_next i A R B d)

  final_steps : (i : ℕ) → Final v i → Same (dominoes v) (stepped (suc i)) (stepped i)
  unfolding numbered
  final_steps i f n h =
      let c : ℕ = v.parts in
      let L : ℕ = v.roles in
      let d = domino_of c L n h in
      let m : ℕ = number c L (left_of c L n) (roles_of c L n) (right_of_lem c n) in
      let e : stepped (suc i) m ≡ stepped i m = flip (stage-steps (suc i) _ _ _ d) ∙ f _ _ _ d ∙ stage-steps i _ _ _ d in
      rw (number_of c L n h) at e

  -- "The final result 𝔻_KB := 𝔻ᵢ₊₁ defines the canonical domino set of KB."
  pub final_canon : (i : ℕ) → Final v i → SameDominoes v (stage v i) (canon_dominoes v)
  unfolding canon canon_dominoes dominoes_of numbered
  final_canon i f A R B d =
      stage-steps i A R B d
      ∙ definition_5 (dominoes v) (defective v) (defective_monotone v) i (initial v) (final_steps i f)
      (number v.parts v.roles A R B) (number_lt v.parts v.roles A R B d)
      ∙ flip (of_number v (canon v) A R B d)

  -- and there is one, after as many as the initial set has members at the most
  pub final_reached : (i : ℕ) × (i ≤ size (dominoes v) (initial v)) × Final v i
  unfolding numbered
  final_reached =
      let i : ℕ = size (dominoes v) (initial v) in (
        i,
        omega arith,
        λ A R B d.
            stage-steps (suc i) A R B d
            ∙ definition_5-still (dominoes v) (defective v) (defective_monotone v) (initial v)
            (number v.parts v.roles A R B) (number_lt v.parts v.roles A R B d)
            ∙ flip (stage-steps i A R B d),
      )
