-- The canonical domino set is the largest stable set of dominoes, and the only one; what is stable as a set of numbers is so as a
-- set of dominoes.
use mathlib.Core.Path.{◌≡◌, sym as flip, ap, ◌∙◌, subst, fun_ext}
use mathlib.Core.Bool.{true, not, ◌&&◌}
use Prim.Native.Nat.{ℕ, ◌*◌, ◌^◌, ◌<◌}
use lib.Dec.{T, eqb, ltb, eqb→eq, T_not}
use borrow.Author.Tests.{lt-ltb, ltb-true, eq-eqb}
use Rattle.bitset.specs.Bits.{Set}
use Rattle.bitset.proofs.Facts.{either, T_of, is_true, of_true, and_l, and_r_lem, iff_eq}
use Rattle.elimination.specs.Elimination.{is_stable}
use Rattle.elimination.proofs.Settling.{stable-at, stable-by, canonical-stable, canonical-largest}
use Rattle.semantics.specs.Dominoes.{Dominoes, Domino, number, left_of, roles_of, right_of_lem, inverse, numbered, unnumbered}
use Rattle.semantics.specs.Conditions.{View, delex, deluni, sym, defect, sustained, Stable, InRange, LargestStable, dominoes, initial, lacks, defective, defect_at, canon, canon_dominoes}
use Rattle.semantics.proofs.Numbers.{number_lt, left-number, roles-number, right-number, domino_of, number_of}
use Rattle.semantics.proofs.Defects.{defect-none, none-defect, defective-is, sustained-within, lacks_monotone}

no_defect : (n : ℕ) → (T (not (eqb n 0)) → ⊥) → n ≡ 0
no_defect n f = either (eqb n 0) (eqb→eq n 0) (λ t. absurd (f t))

has-defect : (n : ℕ) → n ≡ 0 → T (not (eqb n 0)) → ⊥
has-defect n e t = T_not (eqb n 0) t (of_true (eq-eqb _ _ e))

module _ (v : View) where
  -- the dominoes whose numbers are in a set
  unfoldable pub dominoes_of : Set → Dominoes
  dominoes_of S A R B = ltb A (2 ^ v.parts) && (ltb R (2 ^ (2 * v.roles)) && (ltb B (2 ^ v.parts) && numbered v.parts v.roles S A R B))

  pub of_domino : (S : Set) (A R B : ℕ) → dominoes_of S A R B ≡ true → Domino v.parts v.roles A R B
  unfolding dominoes_of
  of_domino S A R B e =
      let x = and_r_lem (ltb A (2 ^ v.parts)) _ e in
      let y = and_r_lem (ltb R (2 ^ (2 * v.roles))) _ x in
      record {
        left = ltb-true A (2 ^ v.parts) (and_l (ltb A (2 ^ v.parts)) _ e);
        roles = ltb-true R (2 ^ (2 * v.roles)) (and_l (ltb R (2 ^ (2 * v.roles))) _ x);
        right = ltb-true B (2 ^ v.parts) (and_l (ltb B (2 ^ v.parts)) _ y);
      }

  -- a domino is in it exactly if its number is in the set
  pub of_number : (S : Set) (A R B : ℕ) → Domino v.parts v.roles A R B → dominoes_of S A R B ≡ S (number v.parts v.roles A R B)
  unfolding dominoes_of numbered
  of_number S A R B d = rw (lt-ltb A (2 ^ v.parts) d.left, lt-ltb R (2 ^ (2 * v.roles)) d.roles, lt-ltb B (2 ^ v.parts) d.right)

  -- and a number exactly if its domino is
  pub of_unnumbered : (S : Set) (n : ℕ) → n < dominoes v → unnumbered v.parts v.roles (dominoes_of S) n ≡ S n
  unfolding unnumbered
  of_unnumbered S n h =
      of_number S _ _ _ (domino_of v.parts v.roles n h) ∙ ap S (number_of v.parts v.roles n h)

  -- a set of dominoes is that of its numbers
  pub of_numbered : (D : Dominoes) → InRange v D → (A R B : ℕ) → dominoes_of (unnumbered v.parts v.roles D) A R B ≡ D A R B
  unfolding InRange unnumbered
  of_numbered D r A R B =
      iff_eq (dominoes_of (unnumbered v.parts v.roles D) A R B) (D A R B)
      (λ e. flip (same (of_domino (unnumbered v.parts v.roles D) A R B e)) ∙ e)
      (λ e. same (r A R B e) ∙ e)
    where
      same : Domino v.parts v.roles A R B → dominoes_of (unnumbered v.parts v.roles D) A R B ≡ D A R B
      same d =
          of_number (unnumbered v.parts v.roles D) A R B d
          ∙ rw (left-number v.parts v.roles A R B d, roles-number v.parts v.roles A R B d, right-number v.parts v.roles A R B d)

  -- ---- stable as numbers and as dominoes

  pub numbers_stable : (S : Set) → T (is_stable (dominoes v) (defective v) S) → Stable v (dominoes_of S)
  unfolding Stable defect_at numbered
  numbers_stable S r A R B e =
      let c : ℕ = v.parts in
      let L : ℕ = v.roles in
      let d = of_domino S A R B e in
      let n : ℕ = number c L A R B in
      let z : defect_at v S n ≡ 0 =
      no_defect (defect_at v S n) (λ t. stable-at (dominoes v) (defective v) S r n (number_lt c L A R B d)
      (of_true (flip (of_number S A R B d) ∙ e)) (T_of (flip (defective-is v S n)) t)) in
      let y : defect v (numbered c L S) A R B ≡ 0 = rw (left-number c L A R B d, roles-number c L A R B d, right-number c L A R B d) at z in
      let w = defect-none v (numbered c L S) A R B y in
      none-defect v (dominoes_of S) A R B w.0
      (sustained-within v (numbered c L S) (dominoes_of S) (λ A R B p q. of_number S A R B p ∙ q) A R B d.left d.right w.1)

  pub stable_numbers : (S : Set) → Stable v (dominoes_of S) → T (is_stable (dominoes v) (defective v) S)
  unfolding Stable defect_at numbered unnumbered
  stable_numbers S r =
      stable-by (dominoes v) (defective v) S (λ n h t u.
      let c : ℕ = v.parts in
      let L : ℕ = v.roles in
      let A : ℕ = left_of c L n in
      let R : ℕ = roles_of c L n in
      let B : ℕ = right_of_lem c n in
      let d = domino_of c L n h in
      let w = defect-none v (dominoes_of S) A R B (r A R B (of_unnumbered S n h ∙ is_true (S n) t)) in
      has-defect (defect_at v S n)
      (none-defect v (numbered c L S) A R B w.0
      (sustained-within v (dominoes_of S) (numbered c L S) (λ A R B p q. flip (of_number S A R B p) ∙ q) A R B d.left d.right w.1))
      (T_of (defective-is v S n) u))

  -- ---- the canonical set

  pub canon-stable : T (is_stable (dominoes v) (defective v) (canon v))
  unfolding canon
  canon-stable = canonical-stable (dominoes v) (initial v) (lacks v) (lacks_monotone v)

  canon-most : (E : Dominoes) → InRange v E → Stable v E → (A R B : ℕ) → E A R B ≡ true → dominoes_of (canon v) A R B ≡ true
  unfolding canon InRange
  canon-most E w r A R B e =
      let c : ℕ = v.parts in
      let L : ℕ = v.roles in
      let S : Set = unnumbered c L E in
      let d = w A R B e in
      let n : ℕ = number c L A R B in
      let same : E ≡ dominoes_of S = fun_ext (λ A. fun_ext (λ R. fun_ext (λ B. flip (of_numbered E w A R B)))) in
      let m : S n ≡ true = flip (of_number S A R B d) ∙ of_numbered E w A R B ∙ e in
      of_number (canon v) A R B d
      ∙ is_true (canon v n) (canonical-largest (dominoes v) (initial v) (lacks v) (lacks_monotone v) S
      (stable_numbers S (subst (Stable v) same r)) n (number_lt c L A R B d) (of_true m))

  -- "the set of pairings in which none is loose and of which every other such set is a part"
  pub canon-largest : LargestStable v (canon_dominoes v)
  unfolding canon_dominoes dominoes_of InRange
  canon-largest = record {
    inside = of_domino (canon v);
    stable = numbers_stable (canon v) canon-stable;
    most = canon-most;
  }

  pub canon_range : (A R B : ℕ) → canon_dominoes v A R B ≡ true → Domino v.parts v.roles A R B
  unfolding InRange
  canon_range = canon-largest.inside

  pub largest-one : (C D : Dominoes) → LargestStable v C → LargestStable v D → (A R B : ℕ) → C A R B ≡ D A R B
  largest-one C D p q A R B =
      iff_eq (C A R B) (D A R B) (q.most C p.inside p.stable A R B) (p.most D q.inside q.stable A R B)

  -- ---- converses

  pub stable-converse : (D : Dominoes) → Stable v D → (A R B : ℕ) → D A R B ≡ true → D B (inverse v.roles R) A ≡ true
  unfolding Stable sustained sym
  stable-converse D r A R B e =
      and_r_lem (deluni v D A) (sym v D A R B) (and_r_lem (delex v D A) (deluni v D A && sym v D A R B) (defect-none v D A R B (r A R B e)).1)

  -- the canonical set has the converse of each member
  pub canon-sym : (A R B : ℕ) → canon_dominoes v A R B ≡ true → canon_dominoes v B (inverse v.roles R) A ≡ true
  canon-sym = stable-converse (canon_dominoes v) canon-largest.stable

  -- so the right label of a member is the left label of one
  pub canon-begins : (A R B : ℕ) → canon_dominoes v A R B ≡ true → (Q : ℕ) × (C : ℕ) × (canon_dominoes v B Q C ≡ true)
  canon-begins A R B e = (inverse v.roles R, A, canon-sym A R B e)
