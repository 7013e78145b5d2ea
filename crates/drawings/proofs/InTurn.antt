-- Laws of lists one after another: how they are laid as bytes, groups of them, and how long the first of them are.
use Prim.Native.Nat.{ℕ, zero, suc, ◌+◌, ◌*◌, ◌≤◌, ◌<◌}
use native.Mathlib.Numerals.{unary_clauses}
use native.Mathlib.Omega.{arith}
use mathlib.Core.Path.{◌≡◌, refl, sym, ap, ap₂, ◌∙◌}
use mathlib.Core.List.{List, [], ◌∷◌, ◌++◌, append_assoc, append-nil}
use lib.ListN.{length, length-append}
use Rattle.bitset.proofs.Facts.{below_suc}
use Rattle.drawings.specs.Entries.{Entry}
use Rattle.drawings.specs.Laid.{entry_bytes, laid, in_turn}

-- ---- laid as bytes

pub laid_append : (a b : List Entry) → laid (a ++ b) ≡ laid a ++ laid b
unfolding laid
laid_append [] b = refl
laid_append (e ∷ a) b = ap (λ (l : List ℕ). entry_bytes e ++ l) (laid_append a b) ∙ sym (append_assoc (entry_bytes e) (laid a) (laid b))

pub laid_turn : (n : ℕ) (f : ℕ → List Entry) → laid (in_turn n f) ≡ in_turn n (λ i. laid (f i))
unfolding laid in_turn
laid_turn zero f = refl
laid_turn (suc n) f = laid_append (in_turn n f) (f n) ∙ ap (λ (l : List ℕ). l ++ laid (f n)) (laid_turn n f)

module _ {A : Type 0} where
  -- ---- one more, equal lists, and groups

  pub turn_next : (n : ℕ) (f : ℕ → List A) → in_turn (n + 1) f ≡ in_turn n f ++ f n
  unfolding in_turn
  turn_next n f = let e : n + 1 ≡ suc n = omega arith in ap (λ (x : ℕ). in_turn x f) e

  pub turn_same : (n : ℕ) (f g : ℕ → List A) → ((i : ℕ) → i < n → f i ≡ g i) → in_turn n f ≡ in_turn n g
  unfolding in_turn
  turn_same zero f g h = refl
  turn_same (suc n) f g h = ap₂ ◌++◌ (turn_same n f g (λ i l. h i (omega arith))) (h n (omega arith))

  pub turn_empty : (n : ℕ) (f : ℕ → List A) → ((i : ℕ) → i < n → f i ≡ []) → in_turn n f ≡ []
  unfolding in_turn
  turn_empty zero f h = refl
  turn_empty (suc n) f h = ap₂ ◌++◌ (turn_empty n f (λ i l. h i (omega arith))) (h n (omega arith))

  turn_add : (n k : ℕ) (f : ℕ → List A) → in_turn (n + k) f ≡ in_turn n f ++ in_turn k (λ i. f (n + i))
  unfolding in_turn
  turn_add n zero f = simp unary_clauses (sym (append-nil (in_turn n f)))
  turn_add n (suc k) f =
      simp unary_clauses
      (ap (λ (l : List A). l ++ f (n + k)) (turn_add n k f) ∙ append_assoc (in_turn n f) (in_turn k (λ i. f (n + i))) (f (n + k)))

  -- n groups of k lists
  pub turn_groups : (n k : ℕ) (f : ℕ → List A) → in_turn (n * k) f ≡ in_turn n (λ g. in_turn k (λ i. f (g * k + i)))
  unfolding in_turn
  turn_groups zero k f = let e : 0 * k ≡ 0 = omega arith in ap (λ (x : ℕ). in_turn x f) e
  turn_groups (suc n) k f =
      let e : suc n * k ≡ n * k + k = omega arith in
      ap (λ (x : ℕ). in_turn x f) e ∙ turn_add (n * k) k f ∙ ap (λ (l : List A). l ++ in_turn k (λ i. f (n * k + i))) (turn_groups n k f)

  -- ---- the first lists, and the next, are no longer than all
  pub turn_within : (n j : ℕ) (f : ℕ → List A) → j < n → length (in_turn j f) + length (f j) ≤ length (in_turn n f)
  unfolding in_turn
  turn_within zero j f h = absurd (omega arith)
  turn_within (suc n) j f h =
      below_suc j n h (λ e. rw e (omega (arith, length-append (in_turn n f) (f n))))
      (λ i. omega (arith, length-append (in_turn n f) (f n), turn_within n j f i))
