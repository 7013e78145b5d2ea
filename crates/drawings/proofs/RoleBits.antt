-- Laws of the roles that connections draw: the bits that one connection sets, and one more; roles that none of them has; role sets as
-- eight bits.
use mathlib.Core.Path.{◌≡◌, refl, sym, ap, ap₂, ◌∙◌}
use mathlib.Core.Bool.{Bool, true, false, ◌&&◌, ◌||◌, cond, or-false, and_assoc, and_comm}
use mathlib.Core.List.{List, [], ◌∷◌}
use Prim.Native.Nat.{ℕ, ◌+◌, ◌*◌, ◌/◌, ◌%◌, ◌≤◌, ◌<◌}
use native.Mathlib.Decide.{ℕ_discrete}
use native.Mathlib.Omega.{arith}
use lib.Dec.{eqb}
use borrow.Author.Tests.{eq-eqb, ne_eqb, eqb-true}
use Rattle.std.proofs.lemmas.Bool.{cond_both}
use Rattle.bitset.specs.Bits.{word}
use Rattle.bitset.proofs.Facts.{iff_eq, and_out}
use Rattle.bitset.proofs.Laws.{word_past}
use Rattle.syntax.specs.Bounds.{All}
use Rattle.semantics.specs.Projection.{role_bit, role_set}
use Rattle.drawings.specs.Entries.{Connection}
use Rattle.drawings.specs.Checking.{connects}

-- ---- a connection's bits

-- one connection more
pub bit_more : (c : Connection) (cs : List Connection) (x y b : ℕ)
    → role_bit (connects (c ∷ cs)) x y b ≡ (role_bit (connects (c ∷ [])) x y b || role_bit (connects cs) x y b)
unfolding role_bit connects
bit_more c cs x y b = go (eqb (b % 2) 0) _ _ _ _
  where
    go : (t p q r s : Bool) → cond t (p || q) (r || s) ≡ (cond t (p || false) (r || false) || cond t q s)
    go true p q r s = ap (λ (z : Bool). z || q) (sym (or-false p))
    go false p q r s = ap (λ (z : Bool). z || s) (sym (or-false r))

-- tests of equal answers
eqb_by : (a b c d : ℕ) → (a ≡ b → c ≡ d) → (c ≡ d → a ≡ b) → eqb a b ≡ eqb c d
eqb_by a b c d f g =
    iff_eq (eqb a b) (eqb c d) (λ e. eq-eqb c d (f (eqb-true a b e))) (λ e. eq-eqb a b (g (eqb-true c d e)))

one_connects : (c : Connection) (k x y : ℕ) → connects (c ∷ []) k x y ≡ (eqb x c.from && (eqb y c.to && eqb c.role k))
unfolding connects
one_connects c k x y =
    or-false _ ∙ and_comm (eqb c.role k) (eqb c.from x && eqb c.to y) ∙ and_assoc (eqb c.from x) (eqb c.to y) (eqb c.role k)
    ∙ ap₂ (λ (p q : Bool). p && (q && eqb c.role k)) (eqb_by c.from x x c.from sym sym) (eqb_by c.to y y c.to sym sym)

-- one connection's: its role from one individual to the other, and the inverse the other way
pub bit_of_one : (c : Connection) (x y b : ℕ)
    → role_bit (connects (c ∷ [])) x y b
    ≡ ((eqb x c.from && (eqb y c.to && eqb b (c.role + c.role))) || (eqb x c.to && (eqb y c.from && eqb b (c.role + c.role + 1))))
unfolding role_bit
bit_of_one c x y b = go (ℕ_discrete (b % 2) 0)
  where
    out : (p q : Bool) (m : ℕ) → (b ≡ m → ⊥) → (p && (q && eqb b m)) ≡ false
    out p q m h = and_out p _ (and_out q _ (ne_eqb b m h))

    go : Dec (b % 2 ≡ 0) → cond (eqb (b % 2) 0) (connects (c ∷ []) (b / 2) x y) (connects (c ∷ []) (b / 2) y x)
        ≡ ((eqb x c.from && (eqb y c.to && eqb b (c.role + c.role))) || (eqb x c.to && (eqb y c.from && eqb b (c.role + c.role + 1))))
    go (yes e) =
        rw (eq-eqb (b % 2) 0 e, one_connects c (b / 2) x y, out (eqb x c.to) (eqb y c.from) (c.role + c.role + 1) (λ q. omega arith))
        (ap (λ (z : Bool). eqb x c.from && (eqb y c.to && z)) (eqb_by _ _ _ _ (λ q. omega arith) (λ q. omega arith)) ∙ sym (or-false _))
    go (no e) =
        rw (ne_eqb (b % 2) 0 e, one_connects c (b / 2) y x, out (eqb x c.from) (eqb y c.to) (c.role + c.role) (λ q. omega arith))
        (sym (and_assoc (eqb y c.from) (eqb x c.to) (eqb c.role (b / 2)))
        ∙ ap₂ ◌&&◌ (and_comm (eqb y c.from) (eqb x c.to)) (eqb_by _ _ _ _ (λ q. omega arith) (λ q. omega arith))
        ∙ and_assoc (eqb x c.to) (eqb y c.from) (eqb b (c.role + c.role + 1)))

-- ---- roles past the last

module _ (L : ℕ) where
  pub connects_past : (cs : List Connection) → All (λ c. c.role < L) cs → (k x y : ℕ) → L ≤ k → connects cs k x y ≡ false
  unfolding connects
  connects_past [] h k x y l = refl
  connects_past (c ∷ cs) h k x y l = rw (ne_eqb c.role k (λ e. omega (arith, h.0)), connects_past cs h.1 k x y l) refl

  pub bits_past : (cs : List Connection) → All (λ c. c.role < L) cs → (x y b : ℕ) → 2 * L ≤ b → role_bit (connects cs) x y b ≡ false
  unfolding role_bit
  bits_past cs h x y b l =
      cond_both (eqb (b % 2) 0) (connects cs (b / 2) x y) (connects cs (b / 2) y x) (λ t. t ≡ false)
      (λ _. connects_past cs h (b / 2) x y (omega arith)) (λ _. connects_past cs h (b / 2) y x (omega arith))

  -- so a role set of at most 4 roles is that of all role bits, cut at eight
  pub role_set_eight : (cs : List Connection) → All (λ c. c.role < L) cs → L ≤ 4 → (x y : ℕ)
      → word 8 (role_bit (connects cs) x y) ≡ role_set L (connects cs) x y
  unfolding role_set
  role_set_eight cs h l x y = word_past (2 * L) 8 (role_bit (connects cs) x y) (omega arith) (λ b i j. bits_past cs h x y b i)
