-- Laws of bits put into words: one number, then another; the bits of a pair, of a connection, and of connections one after another.
use mathlib.Core.Path.{◌≡◌, refl, sym, ap, ◌∙◌}
use mathlib.Core.Bool.{Bool, false, ◌||◌, or-false, or_assoc}
use mathlib.Core.List.{List, [], ◌∷◌}
use Prim.Native.Nat.{ℕ, ◌+◌, ◌-◌, ◌*◌, ◌/◌, ◌%◌, ◌≤◌, ◌<◌}
use native.Mathlib.Decide.{dec_lt}
use native.Mathlib.Omega.{arith}
use lib.Dec.{eqb}
use lib.ListN.{length}
use borrow.Author.Tests.{eq-eqb, ne_eqb, eqb-true}
use Rattle.bitset.specs.Bits.{Set, look, inserted}
use Rattle.bitset.proofs.Facts.{iff_eq, and_l, and_r_lem, and_i}
use Rattle.bitset.proofs.Words.{are-inserted, length-inserted, look-inserted}
use Rattle.drawings.specs.Entries.{Connection}
use Rattle.drawings.proofs.RoleBits.{bit_more, bit_of_one}
use Rattle.drawing_rows.specs.Rows.{Joins, bit_of_pair, bits_of}

-- ---- Joins

-- no number of the set has a word
pub joins_none : (D : Set) (ws : List ℕ) → ((n : ℕ) → n < 64 * length ws → D n ≡ false) → Joins D ws ws
joins_none D ws h = record { long = refl; are = λ t. t; look = λ n l. rw (h n l) (sym (or-false (look ws n))) }

-- the set is one number
pub joins_insert : (D : Set) (ws : List ℕ) (m : ℕ) → m / 64 < length ws → ((n : ℕ) → D n ≡ eqb n m) → Joins D ws (inserted ws m)
joins_insert D ws m h e = record {
  long = length-inserted ws m;
  are = are-inserted ws m;
  look = λ n l. look-inserted ws m h n ∙ ap (λ (b : Bool). look ws n || b) (sym (e n));
}

-- one set, then another
pub joins_both : (C D E : Set) (ws vs us : List ℕ) → ((n : ℕ) → C n ≡ (D n || E n)) → Joins D ws vs → Joins E vs us → Joins C ws us
joins_both C D E ws vs us e j k = record {
  long = k.long ∙ j.long;
  are = λ t. k.are (j.are t);
  look = λ n l.
      k.look n (omega (arith, j.long)) ∙ ap (λ (b : Bool). b || E n) (j.look n l)
      ∙ or_assoc (look ws n) (D n) (E n) ∙ ap (λ (b : Bool). look ws n || b) (sym (e n));
}

-- ---- a bit of a pair

module _ (start x y b : ℕ) where
  -- its number among the bits of the rows
  pair_number : start ≤ x → y < 1024 → b < 8 → (m n : ℕ) → m ≡ (x - start) * 8192 + y * 8 + b → bit_of_pair start x y b n ≡ eqb n m
  unfolding bit_of_pair
  pair_number h l k m n e =
      iff_eq _ (eqb n m)
      (λ t.
      let u = and_r_lem (eqb (start + n / 8192) x) _ t in
      let p = eqb-true _ _ (and_l (eqb (start + n / 8192) x) _ t) in
      let q = eqb-true _ _ (and_l (eqb (n % 8192 / 8) y) _ u) in
      let r = eqb-true _ _ (and_r_lem (eqb (n % 8192 / 8) y) _ u) in
      eq-eqb n m (omega arith))
      (λ t.
      let q = eqb-true n m t in
      and_i (eq-eqb _ x (omega arith)) (and_i (eq-eqb _ y (omega arith)) (eq-eqb _ b (omega arith))))

  module _ (ws : List ℕ) (h : start ≤ x) (l : y < 1024) (k : b < 8) (m : ℕ) (e : m ≡ (x - start) * 8192 + y * 8 + b) where
    pub pair_in : m / 64 < length ws → Joins (bit_of_pair start x y b) ws (inserted ws m)
    pair_in p = joins_insert _ ws m p (λ n. pair_number h l k m n e)

  -- its row is none of those of the words
  pub pair_out : (ws : List ℕ) → y < 1024 → b < 8 → (start ≤ x → 64 * length ws ≤ (x - start) * 8192) → Joins (bit_of_pair start x y b) ws ws
  unfolding bit_of_pair
  pair_out ws l k h = go (dec_lt x start)
    where
      go : Dec (x < start) → Joins (bit_of_pair start x y b) ws ws
      go (yes i) = joins_none _ ws (λ n q. rw (ne_eqb (start + n / 8192) x (λ e. omega arith)) refl)
      go (no i) =
          let s : start ≤ x = omega (arith, i) in
          joins_none _ ws (λ n q. rw (ne_eqb (start + n / 8192) x (λ e. omega (arith, s, h s))) refl)

-- ---- the bits of connections

module _ (start : ℕ) where
  -- one connection has two
  pub bits_one : (c : Connection) (n : ℕ) → bits_of start (c ∷ []) n
      ≡ (bit_of_pair start c.from c.to (c.role + c.role) n || bit_of_pair start c.to c.from (c.role + c.role + 1) n)
  unfolding bits_of bit_of_pair
  bits_one c n = bit_of_one c _ _ _

  pub bits_more : (c : Connection) (cs : List Connection) (n : ℕ)
      → bits_of start (c ∷ cs) n ≡ (bits_of start (c ∷ []) n || bits_of start cs n)
  unfolding bits_of
  bits_more c cs n = bit_more c cs _ _ _
