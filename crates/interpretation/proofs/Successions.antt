-- The successors of an individual, by the individuals that its row leads to.
use mathlib.Core.Path.{◌≡◌, refl, sym, ap, ap₂, ◌∙◌}
use mathlib.Core.Bool.{Bool, false, not, ◌&&◌, ◌||◌, or_comm}
use mathlib.Core.List.{List}
use Prim.Native.Nat.{ℕ, zero, suc, ◌+◌, ◌-◌, ◌*◌, ◌/◌, ◌%◌, ◌^◌, ◌≤◌, ◌<◌}
use native.Mathlib.Decide.{dec_lt}
use native.Mathlib.Omega.{arith}
use lib.Bits.{bit_and, bit_or}
use lib.ListN.{get_or}
use Rattle.bitset.specs.Bits.{bit}
use Rattle.bitset.proofs.Laws.{word_lt, word_ext, word_none, bit_past, bit_and_lem, bit_or_lem, bit_not}
use Rattle.elimination.specs.Sets.{some}
use Rattle.drawing_rows.specs.Rows.{byte_at}
use Rattle.interpretation.specs.declared.tables.Tables.{Tables}
use Rattle.interpretation.specs.declared.individual_labels.Successors.{Successors}
use Rattle.interpretation.specs.Successors.{SuccessorsTo, reaches, filled}

-- one more
pub some_next : (n : ℕ) (f : ℕ → Bool) → some (n + 1) f ≡ (some n f || f n)
unfolding some
some_next n f =
    let e : n + 1 ≡ suc n = omega arith in
    ap (λ (m : ℕ). some m f) e ∙ or_comm (f n) (some n f)

-- none more
pub some_skip : (n m : ℕ) (f : ℕ → Bool) → n ≤ m → ((y : ℕ) → n ≤ y → y < m → f y ≡ false) → some m f ≡ some n f
unfolding some
some_skip n zero f h e =
    let i : zero ≡ n = omega arith in
    ap (λ (k : ℕ). some k f) i
some_skip n (suc m) f h e = go (dec_lt m n) (some_skip n m f)
  where
    go : Dec (m < n) → (n ≤ m → ((y : ℕ) → n ≤ y → y < m → f y ≡ false) → some m f ≡ some n f) → some (suc m) f ≡ some n f
    go (yes l) r =
        let i : suc m ≡ n = omega (arith, l) in
        ap (λ (k : ℕ). some k f) i
    go (no l) r =
        ap (λ (b : Bool). b || some m f) (e m (omega (arith, l)) (omega arith))
        ∙ r (omega (arith, l)) (λ y i j. e y i (omega arith))

pub byte_lt : (ws : List ℕ) (p : ℕ) → byte_at ws p < 256
unfolding byte_at
byte_lt ws p = word_lt 8 _

-- the bytes of a word without ones
pub byte_zero : (ws : List ℕ) (p : ℕ) → get_or ws (p / 8) 0 ≡ 0 → byte_at ws p ≡ 0
unfolding byte_at
byte_zero ws p e = word_ext 8 _ (λ b. false) (λ b h. zero_bit b h) ∙ word_none 8
  where
    zero_bit : (b : ℕ) → b < 8 → bit (get_or ws ((8 * p + b) / 64) 0) ((8 * p + b) % 64) ≡ false
    zero_bit b h =
        let i : (8 * p + b) / 64 ≡ p / 8 = omega arith in
        ap (λ (j : ℕ). bit (get_or ws j 0) ((8 * p + b) % 64)) i ∙ ap (λ (x : ℕ). bit x ((8 * p + b) % 64)) e
        ∙ bit_past 0 0 ((8 * p + b) % 64) (omega arith) (omega arith)

-- without a filler: a word of 16 bits, and the complement of another
missing : (r f k : ℕ) → r < 2 ^ 16 → f < 2 ^ 16 → bit (bit_and r (65535 - f)) k ≡ (bit r k && not (bit f k))
missing r f k h i = bit_and_lem r (65535 - f) k ∙ go (dec_lt k 16)
  where
    go : Dec (k < 16) → (bit r k && bit (65535 - f) k) ≡ (bit r k && not (bit f k))
    go (yes l) = ap (λ (b : Bool). bit r k && b) (bit_not 16 f k i l)
    go (no l) = rw (bit_past 16 r k h (omega (arith, l))) refl

module _ (t : Tables) (row : List ℕ) where
  pub successors_none : (c : Successors) → c.met ≡ 0 → c.missed ≡ 0 → SuccessorsTo t row 0 c
  unfolding some
  successors_none c e f = record {
    met = λ k. ap (λ (x : ℕ). bit x k) e ∙ bit_past 0 0 k (omega arith) (omega arith);
    missed = λ k. ap (λ (x : ℕ). bit x k) f ∙ bit_past 0 0 k (omega arith) (omega arith);
  }

  module _ (n : ℕ) (c : Successors) (a : SuccessorsTo t row n c) where
    -- the next individual, which is reached by these parts' roles and has these parts' fillers
    pub successors_next : (r f : ℕ) → r ≡ get_or t.parts.holds (byte_at row n) 0 → f ≡ get_or t.fillers n 0 → r < 2 ^ 16 → f < 2 ^ 16
        → SuccessorsTo t row (n + 1) (record { met = bit_or c.met (bit_and r f); missed = bit_or c.missed (bit_and r (65535 - f)) })
    successors_next r f e g h i = record {
      met = λ k.
          bit_or_lem c.met (bit_and r f) k
          ∙ ap₂ ◌||◌ (a.met k) (bit_and_lem r f k ∙ ap₂ (λ (x y : ℕ). bit x k && bit y k) e g)
          ∙ sym (some_next n _);
      missed = λ k.
          bit_or_lem c.missed (bit_and r (65535 - f)) k
          ∙ ap₂ ◌||◌ (a.missed k) (missing r f k h i ∙ ap₂ (λ (x y : ℕ). bit x k && not (bit y k)) e g)
          ∙ sym (some_next n _);
    }

    -- individuals to which there is no role, where no part's role holds on none
    pub successors_skip : (m : ℕ) → n ≤ m → ((y : ℕ) → n ≤ y → y < m → byte_at row y ≡ 0) → get_or t.parts.holds 0 0 ≡ 0 → SuccessorsTo t row m c
    successors_skip m h e z = record {
      met = λ k. a.met k ∙ sym (some_skip n m _ h (λ y i j. ap (λ (b : Bool). b && filled t k y) (idle k y i j)));
      missed = λ k. a.missed k ∙ sym (some_skip n m _ h (λ y i j. ap (λ (b : Bool). b && not (filled t k y)) (idle k y i j)));
    }
      where
        idle : (k y : ℕ) → n ≤ y → y < m → reaches t row k y ≡ false
        idle k y i j =
            ap (λ (x : ℕ). bit (get_or t.parts.holds x 0) k) (e y i j) ∙ ap (λ (x : ℕ). bit x k) z ∙ bit_past 0 0 k (omega arith) (omega arith)

  -- the eight individuals of a word, if it has no ones
  pub successors_word : (n m : ℕ) (c : Successors) → SuccessorsTo t row n c → n % 8 ≡ 0 → n ≤ m → m ≤ n + 8 → get_or row (n / 8) 0 ≡ 0
      → get_or t.parts.holds 0 0 ≡ 0 → SuccessorsTo t row m c
  successors_word n m c a e h i w z =
      successors_skip n c a m h
      (λ y j l.
      let q : y / 8 ≡ n / 8 = omega arith in
      byte_zero row y (ap (λ (k : ℕ). get_or row k 0) q ∙ w)) z
