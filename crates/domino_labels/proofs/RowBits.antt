-- What a left label asks and calls, as words of parts: made by the operations on words.
use mathlib.Core.Path.{◌≡◌, ap, ap₂, ◌∙◌}
use mathlib.Core.Bool.{Bool, not, ◌&&◌, ◌||◌}
use Prim.Native.Nat.{ℕ, ◌-◌, ◌^◌, ◌≤◌, ◌<◌}
use native.Mathlib.Nat.{lt_of_lt_of_le}
use native.Mathlib.Omega.{arith}
use lib.Bits.{bit_and, bit_or, or_lt}
use lib.Dec.{eqb}
use lib.Pow.{pow_mono}
use Rattle.std.specs.Prelude.{Some}
use Rattle.bitset.specs.Bits.{bit}
use Rattle.bitset.proofs.Laws.{word_lt, bit_word, bit_and_lem, bit_and_lt, bit_and_not, bit_or_lem}
use Rattle.semantics.specs.Conditions.{View}
use Rattle.flattening.specs.declared.parts.Quantifier.TheVariants.{Exists, Forall}
use Rattle.domino_parts.specs.PartWords.{is_of_lem, of_kind, filled_by}
use Rattle.domino_labels.specs.Rows.{asks_right, calls_in, calls_out, IsAsking, RowWords}

-- the bits of a word that another has not
abbrev but_not : ℕ → ℕ → ℕ
but_not x y = bit_and x (18446744073709551615 - y)

-- a word of parts is one of 64 bits
in_word : (c x : ℕ) → c ≤ 12 → x < 2 ^ c → x < 2 ^ 64
in_word c x few h = lt_of_lt_of_le h (pow_mono {i = c} {j = 64} (omega arith))

module _ (v : View) (few : v.parts ≤ 12) (A e u : ℕ) (a : A < 2 ^ v.parts)
    (ee : e ≡ of_kind v (Some Exists)) (eu : u ≡ of_kind v (Some Forall)) where
  e_lt : e < 2 ^ v.parts
  e_lt = rw ee (word_lt v.parts _)

  u_lt : u < 2 ^ v.parts
  u_lt = rw eu (word_lt v.parts _)

  module _ (k : ℕ) (h : k < v.parts) where
    e_bit : bit e k ≡ eqb (v.kind k) 2
    unfolding is_of_lem
    e_bit = rw ee (bit_word v.parts _ k h)

    u_bit : bit u k ≡ eqb (v.kind k) 3
    unfolding is_of_lem
    u_bit = rw eu (bit_word v.parts _ k h)

  pub asking_word : IsAsking v A (bit_or (but_not e A) (bit_and u A))
  unfolding asks_right
  asking_word = record {
    small = or_lt v.parts _ _ (bit_and_lt v.parts e _ e_lt) (bit_and_lt v.parts u A u_lt);
    asks = λ k h.
        bit_or_lem (but_not e A) (bit_and u A) k
        ∙ ap₂ ◌||◌ (bit_and_not 64 e A k (in_word v.parts A few a) (omega arith) ∙ ap (λ (x : Bool). x && not (bit A k)) (e_bit k h))
        (bit_and_lem u A k ∙ ap (λ (x : Bool). x && bit A k) (u_bit k h));
  }

  module _ (f : ℕ) (ef : f ≡ filled_by v A) where
    f_lt : f < 2 ^ v.parts
    f_lt = rw ef (word_lt v.parts _)

    f_bit : (k : ℕ) → k < v.parts → bit f k ≡ v.has k A
    f_bit k h = rw ef (bit_word v.parts _ k h)

    pub row_words : (asks : ℕ) → IsAsking v A asks → RowWords v A asks (bit_and e f) (but_not u f)
    unfolding calls_in calls_out
    row_words asks w = record {
      label = a;
      have_small = bit_and_lt v.parts e f e_lt;
      lack_small = bit_and_lt v.parts u _ u_lt;
      asks = w;
      have = λ k h. bit_and_lem e f k ∙ ap₂ ◌&&◌ (e_bit k h) (f_bit k h);
      lack = λ k h. bit_and_not 64 u f k (in_word v.parts f few f_lt) (omega arith) ∙ ap₂ (λ (x y : Bool). x && not y) (u_bit k h) (f_bit k h);
    }
