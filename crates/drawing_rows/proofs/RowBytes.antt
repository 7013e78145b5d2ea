-- Laws of rows as bytes: a byte of a word, and the bytes of rows that have the bits of connections.
use mathlib.Core.Path.{◌≡◌, sym, ap, ap₂, ◌∙◌}
use mathlib.Core.List.{List}
use Prim.Native.Nat.{ℕ, ◌+◌, ◌*◌, ◌/◌, ◌%◌, ◌^◌, ◌<◌}
use native.Mathlib.Nat.{mod-lt}
use native.Mathlib.Omega.{arith}
use lib.Dec.{eqb}
use lib.ListN.{length, get_or}
use lib.Pow.{pow_pos, shr-shr}
use borrow.Author.Tests.{lt-ltb}
use Rattle.bitset.specs.Bits.{bit, look}
use Rattle.bitset.proofs.Facts.{and_in}
use Rattle.bitset.proofs.Laws.{word_ext, word_bits, low_bits}
use Rattle.semantics.specs.Projection.{role_bit}
use Rattle.drawings.specs.Entries.{Connection}
use Rattle.drawings.specs.Checking.{connects}
use Rattle.drawing_rows.specs.Rows.{byte_at, bits_of, RowsFilled}

-- eight bits of a word, shifted down
pub byte_of_word : (ws : List ℕ) (p m : ℕ) → m ≡ 8 * (p % 8) → get_or ws (p / 8) 0 / 2 ^ m % 256 ≡ byte_at ws p
unfolding byte_at
byte_of_word ws p m e =
    let w : ℕ = get_or ws (p / 8) 0 / 2 ^ m in
    sym (word_bits 8 (w % 2 ^ 8) (mod-lt w (pow_pos 8)))
    ∙ word_ext 8 _ _
    (λ k l.
    low_bits w 8 k ∙ and_in (bit w k) _ (lt-ltb k 8 l)
    ∙ ap (λ (q : ℕ). eqb (q % 2) 1) (shr-shr (get_or ws (p / 8) 0) m k)
    ∙ ap₂ (λ (i j : ℕ). bit (get_or ws i 0) j) (omega arith) (omega arith))

-- rows that have the bits of connections
pub rows_filled : (start : ℕ) (cs : List Connection) (ws vs : List ℕ) → length vs ≡ length ws
    → ((n : ℕ) → n < 64 * length ws → look vs n ≡ bits_of start cs n) → RowsFilled start cs ws vs
unfolding byte_at bits_of
rows_filled start cs ws vs l h = record {
  long = l;
  bytes = λ p q.
      word_ext 8 _ _
      (λ b r.
      let x : start + (8 * p + b) / 8192 ≡ start + p / 1024 = omega arith in
      let y : (8 * p + b) % 8192 / 8 ≡ p % 1024 = omega arith in
      h (8 * p + b) (omega arith) ∙ ap₂ (λ (x y : ℕ). role_bit (connects cs) x y ((8 * p + b) % 8)) x y
      ∙ ap (role_bit (connects cs) (start + p / 1024) (p % 1024)) (omega arith));
}
