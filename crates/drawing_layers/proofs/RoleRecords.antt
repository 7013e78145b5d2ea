-- Laws of the records of a role set's connections: role by role, how long they are, how many, and none of the empty set.
use Prim.Native.Nat.{ℕ, zero, suc, ◌+◌, ◌-◌, ◌*◌, ◌/◌, ◌%◌, ◌^◌, ◌≤◌, ◌<◌}
use native.Mathlib.Nat.{lt_of_lt_of_le}
use native.Mathlib.Omega.{arith}
use mathlib.Core.Path.{◌≡◌, refl, sym, ap, ap₂, ◌∙◌}
use mathlib.Core.Bool.{Bool, true, false, ◌&&◌, cond}
use mathlib.Core.List.{List, [], ◌∷◌, append-nil}
use lib.Bits.{bit_and}
use lib.Count.{ones}
use lib.ListN.{length, length-append}
use lib.Pow.{pow_mono}
use borrow.Author.Tests.{eq-eqb, ne_eqb}
use Rattle.std.proofs.lemmas.List.{take-append-drop, nil_from_length}
use Rattle.output.specs.Output.{Puts}
use Rattle.bitset.specs.Bits.{bit, size}
use Rattle.bitset.proofs.Laws.{word_bits, word_and, bit_past}
use Rattle.bitset.proofs.Sizes.{ones-word, size_le, size-add, size_empty}
use Rattle.drawings.specs.Entries.{Entry, connection}
use Rattle.drawings.specs.Laid.{entry_bytes, laid, in_turn}
use Rattle.drawings.proofs.InTurn.{laid_turn, turn_same}
use Rattle.drawing_layers.specs.Records.{role_bytes, role_count}

-- the record of role k from x to y; and only if it is in the set
abbrev pub role_record : ℕ → ℕ → ℕ → List ℕ
role_record x y k = entry_bytes (connection (record { from = x; to = y; role = k }))

abbrev pub role_line : ℕ → ℕ → ℕ → ℕ → List ℕ
role_line x y R k = cond (bit R (2 * k)) (role_record x y k) []

pub role_lines : (L x y R : ℕ) → role_bytes L x y R ≡ in_turn L (role_line x y R)
unfolding role_bytes
role_lines L x y R =
    laid_turn L _ ∙ turn_same L _ _ (λ k h. one (bit R (2 * k)) (connection (record { from = x; to = y; role = k })))
  where
    one : (b : Bool) (e : Entry) → laid (cond b (e ∷ []) []) ≡ cond b (entry_bytes e) []
    one true e = unfold laid in append-nil (entry_bytes e)
    one false e = unfold laid in refl

lines_length : (L x y R : ℕ) → length (in_turn L (role_line x y R)) ≡ 6 * role_count L R
unfolding in_turn entry_bytes role_count size
lines_length zero x y R = refl
lines_length (suc L) x y R =
    omega (
      arith,
      length-append (in_turn L (role_line x y R)) (role_line x y R L),
      lines_length L x y R,
      one (bit R (2 * L)) (role_record x y L) refl,
    )
  where
    one : (b : Bool) (l : List ℕ) → length l ≡ 6 → length (cond b l []) ≡ 6 * cond b 1 0
    one true l e = e
    one false l e = refl

pub role_bytes_length : (L x y R : ℕ) → length (role_bytes L x y R) ≡ 6 * role_count L R
role_bytes_length L x y R = ap length (role_lines L x y R) ∙ lines_length L x y R

pub role_count_few : (L R : ℕ) → role_count L R ≤ L
unfolding role_count
role_count_few L R = size_le L _

-- the empty role set has none
pub role_bytes_none : (L x y : ℕ) → role_bytes L x y 0 ≡ []
unfolding role_count
role_bytes_none L x y =
    let none = size_empty L (λ k. bit 0 (2 * k)) (λ k h. bit_past 0 0 (2 * k) (omega arith) (omega arith)) in
    nil_from_length (role_bytes L x y 0) (omega (arith, role_bytes_length L x y 0, none))

-- as the ones of a mask, of at most four roles
pub role_count_ones : (L R : ℕ) → L ≤ 4 → R < 2 ^ (2 * L) → ones (bit_and R 0x55) ≡ role_count L R
unfolding role_count size
role_count_ones L R h l =
    let D : ℕ → Bool = λ k. bit R (2 * k) in
    let four : 4 ≡ 4 - L + L = omega arith in
    let eight : 2 * L ≤ 8 = omega (arith, h) in
    let small : R < 2 ^ 8 = lt_of_lt_of_le l (pow_mono eight) in
    ap ones (ap₂ bit_and (sym (word_bits 8 R small)) (sym (word_bits 8 0x55 (omega arith)))
    ∙ word_and 8 (bit R) (bit 0x55))
    ∙ ones-word 8 (λ k. bit R k && bit 0x55 k)
    ∙ omega (
      arith,
      in_mask (bit R 0),
      in_mask (bit R 2),
      in_mask (bit R 4),
      in_mask (bit R 6),
      out_of_mask (bit R 1),
      out_of_mask (bit R 3),
      out_of_mask (bit R 5),
      out_of_mask (bit R 7),
      ap (λ (n : ℕ). size n D) four,
      size-add L (4 - L) D,
      size_empty (4 - L) (λ k. D (L + k)) (λ k i. bit_past (2 * L) R (2 * (L + k)) l (omega arith)),
    )
  where
    in_mask : (b : Bool) → ◌≡◌ {A = ℕ} (cond (b && true) 1 0) (cond b 1 0)
    in_mask true = refl
    in_mask false = refl

    out_of_mask : (b : Bool) → ◌≡◌ {A = ℕ} (cond (b && false) 1 0) 0
    out_of_mask true = refl
    out_of_mask false = refl

-- is role k in the set, as a digit
pub on : (R k : ℕ) → R / 2 ^ (k + k) % 2 ≡ 1 → bit R (2 * k) ≡ true
on R k e = let two : 2 * k ≡ k + k = omega arith in rw two (eq-eqb (R / 2 ^ (k + k) % 2) 1 e)

pub off : (R k : ℕ) → (R / 2 ^ (k + k) % 2 ≡ 1 → ⊥) → bit R (2 * k) ≡ false
off R k n = let two : 2 * k ≡ k + k = omega arith in rw two (ne_eqb (R / 2 ^ (k + k) % 2) 1 n)

-- nothing is put into a buffer
pub puts_none : (at : ℕ) (out : List ℕ) → at ≤ length out → Puts [] at out out at
puts_none at out h = record {
  answer = omega arith;
  fits = h;
  buffer = rw (append-nil, take-append-drop) refl;
}
