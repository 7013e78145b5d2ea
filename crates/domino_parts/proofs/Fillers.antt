-- The parts whose filler is in a label: by its six lowest bits and by the bits above.
use mathlib.Core.Path.{◌≡◌, refl, sym, ap, ap₂, ◌∙◌}
use mathlib.Core.Bool.{◌||◌}
use Prim.Native.Nat.{ℕ, ◌+◌, ◌-◌, ◌*◌, ◌/◌, ◌%◌, ◌^◌, ◌≤◌, ◌<◌}
use native.Mathlib.Nat.{mul_comm}
use native.Mathlib.Decide.{dec_lt}
use native.Mathlib.Omega.{arith}
use lib.Bits.{bit_or, or_zero_r, or_shifted_r}
use lib.ListN.{get_or, set, length, length-set}
use lib.Pow.{pow_pos, pow_mono, split}
use Rattle.bitset.specs.Bits.{bit}
use Rattle.bitset.proofs.Laws.{word_ext, word_or, bit_or_lem}
use Rattle.bitset.proofs.RunLaws.{whole_words}
use Rattle.tbox.specs.declared.base.Filler.{Filler}
use Rattle.tbox.specs.declared.base.Filler.TheVariants.{Everything, Nothing, Part as PartFiller}
use Rattle.tbox.specs.declared.base.Kind.{Kind}
use Rattle.tbox.specs.declared.base.Kind.TheVariants.{Name, Fresh, Restriction}
use Rattle.tbox.specs.declared.base.Base.{Base}
use Rattle.tbox.specs.Promise.{part_in}
use Rattle.domino_conditions.specs.Tables.{filler_in_label_lem, kind_has, view}
use Rattle.domino_parts.specs.PartWords.{filled_by}
use Rattle.domino_parts.specs.FillerTables.{FillersTo, FillersOf}
use Rattle.domino_parts.specs.declared.tables.FillerTables.{FillerTables}
use Rattle.domino_parts.proofs.Making.{set_next}

-- ---- one filler

-- a bit of a label: one of the six lowest, or of those above
bit_split : (B k : ℕ) → bit B k ≡ (bit (B % 64) k || bit (64 * (B / 64)) k)
bit_split B k =
    let e : bit_or (B % 64) (64 * (B / 64)) ≡ B =
    ap (bit_or (B % 64)) (mul_comm 64 (B / 64)) ∙ or_shifted_r (B / 64) 6 (B % 64) (omega arith) ∙ split B 6 in
    sym (ap (λ (x : ℕ). bit x k) e) ∙ bit_or_lem (B % 64) (64 * (B / 64)) k

filler_split : (f : Filler) (B : ℕ) → filler_in_label_lem f B ≡ (filler_in_label_lem f (B % 64) || filler_in_label_lem f (64 * (B / 64)))
unfolding filler_in_label_lem
filler_split Everything B = refl
filler_split Nothing B = refl
filler_split (PartFiller k) B = bit_split B k

kind_split : (d : Kind) (B : ℕ) → kind_has d B ≡ (kind_has d (B % 64) || kind_has d (64 * (B / 64)))
unfolding kind_has
kind_split Name B = refl
kind_split Fresh B = refl
kind_split (Restriction q f) B = filler_split f B

-- ---- all parts

module _ (b : Base) where
  pub filled_split : (B : ℕ) → bit_or (filled_by (view b) (B % 64)) (filled_by (view b) (64 * (B / 64))) ≡ filled_by (view b) B
  filled_split B =
      word_or b.size.parts (λ k. (view b).has k (B % 64)) (λ k. (view b).has k (64 * (B / 64)))
      ∙ sym (word_ext b.size.parts _ _ (λ k h. kind_split (part_in b k).kind B))

  pub filled_by_tables : (t : FillerTables) (B : ℕ) → FillersOf (view b) t → B < 2 ^ b.size.parts
      → bit_or (get_or t.low (B % 64) 0) (get_or t.high (B / 64) 0) ≡ filled_by (view b) B
  filled_by_tables t B a h = go (dec_lt b.size.parts 6)
    where
      go : Dec (b.size.parts < 6) → bit_or (get_or t.low (B % 64) 0) (get_or t.high (B / 64) 0) ≡ filled_by (view b) B
      go (yes q) =
          let m : 2 ^ b.size.parts ≤ 2 ^ 5 = pow_mono {i = b.size.parts} {j = 5} (omega (arith, q)) in
          let r : B % 64 ≡ B = omega (arith, m, h) in
          let s : B / 64 ≡ 0 = omega (arith, m, h) in
          rw (r, s, a.rest (omega (arith, m))) (or_zero_r (get_or t.low B 0) ∙ a.low B (omega (arith, m, h)))
      go (no q) =
          let m = whole_words b.size.parts (omega (arith, q)) in
          let p : 0 < 2 ^ (b.size.parts - 6) = pow_pos (b.size.parts - 6) in
          ap₂ bit_or (a.low (B % 64) (omega (arith, m, p))) (a.high (B / 64) (omega (arith, m, h))) ∙ filled_split B

-- ---- entry by entry

-- n being the count of labels, s one of those that the bits above make
module _ (b : Base) (n s : ℕ) (e : n ≡ 2 ^ b.size.parts) (h : s < n / 64) where
  pub high_room : s < 64
  high_room = let m : 2 ^ b.size.parts ≤ 2 ^ 12 = pow_mono {i = b.size.parts} {j = 12} (omega (arith, b.size.within)) in omega (arith, m, e, h)

  pub high_more : (t : FillerTables) (l x : ℕ) → FillersTo (view b) t l s → x ≡ filled_by (view b) (s * 64 % 2 ^ 64)
      → FillersTo (view b) (record { low = t.low; high = set t.high s x }) l (s + 1)
  high_more t l x a f =
      let q : s * 64 % 2 ^ 64 ≡ 64 * s = omega (arith, high_room) in
      let r : s < length t.high = omega (arith, high_room, a.rooms.1) in
      record {
        rooms = (a.rooms.0, length-set t.high s x ∙ a.rooms.1);
        low = a.low;
        high = set_next t.high s x (λ k. filled_by (view b) (64 * k)) r a.high (f ∙ ap (filled_by (view b)) q);
        rest = λ z. absurd (omega (arith, z));
      }
