-- Laws on the bytes of parts in a lent list.
use Rattle.std.proofs.Common.{◌≡◌, ℕ, suc, List, [], ◌∷◌, length, Bool, true, false, cond, refl, arith}
use mir.Val.{bool_byte}
use Rattle.std.proofs.Math.ListN.{set}
use Rattle.std.specs.List.{flat_map}
use Rattle.records.specs.Entries.{Entry}
use Rattle.syntax.specs.Answers.{bytes_of}
use Rattle.flattening.specs.Origins.{parts_from, slot_bytes}
use Rattle.flattening.specs.declared.parts.Origin.{Origin}
use Rattle.flattening.proofs.PartLists.{slot_bytes_of}

-- three bytes written
pub three : (xs : List ℕ) (a b c : ℕ) → length xs ≡ 3 → set (set (set xs 0 a) 1 b) 2 c ≡ a ∷ b ∷ c ∷ []
three [] a b c e = absurd (omega arith)
three (x ∷ []) a b c e = absurd (omega arith)
three (x ∷ y ∷ []) a b c e = absurd (omega arith)
three (x ∷ y ∷ z ∷ []) a b c e = refl
three (x ∷ y ∷ z ∷ w ∷ l) a b c e = absurd (omega arith)

-- a flag as a byte
pub byte_of : (b : Bool) → bool_byte b ≡ cond b 1 0
byte_of true = refl
byte_of false = refl

-- those of origins are those of the parts that they stand for
pub slots-bytes : (es : List Entry) (k : ℕ) (os : List Origin) → flat_map slot_bytes os ≡ bytes_of (parts_from es k os)
unfolding parts_from bytes_of
slots-bytes es k [] = refl
slots-bytes es k (o ∷ os) = rw (slot_bytes_of es k o, slots-bytes es (suc k) os)
