-- Conditions 2 and 4 speak of existential parts and of what is in (true); 3 and 5 of universal parts and of what is out (false).
-- The code has one function for each two.
use Rattle.std.specs.Prelude.{ℕ, ◌≡◌, Bool, true, false, not, ◌&&◌, cond, eqb, Option, Some, None}
use Rattle.bitset.specs.Bits.{bit}
use Rattle.elimination.specs.Sets.{every}
use Rattle.semantics.specs.Dominoes.{Dominoes}
use Rattle.semantics.specs.Conditions.{View, witness}
use Rattle.flattening.specs.declared.parts.Quantifier.{Quantifier}
use Rattle.flattening.specs.declared.parts.Quantifier.TheVariants.{Exists, Forall}
use Rattle.tbox.specs.declared.base.Filler.{Filler}
use Rattle.tbox.specs.declared.base.Kind.{Kind}
use Rattle.tbox.specs.declared.base.Kind.TheVariants.{Restriction}
use Rattle.tbox.specs.declared.base.Part.{Part}
use Rattle.tbox.specs.Promise.{kind_number}
use Rattle.domino_conditions.specs.Tables.{role_holds_on_lem}

-- an existential part wants its filler in
abbrev pub wants : Quantifier → Bool
wants Exists = true
wants Forall = false

abbrev pub as_wanted_lem : Bool → Bool → Bool
as_wanted_lem true b = b
as_wanted_lem false b = not b

abbrev pub kind_for_lem : Bool → ℕ
kind_for_lem true = 2
kind_for_lem false = 3

module _ (v : View) (w : Bool) where
  -- does part k ask something of the right label of (A, R, _)
  unfoldable pub asks_of_right_lem : ℕ → ℕ → ℕ → Bool
  asks_of_right_lem A R k = eqb (v.kind k) (kind_for_lem w) && (not (as_wanted_lem w (bit A k)) && v.holds k R)

  -- does the domino (A, R, B) break what part k asks
  unfoldable pub breaks : ℕ → ℕ → ℕ → ℕ → Bool
  breaks A R B k = asks_of_right_lem A R k && as_wanted_lem w (v.has k B)

  -- condition 2 (true), 3 (false)
  unfoldable pub right_fits_lem : ℕ → ℕ → ℕ → Bool
  right_fits_lem A R B = every v.parts (λ k. not (breaks A R B k))

  -- does the label A want a witness for part k; has it one
  unfoldable pub wants_witness_lem : ℕ → ℕ → Bool
  wants_witness_lem A k = eqb (v.kind k) (kind_for_lem w) && as_wanted_lem w (bit A k)

  unfoldable pub has_witness_lem : Dominoes → ℕ → ℕ → Bool
  has_witness_lem D A k = witness v D A k (λ B. as_wanted_lem w (v.has k B))

  -- condition 4 (true), 5 (false)
  unfoldable pub witnessed : Dominoes → ℕ → Bool
  witnessed D A = every v.parts (λ k. not (wants_witness_lem A k && not (has_witness_lem D A k)))

-- the first of the conditions 4 and 5 that a left label fails; 0 for none
unfoldable pub row_defect_lem : View → Dominoes → ℕ → ℕ
row_defect_lem v D A = cond (witnessed v true D A) (cond (witnessed v false D A) 0 5) 4

-- the filler of a restriction with this quantifier
abbrev pub IsFillerOf : Kind → Quantifier → Option Filler → Type 0
IsFillerOf d q None = (f : Filler) → d ≡ Restriction q f → ⊥
IsFillerOf d q (Some f) = d ≡ Restriction q f

-- does the part p, if it stands as part k, ask something of the right label of (a, r, _)
abbrev pub part_asks : Part → Quantifier → ℕ → ℕ → ℕ → Bool
part_asks p q a r k = eqb (kind_number p.kind) (kind_for_lem (wants q)) && (not (as_wanted_lem (wants q) (bit a k)) && role_holds_on_lem p r)

-- what it asks: nothing, or its filler
abbrev pub AskedOfRight : Part → Quantifier → ℕ → ℕ → ℕ → Option Filler → Type 0
AskedOfRight p q a r k None = part_asks p q a r k ≡ false
AskedOfRight p q a r k (Some f) = (part_asks p q a r k ≡ true) × IsFillerOf p.kind q (Some f)

-- the same of what it wants of the row a
abbrev pub part_wants : Part → Quantifier → ℕ → ℕ → Bool
part_wants p q a k = eqb (kind_number p.kind) (kind_for_lem (wants q)) && as_wanted_lem (wants q) (bit a k)

abbrev pub WantedOfRow : Part → Quantifier → ℕ → ℕ → Option Filler → Type 0
WantedOfRow p q a k None = part_wants p q a k ≡ false
WantedOfRow p q a k (Some f) = (part_wants p q a k ≡ true) × IsFillerOf p.kind q (Some f)
