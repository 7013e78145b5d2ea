-- Sets of parts as words: of a kind, on a role set, with a filler in a label.
use Rattle.std.specs.Prelude.{ℕ, Bool, eqb, ltb, Option, Some, None}
use Rattle.bitset.specs.Bits.{word}
use Rattle.semantics.specs.Conditions.{View}
use Rattle.flattening.specs.declared.parts.Quantifier.{Quantifier}
use Rattle.flattening.specs.declared.parts.Quantifier.TheVariants.{Exists, Forall}

-- is a part of this kind number a restriction with a quantifier; with none: a name or a fresh name
unfoldable pub is_of_lem : Option Quantifier → ℕ → Bool
is_of_lem None n = ltb n 2
is_of_lem (Some Exists) n = eqb n 2
is_of_lem (Some Forall) n = eqb n 3

-- the parts of a kind
abbrev pub of_kind : View → Option Quantifier → ℕ
of_kind v q = word v.parts (λ k. is_of_lem q (v.kind k))

-- the parts whose role holds on the role set R
abbrev pub on_role_set : View → ℕ → ℕ
on_role_set v R = word v.parts (λ k. v.holds k R)

-- the parts whose filler is in the label B
abbrev pub filled_by : View → ℕ → ℕ
filled_by v B = word v.parts (λ k. v.has k B)
