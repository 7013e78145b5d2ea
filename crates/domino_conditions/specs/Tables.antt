-- What the flattened knowledge base that the code holds says: its view, and the room that a domino set takes.
use Rattle.std.specs.Prelude.{ℕ, ◌+◌, ◌*◌, ◌^◌, ◌≤◌, ◌<◌, Bool, true, false, Option, Some, None}
use Rattle.bitset.specs.Bits.{bit, look, words_for_lem}
use Rattle.semantics.specs.Dominoes.{total}
use Rattle.semantics.specs.Conditions.{View}
use Rattle.tbox.specs.declared.base.Filler.{Filler}
use Rattle.tbox.specs.declared.base.Filler.TheVariants.{Everything, Nothing, Part as PartFiller}
use Rattle.tbox.specs.declared.base.Kind.{Kind}
use Rattle.tbox.specs.declared.base.Kind.TheVariants.{Name, Fresh, Restriction}
use Rattle.tbox.specs.declared.base.Part.{Part}
use Rattle.tbox.specs.declared.base.Base.{Base}
use Rattle.tbox.specs.Promise.{kind_number, part_in}
use Rattle.domino_conditions.specs.declared.conditions.Condition.{Condition}
use Rattle.domino_conditions.specs.declared.conditions.Condition.TheVariants.{Kb, Ex, Uni, DelEx, DelUni, Sym, Rbox}

-- the documents' number of a condition, and of the first that fails: 0 for none
abbrev pub condition_number : Condition → ℕ
condition_number Kb = 1
condition_number Ex = 2
condition_number Uni = 3
condition_number DelEx = 4
condition_number DelUni = 5
condition_number Sym = 6
condition_number Rbox = 7

abbrev pub defect_number : Option Condition → ℕ
defect_number None = 0
defect_number (Some c) = condition_number c

-- is the filler in the label B
unfoldable pub filler_in_label_lem : Filler → ℕ → Bool
filler_in_label_lem Everything B = true
filler_in_label_lem Nothing B = false
filler_in_label_lem (PartFiller k) B = bit B k

-- a restriction's
unfoldable pub kind_has : Kind → ℕ → Bool
kind_has Name B = false
kind_has Fresh B = false
kind_has (Restriction q f) B = filler_in_label_lem f B

-- does the role of a part hold on the role set R
abbrev pub role_holds_on_lem : Part → ℕ → Bool
role_holds_on_lem p R = look p.role R

abbrev pub view : Base → View
view b = record {
  parts = b.size.parts;
  roles = b.size.roles;
  kind = λ k. kind_number (part_in b k).kind;
  holds = λ k R. role_holds_on_lem (part_in b k) R;
  has = λ k B. kind_has (part_in b k).kind B;
  good = look b.good;
  closed = look b.closed;
}

-- a set of so many words has room for all dominoes
abbrev pub Room : Base → ℕ → Type 0
Room b words = total b.size.parts b.size.roles ≤ 64 * words

-- the words needed are there
abbrev pub Enough : Base → ℕ → Type 0
Enough b words = words_for_lem (total b.size.parts b.size.roles) ≤ words

-- room for all dominoes, and a is a label
pub record Row (b : Base) (a words : ℕ) : Type 0 where
  pub label : a < 2 ^ b.size.parts
  pub room : Room b words

-- the same of a row of c parts and l roles
pub record RowOf (c l a words : ℕ) : Type 0 where
  pub within : c + l ≤ 12
  pub few : l ≤ 4
  pub label : a < 2 ^ c
  pub room : total c l ≤ 64 * words
