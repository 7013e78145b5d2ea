-- A domino set and its knowledge base: its labels and dominoes, and what is found in it.
use Rattle.std.specs.Prelude.{ℕ, ◌*◌, ◌^◌, ◌<◌, Bool, ◌&&◌}
use Rattle.bitset.specs.Bits.{look}
use Rattle.elimination.specs.Sets.{some}
use Rattle.semantics.specs.Dominoes.{Dominoes, Domino, total, numbered}
use Rattle.semantics.specs.Conditions.{View}
use Rattle.flattening.specs.declared.parts.Quantifier.{Quantifier}
use Rattle.tbox.specs.declared.base.Filler.{Filler}
use Rattle.tbox.specs.declared.base.Part.{Part}
use Rattle.domino_conditions.specs.Tables.{view, filler_in_label_lem, role_holds_on_lem}
use Rattle.domino_conditions.specs.Polarity.{as_wanted_lem, wants}
use Rattle.domino_conditions.specs.declared.conditions.DominoSet.{DominoSet}

-- the knowledge base, and the set as a relation
abbrev pub view_of : DominoSet → View
view_of d = view d.base.now

abbrev pub dominoes_of : DominoSet → Dominoes
dominoes_of d = numbered d.base.now.size.parts d.base.now.size.roles (look d.set.now)

-- a is a label, n the number of a domino, and (a, r, b) a domino
abbrev pub IsLabel : DominoSet → ℕ → Type 0
IsLabel d a = a < 2 ^ d.base.now.size.parts

abbrev pub IsNumber : DominoSet → ℕ → Type 0
IsNumber d n = n < total d.base.now.size.parts d.base.now.size.roles

abbrev pub IsDomino : DominoSet → ℕ → ℕ → ℕ → Type 0
IsDomino d a r b = Domino d.base.now.size.parts d.base.now.size.roles a r b

-- has the row a a witness for a part with the role sets of p: its right label has the filler f, or lacks it, as the quantifier wants
unfoldable pub found : DominoSet → Part → Quantifier → Filler → ℕ → Bool
found d p q f a =
    some (2 ^ (2 * d.base.now.size.roles))
    (λ R. role_holds_on_lem p R && some (2 ^ d.base.now.size.parts) (λ B. as_wanted_lem (wants q) (filler_in_label_lem f B) && dominoes_of d a R B))
