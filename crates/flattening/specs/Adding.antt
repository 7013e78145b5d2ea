-- What going through concepts and through the queue adds to the parts.
use Rattle.std.specs.Prelude.{ℕ, ◌≡◌, ◌<◌, Bool, List, ◌++◌, length, Result, Ok, Err}
use Rattle.std.proofs.Math.Option.{Option as Maybe}
use Rattle.arrayvec.specs.ArrayVec.{ArrayVec}
use Rattle.flattening.specs.declared.parts.TooMany.{TooMany}
use Rattle.records.specs.Entries.{Entry}
use Rattle.syntax.specs.Concepts.{nodes_of, axioms_of}
use Rattle.syntax.specs.Normal.{Nf}
use Rattle.syntax.specs.Flatten.{Atom, Part, atom, shared, meet_one, walk, pendings, name_parts_lem}
use Rattle.flattening.specs.Trees.{nf_below, nf_of, operand_of}
use Rattle.flattening.specs.Order.{through, turn_of, axiom_turn}
use Rattle.flattening.specs.Origins.{restriction, tag_of, role_of, part_of, parts_in, parts_made}
use Rattle.flattening.specs.declared.trees.Tree.{Tree}
use Rattle.flattening.specs.declared.parts.Quantifier.{Quantifier}
use Rattle.flattening.specs.declared.parts.Source.{Source}
use Rattle.flattening.specs.declared.parts.Origin.{Origin}

-- what a step that adds parts answers
abbrev pub Outcome : Type 0
Outcome = Result (Unit {0}) TooMany

-- a step adds parts, by those that are there, or there are more than there is room for
abbrev pub Adds : ℕ → List Entry → (List Part → List Part) → List Origin → List Origin → Outcome → Type 0
Adds room es more before after (Ok u) = parts_in es after ≡ parts_in es before ++ more (parts_in es before)
Adds room es more before after (Err e) = room < length (parts_in es before ++ more (parts_in es before))

-- going through a concept
abbrev pub AddsParts : ℕ → List Entry → Nf → List Origin → List Origin → Outcome → Type 0
AddsParts room es c = Adds room es (λ so. (walk c so).parts)

-- where a restriction comes from
abbrev pub source_of : Tree → Bool → ℕ → Source
source_of t odd f = record { number = t.number; odd = odd; filler = f }

-- a restriction met, with its filler where that needs no fresh name
abbrev pub met : List Entry → Quantifier → Source → Maybe Atom → List Part → List Part
met es q s o so = (meet_one shared (restriction q (tag_of s) (role_of es s)) (tag_of s) (nf_below s.odd es (length es) s.filler) so o).parts

abbrev pub Meets : ℕ → List Entry → Quantifier → Source → Maybe Atom → List Origin → List Origin → Outcome → Type 0
Meets room es q s o = Adds room es (met es q s o)

-- the same for a tree
abbrev pub MeetsAt : ℕ → Tree → Bool → Quantifier → ℕ → List Origin → List Origin → Outcome → Type 0
MeetsAt room t odd q f = Meets room t.table.now q (source_of t odd f) (atom (nf_of odd (operand_of t f)))

-- the parts of the names alone
abbrev pub Names : ℕ → ℕ → Result (ArrayVec Origin) TooMany → Type 0
Names room names (Ok os) = (es : List Entry) → parts_in es os.items ≡ name_parts_lem names
Names room names (Err e) = room < names

-- going through record i, if it is an axiom; through all axioms; and through what a part puts on the queue when its turn comes
abbrev pub AddsAxiom : ℕ → List Entry → ℕ → List Origin → List Origin → Outcome → Type 0
AddsAxiom room es i = Adds room es (through (axiom_turn (nodes_of es) i))

abbrev pub AddsAxioms : ℕ → List Entry → List Origin → List Origin → Outcome → Type 0
AddsAxioms room es = Adds room es (through (pendings (axioms_of (nodes_of es))))

abbrev pub AddsTurn : ℕ → List Entry → Origin → List Origin → List Origin → Outcome → Type 0
AddsTurn room es o before after r = (k : ℕ) → Adds room es (through (turn_of k (part_of es k o))) before after r

-- the parts of the knowledge base, or there are more than there is room for
abbrev pub Flattens : ℕ → List Entry → ℕ → Result (ArrayVec Origin) TooMany → Type 0
Flattens room es names (Ok os) = parts_in es os.items ≡ parts_made names es
Flattens room es names (Err e) = room < length (parts_made names es)
