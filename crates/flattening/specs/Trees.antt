-- A concept or a role of the table, as the code goes down it: a record, read with those below a number alone.
use Rattle.std.specs.Prelude.{ℕ, Bool, true, false, ◌≤◌, ◌<◌, ◌⊎◌, List, length, Option, Some, None}
use Rattle.records.specs.Entries.{Entry}
use Rattle.records.specs.Scan.{record_at_lem}
use Rattle.records.specs.Nodes.{Says}
use Rattle.records.specs.declared.nodes.Node.{Node}
use Rattle.syntax.specs.Concepts.{Role, concept_below, role_below}
use Rattle.syntax.specs.Normal.{Nf, plain, negated}
use Rattle.flattening.specs.declared.trees.Tree.{Tree}

-- the node of record r, of those below a number; none where that is no record below it
abbrev pub NodeBelow : List Entry → ℕ → ℕ → Option Node → Type 0
NodeBelow es below r None = (below ≤ r) ⊎ (length es ≤ r)
NodeBelow es below r (Some n) = (r < below) × (r < length es) × Says (record_at_lem es r) n

abbrev pub NodeOf : Tree → Option Node → Type 0
NodeOf t o = NodeBelow t.table.now t.below t.number o

-- a record that it names, read with those below it
abbrev pub operand_of : Tree → ℕ → Tree
operand_of t a = record { table = t.table; number = a; below = t.number }

-- the normal form of record r, of those below a number, read plainly or under a not
abbrev pub nf_below : Bool → List Entry → ℕ → ℕ → Nf
nf_below true es n r = negated (concept_below es n r)
nf_below false es n r = plain (concept_below es n r)

abbrev pub nf_of : Bool → Tree → Nf
nf_of odd t = nf_below odd t.table.now t.below t.number

-- the role that a tree is
abbrev pub role_at : Tree → Role
role_at t = role_below t.table.now t.below t.number
