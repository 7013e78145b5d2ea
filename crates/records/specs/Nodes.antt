-- What the code holds of a record, read as the record of the definitions.
use Rattle.std.specs.Prelude.{ℕ, ◌≡◌, ◌≤◌, ◌<◌, List, length, Option, Some, None, cond, leb}
use Rattle.records.specs.Entries.{Entry}
use Rattle.records.specs.Shapes.{Shape}
use Rattle.records.specs.Shapes.{shape_of, is_leaf_lem}
use Rattle.records.specs.Scan.{record_at_lem}
use Rattle.records.specs.declared.nodes.Node.{Node}
use Rattle.records.specs.declared.nodes.Node.TheVariants.{Everything, Nothing, Name, Not, And, Or, Exists, Forall, Role, Inverse, RoleNot, RoleAnd, RoleOr, Axiom, RoleInclusion}
use Rattle.records.specs.declared.nodes.Record.{Record}

-- a node's kind byte and body bytes (01, the table of kinds)
abbrev pub node_kind : Node → ℕ
node_kind Everything = 0x01
node_kind Nothing = 0x02
node_kind (Name t) = 0x03
node_kind (Not a) = 0x04
node_kind (And a b) = 0x05
node_kind (Or a b) = 0x06
node_kind (Exists a b) = 0x07
node_kind (Forall a b) = 0x08
node_kind (Role k) = 0x10
node_kind (Inverse k) = 0x11
node_kind (RoleNot a) = 0x12
node_kind (RoleAnd a b) = 0x13
node_kind (RoleOr a b) = 0x14
node_kind (Axiom a b) = 0x20
node_kind (RoleInclusion a b) = 0x21

abbrev pub node_first : Node → ℕ
node_first Everything = 0
node_first Nothing = 0
node_first (Name t) = t
node_first (Not a) = a
node_first (And a b) = a
node_first (Or a b) = a
node_first (Exists a b) = a
node_first (Forall a b) = a
node_first (Role k) = k
node_first (Inverse k) = k
node_first (RoleNot a) = a
node_first (RoleAnd a b) = a
node_first (RoleOr a b) = a
node_first (Axiom a b) = a
node_first (RoleInclusion a b) = a

abbrev pub node_second : Node → ℕ
node_second Everything = 0
node_second Nothing = 0
node_second (Name t) = 0
node_second (Not a) = 0
node_second (And a b) = b
node_second (Or a b) = b
node_second (Exists a b) = b
node_second (Forall a b) = b
node_second (Role k) = 0
node_second (Inverse k) = 0
node_second (RoleNot a) = 0
node_second (RoleAnd a b) = b
node_second (RoleOr a b) = b
node_second (Axiom a b) = b
node_second (RoleInclusion a b) = b

unfoldable pub entry_of : Record → Entry
entry_of r =
    record {
      kind = node_kind r.node;
      first = node_first r.node;
      second = node_second r.node;
      named = r.named;
      vacuous = r.vacuous;
      sort = (shape_of (node_kind r.node)).sort;
      leaf = is_leaf_lem (shape_of (node_kind r.node));
    }

-- record r, as the code holds it; none past the end of the records
abbrev pub RecordAt : List Entry → ℕ → Option Record → Type 0
RecordAt es r None = length es ≤ r
RecordAt es r (Some x) = (r < length es) × (record_at_lem es r ≡ entry_of x)

-- a record has a node: its kind and body
pub record Says (e : Entry) (n : Node) : Type 0 where
  pub kind : e.kind ≡ node_kind n
  pub first : e.first ≡ node_first n
  pub second : e.second ≡ node_second n

-- the node of record r; none past the end of the records
abbrev pub NodeAt : List Entry → ℕ → Option Node → Type 0
NodeAt es r None = length es ≤ r
NodeAt es r (Some n) = (r < length es) × Says (record_at_lem es r) n

-- byte i of a body a of which so many bytes are there
abbrev pub byte_of : Shape → ℕ → ℕ → ℕ
byte_of s i a = cond (leb i s.body) a 0

-- the node of a kind with the bytes a and b of its body; none of an unknown kind
abbrev pub NodeOf : ℕ → ℕ → ℕ → Option Node → Type 0
NodeOf k a b None = (shape_of k).sort ≡ 0
NodeOf k a b (Some n) = (node_kind n ≡ k) × (node_first n ≡ byte_of (shape_of k) 1 a) × (node_second n ≡ byte_of (shape_of k) 2 b)
