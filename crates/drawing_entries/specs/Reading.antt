-- What reading a file tells: a record as the definitions see it, and the individuals or the first fault.
use Rattle.std.specs.Prelude.{ℕ, ◌≤◌, ◌<◌, ◌≡◌, List, take, Option, Some, None, Result, Ok, Err}
use Rattle.bitset.specs.Bits.{bit}
use Rattle.refusals.specs.Numbers.{number}
use Rattle.refusals.specs.declared.Reason.{Reason}
use Rattle.refusals.specs.declared.Refusal.{Refusal}
use Rattle.drawings.specs.Entries.{Connection as ConnectionOf, Entry as EntryOf, individual, connection, unreadable, first_fault, entries_of, names_of}
use Rattle.drawing_entries.specs.declared.Connection.{Connection as CodeConnection}
use Rattle.drawing_entries.specs.declared.Entry.{Entry}
use Rattle.drawing_entries.specs.declared.Entry.TheVariants.{Individual, Connection}

-- a connection and a record as the definitions see them; none: it cannot be read
abbrev pub connection_is : CodeConnection → ConnectionOf
connection_is c = record { from = c.from; to = c.to; role = c.role }

abbrev pub entry_is : Entry → EntryOf
entry_is (Individual m) = individual m
entry_is (Connection c) = connection (connection_is c)

abbrev pub may_be : Option Entry → EntryOf
may_be None = unreadable
may_be (Some e) = entry_is e

-- the bytes it takes
abbrev pub entry_size : Entry → ℕ
entry_size (Individual m) = 3
entry_size (Connection c) = 6

-- a fault's number, 0 for none
abbrev pub fault_number : Option Reason → ℕ
fault_number None = 0
fault_number (Some r) = number r

-- the individuals of a file that has no fault, or its first fault. Free: the names past the last individual's, and on a fault all
abbrev pub Reads : ℕ → ℕ → List ℕ → List ℕ → Result ℕ Refusal → Type 0
Reads plain roles file names (Ok n) =
    (first_fault (bit plain) roles 0 (entries_of file) ≡ 0) × (n ≤ 1024) × (0 < n) × (take n names ≡ names_of (entries_of file))
Reads plain roles file names (Err r) =
    (number r.reason ≡ first_fault (bit plain) roles 0 (entries_of file)) × (r.place ≡ 0)
