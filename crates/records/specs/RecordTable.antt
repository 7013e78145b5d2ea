-- The answer of the scan as that of the definitions.
use Rattle.std.specs.Prelude.{ℕ, ◌+◌, ◌≡◌, List, Result, Ok, Err}
use Rattle.refusals.specs.Numbers.{number}
use Rattle.refusals.specs.declared.Reason.{Reason}
use Rattle.refusals.specs.declared.Refusal.{Refusal}
use Rattle.records.specs.Entries.{Entry}
use Rattle.records.specs.Shapes.{Shape}
use Rattle.records.specs.Scan.{State, Scanning, Fault, refused, whole, name, scan_sheet}
use Rattle.records.specs.declared.Progress.{Progress}

-- what has been read, with the records in the table
abbrev pub state_of : List Entry → Progress → State
state_of es p = record { at = p.at; records = es; names = p.names; roles = p.roles }

abbrev pub scanning_of : List Entry → Result Progress Refusal → Scanning
scanning_of es (Ok p) = whole (state_of es p)
scanning_of es (Err r) = refused (number r.reason) r.place

-- the number of the fault that a test found; 0 for none
abbrev pub fault_number : Result Unit Reason → ℕ
fault_number (Ok _) = 0
fault_number (Err r) = number r

-- a refusal is the fault of the record that starts at a place; an answer says that it has none
abbrev pub Refuses : ℕ → Fault → Refusal → Type 0
Refuses at f r = (number r.reason ≡ f.number) × (r.place ≡ at + f.offset)

abbrev pub Tells : {A : Type 0} → ℕ → Fault → Result A Refusal → Type 0
Tells at f (Ok _) = f.number ≡ 0
Tells at f (Err r) = Refuses at f r

-- the records after those that a body a, b of shape s names are noted as named
abbrev pub both_named : List Entry → Shape → ℕ → ℕ → List Entry
both_named es s a b = name (name es s.first a) s.second b

-- what scanning a sheet leaves in the table and answers. Free: the records of a sheet that is refused.
abbrev pub Scans : List ℕ → List Entry → Result Progress Refusal → Type 0
Scans sheet es r = scanning_of es r ≡ scan_sheet sheet
