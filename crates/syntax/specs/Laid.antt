-- Records and their bytes (01, "The sheet's bytes"): a list of records laid one after another, and which lists may be a sheet's.
use Rattle.std.specs.Prelude.{ℕ, ◌≤◌, ◌≡◌, List, [], ◌∷◌, ◌++◌, length, take}
use Rattle.records.specs.Entries.{Entry}
use Rattle.records.specs.Shapes.{shape_of}
use Rattle.records.specs.Scan.{State, start, body_fault, after}

-- a record: its kind and its two body bytes, 0 where there is none
pub record Rec : Type 0 where
  pub kind : ℕ
  pub first : ℕ
  pub second : ℕ

abbrev pub rec : ℕ → ℕ → ℕ → Rec
rec k a b = record { kind = k; first = a; second = b }

abbrev pub rec_of : Entry → Rec
rec_of e = rec e.kind e.first e.second

-- "a record is one byte of kind, then a body whose length the kind fixes"
unfoldable pub rec_bytes : Rec → List ℕ
rec_bytes r = r.kind ∷ take (shape_of r.kind).body (r.first ∷ r.second ∷ [])

-- "records follow one another"
unfoldable pub laid : List Rec → List ℕ
laid [] = []
laid (r ∷ rs) = rec_bytes r ++ laid rs

-- a record that may follow what was read: its kind is known, its body has no fault (01, "Read": 4 to 8), and a body byte that is
-- not there is 0
pub record Sound (st : State) (r : Rec) : Type 0 where
  pub known : (shape_of r.kind).sort ≡ 0 → ⊥
  pub right : (body_fault st.records (shape_of r.kind) r.first r.second).number ≡ 0
  pub first : (shape_of r.kind).body ≡ 0 → r.first ≡ 0
  pub second : (shape_of r.kind).body ≤ 1 → r.second ≡ 0

abbrev pub next_by : State → Rec → State
next_by st r = after st r.kind r.first r.second

-- what was read after some records more, and that each of them may follow those before it
unfoldable pub reach : State → List Rec → State
reach st [] = st
reach st (r ∷ rs) = reach (next_by st r) rs

unfoldable pub Follows : State → List Rec → Type 0
Follows st [] = Unit
Follows st (r ∷ rs) = Sound st r × Follows (next_by st r) rs

-- well-formed records: "earlier records of the right sort, named once, numbers in range, restricted roles, at most 255"
pub record WellFormed (rs : List Rec) : Type 0 where
  pub few : length rs ≤ 255
  pub sound : Follows start rs
