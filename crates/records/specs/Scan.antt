-- Reading record by record (01, "Read"): the state is what has been read, and a record is a fault or makes the next state.
use Rattle.std.specs.Prelude.{ℕ, zero, suc, ◌+◌, ◌-◌, max, Bool, true, false, cond, not, ◌&&◌, ◌||◌, List, [], ◌∷◌, ◌++◌, length, get_or, set, ltb, leb, eqb}
use Rattle.records.specs.Shapes.{Shape}
use Rattle.records.specs.Entries.{Entry}
use Rattle.records.specs.Shapes.{shape_of, is_leaf_lem, needs_restricted_lem}

-- what has been read: the byte where the next record starts, the records, and one more than the largest number of a name
-- (01 calls it a trait) and of a role (a link)
pub record State : Type 0 where
  pub at : ℕ
  pub records : List Entry
  pub names : ℕ
  pub roles : ℕ

abbrev pub start : State
start = record { at = 0; records = []; names = 0; roles = 0 }

-- what stands past the end of the records
abbrev pub blank : Entry
blank = record { kind = 0; first = 0; second = 0; named = false; vacuous = false; sort = 0; leaf = false }

abbrev pub record_at_lem : List Entry → ℕ → Entry
record_at_lem es r = get_or es r blank

-- a fault: its number (0: none), and how many bytes past the record's start its place is
pub record Fault : Type 0 where
  pub number : ℕ
  pub offset : ℕ

abbrev pub fault_at_lem : ℕ → ℕ → Fault
fault_at_lem i n = record { number = n; offset = i }

-- the first fault of several
abbrev pub first_of : List Fault → Fault
first_of [] = fault_at_lem 0 0
first_of (f ∷ fs) = cond (eqb f.number 0) (first_of fs) f

-- the first of two numbers, where 0 is no fault
abbrev pub or_else : ℕ → ℕ → ℕ
or_else f g = cond (eqb f 0) g f

-- 4: trait or link number too large
unfoldable pub number_fault_lem : Shape → ℕ → ℕ
number_fault_lem s a = cond (eqb s.limit 0) 0 (cond (leb s.limit a) 4 0)

-- 02, N6: "6 now means a link where a class is wanted, 16 a class where a link is wanted, 17 a rule named": by the sort found
abbrev pub sort_fault_lem : ℕ → ℕ → ℕ
sort_fault_lem wanted found = cond (eqb found wanted) 0 (cond (eqb found 1) 16 (cond (eqb found 2) 6 17))

-- 7: already named once and not allowed again
abbrev pub again_fault_lem : Entry → ℕ
again_fault_lem e = cond (e.named && not e.leaf) 7 0

-- a reference r of a wanted sort (0: no reference): 5, not an earlier record; then 6, 16 or 17, which "stand where 6 stood"; then 7
unfoldable pub reference_fault_lem : List Entry → ℕ → ℕ → ℕ
reference_fault_lem es wanted r =
    cond (eqb wanted 0) 0
    (cond (leb (length es) r) 5
    (or_else (sort_fault_lem wanted (record_at_lem es r).sort) (again_fault_lem (record_at_lem es r))))

-- the records after r has been named
abbrev pub naming : Entry → Entry
naming e = record { kind = e.kind; first = e.first; second = e.second; named = true; vacuous = e.vacuous; sort = e.sort; leaf = e.leaf }

unfoldable pub name : List Entry → ℕ → ℕ → List Entry
name es wanted r = cond (eqb wanted 0) es (set es r (naming (record_at_lem es r)))

-- 8: the link of a some or only holds on the empty set; "8 also for kind 21" (02, N8), of its first link
unfoldable pub empty_fault_lem : List Entry → Shape → ℕ → ℕ
empty_fault_lem es s a = cond (needs_restricted_lem s && (record_at_lem es a).vacuous) 8 0

-- the first fault of a record whose body is there: "4; then for each reference in turn 5, 6, 7; last 8"; 02, N6: "place all
-- faults of a reference at that reference's byte", which is the first or the second of the body
unfoldable pub body_fault : List Entry → Shape → ℕ → ℕ → Fault
body_fault es s a b =
    first_of (
    fault_at_lem 0 (number_fault_lem s a) ∷
    fault_at_lem 1 (reference_fault_lem es s.first a) ∷
    fault_at_lem 2 (reference_fault_lem (name es s.first a) s.second b) ∷
    fault_at_lem 0 (empty_fault_lem es s a) ∷
    []
    )

-- "a link and its reverse are false there, and not, and, or work as usual"
unfoldable pub vacuous_of_lem : List Entry → ℕ → ℕ → ℕ → Bool
vacuous_of_lem es k a b =
    cond (eqb k 0x12) (not (record_at_lem es a).vacuous)
    (cond (eqb k 0x13) ((record_at_lem es a).vacuous && (record_at_lem es b).vacuous)
    (cond (eqb k 0x14) ((record_at_lem es a).vacuous || (record_at_lem es b).vacuous)
    false))

abbrev pub entry_for : List Entry → ℕ → ℕ → ℕ → Entry
entry_for es k a b =
    record {
      kind = k;
      first = a;
      second = b;
      named = false;
      vacuous = vacuous_of_lem es k a b;
      sort = (shape_of k).sort;
      leaf = is_leaf_lem (shape_of k);
    }

-- "one more than the largest trait number in the sheet, or 0", and the same for links, after a record
unfoldable pub names_after_lem : ℕ → ℕ → ℕ → ℕ
names_after_lem n k a = cond (eqb k 0x03) (max n (a + 1)) n

unfoldable pub roles_after_lem : ℕ → ℕ → ℕ → ℕ
roles_after_lem n k a = cond (eqb k 0x10) (max n (a + 1)) (cond (eqb k 0x11) (max n (a + 1)) n)

-- the state after a record without fault
unfoldable pub after : State → ℕ → ℕ → ℕ → State
after st k a b =
    record {
      at = st.at + 1 + (shape_of k).body;
      records = name (name st.records (shape_of k).first a) (shape_of k).second b ++ (entry_for st.records k a b ∷ []);
      names = names_after_lem st.names k a;
      roles = roles_after_lem st.roles k a;
    }

-- body byte i of the record at a place, 0 where the shape has none
abbrev pub body_byte_lem : List ℕ → ℕ → Shape → ℕ → ℕ
body_byte_lem sheet at s i = cond (leb i s.body) (get_or sheet (at + i) 0) 0

abbrev pub shape_at : List ℕ → ℕ → Shape
shape_at sheet at = shape_of (get_or sheet at 0)

-- the fault of the record that starts at the state's place: 1, unknown kind; 2, body cut off; then the body's
unfoldable pub record_fault : List ℕ → State → Fault
record_fault sheet st =
    cond (eqb (shape_at sheet st.at).sort 0) (fault_at_lem 0 1)
    (cond (ltb (length sheet - (st.at + 1)) (shape_at sheet st.at).body) (fault_at_lem 0 2)
    (body_fault st.records (shape_at sheet st.at) (body_byte_lem sheet st.at (shape_at sheet st.at) 1)
    (body_byte_lem sheet st.at (shape_at sheet st.at) 2)))

-- the place of a fault of the record that starts at the state's place: "Faults 1 to 4 and 8 keep their places"
abbrev pub fault_place : State → Fault → ℕ
fault_place st f = st.at + f.offset

unfoldable pub record_after : List ℕ → State → State
record_after sheet st =
    after st (get_or sheet st.at 0)
    (body_byte_lem sheet st.at (shape_at sheet st.at) 1)
    (body_byte_lem sheet st.at (shape_at sheet st.at) 2)

pub data Scanning : Type 0 where
  refused : ℕ → ℕ → Scanning
  whole : State → Scanning

-- a state with room for so many records more; 3: a 256th record begins
unfoldable pub scan : ℕ → List ℕ → State → Scanning
scan zero sheet st = cond (ltb st.at (length sheet)) (refused 3 st.at) (whole st)
scan (suc room) sheet st =
    cond (ltb st.at (length sheet))
    (cond (eqb (record_fault sheet st).number 0) (scan room sheet (record_after sheet st))
    (refused (record_fault sheet st).number (fault_place st (record_fault sheet st))))
    (whole st)

unfoldable pub scan_sheet : List ℕ → Scanning
scan_sheet sheet = scan 255 sheet start
