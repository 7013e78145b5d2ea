-- Where the place of a fault lies: where a record starts, and where a reference stands in it (02, N6); and which records the references
-- name (01).
use Rattle.std.specs.Prelude.{ℕ, zero, suc, ◌+◌, ◌-◌, ◌≤◌, ◌<◌, ◌≡◌, ◌⊎◌, ◌↔◌, Bool, true, false, cond, ◌||◌, List, length, get_or, eqb}
use Rattle.records.specs.Shapes.{Shape}
use Rattle.records.specs.Entries.{Entry}
use Rattle.records.specs.Shapes.{within, is_leaf_lem}
use Rattle.records.specs.Scan.{record_at_lem, shape_at}

-- the byte where record n starts: "Records follow one another", each behind the body of the one before it
unfoldable pub start_of : List ℕ → ℕ → ℕ
start_of sheet zero = 0
start_of sheet (suc n) = start_of sheet n + 1 + (shape_at sheet (start_of sheet n)).body

-- the kinds of the records before record n are known
abbrev pub KnownBefore : List ℕ → ℕ → Type 0
KnownBefore sheet n = (m : ℕ) → m < n → (shape_at sheet (start_of sheet m)).sort ≡ 0 → ⊥

-- record n starts at byte p of the sheet
pub record Start (sheet : List ℕ) (n p : ℕ) : Type 0 where
  pub place : p ≡ start_of sheet n
  pub inside : p < length sheet
  pub known : KnownBefore sheet n

-- the sort that byte i of a body must name; 0: that byte is no reference
abbrev pub wanted_at : Shape → ℕ → ℕ
wanted_at s i = cond (eqb i 1) s.first (cond (eqb i 2) s.second 0)

-- byte p of the sheet is a reference: the first or the second byte of a record's body, which is there whole
pub record Reference (sheet : List ℕ) (p : ℕ) : Type 0 where
  pub number : ℕ
  pub from : ℕ
  pub start : Start sheet number from
  pub place : (p ≡ from + 1) ⊎ (p ≡ from + 2)
  pub body : p ≤ from + (shape_at sheet from).body
  pub whole : from + (shape_at sheet from).body < length sheet
  pub wanted : wanted_at (shape_at sheet from) (p - from) ≡ 0 → ⊥

-- the sort that it wants, and the shape of the record that it names
abbrev pub wanted_by : {sheet : List ℕ} {p : ℕ} → Reference sheet p → ℕ
wanted_by {sheet = sheet} {p = p} r = wanted_at (shape_at sheet r.from) (p - r.from)

abbrev pub named_shape : List ℕ → ℕ → Shape
named_shape sheet p = shape_at sheet (start_of sheet (get_or sheet p 0))

-- "already named once": a reference before byte p names record m
pub record NamedBefore (sheet : List ℕ) (m p : ℕ) : Type 0 where
  pub by : ℕ
  pub reference : Reference sheet by
  pub before : by < p
  pub names : get_or sheet by 0 ≡ m

-- what is wrong with it, by the number n of its fault
pub record Misnames (sheet : List ℕ) (n p : ℕ) (r : Reference sheet p) : Type 0 where
  -- 5: "not an earlier record"
  pub later : n ≡ 5 → r.number ≤ get_or sheet p 0
  pub earlier : (n ≡ 5 → ⊥) → get_or sheet p 0 < r.number
  -- "6 now means a link where a class is wanted, 16 a class where a link is wanted, 17 a rule named"
  pub a-role : n ≡ 6 → (wanted_by r ≡ 1) × ((named_shape sheet p).sort ≡ 2)
  pub a_concept : n ≡ 16 → (wanted_by r ≡ 2) × ((named_shape sheet p).sort ≡ 1)
  pub an_axiom : n ≡ 17 → (named_shape sheet p).sort ≡ 3
  -- 7: "already named once and not allowed again", so of the sort wanted, and no leaf
  pub again : n ≡ 7 →
      ((named_shape sheet p).sort ≡ wanted_by r) × (is_leaf_lem (named_shape sheet p) ≡ false) × NamedBefore sheet (get_or sheet p 0) p

-- how the references of a sheet without fault name its records es (`KindTable.leaf_kinds`: the leaves are the kinds that 01 lists)
pub record NamedRightly (sheet : List ℕ) (es : List Entry) : Type 0 where
  -- "a reference is one byte naming an earlier record", of the sort wanted
  pub earlier : (p : ℕ) (r : Reference sheet p) → (get_or sheet p 0 < r.number) × ((named_shape sheet p).sort ≡ wanted_by r)
  -- "Records of kinds 01, 02, 03, 10, 11 may be named often; every other record at most once"
  pub once : (p q : ℕ) → Reference sheet p → Reference sheet q → get_or sheet p 0 ≡ get_or sheet q 0 →
      is_leaf_lem (named_shape sheet p) ≡ false → p ≡ q
  -- "a rule never"
  pub no_axiom : (p : ℕ) → Reference sheet p → (named_shape sheet p).sort ≡ 3 → ⊥
  -- a record is marked as named exactly if some reference of the sheet names it
  pub flag : (m : ℕ) → m < length es → ((record_at_lem es m).named ≡ true) ↔ NamedBefore sheet m (length sheet)

-- the faults of a record as a whole: "Faults 1 to 4 and 8 keep their places", the byte where the offending record starts
unfoldable pub is_record_fault : ℕ → Bool
is_record_fault n = within 1 4 n || eqb n 8

-- "place all faults of a reference at that reference's byte": 5, 6 and 7; "16 a class where a link is wanted, 17 a rule named"
unfoldable pub is_reference_fault : ℕ → Bool
is_reference_fault n = within 5 7 n || within 16 17 n

-- where the place p of a refusal n lies: 01, "and 0 otherwise"
pub record Placed (sheet : List ℕ) (n p : ℕ) : Type 0 where
  pub of_record : is_record_fault n ≡ true → (r : ℕ) × Start sheet r p
  pub of_reference : is_reference_fault n ≡ true → (r : Reference sheet p) × Misnames sheet n p r
  pub nowhere : is_record_fault n ≡ false → is_reference_fault n ≡ false → p ≡ 0
