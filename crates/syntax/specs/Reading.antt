-- From bytes to a knowledge base, or a refusal with its place (01, "Read").
use Rattle.std.specs.Prelude.{ℕ, ◌+◌, Bool, cond, ◌||◌, List, length, leb, eqb}
use Rattle.records.specs.Scan.{State, Scanning, refused, whole, scan_sheet}
use Rattle.records.specs.Places.{is_record_fault, is_reference_fault}
use Rattle.syntax.specs.Concepts.{Axiom, RoleInclusion, nodes_of, axioms_of, inclusions_of}
use Rattle.syntax.specs.Flatten.{Flat, Part, flatten}

-- T, L, and the axioms and role inclusions as written
pub record Kb : Type 0 where
  pub names : ℕ
  pub roles : ℕ
  pub axioms : List Axiom
  pub inclusions : List RoleInclusion

pub data Reading : Type 0 where
  refusal : ℕ → ℕ → Reading
  kb : Kb → Reading

abbrev pub kb_of : State → Kb
kb_of st =
    record {
      names = st.names;
      roles = st.roles;
      axioms = axioms_of (nodes_of st.records);
      inclusions = inclusions_of (nodes_of st.records);
    }

-- the flattened axioms and the parts of a knowledge base; c is the number of parts
abbrev pub flats_of : Kb → List Flat
flats_of k = (flatten k.names k.axioms).axioms

abbrev pub parts_of : Kb → List Part
parts_of k = (flatten k.names k.axioms).parts

-- "after the last record: 9, c + L above 12", the limit a parameter; its place is 0
unfoldable pub admit : ℕ → Kb → Reading
admit limit k = cond (leb (length (parts_of k) + k.roles) limit) (kb k) (refusal 9 0)

unfoldable pub reading : ℕ → Scanning → Reading
reading limit (refused n p) = refusal n p
reading limit (whole st) = admit limit (kb_of st)

unfoldable pub read_kb : ℕ → List ℕ → Reading
read_kb limit sheet = reading limit (scan_sheet sheet)

-- the numbers the reader refuses with: a fault of a record or of a reference; "After the last record: 9, c + L above 12"
unfoldable pub is_read_refusal : ℕ → Bool
is_read_refusal n = (is_record_fault n || is_reference_fault n) || eqb n 9
