-- What export is to write of a sheet (02, N7, N8).
use Rattle.std.specs.Prelude.{ℕ, ◌+◌, Bool, true, false, cond, List, [], ◌∷◌, length}
use Rattle.std.proofs.Math.Option.{Option, none, some}
use Rattle.output.specs.Output.{Output, refuse, write}
use Rattle.records.specs.Entries.{Entry}
use Rattle.records.specs.Scan.{Scanning, refused, whole, scan_sheet}
use Rattle.syntax.specs.Concepts.{Node, concept_n, role_n, axiom_n, inclusion_n, Axiom, nodes_of}
use Rattle.syntax.specs.Reading.{Kb, Reading, refusal, kb, read_kb}
use Rattle.syntax.specs.Answers.{limit}
use Rattle.syntax.specs.Laid.{rec_of, rec_bytes}
use Rattle.owl_export.specs.AxiomText.{axioms_text, beyond}

-- whether a record calls for 20: an axiom does by what it reaches, "a link with not, and, or in a rule"; each role inclusion does,
-- "20 also when a sheet to export has one" (N8)
unfoldable pub calls_for20 : Node → Bool
calls_for20 (concept_n c) = false
calls_for20 (role_n u) = false
calls_for20 (axiom_n a) = beyond a
calls_for20 (inclusion_n i) = true

-- "place the byte where the first such rule starts", N8: "place whichever rule calling for 20 comes first": of records from a byte
-- on, with their trees
unfoldable pub first_beyond : ℕ → List Entry → List Node → Option ℕ
first_beyond at [] ns = none
first_beyond at (e ∷ es) [] = none
first_beyond at (e ∷ es) (n ∷ ns) = cond (calls_for20 n) (some at) (first_beyond (at + length (rec_bytes (rec_of e))) es ns)

unfoldable pub export_at : List Axiom → Option ℕ → Output
export_at l none = write (axioms_text l)
export_at l (some p) = refuse 20 p

unfoldable pub export_of : Kb → Scanning → Output
export_of k (refused n p) = refuse n p
export_of k (whole st) = export_at k.axioms (first_beyond 0 st.records (nodes_of st.records))

-- "export refuses as read does, then 20"
unfoldable pub exporting : List ℕ → Reading → Output
exporting sheet (refusal n p) = refuse n p
exporting sheet (kb k) = export_of k (scan_sheet sheet)

unfoldable pub exported : List ℕ → Output
exported sheet = exporting sheet (read_kb limit sheet)
