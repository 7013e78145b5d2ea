-- The worked texts and sheets are as the tables have them.
use mathlib.Core.Path.{◌≡◌, refl}
use native.Mathlib.Decide.{ℕ_discrete}
use mathlib.Core.List.{map}
use Rattle.records.specs.Shapes.{shape_of, is_leaf_lem, needs_restricted_lem}
use Rattle.records.specs.Scan.{scan_sheet, scan, record_fault, record_after, after, names_after_lem, roles_after_lem, body_fault, number_fault_lem, reference_fault_lem, empty_fault_lem, vacuous_of_lem, name}
use Rattle.syntax.specs.Concepts.{nodes_of, nodes_from, node_of, axioms_of, axiom_of, inclusions_of, inclusion_of}
use Rattle.syntax.specs.Normal.{plain, negated, axiom_nf}
use Rattle.syntax.specs.Flatten.{flatten_by, run_by, walk_pending_by, walk_by, meet_one, placed, shared, find_from, alike, like_exists, like_forall, same_role_lem, same_filler, same_atom, yes_no, atom, restrictions, weight, weights, name_parts_lem, pendings}
use Rattle.syntax.specs.Reading.{read_kb, reading, admit}
use Rattle.output.specs.Text.{text}
use Rattle.owl_words.specs.Words.{digits, spelling, known_words, same_bytes, spelled, known, skip, letters, past, front}
use Rattle.owl_import.specs.Grammar.{and_then, wrong_no, counted, opens, closes, one, two, property_by, role_by, concept_by, concept, axioms_by, axioms, parse}
use Rattle.syntax.specs.Laid.{rec_bytes, laid}
use Rattle.owl_import.specs.RecordsOf.{put_role, put_concept, put_axiom, put_axioms}
use Rattle.owl_export.specs.AxiomText.{role_text, concept_text, axiom_text, axioms_text, composed, has_composed, beyond}
use Rattle.owl_import.specs.Import.{sheet_of, importing, imported}
use Rattle.owl_export.specs.Export.{calls_for20, first_beyond, export_at, export_of, exporting, exported}
use Rattle.owl.specs.Examples.{import_row, imports, export_row, exports}

pub imports-right : map import_row imports ≡ imports
unfolding imported importing parse axioms axioms_by concept concept_by role_by property_by one two opens closes counted wrong_no and_then front past letters skip known spelled same_bytes known_words spelling digits text sheet_of laid rec_bytes put_axioms put_axiom put_concept put_role shape_of
imports-right = refl

pub exports-right : map export_row exports ≡ exports
unfolding exported exporting export_of export_at first_beyond calls_for20 beyond has_composed composed axioms_text axiom_text concept_text role_text spelling digits text rec_bytes read_kb reading admit flatten_by run_by walk_pending_by walk_by meet_one placed shared find_from alike like_exists like_forall same_role_lem same_filler same_atom yes_no ℕ_discrete atom restrictions weight weights name_parts_lem pendings plain negated axiom_nf nodes_of nodes_from node_of axioms_of axiom_of inclusions_of inclusion_of scan_sheet scan record_fault record_after after names_after_lem roles_after_lem body_fault number_fault_lem reference_fault_lem empty_fault_lem vacuous_of_lem name shape_of is_leaf_lem needs_restricted_lem
exports-right = refl
