-- The worked sheets are as the table has them.
use mathlib.Core.Path.{◌≡◌, refl}
use native.Mathlib.Decide.{ℕ_discrete}
use mathlib.Core.List.{map}
use Rattle.records.specs.Shapes.{shape_of, is_leaf_lem, needs_restricted_lem}
use Rattle.records.specs.Scan.{scan_sheet, scan, record_fault, record_after, after, names_after_lem, roles_after_lem, body_fault, number_fault_lem, reference_fault_lem, empty_fault_lem, vacuous_of_lem, name}
use Rattle.syntax.specs.Concepts.{nodes_of, nodes_from, node_of, axioms_of, axiom_of}
use Rattle.syntax.specs.Normal.{plain, negated, axiom_nf}
use Rattle.syntax.specs.Flatten.{flatten_by, run_by, walk_pending_by, walk_by, meet_one, placed, shared, find_from, alike, like_exists, like_forall, same_role_lem, same_filler, same_atom, yes_no, atom, restrictions, weight, weights, name_parts_lem, pendings}
use Rattle.syntax.specs.Reading.{read_kb, reading, admit}
use Rattle.syntax.specs.Parts.{kind_of}
use Rattle.syntax.specs.Answers.{read_says, list_says, list_leaves, bytes_of, part_bytes}
use Rattle.syntax.specs.Examples.{answered, table}

pub rows_right : map answered table ≡ table
unfolding read_says list_says list_leaves bytes_of part_bytes kind_of read_kb reading admit flatten_by run_by walk_pending_by walk_by meet_one placed shared find_from alike like_exists like_forall same_role_lem same_filler same_atom yes_no ℕ_discrete atom restrictions weight weights name_parts_lem pendings plain negated axiom_nf nodes_of nodes_from node_of axioms_of axiom_of scan_sheet scan record_fault record_after after names_after_lem roles_after_lem body_fault number_fault_lem reference_fault_lem empty_fault_lem vacuous_of_lem name shape_of is_leaf_lem needs_restricted_lem
rows_right = refl
