-- The worked drawings are as the tables have them. Those in three layers compute from the words of the canonical set.
use Prim.Native.Nat.{ℕ}
use lib.ListN.{length}
use mathlib.Core.Path.{◌≡◌, refl, sym, ap, ◌∙◌, fun_ext}
use mathlib.Core.List.{List, map}
use native.Mathlib.Decide.{ℕ_discrete}
use Rattle.bitset.specs.Bits.{look, word, word_at, words_from}
use Rattle.bitset.proofs.RunLaws.{words-room}
use Rattle.elimination.proofs.Tables.{settled_words_same}
use Rattle.elimination.specs.Sets.{every, some}
use Rattle.elimination.specs.Tables.{settled_words}
use Rattle.records.specs.Shapes.{shape_of, is_leaf_lem, needs_restricted_lem}
use Rattle.records.specs.Scan.{scan_sheet, scan, record_fault, record_after, after, names_after_lem, roles_after_lem, body_fault, number_fault_lem, reference_fault_lem, empty_fault_lem, vacuous_of_lem, name}
use Rattle.syntax.specs.Concepts.{nodes_of, nodes_from, node_of, axioms_of, axiom_of, inclusions_of, inclusion_of}
use Rattle.syntax.specs.Normal.{plain, negated, axiom_nf}
use Rattle.syntax.specs.Flatten.{flatten_by, run_by, walk_pending_by, walk_by, meet_one, placed, shared, find_from, alike, like_exists, like_forall, same_role_lem, same_filler, same_atom, yes_no, atom, restrictions, weight, weights, name_parts_lem, pendings}
use Rattle.syntax.specs.Truth.{eval, kb_on, role_on, rbox_on}
use Rattle.syntax.specs.Parts.{kind_of, role_holds}
use Rattle.syntax.specs.Reading.{read_kb, reading, admit}
use Rattle.semantics.proofs.Rising.{rising_same}
use Rattle.semantics.proofs.Defects.{defective_monotone}
use Rattle.semantics.specs.Dominoes.{number, left_of, roles_of, right_of_lem, inverse, numbered, unnumbered}
use Rattle.semantics.specs.Conditions.{View, first_failing, kb as good, ex, uni, rbox, witness, delex, deluni, sym as symmetric, condition, defect, initially, sustained, dominoes, initial, lacks, defective, canon, held}
use Rattle.semantics.specs.Views.{filler_in, has_filler}
use Rattle.semantics.specs.Projection.{role_bit, role_set, projection_of}
use Rattle.semantics.specs.Layers.{label_at, leads, roles_at, rising}
use Rattle.drawings.specs.Entries.{entry_of, after_entry, entries_within, entries_of, individuals_after, entry_fault, first_fault, names_of, connections_of}
use Rattle.drawings.specs.Checking.{connects, least, is_plain, file_fault, roles_between, has_part, label, drawn_dominoes, drawn_set, breaks_at, breaks_between, pair_below, breach}
use Rattle.drawings.specs.Laid.{entry_bytes, laid, in_turn, individual_entries, connection_entries, drawn_entries}
use Rattle.drawings.specs.Layered.{joined_in, names_in, layered_entries, layered_file}
use Rattle.drawings.specs.Examples.{many, checked, table, in_layers, view_file, of_sheet, drawn_in_layers, layers_table, long, measured, lengths}

-- the canonical set's file by words, which computes
abbrev words_file : View → List ℕ
words_file v =
    let us = settled_words (held v) (dominoes v) (defective v) (initial v) in
    layered_file v.parts v.roles (rising (look us) (dominoes v)) (is_plain v)

all_computed : (map checked table ≡ table)
    × (map (λ r. in_layers r.sheet (of_sheet words_file r.sheet)) layers_table ≡ layers_table)
    × (map (λ r. long r.sheet (length (of_sheet words_file r.sheet))) lengths ≡ lengths)
unfolding read_kb reading admit flatten_by run_by walk_pending_by walk_by meet_one placed shared find_from alike like_exists like_forall same_role_lem same_filler same_atom yes_no ℕ_discrete atom restrictions weight weights name_parts_lem pendings plain negated axiom_nf nodes_of nodes_from node_of axioms_of axiom_of inclusions_of inclusion_of scan_sheet scan record_fault record_after after names_after_lem roles_after_lem body_fault number_fault_lem reference_fault_lem empty_fault_lem vacuous_of_lem name shape_of is_leaf_lem needs_restricted_lem eval kb_on role_on rbox_on kind_of role_holds number left_of roles_of right_of_lem inverse numbered good ex uni rbox witness delex deluni symmetric first_failing condition defect initially sustained initial lacks filler_in has_filler word word_at words_from every some rising is_plain entry_bytes laid in_turn individual_entries connection_entries drawn_entries label_at leads roles_at joined_in names_in layered_entries layered_file unnumbered role_bit role_set projection_of entry_of after_entry entries_within entries_of individuals_after entry_fault first_fault names_of connections_of connects least file_fault roles_between has_part label drawn_dominoes drawn_set breaks_at breaks_between pair_below breach many
all_computed = (refl, refl, refl)

pub rows_right : map checked table ≡ table
rows_right = all_computed.0

-- ---- the canonical set's files

files_same : view_file ≡ words_file
unfolding canon
files_same = fun_ext (λ v.
    ap (λ (l : List ℕ). layered_file v.parts v.roles l (is_plain v))
    (rising_same (canon v) (look (settled_words (held v) (dominoes v) (defective v) (initial v))) (dominoes v)
    (λ p h. sym (settled_words_same (held v) (dominoes v) (defective v) (words-room (dominoes v)) (defective_monotone v) (initial v) p h))))

pub layers_right : map drawn_in_layers layers_table ≡ layers_table
layers_right =
    ap (λ (f : View → List ℕ). map (λ r. in_layers r.sheet (of_sheet f r.sheet)) layers_table) files_same ∙ all_computed.1

pub lengths_right : map measured lengths ≡ lengths
lengths_right =
    ap (λ (f : View → List ℕ). map (λ r. long r.sheet (length (of_sheet f r.sheet))) lengths) files_same ∙ all_computed.2
