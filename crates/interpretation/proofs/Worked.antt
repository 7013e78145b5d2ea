-- The worked drawings of plants are as the table has them: they compute from the words of the canonical set.
use mathlib.Core.Path.{◌≡◌, refl, sym, ap, ◌∙◌, fun_ext}
use mathlib.Core.List.{map}
use native.Mathlib.Decide.{ℕ_discrete}
use Rattle.bitset.specs.Bits.{look, word, word_at, words_from}
use Rattle.bitset.proofs.RunLaws.{words-room}
use Rattle.elimination.proofs.Tables.{settled_words_same}
use Rattle.elimination.specs.Sets.{every, some}
use Rattle.elimination.specs.Tables.{settled_words}
use Rattle.records.specs.Shapes.{shape_of, is_leaf_lem, needs_restricted_lem}
use Rattle.records.specs.Scan.{scan_sheet, scan, record_fault, record_after, after, names_after_lem, roles_after_lem, body_fault, number_fault_lem, reference_fault_lem, empty_fault_lem, vacuous_of_lem, name}
use Rattle.syntax.specs.Concepts.{nodes_of, nodes_from, node_of, axioms_of, axiom_of, inclusions_of, inclusion_of}
use Rattle.syntax.specs.Normal.{plain, negated, axiom_nf}
use Rattle.syntax.specs.Flatten.{flatten_by, run_by, walk_pending_by, walk_by, meet_one, placed, shared, find_from, alike, like_exists, like_forall, same_role_lem, same_filler, same_atom, yes_no, atom, restrictions, weight, weights, name_parts_lem, pendings}
use Rattle.syntax.specs.Truth.{eval, kb_on, role_on, rbox_on}
use Rattle.syntax.specs.Parts.{kind_of, role_holds}
use Rattle.syntax.specs.Reading.{read_kb, reading, admit}
use Rattle.semantics.proofs.Defects.{defective_monotone}
use Rattle.semantics.specs.Dominoes.{number, left_of, roles_of, right_of_lem, inverse, numbered}
use Rattle.semantics.specs.Conditions.{View, first_failing, kb as good, ex, uni, rbox, witness, delex, deluni, sym as symmetric, condition, defect, initially, sustained, dominoes, initial, lacks, defective, canon, held}
use Rattle.semantics.specs.Views.{filler_in, has_filler}
use Rattle.semantics.specs.Layers.{label_at, leads, roles_at, rising}
use Rattle.drawings.specs.Checking.{is_plain}
use Rattle.drawings.specs.Laid.{entry_bytes, laid, in_turn, individual_entries, connection_entries, drawn_entries}
use Rattle.drawings.specs.Layered.{joined_in, names_in, layered_entries, layered_file}
use Rattle.output.specs.Output.{Output, refuse, output_says}
use Rattle.domino.specs.Answers.{on_set}
use Rattle.drawing_layers.specs.LayersDrawn.{set_output}
use Rattle.interpretation.specs.DrawnPlant.{canon_output, draw_output}
use Rattle.interpretation.specs.Examples.{Row, row, room, answered, table}
use Rattle.interpretation.proofs.DrawAnswers.{output_same}
use Rattle.semantics.specs.Views.{kb_view}

-- the canonical set's drawing by words, which computes
abbrev words_output : View → Output
words_output v =
    set_output v.parts v.roles (is_plain v) (look (settled_words (held v) (dominoes v) (defective v) (initial v)))

-- a row's answer, by the drawing of a view
abbrev by_output : (View → Output) → Row → Row
by_output f r =
    row r.sheet r.words r.bytes (output_says (on_set refuse (λ k. f (kb_view k)) (read_kb 12 r.sheet) r.words) (room r.bytes))

all_computed : map (by_output words_output) table ≡ table
unfolding read_kb reading admit flatten_by run_by walk_pending_by walk_by meet_one placed shared find_from alike like_exists like_forall same_role_lem same_filler same_atom yes_no ℕ_discrete atom restrictions weight weights name_parts_lem pendings plain negated axiom_nf nodes_of nodes_from node_of axioms_of axiom_of inclusions_of inclusion_of scan_sheet scan record_fault record_after after names_after_lem roles_after_lem body_fault number_fault_lem reference_fault_lem empty_fault_lem vacuous_of_lem name shape_of is_leaf_lem needs_restricted_lem eval kb_on role_on rbox_on kind_of role_holds number left_of roles_of right_of_lem inverse numbered good ex uni rbox witness delex deluni symmetric first_failing condition defect initially sustained initial lacks filler_in has_filler word word_at words_from every some rising is_plain entry_bytes laid in_turn individual_entries connection_entries drawn_entries label_at leads roles_at joined_in names_in layered_entries layered_file room on_set set_output output_says
all_computed = refl

outputs_same : canon_output ≡ words_output
unfolding canon_output canon
outputs_same = fun_ext (λ v.
    output_same v.parts v.parts v.roles v.roles (is_plain v) (is_plain v) (canon v) _ refl refl (λ j. refl)
    (λ p h. sym (settled_words_same (held v) (dominoes v) (defective v) (words-room (dominoes v)) (defective_monotone v) (initial v) p h)))

pub rows_right : map answered table ≡ table
unfolding draw_output
rows_right = ap (λ (f : View → Output). map (by_output f) table) outputs_same ∙ all_computed
