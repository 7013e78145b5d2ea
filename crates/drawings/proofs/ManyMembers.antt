-- The canonical set of the sheet with name 11 and no axiom, `03 0B`, has more than 341 members.
use Prim.Native.Nat.{ℕ, ◌*◌, ◌^◌, ◌<◌}
use native.Mathlib.Omega.{arith}
use mathlib.Core.Path.{◌≡◌, refl, sym, ap, ◌∙◌}
use mathlib.Core.Bool.{false, true}
use mathlib.Core.List.{List, [], ◌∷◌}
use lib.ListN.{length}
use Rattle.bitset.specs.Bits.{bit, word}
use Rattle.bitset.proofs.Laws.{word_ext, word_bits}
use Rattle.syntax.specs.Reading.{Kb, kb, parts_of, read_kb, reading, admit}
use Rattle.syntax.specs.Answers.{limit}
use Rattle.records.specs.Shapes.{shape_of, is_leaf_lem, needs_restricted_lem}
use Rattle.records.specs.Scan.{scan_sheet, scan, record_fault, record_after, after, names_after_lem, roles_after_lem, body_fault, number_fault_lem, reference_fault_lem, empty_fault_lem, vacuous_of_lem, name}
use Rattle.syntax.specs.Concepts.{nodes_of, nodes_from, node_of, axioms_of, axiom_of, inclusions_of, inclusion_of}
use Rattle.syntax.specs.Flatten.{flatten_by, run_by, walk_pending_by, walk_by, meet_one, placed, shared, weights, name_parts_lem, pendings, part_at}
use Rattle.syntax.proofs.Promised.{names-first}
use Rattle.semantics.specs.Interpretations.{Interpretation, models, satisfies_tbox, satisfies_rbox}
use Rattle.semantics.specs.Dominoes.{total, number}
use Rattle.semantics.specs.Conditions.{View, dominoes, canon, canon_dominoes}
use Rattle.semantics.specs.Views.{kb_view}
use Rattle.semantics.specs.Projection.{read_part, parts_in, role_set, projection}
use Rattle.semantics.specs.Layers.{rising}
use Rattle.semantics.proofs.Canonical.{dominoes_of, of_domino, of_number}
use Rattle.semantics.proofs.Projecting.{domino_in}
use Rattle.semantics.proofs.Rising.{rising_many}
use Rattle.semantics.proofs.Verdict.{model_dominoes}

abbrev pub sheet : List ℕ
sheet = 0x03 ∷ 0x0b ∷ []

-- its twelve names, and nothing else
abbrev pub k : Kb
k = record { names = 12; roles = 0; axioms = []; inclusions = [] }

pub is_read : read_kb limit sheet ≡ kb k
unfolding read_kb reading admit flatten_by run_by walk_pending_by walk_by meet_one placed shared weights name_parts_lem pendings nodes_of nodes_from node_of axioms_of axiom_of inclusions_of inclusion_of scan_sheet scan record_fault record_after after names_after_lem roles_after_lem body_fault number_fault_lem reference_fault_lem empty_fault_lem vacuous_of_lem name shape_of is_leaf_lem needs_restricted_lem
is_read = refl

abbrev v : View
v = kb_view k

-- 342 individuals, each with the bits of its number for names, and no roles
abbrev I : Interpretation
I = record { individuals = 342; has = bit; joined = λ k x y. false }

is_model : models I k ≡ true
unfolding models satisfies_tbox satisfies_rbox
is_model = refl

named_at : (x t : ℕ) → t < 12 → parts_in I (part_at (parts_of k)) x t ≡ bit x t
unfolding parts_in read_part
named_at x t l = rw (names-first shared 12 [] t l) refl

twelve : length (parts_of k) ≡ 12
unfolding flatten_by run_by walk_pending_by walk_by meet_one placed shared weights name_parts_lem pendings
twelve = refl

label_of : (x : ℕ) → x < 342 → word (length (parts_of k)) (parts_in I (part_at (parts_of k)) x) ≡ x
label_of x l =
    ap (λ (n : ℕ). word n (parts_in I (part_at (parts_of k)) x)) twelve ∙ word_ext 12 _ (bit x) (λ t h. named_at x t h)
    ∙ word_bits 12 x (omega (arith, l))

-- the domino of an individual and the first, joined by no role
survives : (x : ℕ) → x < 342 → canon_dominoes v x 0 0 ≡ true
unfolding projection role_set word
survives x l =
    model_dominoes limit sheet k is_read I is_model x 0 0
    (rw (label_of x l, label_of 0 (omega arith)) at
    (domino_in I 0 (length (parts_of k)) (parts_in I (part_at (parts_of k))) x 0 l (omega arith)))

number_of : (x : ℕ) → number v.parts 0 x 0 0 ≡ 4096 * x
unfolding number
number_of x = rw twelve (omega arith)

pub all_dominoes : dominoes v ≡ 2 ^ 24
all_dominoes = ap (λ (c : ℕ). total c 0) twelve

member : (x : ℕ) → x < 342 → (4096 * x < dominoes v) × (canon v (4096 * x) ≡ true)
unfolding canon_dominoes dominoes_of
member x l =
    let d = of_domino v (canon v) x 0 0 (survives x l) in
    (omega (arith, l, all_dominoes), ap (canon v) (sym (number_of x)) ∙ sym (of_number v (canon v) x 0 0 d) ∙ survives x l)

pub many_members : 341 < length (rising (canon v) (dominoes v))
many_members = rising_many (canon v) (λ x. 4096 * x) 342 (dominoes v) member (λ i j l h. omega (arith, l))
