-- The worked sheets are as the table has them: the answers of the definitions are those that compute, and these are the table's.
use mathlib.Core.Path.{◌≡◌, refl, sym as flip, ap, ap₂, ◌∙◌}
use mathlib.Core.Bool.{Bool, true, false, cond}
use mathlib.Core.List.{List, [], ◌∷◌, ◌++◌, map}
use Prim.Native.Nat.{ℕ, ◌≤◌}
use native.Mathlib.Omega.{arith}
use native.Mathlib.Decide.{ℕ_discrete}
use lib.Dec.{T, eqb}
use lib.ListN.{length, take, drop, take-append-drop}
use borrow.Author.Tests.{ltb-false}
use Rattle.bitset.specs.Bits.{look, word, word_at, words_from, are_words, cleared, size}
use Rattle.bitset.proofs.Sizes.{size_same}
use Rattle.bitset.proofs.RunLaws.{words-room}
use Rattle.elimination.specs.Sets.{every, some}
use Rattle.elimination.specs.Elimination.{settled}
use Rattle.elimination.specs.Calls.{written, Passes, has_passes}
use Rattle.elimination.specs.Tables.{settled_words}
use Rattle.elimination.proofs.Settling.{settled_same}
use Rattle.elimination.proofs.Tables.{settled_words_same, settled_words-is}
use Rattle.elimination.proofs.Written.{written-long, written-look}
use Rattle.elimination.proofs.Passes.{passes_of_test}
use Rattle.records.specs.Shapes.{shape_of, is_leaf_lem, needs_restricted_lem}
use Rattle.records.specs.Scan.{scan_sheet, scan, record_fault, record_after, after, names_after_lem, roles_after_lem, body_fault, number_fault_lem, reference_fault_lem, empty_fault_lem, vacuous_of_lem, name}
use Rattle.syntax.specs.Concepts.{nodes_of, nodes_from, node_of, axioms_of, axiom_of, inclusions_of, inclusion_of}
use Rattle.syntax.specs.Normal.{plain, negated, axiom_nf}
use Rattle.syntax.specs.Flatten.{flatten_by, run_by, walk_pending_by, walk_by, meet_one, placed, shared, find_from, alike, like_exists, like_forall, same_role_lem, same_filler, same_atom, yes_no, atom, restrictions, weight, weights, name_parts_lem, pendings}
use Rattle.syntax.specs.Truth.{eval, kb_on, role_on, rbox_on}
use Rattle.syntax.specs.Parts.{kind_of, role_holds}
use Rattle.syntax.specs.Reading.{Kb, Reading, refusal, kb, read_kb, reading, admit}
use Rattle.syntax.specs.Answers.{limit, read_says}
use Rattle.syntax.specs.Examples.{s4}
use Rattle.semantics.specs.Dominoes.{number, left_of, roles_of, right_of_lem, inverse, numbered}
use Rattle.semantics.specs.Conditions.{View, first_failing, kb as good, ex, uni, rbox, witness, delex, deluni, sym, condition, defect, initially, sustained, dominoes, initial, lacks, defective, defect_at, canon, held}
use Rattle.semantics.specs.Views.{filler_in, has_filler, kb_view}
use Rattle.semantics.proofs.Defects.{defective_monotone}
use Rattle.domino.specs.Answers.{is_short, on_set, says_on_set, leaves_on_set, verdict_of, open_says, open_leaves, strike_says, strike_leaves, settle_says, judge_says, judge_leaves}
use Rattle.domino.specs.Demanded.{StableWords, calls_leave, Demand3}
use Rattle.domino.specs.Examples.{Row, row, answered, lend, one, row4, table, tried, strikes, kb4, passes4, needs}
use Rattle.domino.proofs.Demand3.{demand_3}
use Rattle.domino.proofs.WordsEnough.{open_says_lem, open_leaves_lem, settle-says, judge_says_lem, judge_leaves_lem}

-- ---- what computes

-- the words of the canonical set
abbrev canon_words : View → List ℕ
canon_words v = settled_words (held v) (dominoes v) (defective v) (initial v)

-- the row of a view, for enough words
abbrev view_row : View → List ℕ → List ℕ → List ℕ → Row
view_row v s r l =
    let us = canon_words v in
    let o = size (dominoes v) (initial v) in
    let n = size (dominoes v) (look us) in
    row s r l (0 ∷ 0 ∷ o ∷ []) (written (held v) (dominoes v) (initial v) l) (0 ∷ 0 ∷ n ∷ [])
    (0 ∷ 0 ∷ o ∷ n ∷ cond (eqb n 0) 0 1 ∷ []) (us ++ drop (held v) l)

abbrev refused_row : ℕ → ℕ → List ℕ → List ℕ → List ℕ → Row
refused_row n p s r l = row s r l (n ∷ p ∷ []) l (n ∷ p ∷ []) (n ∷ p ∷ []) l

abbrev read_row : Reading → List ℕ → List ℕ → List ℕ → Row
read_row (refusal n p) s r l = refused_row n p s r l
read_row (kb k) s r l = elim (is_short k l) [ true ↦ refused_row 10 0 s r l | false ↦ view_row (kb_view k) s r l ]

abbrev computed : Row → Row
computed r = read_row (read_kb limit r.sheet) r.sheet (read_says (read_kb limit r.sheet)) r.lent

-- the tables; of S4 its row, the knowledge base, the number of dominoes and the passes
all_computed : (map computed table ≡ table) × (map tried strikes ≡ strikes)
    × (computed row4 ≡ row4) × (read_kb limit s4 ≡ kb kb4) × (dominoes (kb_view kb4) ≡ 16) × T (has_passes 16 8 passes4)
unfolding read_says strike_says strike_leaves open_leaves says_on_set leaves_on_set on_set verdict_of cleared read_kb reading admit flatten_by run_by walk_pending_by walk_by meet_one placed shared find_from alike like_exists like_forall same_role_lem same_filler same_atom yes_no ℕ_discrete atom restrictions weight weights name_parts_lem pendings plain negated axiom_nf nodes_of nodes_from node_of axioms_of axiom_of inclusions_of inclusion_of scan_sheet scan record_fault record_after after names_after_lem roles_after_lem body_fault number_fault_lem reference_fault_lem empty_fault_lem vacuous_of_lem name shape_of is_leaf_lem needs_restricted_lem eval kb_on role_on rbox_on kind_of role_holds number left_of roles_of right_of_lem inverse numbered good ex uni rbox witness delex deluni sym first_failing condition defect initially sustained initial lacks defect_at filler_in has_filler word word_at words_from size every some
all_computed = (refl, refl, refl, refl, refl, tt)

-- ---- the definitions' answers are those

module _ (k : Kb) (l : List ℕ) where
  short_row : (t r : List ℕ) → is_short k l ≡ true
      → row t r l (open_says (kb k) l) (open_leaves (kb k) l) (settle_says (kb k) (open_leaves (kb k) l)) (judge_says (kb k) l) (judge_leaves (kb k) l)
      ≡ refused_row 10 0 t r l
  unfolding open_says open_leaves settle_says judge_says judge_leaves says_on_set leaves_on_set on_set
  short_row t r q = rw (q, q)

  module _ (h : held (kb_view k) ≤ length l) where
    canon-words : canon_words (kb_view k) ++ drop (held (kb_view k)) l ≡ judge_leaves (kb k) l
    unfolding canon
    canon-words =
        let v : View = kb_view k in
        ap (λ (us : List ℕ). us ++ drop (held v) l)
        (settled_words-is (held v) (dominoes v) (defective v) (words-room (dominoes v)) (defective_monotone v) (initial v))
        ∙ flip (judge_leaves_lem k l h)

    canon-size : size (dominoes (kb_view k)) (canon (kb_view k)) ≡ size (dominoes (kb_view k)) (look (canon_words (kb_view k)))
    unfolding canon
    canon-size =
        let v : View = kb_view k in
        flip (size_same (dominoes v) (look (canon_words v)) (canon v)
        (settled_words_same (held v) (dominoes v) (defective v) (words-room (dominoes v)) (defective_monotone v) (initial v)))

    opened-size : settle_says (kb k) (open_leaves (kb k) l) ≡ 0 ∷ 0 ∷ size (dominoes (kb_view k)) (canon (kb_view k)) ∷ []
    unfolding canon
    opened-size =
        let v : View = kb_view k in
        let us : List ℕ = written (held v) (dominoes v) (initial v) l in
        ap (settle_says (kb k)) (open_leaves_lem k l h)
        ∙ settle-says k us (omega (arith, written-long (held v) (dominoes v) (initial v) l h))
        ∙ ap (λ (n : ℕ). 0 ∷ 0 ∷ n ∷ [])
        (size_same (dominoes v) (settled (dominoes v) (defective v) (look us)) (canon v)
        (settled_same (dominoes v) (defective v) (defective_monotone v) (look us) (initial v)
        (written-look (held v) (dominoes v) (initial v) l (words-room (dominoes v)))))

    view-row : (t r : List ℕ)
        → row t r l (open_says (kb k) l) (open_leaves (kb k) l) (settle_says (kb k) (open_leaves (kb k) l)) (judge_says (kb k) l) (judge_leaves (kb k) l)
        ≡ view_row (kb_view k) t r l
    view-row t r =
        rw (opened-size, open_leaves_lem k l h, open_says_lem k l h, judge_says_lem k l h, canon-size, ← canon-words)

same_row : (s : Reading) (t r l : List ℕ)
    → row t r l (open_says s l) (open_leaves s l) (settle_says s (open_leaves s l)) (judge_says s l) (judge_leaves s l) ≡ read_row s t r l
same_row (refusal n p) t r l = unfold open_says open_leaves settle_says judge_says judge_leaves says_on_set leaves_on_set on_set in refl
same_row (kb k) t r l = go (is_short k l) refl
  where
    go : (b : Bool) → is_short k l ≡ b
        → row t r l (open_says (kb k) l) (open_leaves (kb k) l) (settle_says (kb k) (open_leaves (kb k) l)) (judge_says (kb k) l) (judge_leaves (kb k) l)
        ≡ elim b [ true ↦ refused_row 10 0 t r l | false ↦ view_row (kb_view k) t r l ]
    go true q = short_row k l t r q
    go false q = view-row k l (ltb-false (length l) (held (kb_view k)) q) t r

map_same : (f g : Row → Row) → ((r : Row) → f r ≡ g r) → (rs : List Row) → map f rs ≡ map g rs
map_same f g e [] = refl
map_same f g e (r ∷ rs) = ap₂ (λ (x : Row) (xs : List Row). x ∷ xs) (e r) (map_same f g e rs)

-- every row of the table is as the definitions have it
pub rows_right : map answered table ≡ table
rows_right =
    map_same answered computed (λ r. same_row (read_kb limit r.sheet) r.sheet (read_says (read_kb limit r.sheet)) r.lent) table ∙ all_computed.0

-- and every strike
pub strikes-right : map tried strikes ≡ strikes
strikes-right = all_computed.1

-- ---- a list of calls on S4

-- it has as many passes for S4's dominoes as S4's opening size
pub s4_passes : Passes (dominoes (kb_view kb4)) 8 passes4
s4_passes = rw all_computed.4 (passes_of_test 16 8 passes4 all_computed.5)

row4-right : answered row4 ≡ row4
row4-right = same_row (read_kb limit s4) s4 (read_says (read_kb limit s4)) one ∙ all_computed.2

s4_demand : Demand3 (read_kb limit s4) (kb_view kb4) passes4 one
s4_demand = demand_3 s4 kb4 all_computed.3 passes4 one (unfold are_words in tt) (omega (arith, all_computed.4))

-- so nothing is defective after it
pub s4-stable : StableWords (kb_view kb4) (calls_leave (read_kb limit s4) passes4 one)
s4-stable = s4_demand.ends 8 8 (ap (λ (r : Row). r.opens) row4-right) (omega arith) s4_passes

-- and the words are those that judge leaves: no domino, and the further word as it was
pub s4-left : calls_leave (read_kb limit s4) passes4 one ≡ lend (0 ∷ [])
s4-left =
    let h : ℕ = held (kb_view kb4) in
    let us : List ℕ = calls_leave (read_kb limit s4) passes4 one in
    flip (take-append-drop h us)
    ∙ ap₂ (λ (xs ys : List ℕ). xs ++ ys) (s4_demand.exact s4-stable ∙ ap (λ (r : Row). take h r.judged) row4-right) s4_demand.past
    ∙ rw all_computed.4 refl

-- "c + L of 3 needs 1 word, of 9 needs 4,096 .., of 12 needs 262,144"
pub needs-right : (needs 2 1 ≡ 1) × (needs 9 0 ≡ 4096) × (needs 12 0 ≡ 262144)
needs-right = (refl, refl, refl)
