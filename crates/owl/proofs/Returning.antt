-- Export after import gives the same axioms in the export's own layout, so export, import, export is export.
use Prim.Native.Nat.{ℕ, suc, ◌+◌}
use mathlib.Core.Path.{◌≡◌, refl, sym, ap, ◌∙◌}
use mathlib.Core.Bool.{false}
use mathlib.Core.Option.{none}
use mathlib.Core.List.{List, [], ◌∷◌, ◌++◌, cons≢nil}
use lib.ListN.{length}
use Rattle.records.specs.Entries.{Entry}
use Rattle.records.specs.Scan.{State, whole, scan_sheet}
use Rattle.syntax.specs.Concepts.{Role, named, inverse, not_r, and_r, or_r, Concept, top_c, bottom_c, name_c, not_c, and_c, or_c, exists_c, forall_c, Axiom, RoleInclusion, Node, concept_n, role_n, axiom_n, inclusion_n, nodes_of, axiom_of, axioms_of, inclusion_of, inclusions_of}
use Rattle.syntax.specs.Bounds.{All, EachRole, AxiomRoles}
use Rattle.syntax.specs.Reading.{Kb, kb, kb_of, read_kb}
use Rattle.syntax.specs.Answers.{limit}
use Rattle.syntax.proofs.Promised.{kb_state}
use Rattle.owl_import.specs.Grammar.{Parsed, done, parse, most}
use Rattle.syntax.specs.Laid.{rec_of, rec_bytes}
use Rattle.owl_export.specs.AxiomText.{concept_text, axiom_text, axioms_text, composed, has_composed, beyond}
use Rattle.syntax.specs.WrittenAlike.{bare, bare_axioms}
use Rattle.output.specs.Output.{write}
use Rattle.owl_import.specs.Import.{imported}
use Rattle.owl_export.specs.Export.{calls_for20, first_beyond, export_at, export_of, exporting, exported}
use Rattle.owl.proofs.Fetching.{Fetched, axioms_fetched}
use Rattle.owl_import.proofs.Parsing.{Small, AxiomsTook, parse_gives}
use Rattle.owl.proofs.RoundTrip.{Writable, import_reads, export_writes, fetched_text}

-- the text has no record numbers
text-bare : (c : Concept) → concept_text (bare c) ≡ concept_text c
unfolding concept_text bare
text-bare top_c = refl
text-bare bottom_c = refl
text-bare (name_c t) = refl
text-bare (not_c c) = rw (text-bare c)
text-bare (and_c c d) = rw (text-bare c, text-bare d)
text-bare (or_c c d) = rw (text-bare c, text-bare d)
text-bare (exists_c r f u c) = rw (text-bare c)
text-bare (forall_c r f u c) = rw (text-bare c)

pub axioms-text-bare : (l : List Axiom) → axioms_text (bare_axioms l) ≡ axioms_text l
unfolding axioms_text axiom_text
axioms-text-bare [] = refl
axioms-text-bare (a ∷ l) = rw (text-bare a.left, text-bare a.right, axioms-text-bare l)

-- roles that can be written call for no 20
role-plain : (u : Role) → Small u → composed u ≡ false
unfolding composed
role-plain (named k) h = refl
role-plain (inverse k) h = refl
role-plain (not_r u) h = absurd h
role-plain (and_r u v) h = absurd h
role-plain (or_r u v) h = absurd h

concept-plain : (c : Concept) → EachRole Small (bare c) → has_composed c ≡ false
unfolding has_composed EachRole bare
concept-plain top_c h = refl
concept-plain bottom_c h = refl
concept-plain (name_c t) h = refl
concept-plain (not_c c) h = concept-plain c h
concept-plain (and_c c d) h = rw (concept-plain c h.0, concept-plain d h.1)
concept-plain (or_c c d) h = rw (concept-plain c h.0, concept-plain d h.1)
concept-plain (exists_c r f u c) h = rw (role-plain u h.0, concept-plain c h.1)
concept-plain (forall_c r f u c) h = rw (role-plain u h.0, concept-plain c h.1)

axioms-plain : (l : List Axiom) → AxiomRoles Small (bare_axioms l) → All (λ a. beyond a ≡ false) l
unfolding beyond
axioms-plain [] h = tt
axioms-plain (a ∷ l) h = (rw (concept-plain a.left h.0, concept-plain a.right h.1), axioms-plain l h.2)

node_plain : (n : Node) (l : List Axiom) (incl : List RoleInclusion) → Writable (axiom_of n ++ l) (inclusion_of n ++ incl) →
    (calls_for20 n ≡ false) × Writable l incl
unfolding calls_for20 axiom_of inclusion_of
node_plain (concept_n c) l incl h = (refl, h)
node_plain (role_n u) l incl h = (refl, h)
node_plain (axiom_n a) l incl h = (h.0.0, (h.0.1, h.1))
node_plain (inclusion_n i) l incl h = absurd (cons≢nil h.1)

plain-none : (at : ℕ) (es : List Entry) (ns : List Node) → Writable (axioms_of ns) (inclusions_of ns) → first_beyond at es ns ≡ none
unfolding first_beyond axioms_of inclusions_of
plain-none at [] ns h = refl
plain-none at (e ∷ es) [] h = refl
plain-none at (e ∷ es) (n ∷ ns) h =
    let w = node_plain n (axioms_of ns) (inclusions_of ns) h in
    rw w.0 (plain-none (at + length (rec_bytes (rec_of e))) es ns w.1)

-- what was read of the text, as export writes it
took : (text : List ℕ) (l : List Axiom) (room : ℕ) (rest : List ℕ) → parse text ≡ done l room rest → AxiomsTook most l room
took text l room rest e = rw e at (parse_gives text)

export_state : (sheet : List ℕ) (k : Kb) (st : State) (l : List Axiom) → read_kb limit sheet ≡ kb k → scan_sheet sheet ≡ whole st → k ≡ kb_of st →
    AxiomRoles Small l → bare_axioms (axioms_of (nodes_of st.records)) ≡ l → inclusions_of (nodes_of st.records) ≡ [] →
    exported sheet ≡ write (axioms_text l)
unfolding exported exporting export_of export_at
export_state sheet k st l r s e h b i =
    rw (r, s, plain-none 0 st.records (nodes_of st.records) (axioms-plain (axioms_of (nodes_of st.records)) (rw b h), i))
    (ap write (ap (λ (k : Kb). axioms_text k.axioms) e ∙ sym (axioms-text-bare (axioms_of (nodes_of st.records))) ∙ ap axioms_text b))

pub whole-one : (s t : State) → whole s ≡ whole t → s ≡ t
whole-one s t e = cc

fetched_is : (m : List Axiom) (s : List ℕ) (p : Parsed (List Axiom)) (l : List Axiom) (room : ℕ) (rest : List ℕ) → p ≡ done l room rest → Fetched m s p → l ≡ m
fetched_is m s p l room rest e f = go (rw e at f)
  where
    go : (l ≡ m) × (rest ≡ s) → l ≡ m
    go w = w.0

pub import_export : (text sheet : List ℕ) (k : Kb) → imported text ≡ write sheet → read_kb limit sheet ≡ kb k →
    (l : List Axiom) × (room : ℕ) × (rest : List ℕ) × (parse text ≡ done l room rest) × (exported sheet ≡ write (axioms_text l))
import_export text sheet k e r =
    let w = import_reads text sheet e in
    let v = kb_state limit sheet r in
    let same : v.0 ≡ w.4.state = whole-one v.0 w.4.state (sym v.1 ∙ w.4.read) in (
      w.0,
      w.1,
      w.2,
      w.3,
      export_state sheet k w.4.state w.0 r w.4.read (v.2 ∙ ap kb_of same) (took text w.0 w.1 w.2 w.3).roles w.4.alike w.4.inclusions,
    )

pub export_import_export : (sheet text new : List ℕ) (m : Kb) → exported sheet ≡ write text → imported text ≡ write new → read_kb limit new ≡ kb m → exported new ≡ write text
export_import_export sheet text new m x e r =
    let w = export_writes sheet text x in
    let v = import_export text new m e r in
    let f : Fetched (bare_axioms w.base.axioms) [] (parse text) =
    fetched_text w.base.axioms text w.written (axioms_fetched (suc most) most w.base.axioms w.names w.roles) in
    let q = fetched_is (bare_axioms w.base.axioms) [] (parse text) v.0 v.1 v.2 v.3 f in
    v.4 ∙ ap write (ap axioms_text q ∙ axioms-text-bare w.base.axioms ∙ w.written)
