-- Every sheet that import writes is read without a fault but 9; importing what was exported gives the same axioms written alike, and of
-- role inclusions none, as there were none.
use Prim.Native.Nat.{ℕ, suc, ◌+◌, ◌≤◌, ◌<◌}
use mathlib.Core.Path.{◌≡◌, refl, sym, ap, ◌∙◌}
use mathlib.Core.Bool.{Bool, true, false, cond, ◌||◌, false≢true}
use mathlib.Core.Option.{Option, none, some}
use mathlib.Core.List.{List, [], ◌∷◌, ◌++◌}
use lib.ListN.{length, drop}
use lib.Dec.{ltb}
use native.Mathlib.Omega.{arith}
use borrow.Author.Tests.{ltb-true, ltb-false, le-leb}
use Rattle.records.specs.Entries.{Entry}
use Rattle.records.specs.Scan.{State, start, whole, scan_sheet}
use Rattle.syntax.specs.Concepts.{Role, named, inverse, not_r, and_r, or_r, Concept, top_c, bottom_c, name_c, not_c, and_c, or_c, exists_c, forall_c, Axiom, RoleInclusion, Node, concept_n, role_n, axiom_n, inclusion_n, nodes_of, axiom_of, axioms_of, inclusion_of, inclusions_of}
use Rattle.syntax.specs.Bounds.{All, RolesBelow, NamesBelow, EachRole, AxiomNames, AxiomRoles}
use Rattle.syntax.specs.Reading.{Kb, Reading, refusal, kb, kb_of, parts_of, read_kb, reading, admit}
use Rattle.syntax.specs.Answers.{limit}
use Rattle.syntax.proofs.Refusals.{admit-nine}
use Rattle.syntax.proofs.Trees.{nodes_length}
use Rattle.syntax.proofs.Promised.{kb_state, kb-few, kb_bounded, kb-small}
use Rattle.owl_import.specs.Grammar.{Parsed, refused, done, axioms, parse, most}
use Rattle.syntax.specs.Laid.{rec_of, rec_bytes, reach}
use Rattle.owl_import.specs.RecordsOf.{put_axioms}
use Rattle.owl_export.specs.AxiomText.{axioms_text, composed, has_composed, beyond}
use Rattle.syntax.specs.WrittenAlike.{bare_axioms, WrittenAlike, axioms_names, axioms_roles, Occurring}
use Rattle.output.specs.Output.{Output, refuse, write, output_says, output_leaves}
use Rattle.owl_import.specs.Import.{sheet_of, importing, imported}
use Rattle.owl_export.specs.Export.{calls_for20, first_beyond, export_at, export_of, exporting, exported}
use Rattle.owl.proofs.Fetching.{Fetched, axioms_fetched}
use Rattle.owl_import.proofs.Parsing.{Small, Gives, AxiomsTook, parse_gives, axioms_size}
use Rattle.syntax.proofs.Laying.{laid-reads, reads-back}
use Rattle.owl_import.proofs.Counting.{axioms-counted, counted-bare}
use Rattle.owl.proofs.Erasing.{alike-parts, alike-answers, SameAnswers}
use Rattle.owl_import.proofs.Putting.{trees_from, nodes_trees, axioms-stand, no-inclusions, axioms_well}

-- a sheet that is read: its axioms, without record numbers, are l, and it has no role inclusion
pub record ReadAs (l : List Axiom) (sheet : List ℕ) : Type 0 where
  pub state : State
  pub read : scan_sheet sheet ≡ whole state
  pub alike : bare_axioms (axioms_of (nodes_of state.records)) ≡ l
  pub inclusions : inclusions_of (nodes_of state.records) ≡ []
  pub names : state.names ≡ axioms_names l
  pub roles : state.roles ≡ axioms_roles l

-- the sheet of axioms that may be written
sheet-read : (l : List Axiom) → AxiomNames 12 l → AxiomRoles Small l → bare_axioms l ≡ l → axioms_size l ≤ 255 → ReadAs l (sheet_of l)
unfolding sheet_of axioms_of trees_from
sheet-read l n r p k =
    record {
      state = reach start (put_axioms [] l);
      read = laid-reads (put_axioms [] l) (axioms_well l n r k);
      alike = rw (nodes_trees (reach start (put_axioms [] l)).records, reads-back (put_axioms [] l)) (axioms-stand l r [] ∙ p);
      inclusions = no-inclusions l;
      names = (axioms-counted l r).0;
      roles = (axioms-counted l r).1;
    }

-- what import writes is what it read of the text
pub import_reads : (text sheet : List ℕ) → imported text ≡ write sheet → (l : List Axiom) × (room : ℕ) × (rest : List ℕ) × (parse text ≡ done l room rest) × ReadAs l sheet
unfolding imported importing
import_reads text sheet e = go (parse text) refl (parse_gives text) e
  where
    go : (p : Parsed (List Axiom)) → parse text ≡ p → Gives (AxiomsTook most) p → importing text p ≡ write sheet →
        (l : List Axiom) × (room : ℕ) × (rest : List ℕ) × (parse text ≡ done l room rest) × ReadAs l sheet
    go (refused n m) q g h = let z : ◌≡◌ {A = ℕ} 0 1 = cc in absurd (omega arith)
    go (done l room rest) q g h =
        let x : sheet_of l ≡ sheet = cc in
        (l, room, rest, q, rw (← x) (sheet-read l g.names g.roles g.plain (omega (arith, g.sized))))

-- "9 is left to reading the sheet": an imported sheet has no other fault
pub import_faults : (text sheet : List ℕ) → imported text ≡ write sheet → (n p : ℕ) → read_kb limit sheet ≡ refusal n p → (n ≡ 9) × (p ≡ 0)
unfolding read_kb reading
import_faults text sheet e n p f = let w = (import_reads text sheet e).4 in admit-nine limit n p (kb_of w.state) (rw w.read at f)

-- axioms that call for no 20
either : (b c : Bool) → b || c ≡ false → (b ≡ false) × (c ≡ false)
either true c h = let z : ◌≡◌ {A = ℕ} 0 1 = cc in absurd (omega arith)
either false c h = (refl, h)

role-small : (u : Role) (L : ℕ) → L ≤ 4 → RolesBelow L u → composed u ≡ false → Small u
unfolding composed
role-small (named k) L l b h = omega arith
role-small (inverse k) L l b h = omega arith
role-small (not_r u) L l b h = let z : ◌≡◌ {A = ℕ} 0 1 = cc in absurd (omega arith)
role-small (and_r u v) L l b h = let z : ◌≡◌ {A = ℕ} 0 1 = cc in absurd (omega arith)
role-small (or_r u v) L l b h = let z : ◌≡◌ {A = ℕ} 0 1 = cc in absurd (omega arith)

concept-small : (c : Concept) (L : ℕ) → L ≤ 4 → EachRole (RolesBelow L) c → has_composed c ≡ false → EachRole Small c
unfolding has_composed EachRole
concept-small top_c L l b h = tt
concept-small bottom_c L l b h = tt
concept-small (name_c t) L l b h = tt
concept-small (not_c c) L l b h = concept-small c L l b h
concept-small (and_c c d) L l b h = let e = either _ _ h in (concept-small c L l b.0 e.0, concept-small d L l b.1 e.1)
concept-small (or_c c d) L l b h = let e = either _ _ h in (concept-small c L l b.0 e.0, concept-small d L l b.1 e.1)
concept-small (exists_c r g u c) L l b h = let e = either _ _ h in (role-small u L l b.0 e.0, concept-small c L l b.1 e.1)
concept-small (forall_c r g u c) L l b h = let e = either _ _ h in (role-small u L l b.0 e.0, concept-small c L l b.1 e.1)

names_more : (c : Concept) (T : ℕ) → T ≤ 12 → NamesBelow T c → NamesBelow 12 c
unfolding NamesBelow
names_more top_c T l h = tt
names_more bottom_c T l h = tt
names_more (name_c t) T l h = omega arith
names_more (not_c c) T l h = names_more c T l h
names_more (and_c c d) T l h = (names_more c T l h.0, names_more d T l h.1)
names_more (or_c c d) T l h = (names_more c T l h.0, names_more d T l h.1)
names_more (exists_c r g u c) T l h = names_more c T l h
names_more (forall_c r g u c) T l h = names_more c T l h

axioms-small : (s : List Axiom) (L : ℕ) → L ≤ 4 → AxiomRoles (RolesBelow L) s → All (λ a. beyond a ≡ false) s → AxiomRoles Small s
unfolding beyond
axioms-small [] L l b h = tt
axioms-small (a ∷ s) L l b h =
    let e = either _ _ h.0 in
    (concept-small a.left L l b.0 e.0, concept-small a.right L l b.1 e.1, axioms-small s L l b.2 h.1)

axioms_more : (s : List Axiom) (T : ℕ) → T ≤ 12 → AxiomNames T s → AxiomNames 12 s
axioms_more [] T l h = tt
axioms_more (a ∷ s) T l h = (names_more a.left T l h.0, names_more a.right T l h.1, axioms_more s T l h.2)

-- axioms and role inclusions of which none calls for 20: of the latter there are none
abbrev pub Writable : List Axiom → List RoleInclusion → Type 0
Writable l incl = All (λ a. beyond a ≡ false) l × (incl ≡ [])

with_node : (n : Node) (l : List Axiom) (incl : List RoleInclusion) → calls_for20 n ≡ false → Writable l incl →
    Writable (axiom_of n ++ l) (inclusion_of n ++ incl)
unfolding calls_for20 axiom_of inclusion_of
with_node (concept_n c) l incl q w = w
with_node (role_n u) l incl q w = w
with_node (axiom_n a) l incl q w = ((q, w.0), w.1)
with_node (inclusion_n i) l incl q w = absurd (false≢true (sym q))

none-beyond : (at : ℕ) (es : List Entry) (ns : List Node) → length es ≡ length ns → first_beyond at es ns ≡ none →
    Writable (axioms_of ns) (inclusions_of ns)
unfolding first_beyond axioms_of inclusions_of
none-beyond at [] [] l h = (tt, refl)
none-beyond at [] (n ∷ ns) l h = absurd (omega arith)
none-beyond at (e ∷ es) [] l h = (tt, refl)
none-beyond at (e ∷ es) (n ∷ ns) l h = go (calls_for20 n) refl (none-beyond (at + length (rec_bytes (rec_of e))) es ns (omega arith)) h
  where
    go : (b : Bool) → calls_for20 n ≡ b →
        (first_beyond (at + length (rec_bytes (rec_of e))) es ns ≡ none → Writable (axioms_of ns) (inclusions_of ns)) →
        cond b (some at) (first_beyond (at + length (rec_bytes (rec_of e))) es ns) ≡ none →
        Writable (axiom_of n ++ axioms_of ns) (inclusion_of n ++ inclusions_of ns)
    go true q f h = let z : ◌≡◌ {A = ℕ} 0 1 = cc in absurd (omega arith)
    go false q f h = with_node n (axioms_of ns) (inclusions_of ns) q (f h)

-- what export writes: the text of a knowledge base's axioms, none of which calls for 20; it has no role inclusion
pub record Exported (sheet text : List ℕ) : Type 0 where
  pub base : Kb
  pub read : read_kb limit sheet ≡ kb base
  pub names : AxiomNames 12 base.axioms
  pub roles : AxiomRoles Small base.axioms
  pub inclusions : base.inclusions ≡ []
  pub written : axioms_text base.axioms ≡ text

pub export_writes : (sheet text : List ℕ) → exported sheet ≡ write text → Exported sheet text
unfolding exported exporting export_of export_at
export_writes sheet text e = go (read_kb limit sheet) refl e
  where
    at : (k : Kb) (st : State) → read_kb limit sheet ≡ kb k → k ≡ kb_of st → (o : Option ℕ) → first_beyond 0 st.records (nodes_of st.records) ≡ o →
        export_at k.axioms o ≡ write text → Exported sheet text
    at k st r q (some p) f h = let z : ◌≡◌ {A = ℕ} 0 1 = cc in absurd (omega arith)
    at k st r q none f h =
        let few = kb-few limit sheet r in
        let low = kb_bounded limit sheet r in
        let safe = none-beyond 0 st.records (nodes_of st.records) (sym (nodes_length st.records)) f in
        record {
          base = k;
          read = r;
          names = axioms_more k.axioms k.names few.0 low.names;
          roles = axioms-small k.axioms k.roles few.1 low.roles (rw q safe.0);
          inclusions = rw q safe.1;
          written = cc;
        }

    go : (r : Reading) → read_kb limit sheet ≡ r → exporting sheet r ≡ write text → Exported sheet text
    go (refusal n p) q h = let z : ◌≡◌ {A = ℕ} 0 1 = cc in absurd (omega arith)
    go (kb k) q h =
        let w = kb_state limit sheet q in
        at k w.0 q w.2 (first_beyond 0 w.0.records (nodes_of w.0.records)) refl (rw w.1 at h)

-- "importing what was exported, unless refused 3 or 21, gives a sheet with the same rules written alike", and no other refusal comes.
-- Neither sheet has a role inclusion (N8)
pub data Returned (sheet : List ℕ) : Output → Type 0 where
  full : Returned sheet (refuse 3 0)
  alike : {new : List ℕ} (k : Kb) → read_kb limit sheet ≡ kb k → k.inclusions ≡ [] → ReadAs (bare_axioms k.axioms) new →
      Returned sheet (write new)

same_axioms : (l m : List Axiom) (sheet : List ℕ) → l ≡ m → ReadAs l sheet → ReadAs m sheet
same_axioms l m sheet e w = rw e at w

pub fetched_text : (l : List Axiom) (text : List ℕ) → axioms_text l ≡ text → Fetched (bare_axioms l) [] (axioms (suc most) most (axioms_text l)) → Fetched (bare_axioms l) [] (parse text)
unfolding parse
fetched_text l text e h = rw e at h

pub round_trip : (sheet text : List ℕ) → exported sheet ≡ write text → Returned sheet (imported text)
unfolding imported importing parse
round_trip sheet text e =
    let w = export_writes sheet text e in
    go w.base w.read w.inclusions (parse text) refl (parse_gives text)
    (fetched_text w.base.axioms text w.written (axioms_fetched (suc most) most w.base.axioms w.names w.roles))
  where
    go : (k : Kb) → read_kb limit sheet ≡ kb k → k.inclusions ≡ [] → (p : Parsed (List Axiom)) → parse text ≡ p →
        Gives (AxiomsTook most) p → Fetched (bare_axioms k.axioms) [] p → Returned sheet (importing text p)
    go k r i (refused n l) q g f = rw f full
    go k r i (done l room rest) q g f =
        alike k r i
        (same_axioms l (bare_axioms k.axioms) (sheet_of l) f.0 (sheet-read l g.names g.roles g.plain (omega (arith, g.sized))))

-- "importing what was exported, unless refused 3 or 21": the answer to an output and what is left in it, and no other answer comes
pub data ImportSays (sheet text out : List ℕ) : List ℕ → List ℕ → Type 0 where
  full : ImportSays sheet text out (3 ∷ 0 ∷ []) out
  short : {new : List ℕ} → imported text ≡ write new → Returned sheet (write new) → length out < length new → ImportSays sheet text out (21 ∷ 0 ∷ []) out
  written : {new : List ℕ} → imported text ≡ write new → Returned sheet (write new) → length new ≤ length out →
      ImportSays sheet text out (0 ∷ 0 ∷ length new ∷ []) (new ++ drop (length new) out)

pub round_trip_says : (sheet text out : List ℕ) → exported sheet ≡ write text → ImportSays sheet text out (output_says (imported text) out) (output_leaves (imported text) out)
unfolding output_says output_leaves
round_trip_says sheet text out e = go (imported text) refl (round_trip sheet text e)
  where
    fits : (new : List ℕ) → imported text ≡ write new → Returned sheet (write new) → (b : Bool) → ltb (length out) (length new) ≡ b →
        ImportSays sheet text out (cond b (21 ∷ 0 ∷ []) (0 ∷ 0 ∷ length new ∷ [])) (cond b out (new ++ drop (length new) out))
    fits new q w true l = short q w (ltb-true (length out) (length new) l)
    fits new q w false l = written q w (ltb-false (length out) (length new) l)

    go : (o : Output) → imported text ≡ o → Returned sheet o → ImportSays sheet text out (output_says o out) (output_leaves o out)
    go o q full = full
    go o q (alike {new} k r i w) = fits new q (alike k r i w) (ltb (length out) (length new)) refl

-- "and so the same verdict, opening and survivors whenever the trait and link numbers all occur in rules"
pub data Kept (k : Kb) : Output → Type 0 where
  full : Kept k (refuse 3 0)
  same : {new : List ℕ} (m : Kb) → read_kb limit new ≡ kb m → WrittenAlike k m → SameAnswers k m → Kept k (write new)

kept_admit : (n : ℕ) (k m : Kb) → WrittenAlike k m → length (parts_of k) + k.roles ≤ n → admit n m ≡ kb m
unfolding admit
kept_admit n k m w h = rw (le-leb (length (parts_of m) + m.roles) n (omega (arith, alike-parts k m w, ap (λ (k : Kb). k.roles) w)))

kept_read : (limit : ℕ) (k m : Kb) (new : List ℕ) (st : State) → scan_sheet new ≡ whole st → m ≡ kb_of st → WrittenAlike k m → length (parts_of k) + k.roles ≤ limit →
    read_kb limit new ≡ kb m
unfolding read_kb reading
kept_read n k m new st r e w h = rw r (ap (admit n) (sym e) ∙ kept_admit n k m w h)

made : (k m : Kb) → k.names ≡ m.names → k.roles ≡ m.roles → bare_axioms k.axioms ≡ bare_axioms m.axioms → k.inclusions ≡ m.inclusions →
    WrittenAlike k m
made k m n l a i = rw (n, l, a, i)

pub round_trip_answers : (sheet text : List ℕ) (k : Kb) → read_kb limit sheet ≡ kb k → Occurring k → exported sheet ≡ write text → Kept k (imported text)
round_trip_answers sheet text k e o x = go (imported text) (round_trip sheet text x)
  where
    alike-to : (new : List ℕ) → k.inclusions ≡ [] → ReadAs (bare_axioms k.axioms) new → Kept k (write new)
    alike-to new i w =
        let c = counted-bare k.axioms in
        let m : Kb = kb_of w.state in
        let n : m.names ≡ k.names = w.names ∙ c.0 ∙ o.names in
        let l : m.roles ≡ k.roles = w.roles ∙ c.1 ∙ o.roles in
        let a : WrittenAlike k m = made k m (sym n) (sym l) (sym w.alike) (i ∙ sym w.inclusions) in
        same m (kept_read limit k m new w.state w.read refl a (kb-small limit sheet e)) a (alike-answers k m a)

    go : (out : Output) → Returned sheet out → Kept k out
    go out full = full
    go out (alike {new} j r i w) = let q : j ≡ k = cc in alike-to new (rw q at i) (rw q at w)
