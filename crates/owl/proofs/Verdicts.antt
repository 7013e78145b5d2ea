-- Record numbers count for nothing in models: knowledge bases of axioms written alike and of the same role inclusions have the same
-- verdict, whatever names and roles their sheets count.
use Prim.Native.Nat.{ℕ, ◌+◌, ◌≤◌}
use mathlib.Core.Path.{◌≡◌, refl, sym, ap, ◌∙◌}
use mathlib.Core.Logic.{◌↔◌}
use mathlib.Core.List.{List, [], ◌∷◌}
use lib.ListN.{length}
use native.Mathlib.Omega.{arith}
use borrow.Author.Tests.{le-leb}
use Rattle.syntax.specs.Concepts.{Role, named, inverse, not_r, and_r, or_r, Concept, top_c, bottom_c, name_c, not_c, and_c, or_c, exists_c, forall_c, Axiom}
use Rattle.syntax.specs.Bounds.{RolesBelow, NamesBelow, EachRole, AxiomNames, AxiomRoles}
use Rattle.syntax.specs.Reading.{Kb, kb, kb_of, parts_of, read_kb, reading, admit}
use Rattle.syntax.specs.Answers.{limit}
use Rattle.syntax.proofs.Promised.{kb_bounded, kb-small}
use Rattle.semantics.specs.Interpretations.{Interpretation, holds, satisfies, satisfies_tbox, models, Satisfiable}
use Rattle.semantics.specs.Dominoes.{Met}
use Rattle.semantics.specs.Conditions.{canon_dominoes}
use Rattle.semantics.specs.Views.{kb_view}
use Rattle.semantics.proofs.Verdict.{sheet-verdict}
use Rattle.syntax.specs.WrittenAlike.{bare, bare_axioms, bare_kb, names_in, role_no, roles_in, axioms_names, axioms_roles}
use Rattle.output.specs.Output.{Output, refuse, write}
use Rattle.owl_import.specs.Import.{imported}
use Rattle.owl_export.specs.Export.{exported}
use Rattle.owl_import.proofs.Counting.{counted-bare}
use Rattle.owl.proofs.Erasing.{alike-parts}
use Rattle.owl.proofs.Narrowing.{parts-beside}
use Rattle.owl.proofs.RoundTrip.{ReadAs, Returned, full, alike, round_trip}

holds-bare : (I : Interpretation) (c : Concept) (x : ℕ) → holds I (bare c) x ≡ holds I c x
unfolding holds bare
holds-bare I top_c x = refl
holds-bare I bottom_c x = refl
holds-bare I (name_c t) x = refl
holds-bare I (not_c c) x = rw (holds-bare I c x)
holds-bare I (and_c c d) x = rw (holds-bare I c x, holds-bare I d x)
holds-bare I (or_c c d) x = rw (holds-bare I c x, holds-bare I d x)
holds-bare I (exists_c r f u c) x = let ih = holds-bare I c in simp ih
holds-bare I (forall_c r f u c) x = let ih = holds-bare I c in simp ih

tbox-bare : (I : Interpretation) (l : List Axiom) → satisfies_tbox I (bare_axioms l) ≡ satisfies_tbox I l
unfolding satisfies_tbox satisfies
tbox-bare I [] = refl
tbox-bare I (a ∷ l) = let p = holds-bare I a.left in let q = holds-bare I a.right in simp (p, q, tbox-bare I l)

pub models-bare : (I : Interpretation) (k : Kb) → models I (bare_kb k) ≡ models I k
unfolding models
models-bare I k = rw (tbox-bare I k.axioms)

alike-models : (k m : Kb) → bare_axioms k.axioms ≡ bare_axioms m.axioms → k.inclusions ≡ m.inclusions → Satisfiable k → Satisfiable m
unfolding models
alike-models k m e i s = (s.0, s.1, sym (models-bare s.0 m) ∙ rw (← e, ← i) (models-bare s.0 k) ∙ s.2)

-- sheets with the same axioms written alike and the same role inclusions have one verdict
pub alike-verdict : (sheet new : List ℕ) (k m : Kb) → read_kb limit sheet ≡ kb k → read_kb limit new ≡ kb m →
    bare_axioms k.axioms ≡ bare_axioms m.axioms → k.inclusions ≡ m.inclusions →
    Met (canon_dominoes (kb_view k)) ↔ Met (canon_dominoes (kb_view m))
alike-verdict sheet new k m r q e i = (
  (λ h. (sheet-verdict limit new m q).1 (alike-models k m e i ((sheet-verdict limit sheet k r).0 h))),
  (λ h. (sheet-verdict limit sheet k r).1 (alike-models m k (sym e) (sym i) ((sheet-verdict limit new m q).0 h))),
)

-- the numbers in axioms are below the counts
names-most : (c : Concept) (T : ℕ) → NamesBelow T c → names_in c ≤ T
unfolding NamesBelow names_in
names-most top_c T h = omega arith
names-most bottom_c T h = omega arith
names-most (name_c t) T h = h
names-most (not_c c) T h = names-most c T h
names-most (and_c c d) T h = omega (arith, names-most c T h.0, names-most d T h.1)
names-most (or_c c d) T h = omega (arith, names-most c T h.0, names-most d T h.1)
names-most (exists_c r f u c) T h = names-most c T h
names-most (forall_c r f u c) T h = names-most c T h

role-most : (u : Role) (L : ℕ) → RolesBelow L u → role_no u ≤ L
unfolding role_no
role-most (named k) L h = h
role-most (inverse k) L h = h
role-most (not_r u) L h = role-most u L h
role-most (and_r u v) L h = omega (arith, role-most u L h.0, role-most v L h.1)
role-most (or_r u v) L h = omega (arith, role-most u L h.0, role-most v L h.1)

roles-most : (c : Concept) (L : ℕ) → EachRole (RolesBelow L) c → roles_in c ≤ L
unfolding EachRole roles_in
roles-most top_c L h = omega arith
roles-most bottom_c L h = omega arith
roles-most (name_c t) L h = omega arith
roles-most (not_c c) L h = roles-most c L h
roles-most (and_c c d) L h = omega (arith, roles-most c L h.0, roles-most d L h.1)
roles-most (or_c c d) L h = omega (arith, roles-most c L h.0, roles-most d L h.1)
roles-most (exists_c r f u c) L h = omega (arith, role-most u L h.0, roles-most c L h.1)
roles-most (forall_c r f u c) L h = omega (arith, role-most u L h.0, roles-most c L h.1)

axioms-most : (l : List Axiom) (T L : ℕ) → AxiomNames T l → AxiomRoles (RolesBelow L) l → (axioms_names l ≤ T) × (axioms_roles l ≤ L)
unfolding axioms_names axioms_roles
axioms-most [] T L n r = (omega arith, omega arith)
axioms-most (a ∷ l) T L n r =
    let w = axioms-most l T L n.2 r.2 in
    (omega (arith, w.0, names-most a.left T n.0, names-most a.right T n.1), omega (arith, w.1, roles-most a.left L r.0, roles-most a.right L r.1))

-- axioms written alike, with no more names and roles counted, have no more parts
fewer-parts : (k m : Kb) → bare_axioms k.axioms ≡ bare_axioms m.axioms → m.names ≤ k.names → length (parts_of m) ≤ length (parts_of k)
fewer-parts k m e n =
    let j : Kb = record { names = m.names; roles = m.roles; axioms = k.axioms; inclusions = m.inclusions } in
    omega (
      arith,
      alike-parts j m (ap (λ (l : List Axiom). record { names = m.names; roles = m.roles; axioms = l; inclusions = m.inclusions }) e),
      parts-beside m.names k.names k.axioms,
    )

-- so a round trip's sheet is read, and 9 cannot come
returned_read : (sheet new : List ℕ) (k : Kb) → read_kb limit sheet ≡ kb k → k.inclusions ≡ [] → ReadAs (bare_axioms k.axioms) new →
    (m : Kb) × (read_kb limit new ≡ kb m) × (bare_axioms k.axioms ≡ bare_axioms m.axioms) × (k.inclusions ≡ m.inclusions)
unfolding read_kb reading admit
returned_read sheet new k r i w =
    let m : Kb = kb_of w.state in
    let low = kb_bounded limit sheet r in
    let most = axioms-most k.axioms k.names k.roles low.names low.roles in
    let c = counted-bare k.axioms in
    let parts = fewer-parts k m (sym w.alike) (omega (arith, w.names, c.0, most.0)) in
    let few = le-leb (length (parts_of m) + m.roles) limit (omega (arith, parts, w.roles, c.1, most.1, kb-small limit sheet r)) in
    (m, rw w.read (rw few), sym w.alike, i ∙ sym w.inclusions)

-- "importing what was exported, unless refused 3 or 21, gives a sheet with the same rules written alike, and so the same verdict"
pub data Judged (k : Kb) : Output → Type 0 where
  full3 : Judged k (refuse 3 0)
  same : {new : List ℕ} (m : Kb) → read_kb limit new ≡ kb m → bare_axioms k.axioms ≡ bare_axioms m.axioms → k.inclusions ≡ m.inclusions →
      Met (canon_dominoes (kb_view k)) ↔ Met (canon_dominoes (kb_view m)) → Judged k (write new)

pub round_trip_verdict : (sheet text : List ℕ) (k : Kb) → read_kb limit sheet ≡ kb k → exported sheet ≡ write text → Judged k (imported text)
round_trip_verdict sheet text k r x = go (imported text) (round_trip sheet text x)
  where
    go : (out : Output) → Returned sheet out → Judged k out
    go out full = full3
    go out (alike {new} j p i w) =
        let q : j ≡ k = cc in
        let v = returned_read sheet new k r (rw q at i) (rw q at w) in
        same v.0 v.1 v.2 v.3 (alike-verdict sheet new k v.0 r v.1 v.2 v.3)
