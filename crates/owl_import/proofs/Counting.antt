-- The names and roles of a sheet that import writes are those of its axioms; so a round trip keeps every answer where the numbers all
-- occur in rules.
use Prim.Native.Nat.{ℕ, max}
use mathlib.Core.Path.{◌≡◌, refl, ap, ◌∙◌}
use mathlib.Core.List.{List, [], ◌∷◌, ◌++◌}
use native.Mathlib.Omega.{arith}
use Rattle.records.specs.Scan.{State, start, names_after_lem, roles_after_lem, after}
use Rattle.syntax.specs.Concepts.{Role, named, inverse, not_r, and_r, or_r, Concept, top_c, bottom_c, name_c, not_c, and_c, or_c, exists_c, forall_c, Axiom}
use Rattle.syntax.specs.Bounds.{EachRole, AxiomRoles}
use Rattle.syntax.specs.Laid.{Rec, rec, reach}
use Rattle.owl_import.specs.RecordsOf.{last_of, put_role, put_concept, put_axiom, put_axioms}
use Rattle.syntax.specs.WrittenAlike.{bare, bare_axioms, names_in, role_no, roles_in, axioms_names, axioms_roles}
use Rattle.owl_import.proofs.Parsing.{Small}
use Rattle.syntax.proofs.Laying.{reach-append}

-- T and L after records
abbrev names_of : List Rec → ℕ
names_of x = (reach start x).names

abbrev roles_of : List Rec → ℕ
roles_of x = (reach start x).roles

names_snoc : (x : List Rec) (r : Rec) → names_of (x ++ (r ∷ [])) ≡ names_after_lem (names_of x) r.kind r.first
unfolding after reach
names_snoc x r = ap (λ (st : State). st.names) (reach-append start x (r ∷ []))

roles_snoc : (x : List Rec) (r : Rec) → roles_of (x ++ (r ∷ [])) ≡ roles_after_lem (roles_of x) r.kind r.first
unfolding after reach
roles_snoc x r = ap (λ (st : State). st.roles) (reach-append start x (r ∷ []))

role-names : (u : Role) → Small u → (rs : List Rec) → (names_of (put_role rs u) ≡ names_of rs) × (roles_of (put_role rs u) ≡ max (roles_of rs) (role_no u))
unfolding put_role role_no names_after_lem roles_after_lem
role-names (named k) h rs = (names_snoc rs (rec 0x10 k 0), roles_snoc rs (rec 0x10 k 0) ∙ omega arith)
role-names (inverse k) h rs = (names_snoc rs (rec 0x11 k 0), roles_snoc rs (rec 0x11 k 0) ∙ omega arith)
role-names (not_r u) h rs = absurd h
role-names (and_r u v) h rs = absurd h
role-names (or_r u v) h rs = absurd h

abbrev Grows : List Rec → ℕ → ℕ → List Rec → Type 0
Grows rs n l x = (names_of x ≡ max (names_of rs) n) × (roles_of x ≡ max (roles_of rs) l)

concept-names : (c : Concept) → EachRole Small c → (rs : List Rec) → Grows rs (names_in c) (roles_in c) (put_concept rs c)
unfolding put_concept EachRole names_in roles_in names_after_lem roles_after_lem
concept-names top_c h rs = (names_snoc rs (rec 0x01 0 0) ∙ omega arith, roles_snoc rs (rec 0x01 0 0) ∙ omega arith)
concept-names bottom_c h rs = (names_snoc rs (rec 0x02 0 0) ∙ omega arith, roles_snoc rs (rec 0x02 0 0) ∙ omega arith)
concept-names (name_c t) h rs = (names_snoc rs (rec 0x03 t 0) ∙ omega arith, roles_snoc rs (rec 0x03 t 0) ∙ omega arith)
concept-names (not_c c) h rs =
    let p = concept-names c h rs in
    (names_snoc (put_concept rs c) (rec 0x04 (last_of (put_concept rs c)) 0) ∙ p.0, roles_snoc (put_concept rs c) (rec 0x04 (last_of (put_concept rs c)) 0) ∙ p.1)
concept-names (and_c c d) h rs =
    let x = put_concept rs c in
    let y = put_concept x d in
    let p = concept-names c h.0 rs in
    let q = concept-names d h.1 x in
    (names_snoc y (rec 0x05 (last_of x) (last_of y)) ∙ omega (arith, p.0, q.0), roles_snoc y (rec 0x05 (last_of x) (last_of y)) ∙ omega (arith, p.1, q.1))
concept-names (or_c c d) h rs =
    let x = put_concept rs c in
    let y = put_concept x d in
    let p = concept-names c h.0 rs in
    let q = concept-names d h.1 x in
    (names_snoc y (rec 0x06 (last_of x) (last_of y)) ∙ omega (arith, p.0, q.0), roles_snoc y (rec 0x06 (last_of x) (last_of y)) ∙ omega (arith, p.1, q.1))
concept-names (exists_c r g u c) h rs =
    let x = put_role rs u in
    let y = put_concept x c in
    let p = role-names u h.0 rs in
    let q = concept-names c h.1 x in
    (names_snoc y (rec 0x07 (last_of x) (last_of y)) ∙ omega (arith, p.0, q.0), roles_snoc y (rec 0x07 (last_of x) (last_of y)) ∙ omega (arith, p.1, q.1))
concept-names (forall_c r g u c) h rs =
    let x = put_role rs u in
    let y = put_concept x c in
    let p = role-names u h.0 rs in
    let q = concept-names c h.1 x in
    (names_snoc y (rec 0x08 (last_of x) (last_of y)) ∙ omega (arith, p.0, q.0), roles_snoc y (rec 0x08 (last_of x) (last_of y)) ∙ omega (arith, p.1, q.1))

axiom_names : (a : Axiom) → EachRole Small a.left → EachRole Small a.right → (rs : List Rec) →
    Grows rs (max (names_in a.left) (names_in a.right)) (max (roles_in a.left) (roles_in a.right)) (put_axiom rs a)
unfolding put_axiom names_after_lem roles_after_lem
axiom_names a h k rs =
    let x = put_concept rs a.left in
    let y = put_concept x a.right in
    let p = concept-names a.left h rs in
    let q = concept-names a.right k x in
    (names_snoc y (rec 0x20 (last_of x) (last_of y)) ∙ omega (arith, p.0, q.0), roles_snoc y (rec 0x20 (last_of x) (last_of y)) ∙ omega (arith, p.1, q.1))

axioms_grow : (l : List Axiom) → AxiomRoles Small l → (rs : List Rec) → Grows rs (axioms_names l) (axioms_roles l) (put_axioms rs l)
unfolding put_axioms axioms_names axioms_roles
axioms_grow [] h rs = (omega arith, omega arith)
axioms_grow (a ∷ l) h rs =
    let p = axiom_names a h.0 h.1 rs in
    let q = axioms_grow l h.2 (put_axiom rs a) in
    (omega (arith, p.0, q.0), omega (arith, p.1, q.1))

pub axioms-counted : (l : List Axiom) → AxiomRoles Small l → ((reach start (put_axioms [] l)).names ≡ axioms_names l) × ((reach start (put_axioms [] l)).roles ≡ axioms_roles l)
unfolding reach
axioms-counted l h = let p = axioms_grow l h [] in (p.0 ∙ omega arith, p.1 ∙ omega arith)

-- record numbers count for nothing there
names-bare : (c : Concept) → names_in (bare c) ≡ names_in c
unfolding names_in bare
names-bare top_c = refl
names-bare bottom_c = refl
names-bare (name_c t) = refl
names-bare (not_c c) = names-bare c
names-bare (and_c c d) = rw (names-bare c, names-bare d)
names-bare (or_c c d) = rw (names-bare c, names-bare d)
names-bare (exists_c r f u c) = names-bare c
names-bare (forall_c r f u c) = names-bare c

roles-bare : (c : Concept) → roles_in (bare c) ≡ roles_in c
unfolding roles_in bare
roles-bare top_c = refl
roles-bare bottom_c = refl
roles-bare (name_c t) = refl
roles-bare (not_c c) = roles-bare c
roles-bare (and_c c d) = rw (roles-bare c, roles-bare d)
roles-bare (or_c c d) = rw (roles-bare c, roles-bare d)
roles-bare (exists_c r f u c) = rw (roles-bare c)
roles-bare (forall_c r f u c) = rw (roles-bare c)

pub counted-bare : (l : List Axiom) → (axioms_names (bare_axioms l) ≡ axioms_names l) × (axioms_roles (bare_axioms l) ≡ axioms_roles l)
unfolding axioms_names axioms_roles
counted-bare [] = (refl, refl)
counted-bare (a ∷ l) =
    let p = counted-bare l in
    (rw (names-bare a.left, names-bare a.right, p.0), rw (roles-bare a.left, roles-bare a.right, p.1))
