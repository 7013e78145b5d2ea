-- The records of axioms as import writes them (02, N7: "Import writes operands before what uses them, left to right, with a new record
-- for each use").
use Rattle.std.specs.Prelude.{ℕ, ◌-◌, List, [], ◌∷◌, ◌++◌, length}
use Rattle.syntax.specs.Concepts.{Role, named, inverse, not_r, and_r, or_r, Concept, top_c, bottom_c, name_c, not_c, and_c, or_c, exists_c, forall_c, Axiom}
use Rattle.syntax.specs.Laid.{Rec, rec}

-- the number of the last record
abbrev pub last_of : List Rec → ℕ
last_of rs = length rs - 1

-- "import writes operands before what uses them, left to right, with a new record for each use": records with those of a role, a
-- concept or an axiom put after them
unfoldable pub put_role : List Rec → Role → List Rec
put_role rs (named k) = rs ++ (rec 0x10 k 0 ∷ [])
put_role rs (inverse k) = rs ++ (rec 0x11 k 0 ∷ [])
put_role rs (not_r u) = put_role rs u ++ (rec 0x12 (last_of (put_role rs u)) 0 ∷ [])
put_role rs (and_r u v) =
    put_role (put_role rs u) v ++ (rec 0x13 (last_of (put_role rs u)) (last_of (put_role (put_role rs u) v)) ∷ [])
put_role rs (or_r u v) =
    put_role (put_role rs u) v ++ (rec 0x14 (last_of (put_role rs u)) (last_of (put_role (put_role rs u) v)) ∷ [])

-- a record that names two
abbrev pub joins : ℕ → List Rec → List Rec → List Rec
joins k x y = y ++ (rec k (last_of x) (last_of y) ∷ [])

unfoldable pub put_concept : List Rec → Concept → List Rec
put_concept rs top_c = rs ++ (rec 0x01 0 0 ∷ [])
put_concept rs bottom_c = rs ++ (rec 0x02 0 0 ∷ [])
put_concept rs (name_c t) = rs ++ (rec 0x03 t 0 ∷ [])
put_concept rs (not_c c) = put_concept rs c ++ (rec 0x04 (last_of (put_concept rs c)) 0 ∷ [])
put_concept rs (and_c c d) = joins 0x05 (put_concept rs c) (put_concept (put_concept rs c) d)
put_concept rs (or_c c d) = joins 0x06 (put_concept rs c) (put_concept (put_concept rs c) d)
put_concept rs (exists_c r f u c) = joins 0x07 (put_role rs u) (put_concept (put_role rs u) c)
put_concept rs (forall_c r f u c) = joins 0x08 (put_role rs u) (put_concept (put_role rs u) c)

unfoldable pub put_axiom : List Rec → Axiom → List Rec
put_axiom rs a = joins 0x20 (put_concept rs a.left) (put_concept (put_concept rs a.left) a.right)

unfoldable pub put_axioms : List Rec → List Axiom → List Rec
put_axioms rs [] = rs
put_axioms rs (a ∷ l) = put_axioms (put_axiom rs a) l
