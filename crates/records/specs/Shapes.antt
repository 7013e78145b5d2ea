-- What a kind byte decides (01, "The sheet's bytes": the kind byte decides the body length and the sort).
use Rattle.std.specs.Prelude.{ℕ, Bool, not, cond, ◌&&◌, List, [], ◌∷◌, leb, eqb}

-- what a kind byte decides: the record's own sort (0 unknown, 1 concept, 2 role, 3 axiom), the length of its body, the limit of the
-- number in it (0: there is none), and the sorts that its references must have (0: there is none)
pub record Shape : Type 0 where
  pub sort : ℕ
  pub body : ℕ
  pub limit : ℕ
  pub first : ℕ
  pub second : ℕ

abbrev pub within : ℕ → ℕ → ℕ → Bool
within lo hi k = leb lo k && leb k hi

abbrev pub shaped : ℕ → ℕ → ℕ → ℕ → ℕ → Shape
shaped s b l f g = record { sort = s; body = b; limit = l; first = f; second = g }

-- a row of the table: the kinds from one to another, and their shape
pub record Row : Type 0 where
  pub from : ℕ
  pub to : ℕ
  pub shape : Shape

abbrev row : ℕ → ℕ → Shape → Row
row lo hi s = record { from = lo; to = hi; shape = s }

-- the table of kinds
abbrev pub rows : List Row
rows =
    row 0x01 0x02 (shaped 1 0 0 0 0) ∷
    row 0x03 0x03 (shaped 1 1 12 0 0) ∷
    row 0x04 0x04 (shaped 1 1 0 1 0) ∷
    row 0x05 0x06 (shaped 1 2 0 1 1) ∷
    row 0x07 0x08 (shaped 1 2 0 2 1) ∷
    row 0x10 0x11 (shaped 2 1 4 0 0) ∷
    row 0x12 0x12 (shaped 2 1 0 2 0) ∷
    row 0x13 0x14 (shaped 2 2 0 2 2) ∷
    row 0x20 0x20 (shaped 3 2 0 1 1) ∷
    row 0x21 0x21 (shaped 3 2 0 2 2) ∷
    []

-- 1: "unknown kind"
abbrev pub unknown : Shape
unknown = shaped 0 0 0 0 0

abbrev pub rowed : List Row → ℕ → Shape
rowed [] k = unknown
rowed (r ∷ rs) k = cond (within r.from r.to k) r.shape (rowed rs k)

unfoldable pub shape_of : ℕ → Shape
shape_of k = rowed rows k

-- "records of kinds 01, 02, 03, 10, 11 may be named often": those whose body has no reference
unfoldable pub is_leaf_lem : Shape → Bool
is_leaf_lem s = eqb s.first 0

-- "the link of a some or only must fail on the empty set of links" and, of a rule of kind 21, "The first link must fail on the empty
-- set" (02, N8): what is no role, and whose first reference is one. 002 calls a role that fails there restricted.
unfoldable pub needs_restricted_lem : Shape → Bool
needs_restricted_lem s = not (eqb s.sort 2) && eqb s.first 2
