-- What read and list marks say and leave (01, "The calls, and what each refuses").
use Rattle.std.specs.Prelude.{ℕ, ◌≡◌, ◌*◌, Bool, cond, ◌||◌, List, [], ◌∷◌, ◌++◌, length, drop, ltb, eqb}
use Rattle.syntax.specs.Normal.{Tag}
use Rattle.syntax.specs.Flatten.{Part, name_p, fresh_p, exists_p, forall_p}
use Rattle.syntax.specs.Reading.{Reading, refusal, kb, parts_of, is_read_refusal}
use Rattle.syntax.specs.Counts.{PartCounts, counts_of, sum_of}

-- "c + L is at most 12"
abbrev pub limit : ℕ
limit = 12

-- 02, N9: "Read shall give four counts, traits, fresh, some and only", and L beside them
abbrev pub counts_say : PartCounts → ℕ → List ℕ
counts_say n l = 0 ∷ 0 ∷ n.names ∷ n.fresh ∷ n.existentials ∷ n.universals ∷ l ∷ []

unfoldable pub read_says : Reading → List ℕ
read_says (refusal n p) = n ∷ p ∷ []
read_says (kb k) = counts_say (counts_of (parts_of k)) k.roles

-- "every call passing them on must keep their sum equal to c": of a sheet that is read so, and the counts that are passed on
abbrev pub SumKept : Reading → PartCounts → Type 0
SumKept (refusal m p) n = Unit
SumKept (kb k) n = sum_of n ≡ length (parts_of k)

abbrev pub odd_no : Tag → ℕ
odd_no g = cond g.odd 1 0

-- "kind (0 trait, 1 fresh, 2 some, 3 only, after normal form), then the trait number or the record number of the filler
-- (fresh) or of the some/only, then 1 if that record is read under an odd number of nots"
unfoldable pub part_bytes : Part → List ℕ
part_bytes (name_p t) = 0 ∷ t ∷ 0 ∷ []
part_bytes (fresh_p g c) = 1 ∷ g.filler ∷ odd_no g ∷ []
part_bytes (exists_p g u f) = 2 ∷ g.source ∷ odd_no g ∷ []
part_bytes (forall_p g u f) = 3 ∷ g.source ∷ odd_no g ∷ []

unfoldable pub bytes_of : List Part → List ℕ
bytes_of [] = []
bytes_of (p ∷ ps) = part_bytes p ++ bytes_of ps

-- the kinds in such a list: the first of each three bytes
unfoldable pub kinds_listed : List ℕ → List ℕ
kinds_listed [] = []
kinds_listed (k ∷ []) = []
kinds_listed (k ∷ n ∷ []) = []
kinds_listed (k ∷ n ∷ o ∷ l) = k ∷ kinds_listed l

-- "refuses as read does, then 12, list shorter than 3c bytes"
unfoldable pub list_says : Reading → List ℕ → List ℕ
list_says (refusal n p) l = n ∷ p ∷ []
list_says (kb k) l = cond (ltb (length l) (3 * length (parts_of k))) (12 ∷ 0 ∷ []) (0 ∷ 0 ∷ length (parts_of k) ∷ [])

-- the numbers it refuses with
unfoldable pub is_list_refusal : ℕ → Bool
is_list_refusal n = is_read_refusal n || eqb n 12

-- "it writes three bytes for each mark; bytes past 3c are kept"; a refusal writes nothing
unfoldable pub list_leaves : Reading → List ℕ → List ℕ
list_leaves (refusal n p) l = l
list_leaves (kb k) l = cond (ltb (length l) (3 * length (parts_of k))) l (bytes_of (parts_of k) ++ drop (3 * length (parts_of k)) l)
