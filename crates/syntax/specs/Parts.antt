-- What the flattened knowledge base says of a part: its kind, its filler, and the role sets on which its role holds.
use Rattle.std.specs.Prelude.{ℕ, Bool, false}
use Rattle.syntax.specs.Flatten.{everything, nothing, name_a, Filler, atomic, fresh, Part, name_p, fresh_p, exists_p, forall_p}
use Rattle.syntax.specs.Truth.{role_on}

-- a part's kind: 0 name, 1 fresh, 2 existential, 3 universal
unfoldable pub kind_of : Part → ℕ
kind_of (name_p t) = 0
kind_of (fresh_p g c) = 1
kind_of (exists_p g u f) = 2
kind_of (forall_p g u f) = 3

-- the numbers of fillers that are no part: everything, nothing, and one that needs a fresh name, as long as that has no number.
-- The number of a name is a byte, so these are free.
abbrev pub everything_no : ℕ
everything_no = 256

abbrev pub nothing_no : ℕ
nothing_no = 257

abbrev pub fresh_no : ℕ
fresh_no = 258

-- a filler: a part's number, or that of everything or nothing
unfoldable pub filler_no : Filler → ℕ
filler_no (atomic (name_a t)) = t
filler_no (atomic everything) = everything_no
filler_no (atomic nothing) = nothing_no
filler_no (fresh j) = j

-- a restriction's filler; 0 for a name
unfoldable pub filler_of : Part → ℕ
filler_of (name_p t) = 0
filler_of (fresh_p g c) = 0
filler_of (exists_p g u f) = filler_no f
filler_of (forall_p g u f) = filler_no f

-- the role sets on which a restriction's role expression holds; none for a name
unfoldable pub role_holds : Part → ℕ → Bool
role_holds (name_p t) R = false
role_holds (fresh_p g c) R = false
role_holds (exists_p g u f) R = role_on u R
role_holds (forall_p g u f) R = role_on u R
