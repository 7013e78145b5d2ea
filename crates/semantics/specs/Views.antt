-- What the conditions look at, of a flattened knowledge base.
use Rattle.std.specs.Prelude.{ℕ, Bool, true, false, List, length}
use Rattle.bitset.specs.Bits.{bit}
use Rattle.syntax.specs.Flatten.{everything, nothing, name_a, Filler, atomic, fresh, Part, name_p, fresh_p, exists_p, forall_p, Flat, separate, Flattening, flatten_by, part_at}
use Rattle.syntax.specs.Concepts.{RoleInclusion}
use Rattle.syntax.specs.Truth.{kb_on, rbox_on}
use Rattle.syntax.specs.Parts.{kind_of, role_holds}
use Rattle.syntax.specs.Reading.{Kb, flats_of, parts_of}
use Rattle.semantics.specs.Conditions.{View}

-- "everything is in each mark set and nothing in none"
unfoldable pub filler_in : Filler → (ℕ → Bool) → Bool
filler_in (atomic everything) a = true
filler_in (atomic nothing) a = false
filler_in (atomic (name_a t)) a = a t
filler_in (fresh j) a = a j

-- is a restriction's filler in the label B
unfoldable pub has_filler : Part → ℕ → Bool
has_filler (name_p t) B = false
has_filler (fresh_p g c) B = false
has_filler (exists_p g u f) B = filler_in f (bit B)
has_filler (forall_p g u f) B = filler_in f (bit B)

-- for L roles, role inclusions, flattened axioms and parts
abbrev pub view_of : ℕ → List RoleInclusion → List Flat → List Part → View
view_of L incl fs ps = record {
  parts = length ps;
  roles = L;
  kind = λ k. kind_of (part_at ps k);
  holds = λ k R. role_holds (part_at ps k) R;
  has = λ k B. has_filler (part_at ps k) B;
  good = kb_on fs;
  closed = rbox_on incl;
}

-- for a knowledge base
abbrev pub kb_view : Kb → View
kb_view k = view_of k.roles k.inclusions (flats_of k) (parts_of k)

-- for a knowledge base before 02, by 01's "Each occurrence has a mark of its own, even where two are written alike."
abbrev pub separate_view : Kb → View
separate_view k = let F : Flattening = flatten_by separate k.names k.axioms in view_of k.roles k.inclusions F.axioms F.parts
