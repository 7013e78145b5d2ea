-- What the answer of a check means, and what a drawing draws.
use Rattle.std.specs.Prelude.{ℕ, ◌<◌, ◌≡◌, Bool, true, false, not, ◌&&◌, ◌||◌, List, [], ◌∷◌, length}
use Rattle.bitset.specs.Bits.{bit}
use Rattle.elimination.specs.Sets.{every, some}
use Rattle.syntax.specs.Concepts.{Axiom, RoleInclusion}
use Rattle.syntax.specs.Flatten.{Part, name_p, fresh_p, exists_p, forall_p, part_at}
use Rattle.syntax.specs.Reading.{Kb, parts_of}
use Rattle.semantics.specs.Interpretations.{Interpretation, role_in, holds, satisfies_tbox, models}
use Rattle.semantics.specs.Conditions.{View}
use Rattle.semantics.specs.Views.{filler_in, kb_view}
use Rattle.semantics.specs.Projection.{role_set}
use Rattle.drawings.specs.Entries.{Drawing}
use Rattle.drawings.specs.Checking.{connects, names_at, Breach, unbroken, at, between, individuals, roles_between, breaks_at, breaks_between}

-- x is the first number below n that passes a test
pub record First (n : ℕ) (f : ℕ → Bool) (x : ℕ) : Type 0 where
  pub within : x < n
  pub passes : f x ≡ true
  pub before : (z : ℕ) → z < x → f z ≡ false

-- (x, y) is the first pair of numbers below n, by x and then y, that passes a test: "by from and then to"
pub record FirstPair (n : ℕ) (f : ℕ → ℕ → Bool) (x y : ℕ) : Type 0 where
  pub from : x < n
  pub to : y < n
  pub passes : f x y ≡ true
  pub before : (z w : ℕ) → z < x → w < n → f z w ≡ false
  pub beside : (w : ℕ) → w < y → f x w ≡ false

-- what an answer says of a drawing and the flattened knowledge base
module _ (v : View) (d : Drawing) where
  abbrev n : ℕ
  n = individuals v d

  -- no individual breaks a flattened axiom
  abbrev pub NoneBreaks : Type 0
  NoneBreaks = (x : ℕ) → x < n → breaks_at v d x ≡ false

  -- nothing breaks
  pub record Holds : Type 0 where
    pub each : NoneBreaks
    pub pairs : (x y : ℕ) → x < n → y < n → breaks_between v d x y ≡ false

  abbrev pub Says : Breach → Type 0
  Says unbroken = Holds
  Says (at x) = First n (breaks_at v d) x
  Says (between x y) = NoneBreaks × FirstPair n (breaks_between v d) x y

-- a part at a drawn individual (002, Table 1): names and fresh names as drawn, restrictions by what they say of the others
unfoldable pub part_drawn : Drawing → Part → ℕ → ℕ → Bool
part_drawn d (name_p t) k x = bit (names_at d x) k
part_drawn d (fresh_p g c) k x = bit (names_at d x) k
part_drawn d (exists_p g u f) k x =
    some (length d.names) (λ y. role_in (connects d.connections) u x y && filler_in f (bit (names_at d y)))
part_drawn d (forall_p g u f) k x =
    every (length d.names) (λ y. not (role_in (connects d.connections) u x y) || filler_in f (bit (names_at d y)))

-- a drawing draws an interpretation: the individuals, and of each its names, of each two the roles between them
pub record Draws (k : Kb) (I : Interpretation) (d : Drawing) : Type 0 where
  pub individuals : I.individuals ≡ length d.names
  pub names : (x t : ℕ) → x < I.individuals → part_at (parts_of k) t ≡ name_p t → I.has x t ≡ bit (names_at d x) t
  pub roles : (x y : ℕ) → x < I.individuals → y < I.individuals → role_set k.roles I.joined x y ≡ roles_between (kb_view k) d x y

-- ---- of axioms and role inclusions as written (002, Table 1)

-- each axiom of a list holds of individual x; each role inclusion holds between x and y
unfoldable pub axioms_at : Interpretation → List Axiom → ℕ → Bool
axioms_at I [] x = true
axioms_at I (a ∷ s) x = (not (holds I a.left x) || holds I a.right x) && axioms_at I s x

unfoldable pub inclusions_between : Interpretation → List RoleInclusion → ℕ → ℕ → Bool
inclusions_between I [] x y = true
inclusions_between I (i ∷ l) x y = (not (role_in I.joined i.left x y) || role_in I.joined i.right x y) && inclusions_between I l x y

-- what an answer says of an interpretation and the knowledge base as written: the individual is the first of which an axiom fails; or
-- none fails, and the pair is the first between which a role inclusion fails
abbrev pub SaysWritten : Interpretation → Kb → Breach → Type 0
SaysWritten I k unbroken = models I k ≡ true
SaysWritten I k (at x) = First I.individuals (λ z. not (axioms_at I k.axioms z)) x
SaysWritten I k (between x y) =
    (satisfies_tbox I k.axioms ≡ true) × FirstPair I.individuals (λ z w. not (inclusions_between I k.inclusions z w)) x y
