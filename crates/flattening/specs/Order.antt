-- The order in which the code goes through the queue: all axioms, then the fresh parts, each when its turn comes. That this is
-- the queue's order is proved.
use Rattle.std.specs.Prelude.{ℕ, suc, List, [], ◌∷◌, ◌++◌, get_or}
use Rattle.syntax.specs.Concepts.{Node, no_node, axiom_of}
use Rattle.syntax.specs.Flatten.{Part, name_p, fresh_p, exists_p, forall_p, Flat, Pending, guarded, Walked, walk_pending, pendings}

-- the parts, and the flattened axioms, that going through some of the queue gives when the parts `so` are there
unfoldable pub through : List Pending → List Part → List Part
through [] so = []
through (p ∷ q) so =
    let w : Walked = walk_pending p so in
    w.parts ++ through q (so ++ w.parts)

unfoldable pub flats_through : List Pending → List Part → List Flat
flats_through [] so = []
flats_through (p ∷ q) so =
    let w : Walked = walk_pending p so in
    w.flat ∷ flats_through q (so ++ w.parts)

-- what part k puts on the queue: (not F) or filler, if it is fresh
unfoldable pub turn_of : ℕ → Part → List Pending
turn_of k (name_p t) = []
turn_of k (fresh_p g c) = guarded k c ∷ []
turn_of k (exists_p g u f) = []
turn_of k (forall_p g u f) = []

-- what parts from number k on put on the queue
unfoldable pub turns_from : ℕ → List Part → List Pending
turns_from k [] = []
turns_from k (p ∷ ps) = turn_of k p ++ turns_from (suc k) ps

-- what record i puts on the queue
abbrev pub axiom_turn : List Node → ℕ → List Pending
axiom_turn ns i = pendings (axiom_of (get_or ns i no_node))
