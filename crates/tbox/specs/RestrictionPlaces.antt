-- Where each record that is a restriction stands among the parts.
use Rattle.std.specs.Prelude.{ℕ, ◌≤◌, ◌<◌, ◌≡◌, Bool, true, false, List, ◌++◌, length, get_or, Option, None}
use Rattle.std.proofs.Math.Option.{Option as Maybe, none, some}
use Rattle.records.specs.Entries.{Entry}
use Rattle.records.specs.Scan.{record_at_lem}
use Rattle.syntax.specs.Concepts.{Role}
use Rattle.syntax.specs.Normal.{Tag, Nf, top_n, bottom_n, name_n, not_n, and_n, or_n, exists_n, forall_n}
use Rattle.syntax.specs.Flatten.{Atom, Filler, atomic, Part, exists_p, forall_p, atom, shared}
use Rattle.flattening.specs.Trees.{nf_below, nf_of}
use Rattle.flattening.specs.Origins.{restriction}
use Rattle.flattening.specs.declared.parts.Quantifier.{Quantifier}
use Rattle.flattening.specs.declared.trees.Tree.{Tree}
use Rattle.flattening.specs.AlikeParts.{place_found}
use Rattle.tbox.specs.declared.places.Pair.{Pair}
use Rattle.tbox.specs.declared.places.Places.{Places}

-- the parts so far are the first of all
abbrev pub Begins : List Part → List Part → Type 0
Begins ps so = (rest : List Part) × (ps ≡ so ++ rest)

-- where a restriction with such a filler stands among the parts ps; none if its filler needs a fresh name
abbrev pub place_in : (Filler → Part) → List Part → Maybe Atom → Maybe ℕ
place_in p ps (some a) = shared (p (atomic a)) ps
place_in p ps none = none

-- v says so of a restriction. Of another concept it says nothing.
abbrev pub PlacedAs : (Filler → Part) → List Part → Maybe Atom → Option ℕ → Type 0
PlacedAs p ps o v = place_found v ≡ place_in p ps o

-- the same, whatever the tag
abbrev pub PlacedFor : List Part → Quantifier → Role → Maybe Atom → Option ℕ → Type 0
PlacedFor ps q u o v = (g : Tag) → PlacedAs (restriction q g u) ps o v

abbrev pub PlaceFor : List Part → Nf → Option ℕ → Type 0
PlaceFor ps top_n v = Unit
PlaceFor ps bottom_n v = Unit
PlaceFor ps (name_n t) v = Unit
PlaceFor ps (not_n t) v = Unit
PlaceFor ps (and_n c d) v = Unit
PlaceFor ps (or_n c d) v = Unit
PlaceFor ps (exists_n g u c) v = PlacedAs (exists_p g u) ps (atom c) v
PlaceFor ps (forall_n g u c) v = PlacedAs (forall_p g u) ps (atom c) v

-- the place of a record read plainly, and under a not
abbrev pub place_under : Bool → Pair → Option ℕ
place_under true p = p.negated
place_under false p = p.plain

-- p says so of a restriction that has one quantifier plainly, and the other under a not
pub record PairFor (ps : List Part) (q r : Quantifier) (u : Role) (filler : Tree) (p : Pair) : Type 0 where
  pub plain : PlacedFor ps q u (atom (nf_of false filler)) p.plain
  pub negated : PlacedFor ps r u (atom (nf_of true filler)) p.negated

-- p says so of record r if that is a restriction, read plainly and under a not
pub record PlaceAt (es : List Entry) (ps : List Part) (r : ℕ) (p : Pair) : Type 0 where
  pub is : (below : ℕ) (odd : Bool) → r < below → 7 ≤ (record_at_lem es r).kind → (record_at_lem es r).kind < 9 →
      PlaceFor ps (nf_below odd es below r) (place_under odd p)

-- the places of record r; past the last none
abbrev pub no_pair : Pair
no_pair = record { plain = None; negated = None }

abbrev pub pair_at : List Pair → ℕ → Pair
pair_at l r = get_or l r no_pair

-- of the first n records
pub record Noted (es : List Entry) (ps : List Part) (l : List Pair) (n : ℕ) : Type 0 where
  pub each : (r : ℕ) → r < n → PlaceAt es ps r (pair_at l r)

-- of all records
pub record PlacesOf (es : List Entry) (ps : List Part) (p : Places) : Type 0 where
  pub few : length ps ≤ 20
  pub at : (r : ℕ) → PlaceAt es ps r (pair_at p.pairs r)
