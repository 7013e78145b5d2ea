-- Records as bytes, and the records of an interpretation (02, N10; N11: "Items first, then connections by from, to and link, each once").
use Rattle.std.specs.Prelude.{ℕ, zero, suc, ◌/◌, ◌%◌, ◌<◌, Bool, cond, List, [], ◌∷◌, ◌++◌, length}
use Rattle.bitset.specs.Bits.{word}
use Rattle.syntax.specs.Flatten.{part_at}
use Rattle.syntax.specs.Reading.{Kb, parts_of}
use Rattle.semantics.specs.Interpretations.{Interpretation}
use Rattle.semantics.specs.Projection.{plain_at}
use Rattle.drawings.specs.Entries.{Entry, individual, connection, unreadable}

-- a record's bytes; what cannot be read has none
unfoldable pub entry_bytes : Entry → List ℕ
entry_bytes (individual m) = 0x40 ∷ m % 256 ∷ m / 256 ∷ []
entry_bytes (connection c) = 0x41 ∷ c.from % 256 ∷ c.from / 256 ∷ c.to % 256 ∷ c.to / 256 ∷ c.role ∷ []
entry_bytes unreadable = []

unfoldable pub laid : List Entry → List ℕ
laid [] = []
laid (e ∷ es) = entry_bytes e ++ laid es

-- a record whose numbers fit their bytes
abbrev pub FitsBytes : Entry → Type 0
FitsBytes (individual m) = m < 65536
FitsBytes (connection c) = (c.from < 65536) × (c.to < 65536) × (c.role < 256)
FitsBytes unreadable = ⊥

-- n lists one after another
unfoldable pub in_turn : {A : Type 0} → ℕ → (ℕ → List A) → List A
in_turn zero f = []
in_turn (suc n) f = in_turn n f ++ f n

-- the individuals with their names and fresh names; the connections of L roles
unfoldable pub individual_entries : ℕ → (ℕ → ℕ) → List Entry
individual_entries n names = in_turn n (λ x. individual (names x) ∷ [])

unfoldable pub connection_entries : ℕ → ℕ → (ℕ → ℕ → ℕ → Bool) → List Entry
connection_entries n L J =
    in_turn n (λ x. in_turn n (λ y. in_turn L (λ k. cond (J k x y) (connection (record { from = x; to = y; role = k }) ∷ []) [])))

unfoldable pub drawn_entries : ℕ → ℕ → (ℕ → ℕ) → (ℕ → ℕ → ℕ → Bool) → List Entry
drawn_entries n L names J = individual_entries n names ++ connection_entries n L J

-- the names and fresh names of an individual: "fresh marks read as their fillers"
unfoldable pub own_names : Interpretation → Kb → ℕ → ℕ
own_names I k x = word (length (parts_of k)) (λ j. plain_at I (part_at (parts_of k) j) x)

-- an interpretation's own records
unfoldable pub own_entries : Interpretation → Kb → List Entry
own_entries I k = drawn_entries I.individuals k.roles (own_names I k) I.joined

unfoldable pub own_file : Interpretation → Kb → List ℕ
own_file I k = laid (own_entries I k)
