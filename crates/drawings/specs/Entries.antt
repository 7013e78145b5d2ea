-- Interpretations on file (02, N10: "Plants on file are records"): the records of a file, their first fault, and what they draw.
use Rattle.std.specs.Prelude.{ℕ, zero, suc, ◌+◌, ◌*◌, not, ◌&&◌, ◌||◌, cond, List, [], ◌∷◌, eqb, leb, ltb, length, get_or, drop}
use Rattle.bitset.specs.Bits.{Set, bit}
use Rattle.elimination.specs.Sets.{every}
use Rattle.records.specs.Scan.{or_else}

-- "kind 41, a connection, with two bytes for the item it goes from, two for the item it goes to, and one link number"
pub record Connection : Type 0 where
  pub from : ℕ
  pub to : ℕ
  pub role : ℕ

-- a record: an individual with its names and fresh names, part n being bit n; a connection; or "unknown kind or cut off"
pub data Entry : Type 0 where
  individual : ℕ → Entry
  connection : Connection → Entry
  unreadable : Entry

-- "two bytes (here always low first)", from byte i on
abbrev pub two_bytes : List ℕ → ℕ → ℕ
two_bytes bytes i = get_or bytes i 0 + 256 * get_or bytes (i + 1) 0

-- the record that bytes begin with, kinds in hex: "kind 40, an item, with two bytes .. holding its trait and fresh marks", or kind 41
unfoldable pub entry_of : List ℕ → Entry
entry_of bytes =
    cond (eqb (get_or bytes 0 0) 0x40 && leb 3 (length bytes)) (individual (two_bytes bytes 1))
    (cond (eqb (get_or bytes 0 0) 0x41 && leb 6 (length bytes))
    (connection (record { from = two_bytes bytes 1; to = two_bytes bytes 3; role = get_or bytes 5 0 }))
    unreadable)

-- the bytes after it; none, where it cannot be read
unfoldable pub after_entry : Entry → List ℕ → List ℕ
after_entry (individual m) bytes = drop 3 bytes
after_entry (connection c) bytes = drop 6 bytes
after_entry unreadable bytes = []

-- the records of bytes, at most so many
unfoldable pub entries_within : ℕ → List ℕ → List Entry
entries_within zero bytes = []
entries_within (suc n) [] = []
entries_within (suc n) (b ∷ bs) = let e = entry_of (b ∷ bs) in e ∷ entries_within n (after_entry e (b ∷ bs))

-- the records of a file: no more than its bytes
unfoldable pub entries_of : List ℕ → List Entry
entries_of file = entries_within (length file) file

-- how many individuals there are after a record: "Items are numbered as they come"
unfoldable pub individuals_after : ℕ → Entry → ℕ
individuals_after n (individual m) = n + 1
individuals_after n (connection c) = n
individuals_after n unreadable = n

-- of a knowledge base with so many roles, of which `plain` says which parts are names or fresh names
module _ (plain : Set) (roles : ℕ) where
  -- the fault of a record after n individuals, 0 for none: "22, unknown kind or cut off; 23, a 1,025th item; 24, a bit that is no trait
  -- or fresh mark, or an item or link that does not exist"; "a connection names earlier items"
  unfoldable pub entry_fault : ℕ → Entry → ℕ
  entry_fault n (individual m) = cond (leb 1024 n) 23 (cond (every 16 (λ k. not (bit m k) || plain k)) 0 24)
  entry_fault n (connection c) = cond (ltb c.from n && (ltb c.to n && ltb c.role roles)) 0 24
  entry_fault n unreadable = 22

  -- the first fault of records that follow n individuals: "by record" 22 to 24, "at the end 25, no items"
  unfoldable pub first_fault : ℕ → List Entry → ℕ
  first_fault n [] = cond (eqb n 0) 25 0
  first_fault n (e ∷ es) = or_else (entry_fault n e) (first_fault (individuals_after n e) es)

-- what records draw: the names and fresh names of each individual, and the connections
pub record Drawing : Type 0 where
  pub names : List ℕ
  pub connections : List Connection

-- the names and fresh names of the individuals, "numbered as they come"
unfoldable pub names_of : List Entry → List ℕ
names_of [] = []
names_of (individual m ∷ es) = m ∷ names_of es
names_of (connection c ∷ es) = names_of es
names_of (unreadable ∷ es) = names_of es

-- the connections, which "may repeat"
unfoldable pub connections_of : List Entry → List Connection
connections_of [] = []
connections_of (individual m ∷ es) = connections_of es
connections_of (connection c ∷ es) = c ∷ connections_of es
connections_of (unreadable ∷ es) = connections_of es

-- what a file draws
abbrev pub drawing_of : List ℕ → Drawing
drawing_of file = record { names = names_of (entries_of file); connections = connections_of (entries_of file) }
