-- A drawn interpretation held against a knowledge base (02, N10: "Check a drawn plant"): the label of each individual, the dominoes, and
-- the first place where it breaks a flattened axiom or a role inclusion.
use Rattle.std.specs.Prelude.{ℕ, zero, suc, Bool, false, not, ◌&&◌, ◌||◌, cond, List, [], ◌∷◌, eqb, ltb, length, get_or}
use Rattle.bitset.specs.Bits.{Set, bit, word}
use Rattle.elimination.specs.Sets.{every, some}
use Rattle.semantics.specs.Interpretations.{Interpretation}
use Rattle.semantics.specs.Dominoes.{Dominoes, unnumbered}
use Rattle.semantics.specs.Conditions.{View}
use Rattle.semantics.specs.Projection.{role_set, projection_of}
use Rattle.drawings.specs.Entries.{Connection, Drawing, first_fault, entries_of}

-- does role k join x to y: a connection says so; "may repeat"
unfoldable pub connects : List Connection → ℕ → ℕ → ℕ → Bool
connects [] k x y = false
connects (c ∷ cs) k x y = (eqb c.role k && (eqb c.from x && eqb c.to y)) || connects cs k x y

-- names and fresh names of individual x, as drawn: "holding its trait and fresh marks, bit n for mark n"
abbrev pub names_at : Drawing → ℕ → ℕ
names_at d x = get_or d.names x 0

-- the interpretation that is drawn. Its names are those of the knowledge base; bits above them, which are fresh names, are in no
-- concept of it
abbrev pub interpretation : Drawing → Interpretation
interpretation d = record { individuals = length d.names; has = λ x t. bit (names_at d x) t; joined = connects d.connections }

-- the least number below n that passes a test, n if none does
unfoldable pub least : ℕ → (ℕ → Bool) → ℕ
least zero f = 0
least (suc n) f = let r = least n f in cond (ltb r n) r (cond (f n) n (suc n))

-- "the answer names the first item that breaks a rule, or else the first ordered pair of items, by from and then to, that breaks a
-- link rule"
pub data Breach : Type 0 where
  unbroken : Breach
  at : ℕ → Breach
  between : ℕ → ℕ → Breach

-- the number of each, then what it names
abbrev pub breach_numbers : Breach → List ℕ
breach_numbers unbroken = 0 ∷ []
breach_numbers (at x) = 1 ∷ x ∷ []
breach_numbers (between x y) = 2 ∷ x ∷ y ∷ []

module _ (v : View) where
  -- is part k a name or a fresh name
  unfoldable pub is_plain : Set
  is_plain k = ltb k v.parts && ltb (v.kind k) 2

  -- the first fault of a file, 0 for none
  unfoldable pub file_fault : List ℕ → ℕ
  file_fault file = first_fault is_plain v.roles 0 (entries_of file)

  module _ (d : Drawing) where
    -- how many: "Items are numbered as they come"
    abbrev pub individuals : ℕ
    individuals = length d.names

    -- the roles from x to y: "bit 2k is link k, bit 2k+1 its reverse" (01)
    unfoldable pub roles_between : ℕ → ℕ → ℕ
    roles_between x y = role_set v.roles (connects d.connections) x y

    -- "Work out the some and only claims from the connections": an existential part is had if some individual with its filler is
    -- reached by its role, a universal part if all that are reached have its filler; fillers, names and fresh names as drawn
    unfoldable pub has_part : ℕ → ℕ → Bool
    has_part x k =
        cond (eqb (v.kind k) 2) (some individuals (λ y. v.holds k (roles_between x y) && v.has k (names_at d y)))
        (cond (eqb (v.kind k) 3) (every individuals (λ y. not (v.holds k (roles_between x y)) || v.has k (names_at d y)))
        (bit (names_at d x) k))

    -- 01's mark set of an item
    unfoldable pub label : ℕ → ℕ
    label x = word v.parts (has_part x)

    -- "write the plant's pairings, self-pairings included": the dominoes of all pairs of individuals
    unfoldable pub drawn_dominoes : Dominoes
    drawn_dominoes = projection_of (interpretation d) v.roles v.parts has_part

    -- "as a set", by their numbers
    unfoldable pub drawn_set : Set
    drawn_set = unnumbered v.parts v.roles drawn_dominoes

    -- "whether every flattened rule and link rule holds for every item": an individual that breaks a flattened axiom, and an ordered
    -- pair that breaks a role inclusion
    unfoldable pub breaks_at : ℕ → Bool
    breaks_at x = not (v.good (label x))

    unfoldable pub breaks_between : ℕ → ℕ → Bool
    breaks_between x y = not (v.closed (roles_between x y))

    -- "the first ordered pair of items, by from and then to": the least x below m from which a pair breaks, then the least y
    unfoldable pub pair_below : ℕ → Breach
    pair_below m =
        let x = least m (λ x. some individuals (breaks_between x)) in
        cond (ltb x m) (between x (least individuals (breaks_between x))) unbroken

    abbrev pub pair_breach : Breach
    pair_breach = pair_below individuals

    -- "the first item that breaks a rule, or else the first ordered pair"
    unfoldable pub breach : Breach
    breach = let x = least individuals breaks_at in cond (ltb x individuals) (at x) pair_breach
