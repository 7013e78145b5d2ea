-- What is read of a text has small numbers, simple roles and no record numbers, and is as large as the records that began.
use Prim.Native.Nat.{ℕ, zero, suc, ◌+◌, ◌<◌}
use mathlib.Core.Path.{◌≡◌, refl, ap}
use mathlib.Core.Bool.{Bool, true, false, cond}
use mathlib.Core.List.{List, [], ◌∷◌}
use lib.ListN.{length}
use lib.Dec.{eqb}
use native.Mathlib.Omega.{arith}
use Rattle.syntax.specs.Concepts.{Role, named, inverse, not_r, and_r, or_r, Concept, top_c, bottom_c, name_c, not_c, and_c, or_c, exists_c, forall_c, Axiom}
use Rattle.syntax.specs.Bounds.{All, NamesBelow, EachRole, AxiomNames, AxiomRoles}
use Rattle.owl_words.specs.declared.Word.{Word}
use Rattle.owl_words.specs.declared.Word.TheVariants.{SubClassOf, IntersectionOf, UnionOf, ComplementOf, SomeValuesFrom, AllValuesFrom, InverseOf, Thing, Nothing, ClassNamed, PropertyNamed, Opening, Closing, Ending}
use Rattle.owl_words.specs.Words.{Token, token, spelling, known_words, same_bytes, spelled, known, skip, letters, past, front, next}
use Rattle.owl_import.specs.Grammar.{Parsed, refused, done, and_then, counted, opens, opening, closes, closing, closed, Reader, one, two, property_by, property, role_by, role, concept_by, concept, most, axiom2, axioms_by, axioms, parse}
use Rattle.syntax.specs.WrittenAlike.{bare, bare_axiom, bare_axioms}

-- a role that export writes
abbrev pub Small : Role → Type 0
Small (named k) = k < 4
Small (inverse k) = k < 4
Small (not_r u) = ⊥
Small (and_r u v) = ⊥
Small (or_r u v) = ⊥

-- the number in a known name
abbrev WordLow : Word → Type 0
WordLow (ClassNamed n) = n < 12
WordLow (PropertyNamed n) = n < 4
WordLow _ = Unit

spelled-low : (ws : List Word) → All WordLow ws → (s : List ℕ) → WordLow (spelled ws s)
unfolding spelled
spelled-low [] h s = tt
spelled-low (w ∷ ws) h s = go (same_bytes s (spelling w)) (spelled-low ws h.1 s)
  where
    go : (b : Bool) → WordLow (spelled ws s) → WordLow (cond b w (spelled ws s))
    go true k = h.0
    go false k = k

pub known-low : (s : List ℕ) → WordLow (known s)
unfolding known known_words
known-low s = spelled-low known_words (omega arith) s

front_low : (s : List ℕ) → WordLow (front s).word
unfolding front
front_low [] = tt
front_low (b ∷ s) = go (eqb b 40) (eqb b 41)
  where
    go : (x y : Bool) → WordLow (cond x (token Opening (suc (length s)) s) (cond y (token Closing (suc (length s)) s)
        (token (known (letters (b ∷ s))) (suc (length s)) (past (b ∷ s))))).word
    go true y = tt
    go false true = tt
    go false false = known-low (letters (b ∷ s))

-- what holds of what is read, if something is
abbrev pub Gives : {A : Type 0} → (A → ℕ → Type 0) → Parsed A → Type 0
Gives P (refused n l) = Unit
Gives P (done a room s) = P a room

gives_then : {A B : Type 0} (P : A → ℕ → Type 0) (Q : B → ℕ → Type 0) (p : Parsed A) (f : A → ℕ → List ℕ → Parsed B) → Gives P p →
    ((a : A) (room : ℕ) (s : List ℕ) → P a room → Gives Q (f a room s)) → Gives Q (and_then p f)
unfolding and_then
gives_then P Q (refused n l) f h k = tt
gives_then P Q (done a room s) f h k = k a room s h

gives_counted : {A : Type 0} (Q : A → ℕ → Type 0) (room : ℕ) (f : ℕ → Parsed A) → ((r : ℕ) → suc r ≡ room → Gives Q (f r)) → Gives Q (counted room f)
unfolding counted
gives_counted Q zero f h = tt
gives_counted Q (suc room) f h = h room refl

gives_opens : (room : ℕ) (t : Token) (w : Word) → Gives (λ _ r. r ≡ room) (opens t w room)
unfolding opens
gives_opens room t Opening = refl
gives_opens room t _ = tt

gives_closes : (room : ℕ) (t : Token) (w : Word) → Gives (λ _ r. r ≡ room) (closes t w room)
unfolding closes
gives_closes room t Closing = refl
gives_closes room t _ = tt

gives_closed : {A : Type 0} (Q : A → ℕ → Type 0) (a : A) (room : ℕ) (s : List ℕ) → Q a room → Gives Q (closed a room s)
gives_closed Q a room s q =
    gives_then (λ _ r. r ≡ room) Q (closing room s) (λ _ room s. done a room s) (gives_closes room (next s) (next s).word) (λ u r s e. rw e q)

one_gives : {A B : Type 0} (P : A → ℕ → Type 0) (Q : B → ℕ → Type 0) (p : Reader A) (make : A → B) (room : ℕ) (s : List ℕ) →
    ((s : List ℕ) → Gives P (p room s)) → ((a : A) (r : ℕ) → P a r → Q (make a) r) → Gives Q (one p make room s)
unfolding one
one_gives P Q p make room s h k =
    gives_then (λ _ r. r ≡ room) Q (opening room s) (λ _ room s. and_then (p room s) (λ a room s. closed (make a) room s)) (gives_opens room (next s) (next s).word)
    (λ u r s e. gives_then P Q (p r s) (λ a room s. closed (make a) room s) (rw e (h s))
    (λ a room s q. gives_closed Q (make a) room s (k a room q)))

two_gives : {A B C : Type 0} (P : A → ℕ → Type 0) (R : A → ℕ → B → ℕ → Type 0) (Q : C → ℕ → Type 0) (p : Reader A) (q : Reader B) (make : A → B → C) (room : ℕ) (s : List ℕ) →
    ((s : List ℕ) → Gives P (p room s)) → ((a : A) (r : ℕ) (s : List ℕ) → P a r → Gives (R a r) (q r s)) →
    ((a : A) (r : ℕ) (b : B) (e : ℕ) → P a r → R a r b e → Q (make a b) e) → Gives Q (two p q make room s)
unfolding two
two_gives P R Q p q make room s h g k =
    gives_then (λ _ r. r ≡ room) Q (opening room s)
    (λ _ room s. and_then (p room s) (λ a room s. and_then (q room s) (λ b room s. closed (make a b) room s))) (gives_opens room (next s) (next s).word)
    (λ u r s e. gives_then P Q (p r s) (λ a room s. and_then (q room s) (λ b room s. closed (make a b) room s)) (rw e (h s))
    (λ a r s x. gives_then (R a r) Q (q r s) (λ b room s. closed (make a b) room s) (g a r s x)
    (λ b e s y. gives_closed Q (make a b) e s (k a r b e x y))))

-- how many records a concept, an axiom and axioms have when import writes them
unfoldable pub size : Concept → ℕ
size top_c = 1
size bottom_c = 1
size (name_c t) = 1
size (not_c c) = size c + 1
size (and_c c d) = size c + size d + 1
size (or_c c d) = size c + size d + 1
size (exists_c r f u c) = 1 + size c + 1
size (forall_c r f u c) = 1 + size c + 1

abbrev pub axiom_size : Axiom → ℕ
axiom_size a = size a.left + size a.right + 1

unfoldable pub axioms_size : List Axiom → ℕ
axioms_size [] = 0
axioms_size (a ∷ l) = axiom_size a + axioms_size l

property_gives : (room : ℕ) (t : Token) (w : Word) → WordLow w → Gives (λ k r. (k < 4) × (r ≡ room)) (property_by t w room)
unfolding property_by
property_gives room t (PropertyNamed n) h = (h, refl)
property_gives room t _ h = tt

-- a role, and how many records may begin before it and after it
abbrev RoleTook : ℕ → Role → ℕ → Type 0
RoleTook room u after = Small u × (after + 1 ≡ room)

role_gives : (room : ℕ) (t : Token) (w : Word) → WordLow w → Gives (RoleTook room) (role_by t w room)
unfolding role_by
role_gives room t InverseOf h =
    gives_counted (RoleTook room) room (λ room. one property inverse room t.rest)
    (λ r e. one_gives (λ k x. (k < 4) × (x ≡ r)) (RoleTook room) property inverse r t.rest
    (λ s. property_gives r (next s) (next s).word (front_low (skip s))) (λ k x q. (q.0, omega arith)))
role_gives room t (PropertyNamed n) h = gives_counted (RoleTook room) room (λ room. done (named n) room t.rest) (λ r e. (h, omega arith))
role_gives room t _ h = tt

-- a concept without record numbers, and how many records may begin before it and after it
pub record Took (room : ℕ) (c : Concept) (after : ℕ) : Type 0 where
  pub names : NamesBelow 12 c
  pub roles : EachRole Small c
  pub plain : bare c ≡ c
  pub sized : after + size c ≡ room

module _ (inner : Reader Concept) (good : (room : ℕ) (s : List ℕ) → Gives (Took room) (inner room s)) where
  both : (make : Concept → Concept → Concept) → ((room r x y : ℕ) (c d : Concept) → suc r ≡ room → Took r c x → Took x d y → Took room (make c d) y) →
      (room r : ℕ) (s : List ℕ) → suc r ≡ room → Gives (Took room) (two inner inner make r s)
  both make f room r s e =
      two_gives (Took r) (λ c x. Took x) (Took room) inner inner make r s (good r) (λ c x s q. good x s) (λ c x d y p q. f room r x y c d e p q)

  under : (make : Role → Concept → Concept) → ((room r x y : ℕ) (u : Role) (d : Concept) → suc r ≡ room → RoleTook r u x → Took x d y → Took room (make u d) y) →
      (room r : ℕ) (s : List ℕ) → suc r ≡ room → Gives (Took room) (two role inner make r s)
  under make f room r s e =
      two_gives (RoleTook r) (λ c x. Took x) (Took room) role inner make r s (λ s. role_gives r (next s) (next s).word (front_low (skip s))) (λ c x s q. good x s)
      (λ u x d y p q. f room r x y u d e p q)

  concept-by : (room : ℕ) (t : Token) (w : Word) → WordLow w → Gives (Took room) (concept_by inner t w room)
  unfolding concept_by NamesBelow EachRole bare size
  concept-by room t IntersectionOf h =
      gives_counted (Took room) room (λ room. two inner inner and_c room t.rest)
      (λ r e. both and_c (λ room r x y c d e p q. record { names = (p.names, q.names); roles = (p.roles, q.roles); plain = cc; sized = omega arith }) room r t.rest e)
  concept-by room t UnionOf h =
      gives_counted (Took room) room (λ room. two inner inner or_c room t.rest)
      (λ r e. both or_c (λ room r x y c d e p q. record { names = (p.names, q.names); roles = (p.roles, q.roles); plain = cc; sized = omega arith }) room r t.rest e)
  concept-by room t ComplementOf h =
      gives_counted (Took room) room (λ room. one inner not_c room t.rest)
      (λ r e. one_gives (Took r) (Took room) inner not_c r t.rest (good r)
      (λ c x p. record { names = p.names; roles = p.roles; plain = ap not_c p.plain; sized = omega arith }))
  concept-by room t SomeValuesFrom h =
      gives_counted (Took room) room (λ room. two role inner (exists_c 0 0) room t.rest)
      (λ r e. under (exists_c 0 0) (λ room r x y u d e p q. record { names = q.names; roles = (p.0, q.roles); plain = ap (exists_c 0 0 u) q.plain; sized = omega arith }) room r t.rest e)
  concept-by room t AllValuesFrom h =
      gives_counted (Took room) room (λ room. two role inner (forall_c 0 0) room t.rest)
      (λ r e. under (forall_c 0 0) (λ room r x y u d e p q. record { names = q.names; roles = (p.0, q.roles); plain = ap (forall_c 0 0 u) q.plain; sized = omega arith }) room r t.rest e)
  concept-by room t Thing h = gives_counted (Took room) room (λ room. done top_c room t.rest) (λ r e. record { names = tt; roles = tt; plain = refl; sized = omega arith })
  concept-by room t Nothing h = gives_counted (Took room) room (λ room. done bottom_c room t.rest) (λ r e. record { names = tt; roles = tt; plain = refl; sized = omega arith })
  concept-by room t (ClassNamed n) h = gives_counted (Took room) room (λ room. done (name_c n) room t.rest) (λ r e. record { names = h; roles = tt; plain = refl; sized = omega arith })
  concept-by room t _ h = tt

pub concept_gives : (deep room : ℕ) (s : List ℕ) → Gives (Took room) (concept deep room s)
unfolding concept
concept_gives zero room s = tt
concept_gives (suc deep) room s = concept-by (concept deep) (concept_gives deep) room (next s) (next s).word (front_low (skip s))

pub record AxiomsTook (room : ℕ) (l : List Axiom) (after : ℕ) : Type 0 where
  pub names : AxiomNames 12 l
  pub roles : AxiomRoles Small l
  pub plain : bare_axioms l ≡ l
  pub sized : after + axioms_size l ≡ room

-- an axiom whose word was counted
record AxiomTook (room : ℕ) (a : Axiom) (after : ℕ) : Type 0 where
  names : NamesBelow 12 a.left × NamesBelow 12 a.right
  roles : EachRole Small a.left × EachRole Small a.right
  plain : bare_axiom a ≡ a
  sized : after + axiom_size a ≡ room

more : (room x y : ℕ) (a : Axiom) (l : List Axiom) → AxiomTook room a x → AxiomsTook x l y → AxiomsTook room (a ∷ l) y
unfolding axioms_size
more room x y a l p q =
    record {
      names = (p.names.0, p.names.1, q.names);
      roles = (p.roles.0, p.roles.1, q.roles);
      plain = cc;
      sized = omega arith;
    }

axioms-by : (others : Reader (List Axiom)) → ((room : ℕ) (s : List ℕ) → Gives (AxiomsTook room) (others room s)) → (room : ℕ) (t : Token) (w : Word) →
    Gives (AxiomsTook room) (axioms_by others t w room)
unfolding axioms_by axioms_size
axioms-by others good room t SubClassOf =
    gives_counted (AxiomsTook room) room
    (λ room. and_then (two (concept (suc most)) (concept (suc most)) axiom2 room t.rest) (λ a room s. and_then (others room s) (λ l room s. done (a ∷ l) room s)))
    (λ r e. gives_then (AxiomTook room) (AxiomsTook room) (two (concept (suc most)) (concept (suc most)) axiom2 r t.rest) (λ a room s. and_then (others room s) (λ l room s. done (a ∷ l) room s))
    (two_gives (Took r) (λ c x. Took x) (AxiomTook room) (concept (suc most)) (concept (suc most)) axiom2 r t.rest (concept_gives (suc most) r) (λ c x s q. concept_gives (suc most) x s)
    (λ c x d y p q. record { names = (p.names, q.names); roles = (p.roles, q.roles); plain = cc; sized = omega arith }))
    (λ a x s p. gives_then (AxiomsTook x) (AxiomsTook room) (others x s) (λ l room s. done (a ∷ l) room s) (good x s)
    (λ l y s q. more room x y a l p q)))
axioms-by others good room t Ending = record { names = tt; roles = tt; plain = refl; sized = omega arith }
axioms-by others good room t _ = tt

axioms_gives : (many room : ℕ) (s : List ℕ) → Gives (AxiomsTook room) (axioms many room s)
unfolding axioms
axioms_gives zero room s = tt
axioms_gives (suc many) room s = axioms-by (axioms many) (axioms_gives many) room (next s) (next s).word

-- what is read of any text
pub parse_gives : (s : List ℕ) → Gives (AxiomsTook most) (parse s)
unfolding parse
parse_gives s = axioms_gives (suc most) most s
