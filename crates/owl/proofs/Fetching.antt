-- What export writes of axioms, the grammar reads back without record numbers, or refuses with 3.
use Prim.Native.Nat.{ℕ, zero, suc, ◌≤◌, ◌<◌}
use mathlib.Core.Path.{◌≡◌, refl, ◌∙◌}
use mathlib.Core.Logic.{◌⊎◌, inl, inr, ⊎_elim}
use mathlib.Core.Bool.{Bool, true, false}
use mathlib.Core.List.{List, [], ◌∷◌, ◌++◌, append_assoc}
use lib.ListN.{length}
use lib.Dec.{eqb}
use native.Mathlib.Omega.{arith}
use borrow.Author.Tests.{eqb-true, eqb-false}
use Rattle.syntax.specs.Concepts.{Role, named, inverse, not_r, and_r, or_r, Concept, top_c, bottom_c, name_c, not_c, and_c, or_c, exists_c, forall_c, Axiom}
use Rattle.syntax.specs.Bounds.{NamesBelow, EachRole, AxiomNames, AxiomRoles}
use Rattle.owl_words.specs.declared.Word.{Word}
use Rattle.owl_words.specs.declared.Word.TheVariants.{SubClassOf, IntersectionOf, UnionOf, ComplementOf, SomeValuesFrom, AllValuesFrom, InverseOf, Thing, Nothing, ClassNamed, PropertyNamed}
use Rattle.owl_words.specs.Words.{token, digits, spelling, known_words, same_bytes, spelled, known, skip, letters, past, front, next}
use Rattle.output.specs.Text.{text}
use Rattle.owl_import.specs.Grammar.{Parsed, refused, done, and_then, counted, opens, closes, closed, Reader, one, two, property_by, property, role_by, role, concept_by, concept, most, axiom2, axioms_by, axioms}
use Rattle.owl_export.specs.AxiomText.{one_text, two_text, role_text, concept_text, axiom_text, axioms_text}
use Rattle.syntax.specs.WrittenAlike.{bare, bare_axiom, bare_axioms}
use Rattle.owl_import.proofs.Parsing.{Small}

-- a was read, and s stands after it; or 3 was refused
abbrev pub Fetched : {A : Type 0} → A → List ℕ → Parsed A → Type 0
Fetched a s (refused n l) = n ≡ 3
Fetched a s (done b room r) = (b ≡ a) × (r ≡ s)

fetched_counted : {A : Type 0} (a : A) (s : List ℕ) (room : ℕ) (f : ℕ → Parsed A) → ((room : ℕ) → Fetched a s (f room)) → Fetched a s (counted room f)
unfolding counted
fetched_counted a s zero f h = refl
fetched_counted a s (suc room) f h = h room

fetched_then : {A B : Type 0} (a : A) (s : List ℕ) (b : B) (t : List ℕ) (p : Parsed A) (f : A → ℕ → List ℕ → Parsed B) → Fetched a s p →
    ((room : ℕ) → Fetched b t (f a room s)) → Fetched b t (and_then p f)
unfolding and_then
fetched_then a s b t (refused n l) f h g = h
fetched_then a s b t (done c room r) f h g = rw (h.0, h.1) (g room)

-- a word in front of a parenthesis
abbrev Fronts : Word → ℕ → Type 0
Fronts w b = (s : List ℕ) → next (spelling w ++ (b ∷ s)) ≡ token w (length (spelling w ++ (b ∷ s))) (b ∷ s)

sub-front : Fronts SubClassOf 40
unfolding spelling text skip front letters past known spelled known_words same_bytes digits
sub-front s = refl

and_front : Fronts IntersectionOf 40
unfolding spelling text skip front letters past known spelled known_words same_bytes digits
and_front s = refl

or_front : Fronts UnionOf 40
unfolding spelling text skip front letters past known spelled known_words same_bytes digits
or_front s = refl

not-front : Fronts ComplementOf 40
unfolding spelling text skip front letters past known spelled known_words same_bytes digits
not-front s = refl

some-front : Fronts SomeValuesFrom 40
unfolding spelling text skip front letters past known spelled known_words same_bytes digits
some-front s = refl

all-front : Fronts AllValuesFrom 40
unfolding spelling text skip front letters past known spelled known_words same_bytes digits
all-front s = refl

inverse-front : Fronts InverseOf 40
unfolding spelling text skip front letters past known spelled known_words same_bytes digits
inverse-front s = refl

-- what may stand behind an operand
abbrev pub Stop : ℕ → Type 0
Stop b = (b ≡ 32) ⊎ (b ≡ 41)

stop_cases : (P : ℕ → Type 0) → P 32 → P 41 → (b : ℕ) → Stop b → P b
stop_cases P p q b h = ⊎_elim (λ e. rw e p) (λ e. rw e q) h

thing_front : (b : ℕ) → Stop b → Fronts Thing b
unfolding spelling text skip front letters past known spelled known_words same_bytes digits
thing_front = stop_cases (Fronts Thing) (λ s. refl) (λ s. refl)

nothing-front : (b : ℕ) → Stop b → Fronts Nothing b
unfolding spelling text skip front letters past known spelled known_words same_bytes digits
nothing-front = stop_cases (Fronts Nothing) (λ s. refl) (λ s. refl)

-- a number from k on is k or a larger one
from : (P : ℕ → Type 0) (k n : ℕ) → P k → (suc k ≤ n → P n) → k ≤ n → P n
from P k n p f h = go (eqb n k) refl
  where
    go : (b : Bool) → eqb n k ≡ b → P n
    go true q = rw (eqb-true n k q) p
    go false q = let e = eqb-false n k q in f (omega arith)

pub below-4 : (P : ℕ → Type 0) → P 0 → P 1 → P 2 → P 3 → (n : ℕ) → n < 4 → P n
below-4 P p0 p1 p2 p3 n h = from P 0 n p0 (from P 1 n p1 (from P 2 n p2 (from P 3 n p3 (λ l. absurd (omega arith))))) (omega arith)

pub below-12 : (P : ℕ → Type 0) → P 0 → P 1 → P 2 → P 3 → P 4 → P 5 → P 6 → P 7 → P 8 → P 9 → P 10 → P 11 → (n : ℕ) → n < 12 → P n
below-12 P p0 p1 p2 p3 p4 p5 p6 p7 p8 p9 p10 p11 n h =
    from P 0 n p0 (from P 1 n p1 (from P 2 n p2 (from P 3 n p3 (from P 4 n p4 (from P 5 n p5 (from P 6 n p6 (from P 7 n p7 (from P 8 n p8
    (from P 9 n p9 (from P 10 n p10 (from P 11 n p11 (λ l. absurd (omega arith))))))))))))) (omega arith)

class_front : (b : ℕ) → Stop b → (n : ℕ) → n < 12 → Fronts (ClassNamed n) b
unfolding spelling text skip front letters past known spelled known_words same_bytes digits
class_front b t n h =
    stop_cases (λ b. Fronts (ClassNamed n) b)
    (below-12 (λ n. Fronts (ClassNamed n) 32) (λ s. refl) (λ s. refl) (λ s. refl) (λ s. refl) (λ s. refl) (λ s. refl) (λ s. refl) (λ s. refl) (λ s. refl) (λ s. refl) (λ s. refl) (λ s. refl) n h)
    (below-12 (λ n. Fronts (ClassNamed n) 41) (λ s. refl) (λ s. refl) (λ s. refl) (λ s. refl) (λ s. refl) (λ s. refl) (λ s. refl) (λ s. refl) (λ s. refl) (λ s. refl) (λ s. refl) (λ s. refl) n h)
    b t

property-front : (b : ℕ) → Stop b → (n : ℕ) → n < 4 → Fronts (PropertyNamed n) b
unfolding spelling text skip front letters past known spelled known_words same_bytes digits
property-front b t n h =
    stop_cases (λ b. Fronts (PropertyNamed n) b)
    (below-4 (λ n. Fronts (PropertyNamed n) 32) (λ s. refl) (λ s. refl) (λ s. refl) (λ s. refl) n h)
    (below-4 (λ n. Fronts (PropertyNamed n) 41) (λ s. refl) (λ s. refl) (λ s. refl) (λ s. refl) n h)
    b t

-- a form of one operand and of two
one_fetched : {A B : Type 0} (p : Reader A) (make : A → B) (a : A) (x s : List ℕ) (room : ℕ) → ((room : ℕ) → Fetched a (41 ∷ s) (p room (x ++ (41 ∷ s)))) →
    Fetched (make a) s (one p make room (40 ∷ (x ++ (41 ∷ s))))
unfolding one and_then opens closes skip front
one_fetched p make a x s room h =
    fetched_then a (41 ∷ s) (make a) s (p room (x ++ (41 ∷ s))) (λ a room s. closed (make a) room s) (h room) (λ room. (refl, refl))

two_fetched : {A B C : Type 0} (p : Reader A) (q : Reader B) (make : A → B → C) (a : A) (b : B) (x y s : List ℕ) (room : ℕ) →
    ((room : ℕ) → Fetched a (32 ∷ (y ++ (41 ∷ s))) (p room (x ++ (32 ∷ (y ++ (41 ∷ s)))))) →
    ((room : ℕ) → Fetched b (41 ∷ s) (q room (32 ∷ (y ++ (41 ∷ s))))) →
    Fetched (make a b) s (two p q make room (40 ∷ (x ++ (32 ∷ (y ++ (41 ∷ s))))))
unfolding two and_then opens closes skip front
two_fetched p q make a b x y s room h k =
    fetched_then a (32 ∷ (y ++ (41 ∷ s))) (make a b) s (p room (x ++ (32 ∷ (y ++ (41 ∷ s)))))
    (λ a room s. and_then (q room s) (λ b room s. closed (make a b) room s)) (h room)
    (λ room.
    fetched_then b (41 ∷ s) (make a b) s (q room (32 ∷ (y ++ (41 ∷ s)))) (λ b room s. closed (make a b) room s) (k room)
    (λ room. (refl, refl)))

one-ends : (w : Word) (x : List ℕ) (b : ℕ) (s : List ℕ) → one_text w x ++ (b ∷ s) ≡ spelling w ++ (40 ∷ (x ++ (41 ∷ b ∷ s)))
one-ends w x b s = simp append_assoc

two_ends : (w : Word) (x y s : List ℕ) → two_text w x y ++ s ≡ spelling w ++ (40 ∷ (x ++ (32 ∷ (y ++ (41 ∷ s)))))
two_ends w x y s = simp append_assoc

property_fetched : (k : ℕ) → k < 4 → (b : ℕ) (s : List ℕ) → Stop b → (room : ℕ) → Fetched k (b ∷ s) (property room (spelling (PropertyNamed k) ++ (b ∷ s)))
unfolding property_by
property_fetched k h b s t room = rw (property-front b t k h s) (refl, refl)

role_fetched : (u : Role) → Small u → (b : ℕ) (s : List ℕ) → Stop b → (room : ℕ) → Fetched u (b ∷ s) (role room (role_text u ++ (b ∷ s)))
unfolding role_by role_text
role_fetched (named k) h b s t room =
    rw (property-front b t k h s) (fetched_counted (named k) (b ∷ s) room (λ room. done (named k) room (b ∷ s)) (λ room. (refl, refl)))
role_fetched (inverse k) h b s t room =
    rw (one-ends InverseOf (spelling (PropertyNamed k)) b s, inverse-front (spelling (PropertyNamed k) ++ (41 ∷ b ∷ s)))
    (fetched_counted (inverse k) (b ∷ s) room (λ room. one property inverse room (40 ∷ (spelling (PropertyNamed k) ++ (41 ∷ b ∷ s))))
    (λ room. one_fetched property inverse k (spelling (PropertyNamed k)) (b ∷ s) room (property_fetched k h 41 (b ∷ s) (inr refl))))
role_fetched (not_r u) h b s t room = absurd h
role_fetched (and_r u v) h b s t room = absurd h
role_fetched (or_r u v) h b s t room = absurd h

-- a blank in front changes nothing
concept-blank : (d room : ℕ) (s : List ℕ) → concept d room (32 ∷ s) ≡ concept d room s
unfolding concept skip
concept-blank zero room s = refl
concept-blank (suc d) room s = refl

axioms-blank : (d room : ℕ) (s : List ℕ) → axioms d room (10 ∷ s) ≡ axioms d room s
unfolding axioms skip
axioms-blank zero room s = refl
axioms-blank (suc d) room s = refl

-- how each concept of a text is read
abbrev ReadsConcept : ℕ → Concept → Type 0
ReadsConcept d c = (b : ℕ) (s : List ℕ) → Stop b → (room : ℕ) → Fetched (bare c) (b ∷ s) (concept d room (concept_text c ++ (b ∷ s)))

second_fetched : (d : ℕ) (c : Concept) → ReadsConcept d c → (s : List ℕ) (room : ℕ) → Fetched (bare c) (41 ∷ s) (concept d room (32 ∷ (concept_text c ++ (41 ∷ s))))
second_fetched d c h s room = rw (concept-blank d room (concept_text c ++ (41 ∷ s))) (h 41 s (inr refl) room)

pub concept_fetched : (d : ℕ) (c : Concept) → NamesBelow 12 c → EachRole Small c → ReadsConcept d c
unfolding concept concept_by concept_text bare NamesBelow EachRole
concept_fetched zero c n r b s t room = refl
concept_fetched (suc d) top_c n r b s t room =
    rw (thing_front b t s) (fetched_counted top_c (b ∷ s) room (λ room. done top_c room (b ∷ s)) (λ room. (refl, refl)))
concept_fetched (suc d) bottom_c n r b s t room =
    rw (nothing-front b t s) (fetched_counted bottom_c (b ∷ s) room (λ room. done bottom_c room (b ∷ s)) (λ room. (refl, refl)))
concept_fetched (suc d) (name_c k) n r b s t room =
    rw (class_front b t k n s) (fetched_counted (name_c k) (b ∷ s) room (λ room. done (name_c k) room (b ∷ s)) (λ room. (refl, refl)))
concept_fetched (suc d) (not_c c) n r b s t room =
    rw (one-ends ComplementOf (concept_text c) b s, not-front (concept_text c ++ (41 ∷ b ∷ s)))
    (fetched_counted (not_c (bare c)) (b ∷ s) room (λ room. one (concept d) not_c room (40 ∷ (concept_text c ++ (41 ∷ b ∷ s))))
    (λ room. one_fetched (concept d) not_c (bare c) (concept_text c) (b ∷ s) room (concept_fetched d c n r 41 (b ∷ s) (inr refl))))
concept_fetched (suc d) (and_c c e) n r b s t room =
    rw (two_ends IntersectionOf (concept_text c) (concept_text e) (b ∷ s), and_front (concept_text c ++ (32 ∷ (concept_text e ++ (41 ∷ b ∷ s)))))
    (fetched_counted (and_c (bare c) (bare e)) (b ∷ s) room (λ room. two (concept d) (concept d) and_c room (40 ∷ (concept_text c ++ (32 ∷ (concept_text e ++ (41 ∷ b ∷ s))))))
    (λ room. two_fetched (concept d) (concept d) and_c (bare c) (bare e) (concept_text c) (concept_text e) (b ∷ s) room
    (concept_fetched d c n.0 r.0 32 (concept_text e ++ (41 ∷ b ∷ s)) (inl refl))
    (second_fetched d e (concept_fetched d e n.1 r.1) (b ∷ s))))
concept_fetched (suc d) (or_c c e) n r b s t room =
    rw (two_ends UnionOf (concept_text c) (concept_text e) (b ∷ s), or_front (concept_text c ++ (32 ∷ (concept_text e ++ (41 ∷ b ∷ s)))))
    (fetched_counted (or_c (bare c) (bare e)) (b ∷ s) room (λ room. two (concept d) (concept d) or_c room (40 ∷ (concept_text c ++ (32 ∷ (concept_text e ++ (41 ∷ b ∷ s))))))
    (λ room. two_fetched (concept d) (concept d) or_c (bare c) (bare e) (concept_text c) (concept_text e) (b ∷ s) room
    (concept_fetched d c n.0 r.0 32 (concept_text e ++ (41 ∷ b ∷ s)) (inl refl))
    (second_fetched d e (concept_fetched d e n.1 r.1) (b ∷ s))))
concept_fetched (suc d) (exists_c x f u c) n r b s t room =
    rw (two_ends SomeValuesFrom (role_text u) (concept_text c) (b ∷ s), some-front (role_text u ++ (32 ∷ (concept_text c ++ (41 ∷ b ∷ s)))))
    (fetched_counted (exists_c 0 0 u (bare c)) (b ∷ s) room (λ room. two role (concept d) (exists_c 0 0) room (40 ∷ (role_text u ++ (32 ∷ (concept_text c ++ (41 ∷ b ∷ s))))))
    (λ room. two_fetched role (concept d) (exists_c 0 0) u (bare c) (role_text u) (concept_text c) (b ∷ s) room
    (role_fetched u r.0 32 (concept_text c ++ (41 ∷ b ∷ s)) (inl refl))
    (second_fetched d c (concept_fetched d c n r.1) (b ∷ s))))
concept_fetched (suc d) (forall_c x f u c) n r b s t room =
    rw (two_ends AllValuesFrom (role_text u) (concept_text c) (b ∷ s), all-front (role_text u ++ (32 ∷ (concept_text c ++ (41 ∷ b ∷ s)))))
    (fetched_counted (forall_c 0 0 u (bare c)) (b ∷ s) room (λ room. two role (concept d) (forall_c 0 0) room (40 ∷ (role_text u ++ (32 ∷ (concept_text c ++ (41 ∷ b ∷ s))))))
    (λ room. two_fetched role (concept d) (forall_c 0 0) u (bare c) (role_text u) (concept_text c) (b ∷ s) room
    (role_fetched u r.0 32 (concept_text c ++ (41 ∷ b ∷ s)) (inl refl))
    (second_fetched d c (concept_fetched d c n r.1) (b ∷ s))))

pub axioms_fetched : (many room : ℕ) (l : List Axiom) → AxiomNames 12 l → AxiomRoles Small l → Fetched (bare_axioms l) [] (axioms many room (axioms_text l))
unfolding axioms axioms_by axioms_text axiom_text skip front
axioms_fetched zero room l n r = refl
axioms_fetched (suc many) room [] n r = (refl, refl)
axioms_fetched (suc many) room (a ∷ l) n r =
    rw (ends, sub-front (c ++ (32 ∷ (d ++ (41 ∷ 10 ∷ axioms_text l)))))
    (fetched_counted (bare_axiom a ∷ bare_axioms l) [] room
    (λ room. and_then (two (concept (suc most)) (concept (suc most)) axiom2 room (40 ∷ (c ++ (32 ∷ (d ++ (41 ∷ 10 ∷ axioms_text l)))))) f)
    (λ room.
    fetched_then (bare_axiom a) (10 ∷ axioms_text l) (bare_axiom a ∷ bare_axioms l) []
    (two (concept (suc most)) (concept (suc most)) axiom2 room (40 ∷ (c ++ (32 ∷ (d ++ (41 ∷ 10 ∷ axioms_text l)))))) f
    (two_fetched (concept (suc most)) (concept (suc most)) axiom2 (bare a.left) (bare a.right) c d (10 ∷ axioms_text l) room
    (concept_fetched (suc most) a.left n.0 r.0 32 (d ++ (41 ∷ 10 ∷ axioms_text l)) (inl refl))
    (second_fetched (suc most) a.right (concept_fetched (suc most) a.right n.1 r.1) (10 ∷ axioms_text l)))
    (λ room. rw (axioms-blank many room (axioms_text l))
    (fetched_then (bare_axioms l) [] (bare_axiom a ∷ bare_axioms l) [] (axioms many room (axioms_text l)) (λ l room s. done (bare_axiom a ∷ l) room s)
    (axioms_fetched many room l n.2 r.2) (λ room. (refl, refl))))))
  where
    c : List ℕ
    c = concept_text a.left

    d : List ℕ
    d = concept_text a.right

    f : Axiom → ℕ → List ℕ → Parsed (List Axiom)
    f a room s = and_then (axioms many room s) (λ l room s. done (a ∷ l) room s)

    ends : (two_text SubClassOf c d ++ (10 ∷ [])) ++ axioms_text l ≡ spelling SubClassOf ++ (40 ∷ (c ++ (32 ∷ (d ++ (41 ∷ 10 ∷ axioms_text l)))))
    ends = append_assoc (two_text SubClassOf c d) (10 ∷ []) (axioms_text l) ∙ two_ends SubClassOf c d (10 ∷ axioms_text l)
