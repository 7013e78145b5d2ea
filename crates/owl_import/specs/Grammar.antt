-- The forms of a text (02, N7): what is read of it, as axioms, or the first refusal in it.
-- The concepts that are read have no record numbers: where Concepts.Concept wants one, 0 stands.
use Rattle.std.specs.Prelude.{ℕ, zero, suc, List, [], ◌∷◌}
use Rattle.syntax.specs.Concepts.{Role, named, inverse, Concept, top_c, bottom_c, name_c, not_c, and_c, or_c, exists_c, forall_c, Axiom}
use Rattle.owl_words.specs.declared.Word.{Word}
use Rattle.owl_words.specs.declared.Word.TheVariants.{SubClassOf, IntersectionOf, UnionOf, ComplementOf, SomeValuesFrom, AllValuesFrom, InverseOf, Thing, Nothing, ClassNamed, PropertyNamed, Opening, Closing, Unknown, Ending}
use Rattle.owl_words.specs.Words.{Token, next}

-- a refusal's number and how many bytes are left at its place; or what was read, how many records may still begin, and what
-- stands after it
pub data Parsed (A : Type 0) : Type 0 where
  refused : ℕ → ℕ → Parsed A
  done : A → ℕ → List ℕ → Parsed A

unfoldable pub and_then : {A B : Type 0} → Parsed A → (A → ℕ → List ℕ → Parsed B) → Parsed B
and_then (refused n l) f = refused n l
and_then (done a room s) f = f a room s

-- "18, word not known, with its byte; 19, a known word or parenthesis that cannot stand there, with its byte, or a text ending
-- inside a form, place the text's length"
unfoldable pub wrong_no : Word → ℕ
wrong_no Unknown = 18
wrong_no _ = 19

abbrev pub wrong : {A : Type 0} → Token → Parsed A
wrong t = refused (wrong_no t.word) t.left

-- "3, over 255 records, counted as each form or name begins"
unfoldable pub counted : {A : Type 0} → ℕ → (ℕ → Parsed A) → Parsed A
counted zero f = refused 3 0
counted (suc room) f = f room

-- how something is read, from the records that may still begin and a text
abbrev pub Reader : Type 0 → Type 0
Reader A = ℕ → List ℕ → Parsed A

-- a parenthesis
unfoldable pub opens : Token → Word → ℕ → Parsed Unit
opens t Opening room = done tt room t.rest
opens t _ room = wrong t

abbrev pub opening : Reader Unit
opening room s = opens (next s) (next s).word room

unfoldable pub closes : Token → Word → ℕ → Parsed Unit
closes t Closing room = done tt room t.rest
closes t _ room = wrong t

abbrev pub closing : Reader Unit
closing room s = closes (next s) (next s).word room

-- what is made, once the form is closed
abbrev pub closed : {A : Type 0} → A → Reader A
closed a room s = and_then (closing room s) (λ _ room s. done a room s)

-- a form's operands in parentheses
unfoldable pub one : {A B : Type 0} → Reader A → (A → B) → Reader B
one p make room s = and_then (opening room s) (λ _ room s. and_then (p room s) (λ a room s. closed (make a) room s))

unfoldable pub two : {A B C : Type 0} → Reader A → Reader B → (A → B → C) → Reader C
two p q make room s =
    and_then (opening room s)
    (λ _ room s. and_then (p room s) (λ a room s. and_then (q room s) (λ b room s. closed (make a b) room s)))

-- a named property that is no record of its own
unfoldable pub property_by : Token → Word → ℕ → Parsed ℕ
property_by t (PropertyNamed n) room = done n room t.rest
property_by t _ room = wrong t

abbrev pub property : Reader ℕ
property room s = property_by (next s) (next s).word room

-- a role: "ObjectInverseOf of a named property", "an inverse with its name as one"
unfoldable pub role_by : Token → Word → ℕ → Parsed Role
role_by t InverseOf room = counted room (λ room. one property inverse room t.rest)
role_by t (PropertyNamed n) room = counted room (λ room. done (named n) room t.rest)
role_by t _ room = wrong t

abbrev pub role : Reader Role
role room s = role_by (next s) (next s).word room

-- a concept, where `inner` reads the concepts in it
unfoldable pub concept_by : Reader Concept → Token → Word → ℕ → Parsed Concept
concept_by inner t IntersectionOf room = counted room (λ room. two inner inner and_c room t.rest)
concept_by inner t UnionOf room = counted room (λ room. two inner inner or_c room t.rest)
concept_by inner t ComplementOf room = counted room (λ room. one inner not_c room t.rest)
concept_by inner t SomeValuesFrom room = counted room (λ room. two role inner (exists_c 0 0) room t.rest)
concept_by inner t AllValuesFrom room = counted room (λ room. two role inner (forall_c 0 0) room t.rest)
concept_by inner t Thing room = counted room (λ room. done top_c room t.rest)
concept_by inner t Nothing room = counted room (λ room. done bottom_c room t.rest)
concept_by inner t (ClassNamed n) room = counted room (λ room. done (name_c n) room t.rest)
concept_by inner t _ room = wrong t

-- forms within forms, at most so deep: one deeper than records may begin, so that 3 comes first
unfoldable pub concept : ℕ → Reader Concept
concept zero room s = refused 3 0
concept (suc deep) room s = concept_by (concept deep) (next s) (next s).word room

-- "at most 255 records"
abbrev pub most : ℕ
most = 255

abbrev pub axiom2 : Concept → Concept → Axiom
axiom2 c d = record { left = c; right = d }

-- "SubClassOf .. axioms stand alone, in a row"; `others` reads those after the first
unfoldable pub axioms_by : Reader (List Axiom) → Token → Word → ℕ → Parsed (List Axiom)
axioms_by others t SubClassOf room =
    counted room (λ room. and_then (two (concept (suc most)) (concept (suc most)) axiom2 room t.rest)
    (λ a room s. and_then (others room s) (λ l room s. done (a ∷ l) room s)))
axioms_by others t Ending room = done [] room t.rest
axioms_by others t _ room = wrong t

unfoldable pub axioms : ℕ → Reader (List Axiom)
axioms zero room s = refused 3 0
axioms (suc many) room s = axioms_by (axioms many) (next s) (next s).word room

unfoldable pub parse : List ℕ → Parsed (List Axiom)
parse s = axioms (suc most) most s
