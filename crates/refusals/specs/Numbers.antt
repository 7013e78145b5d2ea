-- The documents' numbers for refusals (01, "The calls, and what each refuses"; 02), and an answer or a refusal as numbers.
use Rattle.std.specs.Prelude.{ℕ, List, [], ◌∷◌, Result, Ok, Err}
use Rattle.refusals.specs.declared.Reason.{Reason}
use Rattle.refusals.specs.declared.Reason.TheVariants.{UnknownKind, BodyCutOff, TooManyRecords, NumberTooLarge, NotEarlier, RoleForConcept, NamedAgain, EmptyRoles, TooManyParts, SetTooShort, NoSuchDomino, ListTooShort, SlotTooLong, QueueCutOff, ConceptForRole, AxiomNamed, UnknownWord, MisplacedWord, BeyondText, OutputTooShort, UnreadableEntry, TooManyIndividuals, NoSuchNumber, NoIndividuals, EmptySet, TooManyMembers}
use Rattle.refusals.specs.declared.Refusal.{Refusal}

abbrev pub number : Reason → ℕ
-- 01, "Read"; 02, N8: "8 also for kind 21"
number UnknownKind = 1
number BodyCutOff = 2
number TooManyRecords = 3
number NumberTooLarge = 4
number NotEarlier = 5
number RoleForConcept = 6
number NamedAgain = 7
number EmptyRoles = 8
number TooManyParts = 9
-- "10, set too short", "11, number not below 2^(2c+2L)", "12, list shorter than 3c bytes"
number SetTooShort = 10
number NoSuchDomino = 11
number ListTooShort = 12
-- 02, N1: "14, slot length above 765", "15, queue cut"; N5: "13 is withdrawn"
number SlotTooLong = 14
number QueueCutOff = 15
-- 02, N6: "16 a class where a link is wanted, 17 a rule named"
number ConceptForRole = 16
number AxiomNamed = 17
-- 02, N7: 18, a word that is not known; 19, a word that cannot stand there; "20, a link with not, and, or in a rule", and N8: "20 also
-- when a sheet to export has one", a rule of kind 21; "then 21, output too short"
number UnknownWord = 18
number MisplacedWord = 19
number BeyondText = 20
number OutputTooShort = 21
-- 02, N10: "by record 22, unknown kind or cut off; 23, a 1,025th item; 24, a bit that is no trait or fresh mark, or an item or link
-- that does not exist; at the end 25, no items"
number UnreadableEntry = 22
number TooManyIndividuals = 23
number NoSuchNumber = 24
number NoIndividuals = 25
-- 02, N11: "26, no survivors; 27, m above 341"
number EmptySet = 26
number TooManyMembers = 27

-- a refusal as numbers: its own and its place
abbrev pub refusal_numbers : Refusal → List ℕ
refusal_numbers r = number r.reason ∷ r.place ∷ []

-- an answer as numbers: "0 for none", place 0 and the answer's values; or the refusal's
abbrev pub numbers_of : {A : Type 0} → (A → List ℕ) → Result A Refusal → List ℕ
numbers_of values (Ok x) = 0 ∷ 0 ∷ values x
numbers_of values (Err r) = refusal_numbers r
