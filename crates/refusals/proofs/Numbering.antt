-- Laws of the refusals' numbers: no two reasons share one, and each number up to 27 but 0 and 13 is some reason's.
use Rattle.std.specs.Prelude.{ℕ, ◌≡◌, ◌≤◌, ◌≢◌, cond, eqb, refl}
use Rattle.std.proofs.Common.{sym, ap, ◌∙◌, arith}
use Rattle.std.proofs.lemmas.Bool.Decides.{nat_tests}
use Rattle.refusals.specs.Numbers.{number}
use Rattle.refusals.specs.declared.Reason.{Reason}
use Rattle.refusals.specs.declared.Reason.TheVariants.{UnknownKind, BodyCutOff, TooManyRecords, NumberTooLarge, NotEarlier, RoleForConcept, NamedAgain, EmptyRoles, TooManyParts, SetTooShort, NoSuchDomino, ListTooShort, SlotTooLong, QueueCutOff, ConceptForRole, AxiomNamed, UnknownWord, MisplacedWord, BeyondText, OutputTooShort, UnreadableEntry, TooManyIndividuals, NoSuchNumber, NoIndividuals, EmptySet, TooManyMembers}

-- the reason of a number, from a list of reasons in the order of their numbers
abbrev reason_of : ℕ → Reason
reason_of n =
    cond (eqb n 1) UnknownKind
    (cond (eqb n 2) BodyCutOff
    (cond (eqb n 3) TooManyRecords
    (cond (eqb n 4) NumberTooLarge
    (cond (eqb n 5) NotEarlier
    (cond (eqb n 6) RoleForConcept
    (cond (eqb n 7) NamedAgain
    (cond (eqb n 8) EmptyRoles
    (cond (eqb n 9) TooManyParts
    (cond (eqb n 10) SetTooShort
    (cond (eqb n 11) NoSuchDomino
    (cond (eqb n 12) ListTooShort
    (cond (eqb n 14) SlotTooLong
    (cond (eqb n 15) QueueCutOff
    (cond (eqb n 16) ConceptForRole
    (cond (eqb n 17) AxiomNamed
    (cond (eqb n 18) UnknownWord
    (cond (eqb n 19) MisplacedWord
    (cond (eqb n 20) BeyondText
    (cond (eqb n 21) OutputTooShort
    (cond (eqb n 22) UnreadableEntry
    (cond (eqb n 23) TooManyIndividuals
    (cond (eqb n 24) NoSuchNumber
    (cond (eqb n 25) NoIndividuals
    (cond (eqb n 26) EmptySet
    TooManyMembers))))))))))))))))))))))))

reason_of-number : (r : Reason) → reason_of (number r) ≡ r
reason_of-number UnknownKind = refl
reason_of-number BodyCutOff = refl
reason_of-number TooManyRecords = refl
reason_of-number NumberTooLarge = refl
reason_of-number NotEarlier = refl
reason_of-number RoleForConcept = refl
reason_of-number NamedAgain = refl
reason_of-number EmptyRoles = refl
reason_of-number TooManyParts = refl
reason_of-number SetTooShort = refl
reason_of-number NoSuchDomino = refl
reason_of-number ListTooShort = refl
reason_of-number SlotTooLong = refl
reason_of-number QueueCutOff = refl
reason_of-number ConceptForRole = refl
reason_of-number AxiomNamed = refl
reason_of-number UnknownWord = refl
reason_of-number MisplacedWord = refl
reason_of-number BeyondText = refl
reason_of-number OutputTooShort = refl
reason_of-number UnreadableEntry = refl
reason_of-number TooManyIndividuals = refl
reason_of-number NoSuchNumber = refl
reason_of-number NoIndividuals = refl
reason_of-number EmptySet = refl
reason_of-number TooManyMembers = refl

pub number_injective : (a b : Reason) → number a ≡ number b → a ≡ b
number_injective a b e = sym (reason_of-number a) ∙ ap reason_of e ∙ reason_of-number b

pub number_some : (n : ℕ) → 1 ≤ n → n ≤ 27 → n ≢ 13 → (r : Reason) × (number r ≡ n)
number_some n low high not_13 = (reason_of n, number_reason_of)
  where
    number_reason_of : number (reason_of n) ≡ n
    number_reason_of = grind (arith, nat_tests)

-- no reason's number is one that the chain above leaves to its end, but 27
not_listed : (n : ℕ) → reason_of n ≡ TooManyMembers → n ≢ 27 → (r : Reason) → number r ≢ n
not_listed n last not_27 r e =
    let is_last : r ≡ TooManyMembers = sym (reason_of-number r) ∙ ap reason_of e ∙ last in
    not_27 (sym e ∙ ap number is_last)

pub number_not_zero : (r : Reason) → number r ≢ 0
number_not_zero = not_listed 0 refl (λ e. omega arith)

pub number_not_13 : (r : Reason) → number r ≢ 13
number_not_13 = not_listed 13 refl (λ e. omega arith)
