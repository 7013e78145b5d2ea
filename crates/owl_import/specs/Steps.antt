-- What the parser's methods tell each other (contracts between the crate's own functions).
use Rattle.std.specs.Prelude.{◌≡◌, ◌≢◌, ℕ, ◌+◌, ◌-◌, ◌<◌, ◌≤◌, List, ◌++◌, length, Result, Ok, Err}
use Rattle.refusals.specs.Numbers.{number}
use Rattle.refusals.specs.declared.Refusal.{Refusal}
use Rattle.owl_words.specs.declared.Word.{Word}
use Rattle.owl_words.specs.Words.{next}
use Rattle.owl_import.specs.declared.parser.Parser.{Parser}
use Rattle.owl_import.specs.declared.sheet.Sheet.{Sheet}
use Rattle.owl_import.specs.Grammar.{Parsed, refused, done, wrong_no, counted, opening, closing, property, Reader, role, two, concept, axioms}
use Rattle.records.specs.Shapes.{shape_of}
use Rattle.syntax.specs.Laid.{Rec, laid}
use Rattle.owl_import.specs.RecordsOf.{last_of, put_role, joins, put_concept, put_axioms}
use Rattle.owl_import.specs.Import.{place_of}

-- the records that are written
pub record Stored (rs : List Rec) (s : Sheet) : Type 0 where
  pub count : length rs ≡ s.count
  pub bytes : s.bytes.items ≡ laid rs

-- the same, and the number of the last
pub record Wrote (rs : List Rec) (x : ℕ) (s : Sheet) : Type 0 where
  pub stored : Stored rs s
  pub last : x ≡ last_of rs

-- a record's bytes behind those that were there, and its number
pub record Put (written : List ℕ) (before : Sheet) (x : ℕ) (after : Sheet) : Type 0 where
  pub bytes : after.bytes.items ≡ before.bytes.items ++ written
  pub count : after.count ≡ before.count + 1
  pub number : x ≡ before.count

-- what is answered and left is what is parsed of a text, where Q holds of what was read, of the answer and of the parser
unfoldable pub Reads : {A B : Type 0} → Parser → Parsed A → (A → B → Parser → Type 0) → Result B Refusal → Parser → Type 0
Reads p (refused n l) Q (Ok x) q = ⊥
Reads p (refused n l) Q (Err e) q = (number e.reason ≡ n) × (e.place ≡ place_of p.text.now n l)
Reads p (done a room s) Q (Ok x) q = (q.text.now ≡ p.text.now) × (q.room ≡ room) × (q.rest.now ≡ s) × Q a x q
Reads p (done a room s) Q (Err e) q = ⊥

-- nothing is written, and nothing begins
pub record Stays (p q : Parser) : Type 0 where
  pub room : q.room ≡ p.room
  pub sheet : q.sheet ≡ p.sheet

-- the records that are written, and those that may still begin
pub record Moves (p q : Parser) : Type 0 where
  pub few : q.sheet.count + q.room ≤ p.sheet.count + p.room
  pub room : q.room ≤ p.room

-- a record that is counted, and not yet written
pub record Opens (p q : Parser) : Type 0 where
  pub few : q.sheet.count + q.room < p.sheet.count + p.room
  pub room : q.room < p.room
  pub sheet : q.sheet ≡ p.sheet

-- a record that was counted before is written
pub record Closes (p q : Parser) : Type 0 where
  pub few : q.sheet.count + q.room ≤ p.sheet.count + p.room + 1
  pub room : q.room ≤ p.room

-- the next word and its place
pub record Next (p : Parser) (r : Word × ℕ) (q : Parser) : Type 0 where
  pub word : r.0 ≡ (next p.rest.now).word
  pub place : r.1 ≡ length p.text.now - (next p.rest.now).left
  pub text : q.text.now ≡ p.text.now
  pub rest : q.rest.now ≡ (next p.rest.now).rest
  pub room : q.room ≡ p.room
  pub sheet : q.sheet ≡ p.sheet

-- a word's refusal
pub record Wrong (w : Word) (at : ℕ) (e : Refusal) : Type 0 where
  pub number : number e.reason ≡ wrong_no w
  pub place : e.place ≡ at

-- a word that is wanted there, or its refusal
unfoldable pub Expects : Word → Parser → Result Unit Refusal → Parser → Type 0
Expects w p (Ok x) q = Next p (w, length p.text.now - (next p.rest.now).left) q
Expects w p (Err e) q = ((next p.rest.now).word ≢ w) × Wrong (next p.rest.now).word (length p.text.now - (next p.rest.now).left) e

-- a record begins
abbrev pub BeginningRead : Parser → Result Unit Refusal → Parser → Type 0
BeginningRead p r q = Reads p (counted p.room (λ room. done (tt {0}) room p.rest.now)) (λ _ _ _. Unit) r q

-- a record that is written as it begins
abbrev pub LeafRead : List ℕ → Parser → Result ℕ Refusal → Parser → Type 0
LeafRead bytes p r q = Reads p (counted p.room (λ room. done (tt {0}) room p.rest.now)) (λ _ x t. Put bytes p.sheet x t.sheet) r q

abbrev pub OpeningRead : Parser → Result Unit Refusal → Parser → Type 0
OpeningRead p r q = Reads p (counted p.room (λ room. opening room p.rest.now)) (λ _ _ _. Unit) r q

abbrev pub ClosingRead : List ℕ → Parser → Result ℕ Refusal → Parser → Type 0
ClosingRead bytes p r q = Reads p (closing p.room p.rest.now) (λ _ x t. Put bytes p.sheet x t.sheet) r q

abbrev pub PropertyRead : Parser → Result ℕ Refusal → Parser → Type 0
PropertyRead p r q = Reads p (property p.room p.rest.now) (λ n x t. (x ≡ n) × (t.sheet ≡ p.sheet)) r q

-- what two operands are, before a form is made of them
abbrev pub both : {A B : Type 0} → A → B → A × B
both a b = (a, b)

-- a role read and written
abbrev pub RoleRead : Parser → Result ℕ Refusal → Parser → Type 0
RoleRead p r q =
    (rs : List Rec) → Stored rs p.sheet → Reads p (role p.room p.rest.now) (λ u x t. Wrote (put_role rs u) x t.sheet) r q

-- a concept read and written
abbrev pub ConceptRead : Parser → Result ℕ Refusal → Parser → Type 0
ConceptRead p r q =
    (deep : ℕ) (rs : List Rec) → p.room < deep → Stored rs p.sheet →
    Reads p (concept deep p.room p.rest.now) (λ c x t. Wrote (put_concept rs c) x t.sheet) r q

-- a form of two operands read, and written under a kind
abbrev pub FormRead : {A : Type 0} → (ℕ → Reader A) → (List Rec → A → List Rec) → ℕ → Parser → Result ℕ Refusal → Parser → Type 0
FormRead rd put_first kind p r q =
    (deep : ℕ) (rs : List Rec) → p.room ≤ deep → Stored rs p.sheet → (shape_of kind).body ≡ 2 →
    Reads p (counted p.room (λ room. two (rd deep) (concept deep) both room p.rest.now))
    (λ c x t. Wrote (joins kind (put_first rs c.0) (put_concept (put_first rs c.0) c.1)) x t.sheet) r q

abbrev pub PairRead : ℕ → Parser → Result ℕ Refusal → Parser → Type 0
PairRead = FormRead concept put_concept

abbrev pub RestrictionRead : ℕ → Parser → Result ℕ Refusal → Parser → Type 0
RestrictionRead = FormRead (λ _. role) put_role

-- axioms read and written
abbrev pub AxiomsRead : Parser → Result Unit Refusal → Parser → Type 0
AxiomsRead p r q =
    (many : ℕ) (rs : List Rec) → p.room < many → Stored rs p.sheet →
    Reads p (axioms many p.room p.rest.now) (λ l _ t. Stored (put_axioms rs l) t.sheet) r q
