-- Laws of the parser's steps: what a step stands for, and how steps follow one another.
use Rattle.std.proofs.Common.{◌≡◌, ◌≢◌, ℕ, zero, suc, ◌+◌, ◌≤◌, ◌<◌, List, [], ◌∷◌, ◌++◌, Result, Ok, Err, refl, sym, ap, subst, ◌∙◌, arith, false, eqb, length-append, append-nil}
use Rattle.refusals.specs.Numbers.{number}
use Rattle.refusals.specs.declared.Refusal.{Refusal}
use Rattle.refusals.specs.declared.Reason.TheVariants.{TooManyRecords}
use Rattle.owl_words.specs.declared.Word.{Word}
use Rattle.owl_words.specs.declared.Word.TheVariants.{SubClassOf, IntersectionOf, UnionOf, ComplementOf, SomeValuesFrom, AllValuesFrom, InverseOf, Thing, Nothing, ClassNamed, PropertyNamed, Opening, Closing, Unknown, Ending}
use Rattle.owl_words.specs.Words.{Token, token, next}
use Rattle.owl_import.specs.declared.parser.Parser.{Parser}
use Rattle.owl_import.specs.declared.sheet.Sheet.{Sheet}
use Rattle.owl_import.specs.Grammar.{Parsed, refused, done, and_then, wrong_no, wrong, counted, opens, opening, closes, closing, closed, Reader, one, two, property_by, property, role_by, role, concept_by, concept, axioms_by}
use Rattle.syntax.specs.Concepts.{Role, named, inverse, Concept, top_c, bottom_c, name_c, not_c, and_c, or_c, exists_c, forall_c, Axiom}
use Rattle.syntax.specs.Laid.{Rec, rec, rec_bytes, laid}
use Rattle.owl_import.specs.RecordsOf.{put_role, joins, put_concept}
use Rattle.records.specs.Shapes.{shape_of}
use Rattle.std.specs.Result.{IsErrAnd}
use Rattle.std.proofs.lemmas.Result.{err_from_is_err_and}
use Rattle.syntax.proofs.Laying.{laid-append}
use Rattle.owl_import.specs.Steps.{Stored, Wrote, Put, Reads, Next, Wrong, Expects, Opens, Moves, LeafRead, OpeningRead, ClosingRead, PropertyRead, RoleRead, ConceptRead, both, FormRead}

pub wrong_other : (w : Word) → w ≢ Unknown → wrong_no w ≡ 19
unfolding wrong_no
wrong_other Unknown h = absurd (h refl)
wrong_other _ h = refl

-- only the text of the parser before counts
pub reads_text : {A X : Type 0} (Q : A → X → Parser → Type 0) (p q : Parser) (P : Parsed A) (r : Result X Refusal) (t : Parser) → q.text.now ≡ p.text.now → Reads q P Q r t → Reads p P Q r t
unfolding Reads
reads_text Q p q (refused n l) (Ok x) t e h = h
reads_text Q p q (refused n l) (Err d) t e h = (h.0, rw (← e) h.1)
reads_text Q p q (done a room s) (Ok x) t e h = (h.0 ∙ e, h.1, h.2, h.3)
reads_text Q p q (done a room s) (Err d) t e h = h

not_full : (w : Word) → eqb (wrong_no w) 3 ≡ false
unfolding wrong_no
not_full Unknown = refl
not_full _ = refl

pub reads_err : {A X Y : Type 0} (K : A → X → Parser → Type 0) (Q : A → Y → Parser → Type 0) (p : Parser) (P : Parsed A) (e : Refusal) (q t : Parser) → Reads p P K (Err e) q → Reads p P Q (Err e) t
unfolding Reads
reads_err K Q p (refused n l) e q t h = h
reads_err K Q p (done a room s) e q t h = absurd h

pub reads_ok : {A X Y : Type 0} (K : A → X → Parser → Type 0) (Q : A → Y → Parser → Type 0) (p : Parser) (P : Parsed A) (x : X) (y : Y) (q t : Parser) → Reads p P K (Ok x) q →
    t.text.now ≡ q.text.now → t.room ≡ q.room → t.rest.now ≡ q.rest.now → ((a : A) → K a x q → Q a y t) → Reads p P Q (Ok y) t
unfolding Reads
reads_ok K Q p (refused n l) x y q t h e f g k = absurd h
reads_ok K Q p (done a room s) x y q t h e f g k = (e ∙ h.0, f ∙ h.1, g ∙ h.2, k a h.3)

module _ {A B X Y : Type 0} (K : A → X → Parser → Type 0) (Q : B → Y → Parser → Type 0) (f : A → ℕ → List ℕ → Parsed B) (p : Parser) where
  -- a refusal stays
  pub reads_stop : (P : Parsed A) (e : Refusal) (q t : Parser) → Reads p P K (Err e) q → Reads p (and_then P f) Q (Err e) t
  unfolding Reads and_then
  reads_stop (refused n l) e q t h = h
  reads_stop (done a room s) e q t h = absurd h

  -- one step after another
  pub reads_then : (P : Parsed A) (x : X) (q : Parser) (r : Result Y Refusal) (t : Parser) → Reads p P K (Ok x) q →
      ((a : A) → K a x q → Reads q (f a q.room q.rest.now) Q r t) → Reads p (and_then P f) Q r t
  unfolding Reads and_then
  reads_then (refused n l) x q r t h k = absurd h
  reads_then (done a room s) x q r t h k =
      let F : ℕ → Type 0 = λ i. Reads q (f a i q.rest.now) Q r t in
      let G : List ℕ → Type 0 = λ l. Reads q (f a room l) Q r t in
      reads_text Q p q (f a room s) r t h.0 (subst G h.2 (subst F h.1 (k a h.3)))

-- a record that begins, or none that may
module _ {A Y : Type 0} (Q : A → Y → Parser → Type 0) where
  pub begun_stop : (p : Parser) (n : ℕ) (s : List ℕ) (e : Refusal) (q t : Parser) (g : ℕ → Parsed A) →
      Reads {B = Unit {0}} p (counted n (λ room. done (tt {0}) room s)) (λ _ _ _. Unit) (Err e) q → Reads p (counted n g) Q (Err e) t
  unfolding Reads counted
  begun_stop p zero s e q t g h = h
  begun_stop p (suc n) s e q t g h = absurd h

  pub begun_then : (p : Parser) (n : ℕ) (s : List ℕ) (x : Unit {0}) (q : Parser) (r : Result Y Refusal) (t : Parser) (g : Reader A) →
      Reads {B = Unit {0}} p (counted n (λ room. done (tt {0}) room s)) (λ _ _ _. Unit) (Ok x) q → Reads q (g q.room q.rest.now) Q r t → Reads p (counted n (λ room. g room s)) Q r t
  unfolding Reads counted
  begun_then p zero s x q r t g h k = absurd h
  begun_then p (suc n) s x q r t g h k =
      let F : ℕ → Type 0 = λ i. Reads q (g i q.rest.now) Q r t in
      let G : List ℕ → Type 0 = λ l. Reads q (g n l) Q r t in
      reads_text Q p q (g n s) r t h.0 (subst G h.2 (subst F h.1 k))

pub begins : (p q : Parser) (n : ℕ) (s : List ℕ) → n ≡ suc q.room → q.text.now ≡ p.text.now → q.rest.now ≡ s →
    Reads p (counted n (λ room. done (tt {0}) room s)) (λ _ _ _. Unit) (Ok (tt {0})) q
unfolding Reads counted
begins p q zero s e f g = absurd (omega arith)
begins p q (suc n) s e f g = (f, omega arith, g, tt)

pub full : (p q : Parser) (n : ℕ) (s : List ℕ) (e : Refusal) → n ≡ 0 → e.reason ≡ TooManyRecords → e.place ≡ 0 →
    Reads {B = Unit {0}} p (counted n (λ room. done (tt {0}) room s)) (λ _ _ _. Unit) (Err e) q
unfolding Reads counted
full p q zero s e z f g = (ap number f, g)
full p q (suc n) s e z f g = absurd (omega arith)

-- a record written behind those that were there
pub written : (bytes : List ℕ) (s m : Sheet) (x : ℕ) (t : Sheet) → m ≡ s → t.bytes.items ≡ m.bytes.items ++ bytes → t.count ≡ m.count + 1 → x ≡ m.count → Put bytes s x t
written bytes s m x t same b c n = let F : Sheet → Type 0 = λ v. Put bytes v x t in subst F same (record { bytes = b; count = c; number = n })

-- what is made of a record that begins
pub counted_then : {A B : Type 0} (n : ℕ) (g : ℕ → Parsed A) (f : A → ℕ → List ℕ → Parsed B) → and_then (counted n g) f ≡ counted n (λ room. and_then (g room) f)
unfolding counted and_then
counted_then zero g f = refl
counted_then (suc n) g f = refl

-- the next word
module _ (p : Parser) (r : Word × ℕ) (q : Parser) (n : Next p r q) where
  pub next_then : {A X : Type 0} (Q : A → X → Parser → Type 0) (G : Token → Word → ℕ → Parsed A) (w : Word) (a : Result X Refusal) (t : Parser) → r.0 ≡ w →
      Reads q (G (token w (next p.rest.now).left q.rest.now) w q.room) Q a t → Reads p (G (next p.rest.now) (next p.rest.now).word p.room) Q a t
  next_then Q G w a t e h =
      let l = (next p.rest.now).left in
      let F : Word → Type 0 = λ v. Reads q (G (token v l q.rest.now) v q.room) Q a t in
      let H : List ℕ → Type 0 = λ s. Reads q (G (token (next p.rest.now).word l s) (next p.rest.now).word q.room) Q a t in
      let I : ℕ → Type 0 = λ m. Reads q (G (next p.rest.now) (next p.rest.now).word m) Q a t in
      reads_text Q p q _ a t n.text (subst I n.room (subst H n.rest (subst F (sym e ∙ n.word) h)))

  pub next_wrong : {A X : Type 0} (Q : A → X → Parser → Type 0) (e : Refusal) (t : Parser) → Wrong r.0 r.1 e → Reads {B = X} q (refused (wrong_no r.0) (next p.rest.now).left) Q (Err e) t
  unfolding Reads
  next_wrong Q e t w = (w.number, w.place ∙ n.place ∙ rw (not_full r.0, n.text))

opens_not : (t : Token) (w : Word) (room : ℕ) → w ≢ Opening → opens t w room ≡ wrong t
unfolding opens
opens_not t Opening room h = absurd (h refl)
opens_not t _ room h = refl

closes_not : (t : Token) (w : Word) (room : ℕ) → w ≢ Closing → closes t w room ≡ wrong t
unfolding closes
closes_not t Closing room h = absurd (h refl)
closes_not t _ room h = refl

pub opening_reads : (p : Parser) (r : Result Unit Refusal) (q : Parser) → Expects Opening p r q → Reads p (opening p.room p.rest.now) (λ _ _ t. t.sheet ≡ p.sheet) r q
unfolding Reads Expects opens
opening_reads p (Ok x) q n = rw (← n.word) (n.text, n.room, n.rest, n.sheet)
opening_reads p (Err e) q h = rw (opens_not (next p.rest.now) (next p.rest.now).word p.room h.0) (h.1.number, h.1.place ∙ rw (not_full (next p.rest.now).word))

pub closing_reads : (p : Parser) (r : Result Unit Refusal) (q : Parser) → Expects Closing p r q → Reads p (closing p.room p.rest.now) (λ _ _ t. t.sheet ≡ p.sheet) r q
unfolding Reads Expects closes
closing_reads p (Ok x) q n = rw (← n.word) (n.text, n.room, n.rest, n.sheet)
closing_reads p (Err e) q h = rw (closes_not (next p.rest.now) (next p.rest.now).word p.room h.0) (h.1.number, h.1.place ∙ rw (not_full (next p.rest.now).word))

-- a record that is written
pub stored_put : (rs : List Rec) (k a b : ℕ) (bytes : List ℕ) (s : Sheet) (x : ℕ) (t : Sheet) → Stored rs s → bytes ≡ rec_bytes (rec k a b) → Put bytes s x t → Wrote (rs ++ (rec k a b ∷ [])) x t
unfolding laid
stored_put rs k a b bytes s x t st e w =
    record {
      stored = record {
        count = length-append rs (rec k a b ∷ []) ∙ omega (arith, st.count, w.count);
        bytes = w.bytes ∙ rw (st.bytes, e, laid-append rs (rec k a b ∷ []), append-nil);
      };
      last = omega (arith, w.number, st.count, length-append rs (rec k a b ∷ []));
    }

pub reads_more : {A X : Type 0} (K Q : A → X → Parser → Type 0) (p : Parser) (P : Parsed A) (r : Result X Refusal) (t : Parser) → Reads p P K r t → ((a : A) (x : X) → K a x t → Q a x t) → Reads p P Q r t
unfolding Reads
reads_more K Q p (refused n l) (Ok x) t h k = h
reads_more K Q p (refused n l) (Err e) t h k = h
reads_more K Q p (done a room s) (Ok x) t h k = (h.0, h.1, h.2, k a x h.3)
reads_more K Q p (done a room s) (Err e) t h k = h

pub reads_done : {A X : Type 0} (Q : A → X → Parser → Type 0) (a : A) (x : X) (q t : Parser) → t.text.now ≡ q.text.now → t.room ≡ q.room → t.rest.now ≡ q.rest.now → Q a x t →
    Reads q (done a q.room q.rest.now) Q (Ok x) t
unfolding Reads
reads_done Q a x q t e f g h = (e, f, g, h)

pub property_other : (t : Token) (w : Word) (room : ℕ) → ((n : ℕ) → w ≢ PropertyNamed n) → property_by t w room ≡ wrong t
unfolding property_by
property_other t (PropertyNamed n) room a = absurd (a n refl)
property_other t _ room a = refl

pub role_other : (t : Token) (w : Word) (room : ℕ) → ((n : ℕ) → w ≢ PropertyNamed n) → (w ≢ InverseOf) → role_by t w room ≡ wrong t
unfolding role_by
role_other t InverseOf room a b = absurd (b refl)
role_other t (PropertyNamed n) room a b = absurd (a n refl)
role_other t _ room a b = refl

pub concept_other : (inner : Reader Concept) (t : Token) (w : Word) (room : ℕ) → (w ≢ Thing) → (w ≢ Nothing) → ((n : ℕ) → w ≢ ClassNamed n) → (w ≢ ComplementOf) → (w ≢ IntersectionOf) → (w ≢ UnionOf) → (w ≢ SomeValuesFrom) → (w ≢ AllValuesFrom) → concept_by inner t w room ≡ wrong t
unfolding concept_by
concept_other inner t IntersectionOf room a b c d e f g h = absurd (e refl)
concept_other inner t UnionOf room a b c d e f g h = absurd (f refl)
concept_other inner t ComplementOf room a b c d e f g h = absurd (d refl)
concept_other inner t SomeValuesFrom room a b c d e f g h = absurd (g refl)
concept_other inner t AllValuesFrom room a b c d e f g h = absurd (h refl)
concept_other inner t Thing room a b c d e f g h = absurd (a refl)
concept_other inner t Nothing room a b c d e f g h = absurd (b refl)
concept_other inner t (ClassNamed n) room a b c d e f g h = absurd (c n refl)
concept_other inner t _ room a b c d e f g h = refl

pub axioms_other : (inner : Reader (List Axiom)) (t : Token) (w : Word) (room : ℕ) → (w ≢ Ending) → (w ≢ SubClassOf) → axioms_by inner t w room ≡ wrong t
unfolding axioms_by
axioms_other inner t SubClassOf room a b = absurd (b refl)
axioms_other inner t Ending room a b = absurd (a refl)
axioms_other inner t _ room a b = refl

-- what the exit of a `?` answers
pub leaves : {T E : Type 0} (r : Result T E) (d : E) → IsErrAnd r (λ y. y ≡ d) → r ≡ Err d
leaves r d h = let p = err_from_is_err_and r h in p.1 ∙ ap Err p.2

pub leaf_reads : {A : Type 0} (Q : A → ℕ → Parser → Type 0) (v : A) (bytes : List ℕ) (p : Parser) (r : Result ℕ Refusal) (q : Parser) → LeafRead bytes p r q →
    ((x : ℕ) → Put bytes p.sheet x q.sheet → Q v x q) → Reads p (counted p.room (λ room. done v room p.rest.now)) Q r q
unfolding Reads counted
leaf_reads Q v bytes p r q h k = go p.room r h
  where
    go : (n : ℕ) (r : Result ℕ Refusal) → Reads p (counted n (λ room. done (tt {0}) room p.rest.now)) (λ _ x t. Put bytes p.sheet x t.sheet) r q →
        Reads p (counted n (λ room. done v room p.rest.now)) Q r q
    go zero (Ok x) h = h
    go zero (Err e) h = h
    go (suc n) (Ok x) h = (h.0, h.1, h.2, k x h.3)
    go (suc n) (Err e) h = h

pub closed_reads : {A : Type 0} (Q : A → ℕ → Parser → Type 0) (v : A) (bytes : List ℕ) (p : Parser) (r : Result ℕ Refusal) (q : Parser) → ClosingRead bytes p r q →
    ((x : ℕ) → Put bytes p.sheet x q.sheet → Q v x q) → Reads p (closed v p.room p.rest.now) Q r q
unfolding Reads and_then
closed_reads Q v bytes p r q h k = go (closing p.room p.rest.now) r h
  where
    go : (P : Parsed (Unit {0})) (r : Result ℕ Refusal) → Reads p P (λ _ x t. Put bytes p.sheet x t.sheet) r q → Reads p (and_then P (λ _ room s. done v room s)) Q r q
    go (refused n l) (Ok x) h = h
    go (refused n l) (Err e) h = h
    go (done a room s) (Ok x) h = (h.0, h.1, h.2, k x h.3)
    go (done a room s) (Err e) h = h

-- a form that begins
module _ {A : Type 0} (Q : A → ℕ → Parser → Type 0) (f : Unit {0} → ℕ → List ℕ → Parsed A) (p : Parser) where
  form_stop : (e : Refusal) (o t : Parser) → OpeningRead p (Err e) o → Reads p (counted p.room (λ room. and_then (opening room p.rest.now) f)) Q (Err e) t
  form_stop e o t h =
      let F : Parsed A → Type 0 = λ P. Reads p P Q (Err e) t in
      subst F (counted_then p.room (λ room. opening room p.rest.now) f) (reads_stop _ Q f p _ e o t h)

  form_then : (u : Unit {0}) (o : Parser) (r : Result ℕ Refusal) (t : Parser) → OpeningRead p (Ok u) o → ((a : Unit {0}) → Reads o (f a o.room o.rest.now) Q r t) →
      Reads p (counted p.room (λ room. and_then (opening room p.rest.now) f)) Q r t
  form_then u o r t h k =
      let F : Parsed A → Type 0 = λ P. Reads p P Q r t in
      subst F (counted_then p.room (λ room. opening room p.rest.now) f) (reads_then _ Q f p _ u o r t h (λ a _. k a))

-- a form of one operand, read so far
module _ {A C : Type 0} (rd : Reader A) (make : A → C) (Q : C → ℕ → Parser → Type 0) (p : Parser) where
  pub one_open : (e : Refusal) (o t : Parser) → OpeningRead p (Err e) o → Reads p (counted p.room (λ room. one rd make room p.rest.now)) Q (Err e) t
  unfolding one
  one_open e o t h = form_stop Q _ p e o t h

  pub one_stop : (u : Unit {0}) (o : Parser) (K : A → ℕ → Parser → Type 0) (e : Refusal) (q t : Parser) → OpeningRead p (Ok u) o →
      Reads o (rd o.room o.rest.now) K (Err e) q → Reads p (counted p.room (λ room. one rd make room p.rest.now)) Q (Err e) t
  unfolding one
  one_stop u o K e q t h k = form_then Q _ p u o _ t h (λ _. reads_stop K Q _ o _ e q t k)

  pub one_done : (u : Unit {0}) (o : Parser) (K : A → ℕ → Parser → Type 0) (x : ℕ) (q : Parser) (bytes : List ℕ) (r : Result ℕ Refusal) (t : Parser) → OpeningRead p (Ok u) o →
      Reads o (rd o.room o.rest.now) K (Ok x) q → ClosingRead bytes q r t → ((a : A) → K a x q → (y : ℕ) → Put bytes q.sheet y t.sheet → Q (make a) y t) →
      Reads p (counted p.room (λ room. one rd make room p.rest.now)) Q r t
  unfolding one
  one_done u o K x q bytes r t h k c w =
      form_then Q _ p u o _ t h (λ _. reads_then K Q _ o _ x q r t k (λ a g. closed_reads Q (make a) bytes q r t c (w a g)))

-- a form of two operands, read so far
module _ {A B C : Type 0} (rd : Reader A) (rc : Reader B) (make : A → B → C) (Q : C → ℕ → Parser → Type 0) (p : Parser) where
  pub two_open : (e : Refusal) (o t : Parser) → OpeningRead p (Err e) o → Reads p (counted p.room (λ room. two rd rc make room p.rest.now)) Q (Err e) t
  unfolding two
  two_open e o t h = form_stop Q _ p e o t h

  module _ (u : Unit {0}) (o : Parser) (h : OpeningRead p (Ok u) o) (K : A → ℕ → Parser → Type 0) where
    pub two_first : (e : Refusal) (q t : Parser) → Reads o (rd o.room o.rest.now) K (Err e) q → Reads p (counted p.room (λ room. two rd rc make room p.rest.now)) Q (Err e) t
    unfolding two
    two_first e q t k = form_then Q _ p u o _ t h (λ _. reads_stop K Q _ o _ e q t k)

    module _ (x : ℕ) (q : Parser) (k : Reads o (rd o.room o.rest.now) K (Ok x) q) (L : A → B → ℕ → Parser → Type 0) where
      pub two_second : (e : Refusal) (m t : Parser) → ((a : A) → K a x q → Reads q (rc q.room q.rest.now) (L a) (Err e) m) →
          Reads p (counted p.room (λ room. two rd rc make room p.rest.now)) Q (Err e) t
      unfolding two
      two_second e m t l = form_then Q _ p u o _ t h (λ _. reads_then K Q _ o _ x q _ t k (λ a g. reads_stop (L a) Q _ q _ e m t (l a g)))

      pub two_done : (y : ℕ) (m : Parser) (bytes : List ℕ) (r : Result ℕ Refusal) (t : Parser) → ((a : A) → K a x q → Reads q (rc q.room q.rest.now) (L a) (Ok y) m) → ClosingRead bytes m r t →
          ((a : A) → K a x q → (b : B) → L a b y m → (z : ℕ) → Put bytes m.sheet z t.sheet → Q (make a b) z t) → Reads p (counted p.room (λ room. two rd rc make room p.rest.now)) Q r t
      unfolding two
      two_done y m bytes r t l c w =
          form_then Q _ p u o _ t h (λ _. reads_then K Q _ o _ x q _ t k (λ a g. reads_then (L a) Q _ q _ y m r t (l a g)
          (λ b i. closed_reads Q (make a b) bytes m r t c (w a g b i))))

-- a record's bytes
pub rec_none : (k : ℕ) → (shape_of k).body ≡ 0 → (k ∷ []) ≡ rec_bytes (rec k 0 0)
unfolding rec_bytes
rec_none k h = rw h

pub rec_one : (k a : ℕ) → (shape_of k).body ≡ 1 → (k ∷ a ∷ []) ≡ rec_bytes (rec k a 0)
unfolding rec_bytes
rec_one k a h = rw h

pub rec_two : (k a b : ℕ) → (shape_of k).body ≡ 2 → (k ∷ a ∷ b ∷ []) ≡ rec_bytes (rec k a b)
unfolding rec_bytes
rec_two k a b h = rw h

pub stored_same : (rs : List Rec) (s t : Sheet) → t ≡ s → Stored rs s → Stored rs t
stored_same rs s t e st = let F : Sheet → Type 0 = λ v. Stored rs v in subst F (sym e) st

pub concept_next : (p : Parser) (r : Word × ℕ) (q : Parser) (n : Next p r q) (w : Word) (a : Result ℕ Refusal) (t : Parser) → r.0 ≡ w →
    ((d : ℕ) (rs : List Rec) → q.room ≤ d → Stored rs q.sheet →
    Reads q (concept_by (concept d) (token w (next p.rest.now).left q.rest.now) w q.room) (λ c x t. Wrote (put_concept rs c) x t.sheet) a t) → ConceptRead p a t
unfolding concept
concept_next p r q n w a t e k zero rs l st = absurd (omega arith)
concept_next p r q n w a t e k (suc d) rs l st = next_then p r q n _ (concept_by (concept d)) w a t e (k d rs (omega (arith, n.room)) (stored_same rs _ _ n.sheet st))

-- the words whose form has two operands, with the record's kind
pub record Joins {A : Type 0} (rd : ℕ → Reader A) (put_first : List Rec → A → List Rec) (w : Word) (k : ℕ) (make : A → Concept → Concept) : Type 0 where
  pub reads : (d : ℕ) (t : Token) (room : ℕ) → concept_by (concept d) t w room ≡ counted room (λ room. two (rd d) (concept d) make room t.rest)
  pub body : (shape_of k).body ≡ 2
  pub puts : (rs : List Rec) (a : A) (b : Concept) → put_concept rs (make a b) ≡ joins k (put_first rs a) (put_concept (put_first rs a) b)

pub intersection : Joins concept put_concept IntersectionOf 5 and_c
unfolding concept_by put_concept shape_of
intersection = record { reads = λ d t room. refl; body = refl; puts = λ rs a b. refl }

pub union : Joins concept put_concept UnionOf 6 or_c
unfolding concept_by put_concept shape_of
union = record { reads = λ d t room. refl; body = refl; puts = λ rs a b. refl }

pub some_values : Joins (λ _. role) put_role SomeValuesFrom 7 (exists_c 0 0)
unfolding concept_by put_concept shape_of
some_values = record { reads = λ d t room. refl; body = refl; puts = λ rs a b. refl }

pub all_values : Joins (λ _. role) put_role AllValuesFrom 8 (forall_c 0 0)
unfolding concept_by put_concept shape_of
all_values = record { reads = λ d t room. refl; body = refl; puts = λ rs a b. refl }

-- one thing made in place of another
reads_map : {A B C X : Type 0} (Q : B → X → Parser → Type 0) (R : C → X → Parser → Type 0) (f : A → ℕ → List ℕ → Parsed B) (g : A → ℕ → List ℕ → Parsed C) (p : Parser) (a : Result X Refusal) (t : Parser) (P : Parsed A) →
    ((v : A) (room : ℕ) (s : List ℕ) → Reads p (f v room s) Q a t → Reads p (g v room s) R a t) → Reads p (and_then P f) Q a t → Reads p (and_then P g) R a t
unfolding Reads and_then
reads_map Q R f g p (Ok x) t (refused n l) k h = h
reads_map Q R f g p (Err e) t (refused n l) k h = h
reads_map Q R f g p a t (done v room s) k h = k v room s h

module _ {A B C X : Type 0} (rd : Reader A) (rc : Reader B) (make : A → B → C) (Q : A × B → X → Parser → Type 0) (R : C → X → Parser → Type 0) (p : Parser) (t : Parser)
    (k : (v : A) (w : B) (x : X) → Q (v, w) x t → R (make v w) x t) where
  made : (a : Result X Refusal) (v : A) (w : B) (room : ℕ) (s : List ℕ) → Reads p (done (both v w) room s) Q a t → Reads p (done (make v w) room s) R a t
  unfolding Reads
  made (Ok x) v w room s h = (h.0, h.1, h.2, k v w x h.3)
  made (Err e) v w room s h = h

  pub two_made : (a : Result X Refusal) (n : ℕ) (s : List ℕ) → Reads p (counted n (λ room. two rd rc both room s)) Q a t → Reads p (counted n (λ room. two rd rc make room s)) R a t
  unfolding Reads counted two
  two_made (Ok x) zero s h = h
  two_made (Err e) zero s h = h
  two_made a (suc n) s h =
      reads_map Q R _ _ p a t (opening n s)
      (λ _ room s. reads_map Q R _ _ p a t (rd room s)
      (λ v room s. reads_map Q R _ _ p a t (rc room s)
      (λ w room s. reads_map Q R _ _ p a t (closing room s) (λ _ room s. made a v w room s)))) h

pub joined : {A : Type 0} (rd : ℕ → Reader A) (put_first : List Rec → A → List Rec) (w : Word) (k : ℕ) (make : A → Concept → Concept) → Joins rd put_first w k make →
    (p : Parser) (r : Word × ℕ) (q : Parser) → Next p r q → r.0 ≡ w → (a : Result ℕ Refusal) (t : Parser) → FormRead rd put_first k q a t → ConceptRead p a t
joined rd put_first w k make j p r q n is a t h =
    concept_next p r q n w a t is
    (λ d rs l st. rw (j.reads d (token w (next p.rest.now).left q.rest.now) q.room)
    (two_made (rd d) (concept d) make _ _ q t (λ u v x g. rw (j.puts rs u v) g) a q.room q.rest.now (h d rs l st j.body)))

-- a form of two operands, read so far
module _ {A : Type 0} (rd : ℕ → Reader A) (put_first : List Rec → A → List Rec) (k : ℕ) (p : Parser) where
  abbrev FirstRead : Parser → Result ℕ Refusal → Parser → Type 0
  FirstRead o a m =
      (d : ℕ) (rs : List Rec) → o.room < d → Stored rs o.sheet → Reads o (rd d o.room o.rest.now) (λ u x t. Wrote (put_first rs u) x t.sheet) a m

  pub operands_open : (e : Refusal) (o t : Parser) → OpeningRead p (Err e) o → FormRead rd put_first k p (Err e) t
  operands_open e o t h d rs l st b = two_open _ _ _ _ p e o t h

  module _ (u : Unit {0}) (o : Parser) (h : OpeningRead p (Ok u) o) (opens : Opens p o) where
    pub operands_first : (e : Refusal) (m t : Parser) → FirstRead o (Err e) m → FormRead rd put_first k p (Err e) t
    operands_first e m t f d rs l st b = two_first _ _ _ _ p u o h _ e m t (f d rs (omega (arith, opens.room)) (stored_same rs _ _ opens.sheet st))

    module _ (x : ℕ) (m : Parser) (f : FirstRead o (Ok x) m) (moves : Moves o m) where
      pub operands_second : (e : Refusal) (v t : Parser) → ConceptRead m (Err e) v → FormRead rd put_first k p (Err e) t
      operands_second e v t g d rs l st b =
          two_second _ _ _ _ p u o h _ x m (f d rs (omega (arith, opens.room)) (stored_same rs _ _ opens.sheet st))
          (λ a c y t. Wrote (put_concept (put_first rs a) c) y t.sheet) e v t
          (λ a w. g d (put_first rs a) (omega (arith, opens.room, moves.room)) w.stored)

      pub operands_done : (y : ℕ) (v : Parser) (a : Result ℕ Refusal) (t : Parser) → ConceptRead m (Ok y) v → ClosingRead (k ∷ x ∷ y ∷ []) v a t → FormRead rd put_first k p a t
      operands_done y v a t g c d rs l st b =
          two_done _ _ _ _ p u o h _ x m (f d rs (omega (arith, opens.room)) (stored_same rs _ _ opens.sheet st))
          (λ a c y t. Wrote (put_concept (put_first rs a) c) y t.sheet) y v _ a t
          (λ a w. g d (put_first rs a) (omega (arith, opens.room, moves.room)) w.stored) c
          (λ a w i g z written.
          let x-is = w.last in
          let y-is = g.last in
          stored_put _ k _ _ _ v.sheet z t.sheet g.stored (rw (x-is, y-is) (rec_two k _ _ b)) written)

-- a complement, read so far
module _ (p : Parser) (r : Word × ℕ) (q : Parser) (n : Next p r q) (is : r.0 ≡ ComplementOf) where
  complement : (a : Result ℕ Refusal) (t : Parser) →
      ((d : ℕ) (rs : List Rec) → q.room ≤ d → Stored rs q.sheet →
      Reads q (counted q.room (λ room. one (concept d) not_c room q.rest.now)) (λ c x t. Wrote (put_concept rs c) x t.sheet) a t) → ConceptRead p a t
  unfolding concept_by
  complement a t h = concept_next p r q n ComplementOf a t is h

  pub not_open : (e : Refusal) (o t : Parser) → OpeningRead q (Err e) o → ConceptRead p (Err e) t
  not_open e o t h = complement _ t (λ d rs l st. one_open _ _ _ q e o t h)

  module _ (u : Unit {0}) (o : Parser) (h : OpeningRead q (Ok u) o) (opens : Opens q o) where
    pub not_stop : (e : Refusal) (m t : Parser) → ConceptRead o (Err e) m → ConceptRead p (Err e) t
    not_stop e m t f = complement _ t (λ d rs l st. one_stop _ _ _ q u o _ e m t h (f d rs (omega (arith, opens.room)) (stored_same rs _ _ opens.sheet st)))

    pub not_done : (x : ℕ) (m : Parser) (a : Result ℕ Refusal) (t : Parser) → ConceptRead o (Ok x) m → ClosingRead (4 ∷ x ∷ []) m a t → ConceptRead p a t
    unfolding put_concept shape_of
    not_done x m a t f c =
        complement _ t (λ d rs l st. one_done _ _ _ q u o _ x m _ a t h (f d rs (omega (arith, opens.room)) (stored_same rs _ _ opens.sheet st)) c
        (λ i w y written. let x-is = w.last in stored_put _ 4 _ 0 _ m.sheet y t.sheet w.stored (rw x-is (rec_one 4 _ refl)) written))

-- an inverse, read so far
module _ (p : Parser) (r : Word × ℕ) (q : Parser) (n : Next p r q) (is : r.0 ≡ InverseOf) where
  inverted : (Q : Role → ℕ → Parser → Type 0) (a : Result ℕ Refusal) (t : Parser) →
      Reads q (counted q.room (λ room. one property inverse room q.rest.now)) Q a t → Reads p (role p.room p.rest.now) Q a t
  unfolding role_by
  inverted Q a t h = next_then p r q n Q role_by InverseOf a t is h

  pub inverse_open : (e : Refusal) (o t : Parser) → OpeningRead q (Err e) o → RoleRead p (Err e) t
  inverse_open e o t h rs st = inverted _ _ t (one_open _ _ _ q e o t h)

  module _ (u : Unit {0}) (o : Parser) (h : OpeningRead q (Ok u) o) (opens : Opens q o) where
    pub inverse_stop : (e : Refusal) (m t : Parser) → PropertyRead o (Err e) m → RoleRead p (Err e) t
    inverse_stop e m t f rs st = inverted _ _ t (one_stop _ _ _ q u o _ e m t h f)

    pub inverse_done : (x : ℕ) (m : Parser) (a : Result ℕ Refusal) (t : Parser) → PropertyRead o (Ok x) m → ClosingRead (17 ∷ x ∷ []) m a t → RoleRead p a t
    unfolding put_role shape_of
    inverse_done x m a t f c rs st =
        inverted _ _ t (one_done _ _ _ q u o _ x m _ a t h f c
        (λ i w y written. let x-is = w.0 in stored_put rs 17 _ 0 _ m.sheet y t.sheet (stored_same rs _ _ (w.1 ∙ opens.sheet ∙ n.sheet) st) (rw x-is (rec_one 17 _ refl)) written))

-- a name or a constant
module _ (p : Parser) (r : Word × ℕ) (q : Parser) (n : Next p r q) (a : Result ℕ Refusal) (t : Parser) where
  pub role_named : (k : ℕ) → r.0 ≡ PropertyNamed k → LeafRead (16 ∷ k ∷ []) q a t → RoleRead p a t
  unfolding role_by put_role shape_of
  role_named k is h rs st =
      next_then p r q n _ role_by (PropertyNamed k) a t is
      (leaf_reads _ (named k) _ q a t h (λ x written. stored_put rs 16 k 0 _ q.sheet x t.sheet (stored_same rs _ _ n.sheet st) (rec_one 16 k refl) written))

  pub concept_top : r.0 ≡ Thing → LeafRead (1 ∷ []) q a t → ConceptRead p a t
  unfolding concept_by put_concept shape_of
  concept_top is h =
      concept_next p r q n Thing a t is
      (λ d rs l st. leaf_reads _ top_c _ q a t h (λ x written. stored_put rs 1 0 0 _ q.sheet x t.sheet st (rec_none 1 refl) written))

  pub concept_bottom : r.0 ≡ Nothing → LeafRead (2 ∷ []) q a t → ConceptRead p a t
  unfolding concept_by put_concept shape_of
  concept_bottom is h =
      concept_next p r q n Nothing a t is
      (λ d rs l st. leaf_reads _ bottom_c _ q a t h (λ x written. stored_put rs 2 0 0 _ q.sheet x t.sheet st (rec_none 2 refl) written))

  pub concept_named : (k : ℕ) → r.0 ≡ ClassNamed k → LeafRead (3 ∷ k ∷ []) q a t → ConceptRead p a t
  unfolding concept_by put_concept shape_of
  concept_named k is h =
      concept_next p r q n (ClassNamed k) a t is
      (λ d rs l st. leaf_reads _ (name_c k) _ q a t h (λ x written. stored_put rs 3 k 0 _ q.sheet x t.sheet st (rec_one 3 k refl) written))

-- a word that cannot stand there
module _ (p : Parser) (r : Word × ℕ) (q : Parser) (n : Next p r q) (e : Refusal) (t : Parser) (w : Wrong r.0 r.1 e) where
  pub role_wrong : ((k : ℕ) → r.0 ≢ PropertyNamed k) → r.0 ≢ InverseOf → RoleRead p (Err e) t
  role_wrong a b rs st = next_then p r q n _ role_by r.0 _ t refl (rw (role_other _ r.0 q.room a b) (next_wrong p r q n _ e t w))

  pub concept_wrong : r.0 ≢ Thing → r.0 ≢ Nothing → ((k : ℕ) → r.0 ≢ ClassNamed k) → r.0 ≢ ComplementOf → r.0 ≢ IntersectionOf → r.0 ≢ UnionOf → r.0 ≢ SomeValuesFrom →
      r.0 ≢ AllValuesFrom → ConceptRead p (Err e) t
  concept_wrong a b c d f g h i =
      concept_next p r q n r.0 _ t refl (λ deep rs l st. rw (concept_other (concept deep) _ r.0 q.room a b c d f g h i) (next_wrong p r q n _ e t w))
