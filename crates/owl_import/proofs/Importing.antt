-- Laws of the steps over axioms, and of the whole import.
use Rattle.std.proofs.Common.{◌≡◌, ◌≢◌, ℕ, zero, suc, ◌≤◌, ◌<◌, List, [], ◌∷◌, ◌++◌, length, drop, Result, Ok, Err, refl, sym, ap, subst, ◌∙◌, arith}
use borrow.Author.Tests.{lt-ltb, le-ltb}
use Rattle.refusals.specs.declared.Refusal.{Refusal}
use Rattle.refusals.specs.declared.Reason.TheVariants.{OutputTooShort}
use Rattle.output.specs.Output.{output_says, output_leaves, Writes}
use Rattle.owl_words.specs.declared.Word.{Word}
use Rattle.owl_words.specs.declared.Word.TheVariants.{SubClassOf, Ending}
use Rattle.owl_words.specs.Words.{token, next}
use Rattle.syntax.specs.Concepts.{Axiom}
use Rattle.syntax.specs.Laid.{Rec, laid}
use Rattle.records.specs.Shapes.{shape_of}
use Rattle.owl_import.specs.declared.parser.Parser.{Parser}
use Rattle.owl_import.specs.Grammar.{Parsed, refused, done, and_then, most, axioms_by, axioms, parse, counted, two, concept, axiom2}
use Rattle.owl_import.specs.RecordsOf.{put_axiom, put_axioms}
use Rattle.owl_import.specs.Import.{sheet_of, importing, imported}
use Rattle.owl_import.specs.Steps.{Stored, Wrote, Reads, Next, Wrong, PairRead, AxiomsRead}
use Rattle.owl_import.proofs.Stepping.{reads_stop, reads_then, counted_then, next_then, next_wrong, axioms_other, stored_same, two_made}

-- an axiom read and written
abbrev AxiomRead : Parser → Result ℕ Refusal → Parser → Type 0
AxiomRead p r q =
    (rs : List Rec) → Stored rs p.sheet →
    Reads p (counted p.room (λ room. two (concept (suc most)) (concept (suc most)) axiom2 room p.rest.now)) (λ a x t. Wrote (put_axiom rs a) x t.sheet) r q

axiom_reads : (p : Parser) (r : Result ℕ Refusal) (q : Parser) → PairRead 32 p r q → AxiomRead p r q
unfolding put_axiom shape_of
axiom_reads p r q h rs st =
    two_made (concept (suc most)) (concept (suc most)) axiom2 _ _ p q (λ u v x g. g) r p.room p.rest.now (h (suc most) rs (omega (arith, p.few)) st refl)

cons_reads : (c : Axiom) (rs : List Rec) (p : Parser) (a : Result (Unit {0}) Refusal) (t : Parser) (P : Parsed (List Axiom)) →
    Reads p P (λ l _ t. Stored (put_axioms (put_axiom rs c) l) t.sheet) a t → Reads p (and_then P (λ l room s. done (c ∷ l) room s)) (λ l _ t. Stored (put_axioms rs l) t.sheet) a t
unfolding Reads and_then put_axioms
cons_reads c rs p (Ok x) t (refused n l) h = h
cons_reads c rs p (Err e) t (refused n l) h = h
cons_reads c rs p (Ok x) t (done l room s) h = h
cons_reads c rs p (Err e) t (done l room s) h = h

-- the axioms after one
abbrev others : ℕ → Axiom → ℕ → List ℕ → Parsed (List Axiom)
others d a room s = and_then (axioms d room s) (λ l room s. done (a ∷ l) room s)

-- axioms, read so far
module _ (p : Parser) (r : Word × ℕ) (q : Parser) (n : Next p r q) where
  axioms_next : (w : Word) (a : Result (Unit {0}) Refusal) (t : Parser) → r.0 ≡ w →
      ((d : ℕ) (rs : List Rec) → q.room ≤ d → Stored rs q.sheet →
      Reads q (axioms_by (axioms d) (token w (next p.rest.now).left q.rest.now) w q.room) (λ l _ t. Stored (put_axioms rs l) t.sheet) a t) → AxiomsRead p a t
  unfolding axioms
  axioms_next w a t e k zero rs l st = absurd (omega arith)
  axioms_next w a t e k (suc d) rs l st = next_then p r q n _ (axioms_by (axioms d)) w a t e (k d rs (omega (arith, n.room)) (stored_same rs _ _ n.sheet st))

  pub axioms_end : r.0 ≡ Ending → AxiomsRead p (Ok (tt {0})) q
  unfolding axioms_by put_axioms Reads
  axioms_end is = axioms_next Ending _ q is (λ d rs l st. (refl, refl, refl, st))

  pub axioms_wrong : (e : Refusal) (t : Parser) → Wrong r.0 r.1 e → r.0 ≢ Ending → r.0 ≢ SubClassOf → AxiomsRead p (Err e) t
  axioms_wrong e t w a b = axioms_next r.0 _ t refl (λ d rs l st. rw (axioms_other (axioms d) _ r.0 q.room a b) (next_wrong p r q n _ e t w))

  pub axioms_stop : (e : Refusal) (m t : Parser) → r.0 ≡ SubClassOf → PairRead 32 q (Err e) m → AxiomsRead p (Err e) t
  unfolding axioms_by
  axioms_stop e m t is h =
      axioms_next SubClassOf _ t is
      (λ d rs l st.
      let F : Parsed (List Axiom) → Type 0 = λ P. Reads {B = Unit {0}} q P (λ l _ t. Stored (put_axioms rs l) t.sheet) (Err e) t in
      subst F (counted_then q.room _ (others d)) (reads_stop _ _ (others d) q _ e m t (axiom_reads _ _ _ h rs st)))

  pub axioms_more : (x : ℕ) (m : Parser) → r.0 ≡ SubClassOf → PairRead 32 q (Ok x) m → m.room < q.room →
      (a : Result (Unit {0}) Refusal) (t : Parser) → AxiomsRead m a t → AxiomsRead p a t
  unfolding axioms_by
  axioms_more x m is h falls a t k =
      axioms_next SubClassOf a t is
      (λ d rs l st.
      let F : Parsed (List Axiom) → Type 0 = λ P. Reads {B = Unit {0}} q P (λ l _ t. Stored (put_axioms rs l) t.sheet) a t in
      subst F (counted_then q.room _ (others d))
      (reads_then _ _ (others d) q _ x m a t (axiom_reads _ _ _ h rs st) (λ c w. cons_reads c rs m a t _ (k d (put_axiom rs c) (omega arith) w.stored))))

-- the whole import
module _ (text out : List ℕ) (p : Parser) (at : p.text.now ≡ text) (rest : p.rest.now ≡ text) (room : p.room ≡ 255) (count : p.sheet.count ≡ 0) (bytes : p.sheet.bytes.items ≡ []) where
  parsed : (r : Result (Unit {0}) Refusal) (q : Parser) → AxiomsRead p r q → Reads p (parse text) (λ l _ t. Stored (put_axioms [] l) t.sheet) r q
  unfolding parse laid
  parsed r q h =
      let F : ℕ → Type 0 = λ n. Reads p (axioms (suc most) n text) (λ l _ t. Stored (put_axioms [] l) t.sheet) r q in
      let G : List ℕ → Type 0 = λ s. Reads p (axioms (suc most) p.room s) (λ l _ t. Stored (put_axioms [] l) t.sheet) r q in
      subst F room (subst G rest (h (suc most) [] (omega arith) (record { count = sym count; bytes = bytes })))

  pub import_refused : (e : Refusal) (q : Parser) → AxiomsRead p (Err e) q → Writes (imported text) out out (Err e)
  unfolding Reads imported importing output_says output_leaves
  import_refused e q h = go (parse text) (parsed (Err e) q h)
    where
      go : (P : Parsed (List Axiom)) → Reads {B = Unit {0}} p P (λ l _ t. Stored (put_axioms [] l) t.sheet) (Err e) q → Writes (importing text P) out out (Err e)
      go (refused n l) w = record { answer = rw (w.0, w.1, at); output = refl }
      go (done l room x) w = absurd w

  module _ (u : Unit {0}) (q : Parser) (h : AxiomsRead p (Ok u) q) where
    pub import_short : (e : Refusal) → e.reason ≡ OutputTooShort → e.place ≡ 0 → length out < length q.sheet.bytes.items → Writes (imported text) out out (Err e)
    unfolding Reads imported importing sheet_of output_says output_leaves
    import_short e reason place short = go (parse text) (parsed (Ok u) q h)
      where
        go : (P : Parsed (List Axiom)) → Reads {B = Unit {0}} p P (λ l _ t. Stored (put_axioms [] l) t.sheet) (Ok u) q → Writes (importing text P) out out (Err e)
        go (refused n l) w = absurd w
        go (done l room x) w =
            let t = lt-ltb (length out) (length (laid (put_axioms [] l))) (omega (arith, ap length w.3.bytes)) in
            record { answer = rw (t, reason, place); output = rw t }

    pub import_written : (end : List ℕ) (n : ℕ) → n ≡ length q.sheet.bytes.items → n ≤ length out → end ≡ q.sheet.bytes.items ++ drop n out → Writes (imported text) out end (Ok n)
    unfolding Reads imported importing sheet_of output_says output_leaves
    import_written end n size fits is = go (parse text) (parsed (Ok u) q h)
      where
        go : (P : Parsed (List Axiom)) → Reads {B = Unit {0}} p P (λ l _ t. Stored (put_axioms [] l) t.sheet) (Ok u) q → Writes (importing text P) out end (Ok n)
        go (refused n l) w = absurd w
        go (done l room x) w =
            let e : n ≡ length (laid (put_axioms [] l)) = size ∙ ap length w.3.bytes in
            let t = le-ltb (length out) (length (laid (put_axioms [] l))) (omega arith) in
            record { answer = rw (t, e); output = rw (t, is, w.3.bytes, e) }
