-- What a read brought, by what follows it.
use Rattle.std.specs.Prelude.{⊤}
use Rattle.std.proofs.Common.{◌≡◌, ℕ, ◌+◌, ◌-◌, ◌≤◌, ◌<◌, Bool, true, false, cond, eqb, ltb, Option, List, ◌++◌, length, take, drop, Result, Ok, Err, refl, sym, ap, ◌∙◌, subst, arith, le_refl, drop_at, length-take-le}
use Rattle.std.proofs.lemmas.Slice.{take-put_mid_below}
use Rattle.std.proofs.lemmas.Result.{IfOk-at_ok, MatchResult-at_ok}
use Rattle.std.specs.Io.{ReadsAtMost}
use Rattle.std.specs.Io.KnownBytes.{Consumes, IsAtEnd, ReadConsumes}
use Rattle.std.proofs.KnownBytes.{Consumes-trans}
use borrow.Author.Tests.{ltb-true, ltb-false, eqb-true, eqb-false, eq-eqb}
use borrow.Rule.Slice.PartMut.{mid_of, put_mid, post_of, same_len_mid, mid_len}
use lib.Seq.{take-add, take-append-le}
use Rattle.console.specs.declared.Next.{Next}
use Rattle.console.specs.declared.Next.TheVariants.{Ended, Again}
use Rattle.console.specs.Input.{next_read_lem}

-- a read of nothing is the end of the input
pub next-none : {E : Type 0} (done room n : ℕ) (read : Result ℕ E) → read ≡ Ok n → n ≡ 0 → Ok (Ended done) ≡ next_read_lem done read room
unfolding next_read_lem
next-none done room n read e z = rw (e, eq-eqb n 0 z) refl

module _ (done room : ℕ) where
  -- n bytes are the last, which none or no room follows; or more are read behind them
  abbrev Brings : ℕ → Next → Type 0
  Brings n (Ended m) = (done + n ≤ room → m ≡ done + n) × (m < room → n ≡ 0)
  Brings n (Again m) = (m ≡ done + n) × (done < m) × (m < room)

  module _ {E : Type 0} where
    abbrev Brought : Result ℕ E → Result Next E → Type 0
    Brought read (Ok x) = (n : ℕ) × (read ≡ Ok n) × Brings n x
    Brought read (Err e) = ⊤

    brought : (read : Result ℕ E) → done ≤ room → Brought read (next_read_lem done read room)
    unfolding next_read_lem
    brought (Err e) l = tt
    brought (Ok n) l = first (eqb n 0) refl
      where
        P : Result Next E → Type 0
        P = Brought (Ok n)

        then : (b : Bool) → ltb (done + n) room ≡ b → eqb n 0 ≡ false → P (cond b (Ok (Again (done + n))) (Ok (Ended room)))
        then true f z = (n, refl, (refl, omega (arith, eqb-false n 0 z), ltb-true (done + n) room f))
        then false f z = (n, refl, (λ h. omega (arith, ltb-false (done + n) room f, h), λ h. omega (arith, h)))

        first : (b : Bool) → eqb n 0 ≡ b → P (cond b (Ok (Ended done)) (cond (ltb (done + n) room) (Ok (Again (done + n))) (Ok (Ended room))))
        first true z = (n, refl, (λ h. omega (arith, eqb-true n 0 z), λ h. eqb-true n 0 z))
        first false z = then (ltb (done + n) room) refl z

    -- what follows tells that the read did not fail, and how many bytes it brought
    read_brought : (read : Result ℕ E) (x y : Next) → done ≤ room → Ok x ≡ next_read_lem done read room → x ≡ y → (n : ℕ) × (read ≡ Ok n) × Brings n y
    read_brought read x y l e i = subst (Brought read) (sym e ∙ ap Ok i) (brought read l)

-- n bytes put behind the first a are the next n of the whole
pub read_behind : (a room n : ℕ) (before brought : List ℕ) → a ≤ length before → n ≤ length brought
    → take a before ++ take n brought ≡ take (a + n) (put_mid a room before brought)
read_behind a room n before brought within few =
    let after = put_mid a room before brought in
    let front = take-put_mid_below a room before brought a (le_refl _) within in
    let part = drop_at (take a before) (brought ++ post_of a room before) a (length-take-le a before within) in
    sym (
    take-add a n after ∙ ap (λ l. l ++ take n (drop a after)) front
    ∙ ap (λ l. take a before ++ take n l) part ∙ ap (λ l. take a before ++ l) (take-append-le n brought (post_of a room before) few))

-- a reader gave what stands at the front of a buffer, and a read was to bring more behind it
module _ {E : Type 0} (given left last : Option (List ℕ)) (done : ℕ) (before brought : List ℕ) (read : Result ℕ E) (x : Next) (m : ℕ) where
  abbrev after : List ℕ
  after = put_mid done (length before - done) before brought

  -- so much is read in all: the reader's next bytes, and fewer than there is room for only at its end
  pub record ReadsAll : Type 0 where
    pub within : m ≤ length after
    pub bytes : Consumes given last (take m after)
    pub end : m < length after → IsAtEnd last

  -- so much is read before more is: the reader's next bytes, more of them than before
  pub record ReadsOn : Type 0 where
    pub within : m ≤ length after
    pub bytes : Consumes given last (take m after)
    pub more : done < m

  module _ (fits : done ≤ length before) (part : length brought ≡ length (mid_of done (length before - done) before))
      (front : Consumes given left (take done before)) (bound : ReadsAtMost read brought) (bytes : ReadConsumes left last read brought)
      (follows : Ok x ≡ next_read_lem done read (length after)) where
    same : length after ≡ length before
    same = same_len_mid done (length before - done) before brought part

    long : length brought ≡ length before - done
    long = part ∙ mid_len done (length before) before (le_refl _)

    stand : (n : ℕ) → m ≡ done + n → n ≤ length brought → Consumes left last (take n brought) → Consumes given last (take m after)
    stand n e few next =
        subst (Consumes given last) (read_behind done (length before - done) n before brought fits few ∙ ap (λ k. take k after) (sym e))
        (Consumes-trans given left last _ _ front next)

    pub reads_all : x ≡ Ended m → ReadsAll
    reads_all i =
        let f = read_brought done (length after) read x (Ended m) (omega (arith, same)) follows i in
        let few = (IfOk-at_ok _ f.1 bound).0 in
        let next = MatchResult-at_ok _ _ _ f.1 bytes in
        let e = f.2.0 (omega (arith, few, same, long)) in
        record {
          within = omega (arith, few, e, same, long);
          bytes = stand f.0 e few next.0;
          end = λ h. next.1 (f.2.1 h) (omega (arith, f.2.1 h, e, h, same, long));
        }

    pub reads_on : x ≡ Again m → ReadsOn
    reads_on i =
        let f = read_brought done (length after) read x (Again m) (omega (arith, same)) follows i in
        let few = (IfOk-at_ok _ f.1 bound).0 in
        let next = MatchResult-at_ok _ _ _ f.1 bytes in
        record {
          within = omega (arith, f.2.2);
          bytes = stand f.0 f.2.0 few next.0;
          more = f.2.1;
        }
