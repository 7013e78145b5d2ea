-- Laws on what reading a sheet answers.
use Rattle.std.proofs.Common.{◌≡◌, ℕ, ◌+◌, ◌*◌, ◌≤◌, ◌<◌, List, [], ◌∷◌, ◌++◌, length, drop, Result, Ok, Err, refl, sym, ap, ◌∙◌, arith}
use Rattle.std.specs.List.{flat_map}
use Rattle.std.proofs.lemmas.Bool.{le-leb, lt-leb, lt-ltb, le-ltb}
use Rattle.refusals.specs.Numbers.{number}
use Rattle.refusals.specs.declared.Reason.TheVariants.{ListTooShort}
use Rattle.refusals.specs.declared.Refusal.{Refusal}
use Rattle.records.specs.Entries.{Entry}
use Rattle.records.specs.RecordTable.{state_of, Scans}
use Rattle.records.specs.declared.Progress.{Progress}
use Rattle.syntax.specs.Reading.{Reading, refusal, kb, kb_of, parts_of, admit, reading, read_kb}
use Rattle.syntax.specs.Counts.{PartCounts, counts_of, sum_of}
use Rattle.syntax.specs.Answers.{limit, counts_say, read_says, list_says, list_leaves}
use Rattle.syntax.proofs.Counting.{counts_sum}
use Rattle.syntax.proofs.Formed.{read-few}
use Rattle.flattening.specs.Origins.{parts_made, slot_bytes}
use Rattle.tbox.specs.declared.admission.Admitted.{Admitted}
use Rattle.tbox.specs.declared.Counts.{Counts}
use Rattle.tbox.specs.Answers.{read_numbers, part_counts, AnswersSum, Lists}
use Rattle.tbox.specs.CountedParts.{CountsParts}
use Rattle.tbox.specs.Admission.{kb_admitted, Reads}
use Rattle.tbox.proofs.PartLists.{made-length}
use Rattle.tbox.proofs.PartBytes.{slots-bytes}

-- a sheet that the scan refuses
pub scan-refused : (sheet : List ℕ) (es : List Entry) (x : Result Progress Refusal) (r : Refusal) → Scans sheet es x → x ≡ Err r →
    read_kb limit sheet ≡ refusal (number r.reason) r.place
unfolding read_kb reading
scan-refused sheet es x r s e = sym (ap (reading limit) (rw e at s))

-- a sheet that it does not
module _ (sheet : List ℕ) (es : List Entry) (p : Progress) (s : Scans sheet es (Ok p)) where
  scan-whole : read_kb limit sheet ≡ admit limit (kb_of (state_of es p))
  unfolding read_kb reading
  scan-whole = sym (ap (reading limit) s)

  pub scanned_few : p.roles ≤ 4
  scanned_few = (read-few sheet (state_of es p) (sym s)).1

  pub parts_over : limit < length (parts_made p.names es) + p.roles → read_kb limit sheet ≡ refusal 9 0
  unfolding admit
  parts_over l = scan-whole ∙ simp (lt-leb _ _ l)

  pub parts_fit : length (parts_made p.names es) + p.roles ≤ limit → read_kb limit sheet ≡ kb (kb_of (state_of es p))
  unfolding admit
  parts_fit l = scan-whole ∙ simp (le-leb _ _ l)

-- what a call answers of a sheet that is refused
pub read-refused : (r : Reading) (x : Refusal) → r ≡ refusal (number x.reason) x.place → read_numbers (Err x) ≡ read_says r
unfolding read_says
read-refused r x e = rw e

pub list-refused : (r : Reading) (b : List ℕ) (x : Refusal) → r ≡ refusal (number x.reason) x.place → Lists r b b (Err x)
unfolding list_says list_leaves
list-refused r b x e = rw e (record { answer = refl; list = refl })

-- and of one that is read
module _ (sheet : List ℕ) (es : List Entry) (a : Admitted) (h : Reads sheet es a) where
  pub count-is : length a.parts.now ≡ length (parts_of (kb_admitted es a))
  count-is = sym (made-length es a.names a.parts.now h.parts)

  module _ (n : Counts) (c : CountsParts a.parts.now a.roles n) where
    counts_are : part_counts n ≡ counts_of (parts_of (kb_admitted es a))
    counts_are = rw h.parts at (c.parts es)

    pub read_whole : read_numbers (Ok n) ≡ read_says (read_kb limit sheet)
    unfolding read_says
    read_whole =
        rw (h.reading, c.roles)
        (ap (λ (m : PartCounts). counts_say m a.roles) counts_are)

    pub read-sum : AnswersSum (read_kb limit sheet) (Ok n)
    read-sum = rw h.reading (ap sum_of counts_are ∙ counts_sum (parts_of (kb_admitted es a)))

  module _ (b : List ℕ) where
    pub list-short : (x : Refusal) → x.reason ≡ ListTooShort → x.place ≡ 0 → length b < 3 * length a.parts.now → Lists (read_kb limit sheet) b b (Err x)
    unfolding list_says list_leaves
    list-short x n p l =
        rw (h.reading, n, p) (record { answer = simp (lt-ltb _ _ less); list = simp (lt-ltb _ _ less) })
      where
        less : length b < 3 * length (parts_of (kb_admitted es a))
        less = omega (arith, count-is)

    pub list-whole : (c : ℕ) → c ≡ length a.parts.now → 3 * c ≤ length b → (l : List ℕ) →
        l ≡ flat_map slot_bytes a.parts.now ++ drop (3 * length a.parts.now) b → Lists (read_kb limit sheet) b l (Ok c)
    unfolding list_says list_leaves
    list-whole c e m l q =
        rw h.reading (record {
          answer = ap (λ (x : ℕ). 0 ∷ 0 ∷ x ∷ []) (e ∙ count-is) ∙ simp (le-ltb _ _ room);
          list = q ∙ rw (slots-bytes es 0 a.parts.now, h.parts, count-is) (simp (le-ltb _ _ room));
        })
      where
        room : 3 * length (parts_of (kb_admitted es a)) ≤ length b
        room = omega (arith, e, count-is)
