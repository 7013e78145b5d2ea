-- Records read from a file one after the other: what is left after each, and how far reading the individuals has come.
use Rattle.std.proofs.Common.{◌≡◌, ◌≢◌, ◌≤◌, ◌<◌, ◌+◌, ◌++◌, ℕ, List, [], ◌∷◌, length, take, drop, set, refl, sym, ap, ◌∙◌, arith, drop_of_length-le, length-drop, append-nil, Ok, cond, drop-drop, take-suc-set, append_assoc, add-one}
use mathlib.Core.Bool.{Bool}
use lib.Dec.{eqb}
use borrow.Author.Tests.{eq-eqb, ne_eqb}
use Rattle.bitset.specs.Bits.{bit}
use Rattle.refusals.specs.Numbers.{number}
use Rattle.refusals.specs.declared.Reason.{Reason}
use Rattle.refusals.proofs.Numbering.{number_not_zero}
use Rattle.drawings.specs.Entries.{Entry as EntryOf, individual, unreadable, entry_of, after_entry, entries_of, individuals_after, entry_fault, first_fault, names_of}
use Rattle.drawings.proofs.EntryLaws.{entry_length, entry_fits, after_is, entries_none, entries_step, entries_unreadable, fault_here, fault_later, fault_few}
use Rattle.drawing_entries.specs.declared.Connection.{Connection as Joined}
use Rattle.drawing_entries.specs.declared.Entry.{Entry}
use Rattle.drawing_entries.specs.declared.Entry.TheVariants.{Individual, Connection}
use Rattle.drawing_entries.specs.Reading.{entry_is, entry_size, Reads}

-- ---- one record

size_is : (e : Entry) → entry_length (entry_is e) ≡ entry_size e
size_is (Individual m) = refl
size_is (Connection c) = refl

readable : (e : Entry) → entry_is e ≢ unreadable
readable (Individual m) u = cc
readable (Connection c) u = cc

-- e is the record at a place: it is within the file, and the file's records from there are e and those after it
pub record Next (file : List ℕ) (at : ℕ) (e : Entry) : Type 0 where
  pub within : at + entry_size e ≤ length file
  pub rest : after_entry (entry_is e) (drop at file) ≡ drop (at + entry_size e) file
  pub entries : entries_of (drop at file) ≡ entry_is e ∷ entries_of (drop (at + entry_size e) file)

pub next : (file : List ℕ) (at : ℕ) (e : Entry) → at < length file → entry_is e ≡ entry_of (drop at file) → Next file at e
next file at e h i =
    let s = size_is e in
    let f = entry_fits (drop at file) in
    let l : entry_length (entry_of (drop at file)) ≡ entry_size e = ap entry_length (sym i) ∙ s in
    let d = length-drop at file in
    let r : after_entry (entry_is e) (drop at file) ≡ drop (at + entry_size e) file =
    after_is (entry_is e) (drop at file) (readable e) ∙ ap (λ (n : ℕ). drop n (drop at file)) s ∙ drop-drop (entry_size e) at file in
    record {
      within = omega arith;
      rest = r;
      entries =
          entries_step (drop at file) (omega arith)
          ∙ ap (λ (x : EntryOf). x ∷ entries_of (after_entry x (drop at file))) (sym i)
          ∙ ap (λ (l : List ℕ). entry_is e ∷ entries_of l) r;
    }

-- no record starts at the end
pub none_left : (file : List ℕ) (at : ℕ) → length file ≤ at → entries_of (drop at file) ≡ []
none_left file at h = ap entries_of (drop_of_length-le file h) ∙ entries_none

-- a record that cannot be read is the last
pub last_unreadable : (file : List ℕ) (at : ℕ) → at < length file → unreadable ≡ entry_of (drop at file)
    → entries_of (drop at file) ≡ unreadable ∷ []
last_unreadable file at h u = entries_unreadable (drop at file) (omega (arith, length-drop at file)) (sym u)

-- ---- reading the individuals

-- so far no fault and so many individuals: reading on gives the whole result
pub record Running (plain roles : ℕ) (file names : List ℕ) (at count : ℕ) : Type 0 where
  pub within : at ≤ length file
  pub few : count ≤ 1024
  pub fault : first_fault (bit plain) roles 0 (entries_of file) ≡ first_fault (bit plain) roles count (entries_of (drop at file))
  pub drawn : names_of (entries_of file) ≡ take count names ++ names_of (entries_of (drop at file))

pub running_start : (plain roles : ℕ) (file names : List ℕ) → Running plain roles file names 0 0
running_start plain roles file names = record { within = omega arith; few = omega arith; fault = refl; drawn = refl }

module _ (plain roles : ℕ) (file names : List ℕ) (at count : ℕ) (r : Running plain roles file names at count) where
  fault_end : length file ≤ at → first_fault (bit plain) roles 0 (entries_of file) ≡ cond (eqb count 0) 25 0
  unfolding first_fault
  fault_end h = r.fault ∙ ap (first_fault (bit plain) roles count) (none_left file at h)

  pub running_end : length file ≤ at → 0 < count → Reads plain roles file names (Ok count)
  unfolding names_of
  running_end h l = (
    fault_end h ∙ ap (λ (b : Bool). cond b 25 0) (ne_eqb count 0 (λ e. omega arith)),
    r.few,
    l,
    sym (r.drawn ∙ ap (λ (es : List EntryOf). take count names ++ names_of es) (none_left file at h) ∙ append-nil (take count names)),
  )

  pub running_empty : length file ≤ at → count ≡ 0 → 25 ≡ first_fault (bit plain) roles 0 (entries_of file)
  running_empty h e = sym (fault_end h ∙ ap (λ (b : Bool). cond b 25 0) (eq-eqb count 0 e))

  pub running_unreadable : at < length file → unreadable ≡ entry_of (drop at file) → 22 ≡ first_fault (bit plain) roles 0 (entries_of file)
  unfolding first_fault entry_fault
  running_unreadable h u = sym (r.fault ∙ ap (first_fault (bit plain) roles count) (last_unreadable file at h u))

  module _ (e : Entry) (n : Next file at e) where
    first : first_fault (bit plain) roles 0 (entries_of file)
        ≡ first_fault (bit plain) roles count (entry_is e ∷ entries_of (drop (at + entry_size e) file))
    first = r.fault ∙ ap (first_fault (bit plain) roles count) n.entries

    pub running_fault : (f : Reason) → number f ≡ entry_fault (bit plain) roles count (entry_is e)
        → number f ≡ first_fault (bit plain) roles 0 (entries_of file)
    running_fault f i = i ∙ sym (first ∙ fault_here (bit plain) roles count _ _ (λ z. number_not_zero f (i ∙ z)))

    after_first : entry_fault (bit plain) roles count (entry_is e) ≡ 0 → first_fault (bit plain) roles 0 (entries_of file)
        ≡ first_fault (bit plain) roles (individuals_after count (entry_is e)) (entries_of (drop (at + entry_size e) file))
    after_first i = first ∙ fault_later (bit plain) roles count _ _ i

    drawn_first : names_of (entries_of file) ≡ take count names ++ names_of (entry_is e ∷ entries_of (drop (at + entry_size e) file))
    drawn_first = r.drawn ∙ ap (λ (l : List EntryOf). take count names ++ names_of l) n.entries

  pub running_individual : (m : ℕ) → length names ≡ 1024 → Next file at (Individual m)
      → entry_fault (bit plain) roles count (individual m) ≡ 0 → Running plain roles file (set names count m) (at + 3) (count + 1)
  unfolding individuals_after names_of
  running_individual m l n i =
      let f = fault_few (bit plain) roles count m i in
      record {
        within = n.within;
        few = omega arith;
        fault = after_first (Individual m) n i;
        drawn =
            drawn_first (Individual m) n
            ∙ sym (append_assoc (take count names) (m ∷ []) (names_of (entries_of (drop (at + 3) file))))
            ∙ ap (λ (ms : List ℕ). ms ++ names_of (entries_of (drop (at + 3) file)))
            (sym (rw add-one (take-suc-set names count m (omega arith))));
      }

  pub running_connection : (c : Joined) → Next file at (Connection c)
      → entry_fault (bit plain) roles count (entry_is (Connection c)) ≡ 0 → Running plain roles file names (at + 6) count
  unfolding individuals_after names_of
  running_connection c n i =
      record { within = n.within; few = r.few; fault = after_first (Connection c) n i; drawn = drawn_first (Connection c) n }
