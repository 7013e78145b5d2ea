-- Laws of the records of a file: what the first record is, which come after it, and what a record without fault leaves.
use Rattle.std.proofs.Common.{◌≡◌, ◌≢◌, ◌≤◌, ◌<◌, ◌+◌, ◌*◌, ◌^◌, ℕ, zero, suc, List, [], ◌∷◌, length, get_or, drop, refl, sym, ap, ap₂, ◌∙◌, arith, length-drop, get_or-drop}
use mathlib.Core.Bool.{Bool, true, false, not, ◌&&◌, ◌||◌, cond}
use lib.Dec.{eqb, leb, ltb}
use lib.Bits.{bit_and}
use native.Mathlib.Nat.{le_refl}
use borrow.Author.Tests.{eq-eqb, lt-ltb, ltb-true, lt-leb, ne_eqb, eqb-true, leb-true, leb-false, le-leb}
use Rattle.std.proofs.lemmas.Nat.{and_le_l}
use Rattle.bitset.specs.Bits.{Set, bit}
use Rattle.bitset.proofs.Facts.{and_l, and_r_lem, imp_i, iff_eq, is_false}
use Rattle.bitset.proofs.Laws.{bit_and_lem, word_bits, word_ext}
use Rattle.elimination.specs.Sets.{every}
use Rattle.elimination.proofs.Quantifiers.{all-at, all_intro}
use Rattle.records.specs.Scan.{or_else}
use Rattle.drawings.specs.Entries.{Connection, Entry, individual, connection, unreadable, two_bytes, entry_of, after_entry, entries_within, entries_of, individuals_after, entry_fault, first_fault}

-- ---- the first record

-- the bytes that a record takes
abbrev pub entry_length : Entry → ℕ
entry_length (individual m) = 3
entry_length (connection c) = 6
entry_length unreadable = 0

pub entry_individual : (bytes : List ℕ) → get_or bytes 0 0 ≡ 0x40 → 3 ≤ length bytes → entry_of bytes ≡ individual (two_bytes bytes 1)
unfolding entry_of
entry_individual bytes k h = rw (eq-eqb _ _ k, le-leb _ _ h)

pub entry_connection : (bytes : List ℕ) → get_or bytes 0 0 ≡ 0x41 → 6 ≤ length bytes
    → entry_of bytes ≡ connection (record { from = two_bytes bytes 1; to = two_bytes bytes 3; role = get_or bytes 5 0 })
unfolding entry_of
entry_connection bytes k h = rw (k, le-leb _ _ h)

off : (x k l n : ℕ) → (x ≡ k → l < n) → (eqb x k && leb n l) ≡ false
off x k l n f =
    is_false (eqb x k && leb n l)
    (λ t. omega (arith, f (eqb-true x k (and_l (eqb x k) (leb n l) t)), leb-true n l (and_r_lem (eqb x k) (leb n l) t)))

pub entry_unreadable : (bytes : List ℕ) → (get_or bytes 0 0 ≡ 0x40 → length bytes < 3) → (get_or bytes 0 0 ≡ 0x41 → length bytes < 6)
    → entry_of bytes ≡ unreadable
unfolding entry_of
entry_unreadable bytes f g = rw (off _ 0x40 _ 3 f, off _ 0x41 _ 6 g)

one_fits : (a b : Bool) (m : ℕ) (c : Connection) (n : ℕ) → (a ≡ true → 3 ≤ n) → (b ≡ true → 6 ≤ n)
    → entry_length (cond a (individual m) (cond b (connection c) unreadable)) ≤ n
one_fits true b m c n f g = f refl
one_fits false true m c n f g = g refl
one_fits false false m c n f g = omega arith

pub entry_fits : (bytes : List ℕ) → entry_length (entry_of bytes) ≤ length bytes
unfolding entry_of
entry_fits bytes =
    one_fits _ _ (two_bytes bytes 1) _ (length bytes) (λ t. leb-true 3 (length bytes) (and_r_lem (eqb (get_or bytes 0 0) 0x40) _ t))
    (λ t. leb-true 6 (length bytes) (and_r_lem (eqb (get_or bytes 0 0) 0x41) _ t))

-- ---- the records after it

pub after_is : (e : Entry) (bytes : List ℕ) → e ≢ unreadable → after_entry e bytes ≡ drop (entry_length e) bytes
unfolding after_entry
after_is (individual m) bytes n = refl
after_is (connection c) bytes n = refl
after_is unreadable bytes n = absurd (n refl)

after_shorter : (e : Entry) (b : ℕ) (bs : List ℕ) → length (after_entry e (b ∷ bs)) ≤ length bs
unfolding after_entry
after_shorter (individual m) b bs = omega (arith, length-drop 2 bs)
after_shorter (connection c) b bs = omega (arith, length-drop 5 bs)
after_shorter unreadable b bs = omega arith

within_none : (n : ℕ) → entries_within n [] ≡ []
unfolding entries_within
within_none zero = refl
within_none (suc n) = refl

-- room for more records than there are bytes changes nothing
pub within_same : (n m : ℕ) (bytes : List ℕ) → length bytes ≤ n → length bytes ≤ m → entries_within n bytes ≡ entries_within m bytes
unfolding entries_within
within_same n m [] h g = within_none n ∙ sym (within_none m)
within_same zero m (b ∷ bs) h g = absurd (omega arith)
within_same (suc n) zero (b ∷ bs) h g = absurd (omega arith)
within_same (suc n) (suc m) (b ∷ bs) h g =
    let e = entry_of (b ∷ bs) in
    let s = after_shorter e b bs in
    ap (λ (l : List Entry). e ∷ l) (within_same n m (after_entry e (b ∷ bs)) (omega arith) (omega arith))

pub within_enough : (n : ℕ) (bytes : List ℕ) → length bytes ≤ n → entries_within n bytes ≡ entries_of bytes
unfolding entries_of
within_enough n bytes h = within_same n (length bytes) bytes h (le_refl (length bytes))

pub entries_none : entries_of [] ≡ []
unfolding entries_of entries_within
entries_none = refl

pub entries_step : (bytes : List ℕ) → 0 < length bytes → entries_of bytes ≡ entry_of bytes ∷ entries_of (after_entry (entry_of bytes) bytes)
unfolding entries_of entries_within
entries_step [] h = absurd (omega arith)
entries_step (b ∷ bs) h =
    let e = entry_of (b ∷ bs) in
    ap (λ (l : List Entry). e ∷ l) (within_enough (length bs) (after_entry e (b ∷ bs)) (after_shorter e b bs))

pub entries_unreadable : (bytes : List ℕ) → 0 < length bytes → entry_of bytes ≡ unreadable → entries_of bytes ≡ unreadable ∷ []
unfolding after_entry
entries_unreadable bytes h u =
    entries_step bytes h ∙ ap (λ (e : Entry). e ∷ entries_of (after_entry e bytes)) u ∙ ap (λ (l : List Entry). unreadable ∷ l) entries_none

-- ---- the record at a place of a file

pub two_bytes_at : (file : List ℕ) (at i : ℕ) → two_bytes (drop at file) i ≡ two_bytes file (at + i)
two_bytes_at file at i =
    ap₂ (λ (x y : ℕ). x + 256 * y) (get_or-drop at file i 0)
    (get_or-drop at file (i + 1) 0 ∙ ap (λ (j : ℕ). get_or file j 0) (omega arith))

kind_at : (file : List ℕ) (at : ℕ) → get_or (drop at file) 0 0 ≡ get_or file at 0
kind_at file at = get_or-drop at file 0 0 ∙ ap (λ (j : ℕ). get_or file j 0) (omega arith)

pub individual_at : (file : List ℕ) (at : ℕ) → get_or file at 0 ≡ 0x40 → at + 3 ≤ length file
    → entry_of (drop at file) ≡ individual (two_bytes file (at + 1))
individual_at file at k h =
    entry_individual (drop at file) (kind_at file at ∙ k) (omega (arith, length-drop at file)) ∙ ap individual (two_bytes_at file at 1)

pub connection_at : (file : List ℕ) (at : ℕ) → get_or file at 0 ≡ 0x41 → at + 6 ≤ length file
    → entry_of (drop at file)
    ≡ connection (record { from = two_bytes file (at + 1); to = two_bytes file (at + 3); role = get_or file (at + 5) 0 })
connection_at file at k h =
    entry_connection (drop at file) (kind_at file at ∙ k) (omega (arith, length-drop at file))
    ∙ rw (two_bytes_at file at 1, two_bytes_at file at 3, get_or-drop at file 5 0)

pub unreadable_at : (file : List ℕ) (at : ℕ) → (get_or file at 0 ≡ 0x40 → length file < at + 3)
    → (get_or file at 0 ≡ 0x41 → length file < at + 6)
    → entry_of (drop at file) ≡ unreadable
unreadable_at file at f g =
    entry_unreadable (drop at file) (λ k. omega (arith, length-drop at file, f (sym (kind_at file at) ∙ k)))
    (λ k. omega (arith, length-drop at file, g (sym (kind_at file at) ∙ k)))

-- ---- faults

implied : (a b : Bool) → (not a || b) ≡ true → (a && b) ≡ a
implied true b e = e
implied false b e = refl

-- a number of 16 bits has none but those of another, if it is what they share
pub plain_bits : (m p : ℕ) → m < 2 ^ 16 → every 16 (λ k. not (bit m k) || bit p k) ≡ eqb (bit_and m p) m
plain_bits m p h =
    iff_eq (every 16 (λ k. not (bit m k) || bit p k)) (eqb (bit_and m p) m)
    (λ e. eq-eqb (bit_and m p) m
    (sym (word_bits 16 (bit_and m p) (omega (arith, and_le_l m p)))
    ∙ word_ext 16 (bit (bit_and m p)) (bit m)
    (λ k l. bit_and_lem m p k ∙ implied (bit m k) (bit p k) (all-at 16 (λ k. not (bit m k) || bit p k) e k l))
    ∙ word_bits 16 m h))
    (λ e. all_intro 16 (λ k. not (bit m k) || bit p k)
    (λ k l. imp_i (bit m k) (bit p k)
    (λ b. and_r_lem (bit m k) (bit p k) (sym (bit_and_lem m p k) ∙ ap (λ (x : ℕ). bit x k) (eqb-true (bit_and m p) m e) ∙ b))))

or_first : (f g : ℕ) → f ≢ 0 → or_else f g ≡ f
or_first f g n = rw (ne_eqb f 0 n)

or_later : (f g : ℕ) → f ≡ 0 → or_else f g ≡ g
or_later f g e = rw (eq-eqb f 0 e)

absent : (a b c : Bool) → (a ≡ true → b ≡ true → c ≡ true → ⊥) → (a && (b && c)) ≡ false
absent true true true h = absurd (h refl refl refl)
absent true true false h = refl
absent true false c h = refl
absent false b c h = refl

few : (b : Bool) (n : ℕ) → (b ≡ false → n < 1024) → (x : ℕ) → cond b 23 x ≡ 0 → n < 1024
few true n f x e = omega arith
few false n f x e = f refl

module _ (plain : Set) (roles : ℕ) where
  pub fault_here : (n : ℕ) (e : Entry) (es : List Entry) → entry_fault plain roles n e ≢ 0
      → first_fault plain roles n (e ∷ es) ≡ entry_fault plain roles n e
  unfolding first_fault
  fault_here n e es f = or_first _ _ f

  pub fault_later : (n : ℕ) (e : Entry) (es : List Entry) → entry_fault plain roles n e ≡ 0
      → first_fault plain roles n (e ∷ es) ≡ first_fault plain roles (individuals_after n e) es
  unfolding first_fault
  fault_later n e es f = or_later _ _ f

  pub fault_few : (n m : ℕ) → entry_fault plain roles n (individual m) ≡ 0 → n < 1024
  unfolding entry_fault
  fault_few n m e = few (leb 1024 n) n (leb-false 1024 n) _ e

  pub fault_full : (n m : ℕ) → 1024 ≤ n → entry_fault plain roles n (individual m) ≡ 23
  unfolding entry_fault
  fault_full n m h = rw (le-leb 1024 n h)

  pub fault_none : (n : ℕ) (c : Connection) → c.from < n → c.to < n → c.role < roles → entry_fault plain roles n (connection c) ≡ 0
  unfolding entry_fault
  fault_none n c f t r = rw (lt-ltb c.from n f, lt-ltb c.to n t, lt-ltb c.role roles r)

  -- an individual or a role of a connection that is not there
  pub fault_absent : (n : ℕ) (c : Connection) → (c.from < n → c.to < n → c.role < roles → ⊥) → entry_fault plain roles n (connection c) ≡ 24
  unfolding entry_fault
  fault_absent n c h =
      let e : (ltb c.from n && (ltb c.to n && ltb c.role roles)) ≡ false =
      absent _ _ _ (λ f t r. h (ltb-true c.from n f) (ltb-true c.to n t) (ltb-true c.role roles r)) in
      rw e

pub fault_names : (p roles n m : ℕ) → n < 1024 → m < 2 ^ 16
    → entry_fault (bit p) roles n (individual m) ≡ cond (eqb (bit_and m p) m) 0 24
unfolding entry_fault
fault_names p roles n m l h = rw (lt-leb 1024 n l, plain_bits m p h)
