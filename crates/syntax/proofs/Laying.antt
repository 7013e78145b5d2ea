-- A sheet that is read is its records, well-formed, laid one after another; and well-formed records, laid, are read back as themselves.
use Prim.Native.Nat.{ℕ, zero, suc, ◌+◌, ◌-◌, ◌≤◌, ◌<◌}
use mathlib.Core.Path.{◌≡◌, refl, sym, ap, ◌∙◌}
use mathlib.Core.Bool.{Bool, true, false, cond}
use mathlib.Core.List.{List, [], ◌∷◌, ◌++◌, append_assoc, append-nil, map, map-append}
use lib.ListN.{length, get_or, take, drop, set, length-append, length-map, length-take}
use lib.Seq.{get_or-append-add, take-add, drop-cons, take_all, map-set_same}
use lib.Dec.{eqb, leb}
use native.Mathlib.Omega.{arith}
use native.Mathlib.Nat.{add-zero}
use native.Mathlib.Numerals.{add-one}
use borrow.Author.Tests.{lt-ltb, le-ltb, le-leb, lt-leb, ne_eqb}
use Rattle.records.specs.Entries.{Entry}
use Rattle.records.specs.Shapes.{shape_of}
use Rattle.records.specs.Scan.{State, start, blank, record_at_lem, naming, name, entry_for, after, body_byte_lem, shape_at, record_fault, record_after, whole, scan, scan_sheet}
use Rattle.records.proofs.KindTable.{bounds}
use Rattle.records.proofs.Faultless.{body_at, record_right, scan-keeps}
use Rattle.syntax.proofs.Formed.{read_formed}
use Rattle.syntax.specs.Laid.{Rec, rec, rec_of, rec_bytes, laid, Sound, next_by, reach, Follows, WellFormed}

pub laid-append : (x y : List Rec) → laid (x ++ y) ≡ laid x ++ laid y
unfolding laid
laid-append [] y = refl
laid-append (r ∷ x) y = rw (laid-append x y) (sym (append_assoc (rec_bytes r) (laid x) (laid y)))

-- naming a record changes none
name-recs : (es : List Entry) (wanted r : ℕ) → map rec_of (name es wanted r) ≡ map rec_of es
unfolding name
name-recs es wanted r = go (eqb wanted 0)
  where
    go : (b : Bool) → map rec_of (cond b es (set es r (naming (record_at_lem es r)))) ≡ map rec_of es
    go true = refl
    go false = map-set_same rec_of es r (naming (record_at_lem es r)) blank refl

pub recs-after : (st : State) (k a b : ℕ) → map rec_of (after st k a b).records ≡ map rec_of st.records ++ (rec k a b ∷ [])
unfolding after
recs-after st k a b =
    map-append rec_of (name (name st.records ((shape_of k).first) a) ((shape_of k).second) b) (entry_for st.records k a b ∷ []) ∙
    ap (λ (l : List Rec). l ++ (rec k a b ∷ []))
    (name-recs (name st.records ((shape_of k).first) a) ((shape_of k).second) b ∙ name-recs st.records ((shape_of k).first) a)

pub recs-reach : (st : State) (rs : List Rec) → map rec_of (reach st rs).records ≡ map rec_of st.records ++ rs
unfolding reach
recs-reach st [] = sym (append-nil (map rec_of st.records))
recs-reach st (r ∷ rs) = recs-reach (next_by st r) rs ∙ rw (recs-after st r.kind r.first r.second, append_assoc)

pub reach-append : (st : State) (x y : List Rec) → reach st (x ++ y) ≡ reach (reach st x) y
unfolding reach
reach-append st [] y = refl
reach-append st (r ∷ x) y = reach-append (next_by st r) x y

pub follows-append : (st : State) (x y : List Rec) → Follows st x → Follows (reach st x) y → Follows st (x ++ y)
unfolding Follows reach
follows-append st [] y h k = k
follows-append st (r ∷ x) y h k = (h.0, follows-append (next_by st r) x y h.1 k)

-- the bytes of a body in the sheet
module _ (pre post : List ℕ) (k a b : ℕ) where
  abbrev sheet_by : ℕ → List ℕ
  sheet_by n = pre ++ (k ∷ (take n (a ∷ b ∷ []) ++ post))

  kind-there : (n : ℕ) → get_or (sheet_by n) (length pre) 0 ≡ k
  kind-there n = rw (← add-zero (length pre)) (get_or-append-add pre (k ∷ (take n (a ∷ b ∷ []) ++ post)) 0 0)

  first-there : (n : ℕ) → (n ≡ 0 → a ≡ 0) → cond (leb 1 n) (get_or (sheet_by n) (length pre + 1) 0) 0 ≡ a
  first-there zero h = sym (h refl)
  first-there (suc n) h = rw (le-leb 1 (suc n) (omega arith)) (get_or-append-add pre (k ∷ (take (suc n) (a ∷ b ∷ []) ++ post)) 1 0)

  second-there : (n : ℕ) → (n ≤ 1 → b ≡ 0) → cond (leb 2 n) (get_or (sheet_by n) (length pre + 2) 0) 0 ≡ b
  second-there zero h = sym (h (omega arith))
  second-there (suc zero) h = sym (h (omega arith))
  second-there (suc (suc n)) h = rw (le-leb 2 (suc (suc n)) (omega arith)) (get_or-append-add pre (k ∷ (take (suc (suc n)) (a ∷ b ∷ []) ++ post)) 2 0)

pub bytes-length : (r : Rec) → length (rec_bytes r) ≡ 1 + (shape_of r.kind).body
unfolding rec_bytes
bytes-length r = omega (arith, length-take ((shape_of r.kind).body) (r.first ∷ r.second ∷ []), (bounds r.kind).body)

-- a record that may follow is read
module _ (pre post : List ℕ) (st : State) (r : Rec) (at : st.at ≡ length pre) (s : Sound st r) where
  abbrev sheet : List ℕ
  sheet = pre ++ (rec_bytes r ++ post)

  kind-is : get_or sheet st.at 0 ≡ r.kind
  unfolding rec_bytes
  kind-is = rw at (kind-there pre post r.kind r.first r.second ((shape_of r.kind).body))

  first-is : body_byte_lem sheet st.at (shape_of r.kind) 1 ≡ r.first
  unfolding rec_bytes
  first-is = rw at (first-there pre post r.kind r.first r.second ((shape_of r.kind).body) (s.first))

  second-is : body_byte_lem sheet st.at (shape_of r.kind) 2 ≡ r.second
  unfolding rec_bytes
  second-is = rw at (second-there pre post r.kind r.first r.second ((shape_of r.kind).body) (s.second))

  enough : 1 + (shape_of r.kind).body + st.at ≤ length sheet
  enough = omega (arith, length-append pre (rec_bytes r ++ post), length-append (rec_bytes r) post, bytes-length r)

  no-fault : (record_fault sheet st).number ≡ 0
  unfolding record_fault
  no-fault =
      let e = enough in
      rw (
        kind-is,
        first-is,
        second-is,
        ne_eqb ((shape_of r.kind).sort) 0 (s.known),
        le-ltb (length sheet - (st.at + 1)) ((shape_of r.kind).body) (omega arith),
      ) (s.right)

  read-next : record_after sheet st ≡ next_by st r
  unfolding record_after
  read-next = rw (kind-is, first-is, second-is)

  scan-next : (room : ℕ) → scan (suc room) sheet st ≡ scan room sheet (next_by st r)
  unfolding scan
  scan-next room = let e = enough in rw (lt-ltb st.at (length sheet) (omega arith), no-fault, read-next)

scan-ends : (room : ℕ) (pre : List ℕ) (st : State) → st.at ≡ length pre → scan room pre st ≡ whole st
unfolding scan
scan-ends zero pre st at = rw (le-ltb st.at (length pre) (omega arith))
scan-ends (suc room) pre st at = rw (le-ltb st.at (length pre) (omega arith))

after-at : (st : State) (r : Rec) → (next_by st r).at ≡ st.at + 1 + (shape_of r.kind).body
unfolding after
after-at st r = refl

scan-laid : (room : ℕ) (pre : List ℕ) (st : State) (rs : List Rec) → st.at ≡ length pre → length rs ≤ room → Follows st rs →
    scan room (pre ++ laid rs) st ≡ whole (reach st rs)
unfolding laid Follows reach
scan-laid room pre st [] at h f = rw (append-nil pre) (scan-ends room pre st at)
scan-laid zero pre st (r ∷ rs) at h f = absurd (omega arith)
scan-laid (suc room) pre st (r ∷ rs) at h f =
    scan-next pre (laid rs) st r at f.0 room ∙
    rw (← append_assoc pre (rec_bytes r) (laid rs)) (scan-laid room (pre ++ rec_bytes r) (next_by st r) rs moved (omega arith) f.1)
  where
    moved : (next_by st r).at ≡ length (pre ++ rec_bytes r)
    moved = omega (arith, after-at st r, length-append pre (rec_bytes r), bytes-length r)

-- well-formed records, laid, are read back as themselves
pub laid-reads : (rs : List Rec) → WellFormed rs → scan_sheet (laid rs) ≡ whole (reach start rs)
unfolding scan_sheet
laid-reads rs w = scan-laid 255 [] start rs refl (w.few) (w.sound)

pub reads-back : (rs : List Rec) → map rec_of (reach start rs).records ≡ rs
reads-back rs = recs-reach start rs

-- the bytes of the record at a place
bytes-at : (sheet : List ℕ) (at n : ℕ) → n ≤ 2 → at + 1 + n ≤ length sheet →
    get_or sheet at 0 ∷ take n (cond (leb 1 n) (get_or sheet (at + 1) 0) 0 ∷ cond (leb 2 n) (get_or sheet (at + 2) 0) 0 ∷ []) ≡ take (1 + n) (drop at sheet)
bytes-at sheet at zero h k = rw (drop-cons sheet at 0 (omega arith))
bytes-at sheet at (suc zero) h k = rw (drop-cons sheet at 0 (omega arith), drop-cons sheet (suc at) 0 (omega arith), add-one)
bytes-at sheet at (suc (suc zero)) h k =
    let e : at + 2 ≡ suc (suc at) = omega arith in
    rw (drop-cons sheet at 0 (omega arith), drop-cons sheet (suc at) 0 (omega arith), drop-cons sheet (suc (suc at)) 0 (omega arith), add-one, e)
bytes-at sheet at (suc (suc (suc n))) h k = absurd (omega arith)

-- what was read is the sheet up to the place
record IsLaid (sheet : List ℕ) (st : State) : Type 0 where
  within : st.at ≤ length sheet
  are : laid (map rec_of st.records) ≡ take st.at sheet

laid-next : (sheet : List ℕ) (st : State) (k a b : ℕ) → ((shape_of k).sort ≡ 0 → ⊥) → st.at + 1 + (shape_of k).body ≤ length sheet →
    rec_bytes (rec k a b) ≡ take (1 + (shape_of k).body) (drop st.at sheet) → IsLaid sheet st → IsLaid sheet (after st k a b)
unfolding after laid
laid-next sheet st k a b n h e i =
    record {
      within = h;
      are =
          rw (recs-after st k a b, laid-append (map rec_of st.records) (rec k a b ∷ []), append-nil, e, i.are, shift)
          (sym (take-add st.at (1 + (shape_of k).body) sheet));
    }
  where
    shift : st.at + 1 + (shape_of k).body ≡ st.at + (1 + (shape_of k).body)
    shift = omega arith

laid-step : (sheet : List ℕ) (st : State) → st.at < length sheet → (record_fault sheet st).number ≡ 0 → IsLaid sheet st → IsLaid sheet (record_after sheet st)
unfolding record_after rec_bytes
laid-step sheet st l p i =
    let w = record_right sheet st p in
    let h : st.at + 1 + (shape_at sheet st.at).body ≤ length sheet = omega (arith, w.1) in
    laid-next sheet st (get_or sheet st.at 0) (body_at sheet st 1) (body_at sheet st 2) w.0 h
    (bytes-at sheet st.at (shape_at sheet st.at).body (bounds (get_or sheet st.at 0)).body h) i

-- a sheet that is read is laid of its records
pub laid-read : (sheet : List ℕ) (st : State) → scan_sheet sheet ≡ whole st → laid (map rec_of st.records) ≡ sheet
unfolding scan_sheet laid
laid-read sheet st e =
    let w = scan-keeps (λ room u. IsLaid sheet u) sheet (λ room u. laid-step sheet u) 255 start st (record { within = omega arith; are = refl }) e in
    w.1.are ∙ take_all st.at sheet w.2

-- a body byte that is not there is 0
byte-none : (sheet : List ℕ) (st : State) (i : ℕ) → (shape_at sheet st.at).body < i → body_at sheet st i ≡ 0
byte-none sheet st i h = rw (lt-leb i (shape_at sheet st.at).body h)

abbrev rec_at : List ℕ → State → Rec
rec_at sheet st = rec (get_or sheet st.at 0) (body_at sheet st 1) (body_at sheet st 2)

-- a record without fault may follow what was read
record-sound : (sheet : List ℕ) (st : State) → (record_fault sheet st).number ≡ 0 → Sound st (rec_at sheet st)
record-sound sheet st p =
    let w = record_right sheet st p in
    record { known = w.0; right = w.2; first = λ h. byte-none sheet st 1 (omega arith); second = λ h. byte-none sheet st 2 (omega arith) }

-- the records that were read may follow one another, and again make the state, marks and all
record IsSound (st : State) : Type 0 where
  sound : Follows start (map rec_of st.records)
  again : reach start (map rec_of st.records) ≡ st

sound-next : (st : State) (r : Rec) → Sound st r → IsSound st → IsSound (next_by st r)
unfolding Follows reach
sound-next st r s i =
    let e : map rec_of (next_by st r).records ≡ map rec_of st.records ++ (r ∷ []) = recs-after st r.kind r.first r.second in
    record {
      sound = rw e (follows-append start (map rec_of st.records) (r ∷ []) i.sound (rw i.again (s, tt)));
      again = rw e (reach-append start (map rec_of st.records) (r ∷ []) ∙ ap (λ (u : State). next_by u r) i.again);
    }

-- a sheet that is read has well-formed records
pub read_well-formed : (sheet : List ℕ) (st : State) → scan_sheet sheet ≡ whole st → WellFormed (map rec_of st.records)
unfolding scan_sheet record_after Follows reach
read_well-formed sheet st e =
    let w = scan-keeps (λ room u. IsSound u) sheet (λ room u l p. sound-next u (rec_at sheet u) (record-sound sheet u p)) 255 start st
    (record { sound = tt; again = refl }) e in
    record { few = omega (arith, (read_formed sheet st e).few, length-map st.records rec_of); sound = w.1.sound }
