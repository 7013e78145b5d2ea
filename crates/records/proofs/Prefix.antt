-- The first 766 bytes of a sheet decide what the scan says: a sheet that long has a fault by then.
use Prim.Native.Nat.{ℕ, zero, suc, ◌+◌, ◌-◌, ◌*◌, ◌≤◌}
use mathlib.Core.Path.{◌≡◌, refl, ap}
use mathlib.Core.Bool.{Bool, true, false, cond}
use mathlib.Core.List.{List}
use native.Mathlib.Omega.{arith}
use lib.Dec.{ltb, eqb}
use lib.ListN.{length, get_or, take}
use lib.Seq.{get_or-take, length-take-le, take_all}
use borrow.Author.Tests.{lt-ltb, le-ltb, ltb-true, ltb-false}
use Rattle.records.specs.Shapes.{shape_of}
use Rattle.records.specs.Scan.{State, start, Scanning, refused, after, record_fault, record_after, scan, scan_sheet}
use Rattle.records.proofs.KindTable.{bounds}

module _ (n : ℕ) (sheet : List ℕ) (long : n ≤ length sheet) (st : State) where
  uncut : (l : List ℕ) → st.at + 3 ≤ length l → ltb (length l - (st.at + 1)) (shape_of (get_or sheet st.at 0)).body ≡ false
  uncut l h =
      let f : (shape_of (get_or sheet st.at 0)).body ≤ length l - (st.at + 1) = omega (arith, (bounds (get_or sheet st.at 0)).body) in
      le-ltb (length l - (st.at + 1)) (shape_of (get_or sheet st.at 0)).body f

  -- the record at the state's place is read alike
  fault_same : st.at + 3 ≤ n → record_fault (take n sheet) st ≡ record_fault sheet st
  unfolding record_fault
  fault_same h =
      let a = get_or-take n sheet st.at 0 (omega arith) in
      let b = get_or-take n sheet (st.at + 1) 0 (omega arith) in
      let d = get_or-take n sheet (st.at + 2) 0 (omega arith) in
      let u = uncut (take n sheet) (omega (arith, length-take-le n sheet long)) in
      let w = uncut sheet (omega arith) in
      rw (a, b, d, u, w)

  after_same : st.at + 3 ≤ n → record_after (take n sheet) st ≡ record_after sheet st
  unfolding record_after
  after_same h =
      let a = get_or-take n sheet st.at 0 (omega arith) in
      let b = get_or-take n sheet (st.at + 1) 0 (omega arith) in
      let d = get_or-take n sheet (st.at + 2) 0 (omega arith) in
      rw (a, b, d)

-- the next record starts at most three bytes on
after_near : (sheet : List ℕ) (st : State) (room : ℕ) → st.at + 3 * suc room ≤ 765 → (record_after sheet st).at + 3 * room ≤ 765
unfolding record_after after
after_near sheet st room h = omega (arith, (bounds (get_or sheet st.at 0)).body)

-- a state that has come three bytes a record or fewer, with room for the rest
module _ (sheet : List ℕ) (long : 766 ≤ length sheet) where
  scan_same : (room : ℕ) (st : State) → st.at + 3 * room ≤ 765 → scan room (take 766 sheet) st ≡ scan room sheet st
  unfolding scan
  scan_same zero st h =
      rw (lt-ltb st.at (length (take 766 sheet)) (omega (arith, length-take-le 766 sheet long)), lt-ltb st.at (length sheet) (omega arith))
  scan_same (suc room) st h =
      let next : scan room (take 766 sheet) (record_after sheet st) ≡ scan room sheet (record_after sheet st) =
      scan_same room (record_after sheet st) (after_near sheet st room h) in
      rw (
        lt-ltb st.at (length (take 766 sheet)) (omega (arith, length-take-le 766 sheet long)),
        lt-ltb st.at (length sheet) (omega arith),
        fault_same 766 sheet long st (omega arith),
        after_same 766 sheet long st (omega arith),
        next,
      )

  scan-faulty : (room : ℕ) (st : State) → st.at + 3 * room ≤ 765 → (n : ℕ) × (p : ℕ) × (scan room sheet st ≡ refused n p)
  unfolding scan
  scan-faulty zero st h = (3, st.at, rw (lt-ltb st.at (length sheet) (omega arith)))
  scan-faulty (suc room) st h =
      rw (lt-ltb st.at (length sheet) (omega arith))
      (or_refused (record_fault sheet st).number (st.at + (record_fault sheet st).offset) (scan room sheet (record_after sheet st))
      (scan-faulty room (record_after sheet st) (after_near sheet st room h)))
    where
      or_refused : (f p : ℕ) (x : Scanning) → (m : ℕ) × (q : ℕ) × (x ≡ refused m q) → (m : ℕ) × (q : ℕ) × (cond (eqb f 0) x (refused f p) ≡ refused m q)
      or_refused f p x w = go (eqb f 0)
        where
          go : (b : Bool) → (m : ℕ) × (q : ℕ) × (cond b x (refused f p) ≡ refused m q)
          go true = w
          go false = (f, p, refl)

pub long-faulty : (sheet : List ℕ) → 766 ≤ length sheet → (n : ℕ) × (p : ℕ) × (scan_sheet sheet ≡ refused n p)
unfolding scan_sheet
long-faulty sheet long = scan-faulty sheet long 255 start (omega arith)

pub scan_front : (sheet : List ℕ) → scan_sheet (take 766 sheet) ≡ scan_sheet sheet
unfolding scan_sheet
scan_front sheet = go (ltb (length sheet) 766) refl
  where
    go : (b : Bool) → ltb (length sheet) 766 ≡ b → scan 255 (take 766 sheet) start ≡ scan 255 sheet start
    go true e = ap (λ (l : List ℕ). scan 255 l start) (take_all 766 sheet (omega (arith, ltb-true (length sheet) 766 e)))
    go false e = scan_same sheet (ltb-false (length sheet) 766 e) 255 start (omega arith)
