-- Demand 1: the refusals of the six calls, their order and places, and that they leave what was lent as it is; and what is past the
-- bytes or words needed, which no call touches.
use mathlib.Core.Path.{◌≡◌, refl, sym as flip, ap, ap₂, subst, ◌∙◌}
use mathlib.Core.Logic.{◌⊎◌, inl, inr, ⊎_elim, ◌↔◌}
use mathlib.Core.Bool.{Bool, true, false, ◌&&◌, cond}
use mathlib.Core.List.{List, [], ◌∷◌, ◌++◌}
use Prim.Native.Nat.{ℕ, ◌*◌, ◌≤◌, ◌<◌}
use native.Mathlib.Omega.{arith}
use lib.Dec.{eqb, ltb}
use lib.ListN.{length, take, drop, length-append, length-drop}
use lib.Seq.{take_at, drop_at}
use borrow.Author.Tests.{le-ltb, ltb-true, ltb-false}
use Rattle.bitset.specs.Bits.{Set, look, cleared}
use Rattle.bitset.proofs.RunLaws.{words-room}
use Rattle.elimination.specs.Sets.{Same}
use Rattle.elimination.specs.Elimination.{settled}
use Rattle.elimination.specs.Calls.{written, strike_words}
use Rattle.elimination.proofs.Settling.{settled_same}
use Rattle.elimination.proofs.Written.{strike-long, written-long, written-past, written-look, written_same, written-again, strike-past}
use Rattle.records.specs.Places.{is_record_fault, is_reference_fault, Placed}
use Rattle.records.proofs.Places.{place_none}
use Rattle.syntax.specs.Reading.{Kb, Reading, refusal, kb, parts_of, read_kb, is_read_refusal}
use Rattle.syntax.specs.Answers.{limit, read_says, list_says, list_leaves, bytes_of, kinds_listed, is_list_refusal}
use Rattle.syntax.specs.Counts.{count_kind}
use Rattle.syntax.proofs.Counting.{counts_sum, names_counted, counts_listed}
use Rattle.std.specs.List.{count_by}
use Rattle.syntax.proofs.ListBytes.{bytes-long}
use Rattle.syntax.proofs.Refusals.{UpTo, one_more, one_wider, read_refusals, refusal-number, refusal-placed}
use Rattle.semantics.specs.Conditions.{View, dominoes, initial, defective, canon, held}
use Rattle.semantics.specs.Views.{kb_view}
use Rattle.semantics.proofs.Defects.{defective_monotone}
use Rattle.domino.specs.Answers.{is_short, is_set_refusal, is_strike_refusal, says_on_set, leaves_on_set, verdict_numbers, verdict_of, open_says, open_leaves, strike_says, strike_leaves, settle_says, settle_leaves, judge_says, judge_leaves}
use Rattle.domino.specs.Demanded.{refusal_of, place_of, Refuses, RefusesShort, RefusesOnSet, RefusesOnList, Demand1, Demand1Listed, Demand1Done}
use Rattle.domino.proofs.OnSet.{says-refused, leaves-refused, says-short, leaves-short, says-enough, leaves-enough}
use Rattle.domino.proofs.WordsEnough.{held-some, open_says_lem, open_leaves_lem, strike-says, strike-beyond, settle-says, settle-leaves, judge_says_lem, judge_leaves_lem}

-- ---- the numbers of refusals are those of an interval, and 16 and 17

pub list_refusals : (n : ℕ) → (is_list_refusal n ≡ true) ↔ (UpTo 9 n ⊎ (n ≡ 12))
unfolding is_list_refusal
list_refusals n =
    let w = one_more (is_read_refusal n) n 12 in
    let r = read_refusals n in
    (λ e. ⊎_elim (λ f. inl (r.0 f)) inr (w.0 e), λ h. w.1 (⊎_elim (λ f. inl (r.1 f)) inr h))

pub set_refusals : (n : ℕ) → (is_set_refusal n ≡ true) ↔ UpTo 10 n
unfolding is_set_refusal
set_refusals n = one_wider is_read_refusal 9 n (read_refusals n)

pub strike_refusals : (n : ℕ) → (is_strike_refusal n ≡ true) ↔ UpTo 11 n
unfolding is_strike_refusal
strike_refusals n = one_wider is_set_refusal 10 n (set_refusals n)

-- ---- the cases of a call that refuses with the numbers `refusals`, those of read among them

module _ (refusals : ℕ → Bool) (those : (n : ℕ) → is_read_refusal n ≡ true → refusals n ≡ true) (sheet before : List ℕ) where
  -- the sheet is refused
  refused : (n p : ℕ) → read_kb limit sheet ≡ refusal n p → Refuses refusals sheet before (n ∷ p ∷ []) before
  refused n p e =
      record {
        read = λ m q f.
            let i : n ≡ m = cc in
            let j : p ≡ q = cc in
            (ap₂ (λ (a b : ℕ). a ∷ b ∷ []) i j, refusal-number limit sheet f);
        placed = refusal-placed limit sheet e;
        among = λ a. those n (refusal-number limit sheet e);
        untouched = λ a. refl;
        long = refl;
      }

  -- it is read
  answered : (k : Kb) → read_kb limit sheet ≡ kb k → (says after : List ℕ) → Placed sheet (refusal_of says) (place_of says)
      → ((refusal_of says ≡ 0 → ⊥) → (refusals (refusal_of says) ≡ true) × (after ≡ before)) → length after ≡ length before
      → Refuses refusals sheet before says after
  answered k e says after placed own long =
      record {
        read = λ n p f. let z : ◌≡◌ {A = ℕ} 0 1 = cc in absurd (omega arith);
        placed = placed;
        among = λ a. (own a).0;
        untouched = λ a. (own a).1;
        long = long;
      }

  -- what is needed is the same however the sheet is read
  needed_same : (needed : Kb → ℕ) (k : Kb) → read_kb limit sheet ≡ kb k → (j : Kb) → read_kb limit sheet ≡ kb j → needed k ≡ needed j
  needed_same needed k e j f = let i : k ≡ j = cc in ap needed i

  -- too few bytes or words are refused with `number`, which is no fault of the sheet
  module _ (number : ℕ) (one : refusals number ≡ true) (nowhere : is_record_fault number ≡ false) (nor : is_reference_fault number ≡ false) (needed : Kb → ℕ) where
    from-refusal : (n p : ℕ) → read_kb limit sheet ≡ refusal n p → RefusesShort refusals number needed sheet before (n ∷ p ∷ []) before
    from-refusal n p e =
        record {
          refuses = refused n p e;
          short = λ k f l. let z : ◌≡◌ {A = ℕ} 0 1 = cc in absurd (omega arith);
          past = λ k f. refl;
        }

    module _ (k : Kb) (e : read_kb limit sheet ≡ kb k) where
      from-short : RefusesShort refusals number needed sheet before (number ∷ 0 ∷ []) before
      from-short =
          record {
            refuses = answered k e (number ∷ 0 ∷ []) before (place_none sheet number nowhere nor) (λ a. (one, refl)) refl;
            short = λ j f l. refl;
            past = λ j f. refl;
          }

      from-enough : (says after : List ℕ) → needed k ≤ length before → Refuses refusals sheet before says after
          → drop (needed k) after ≡ drop (needed k) before → RefusesShort refusals number needed sheet before says after
      from-enough says after h r past =
          record {
            refuses = r;
            short = λ j f l. absurd (omega (arith, needed_same needed k e j f));
            past = λ j f. subst (λ (x : ℕ). drop x after ≡ drop x before) (needed_same needed k e j f) past;
          }

  -- an answer that is no refusal
  no_refusal : (k : Kb) → read_kb limit sheet ≡ kb k → (says after : List ℕ) → length after ≡ length before → Refuses refusals sheet before (0 ∷ 0 ∷ says) after
  unfolding is_record_fault is_reference_fault
  no_refusal k e says after = answered k e (0 ∷ 0 ∷ says) after (place_none sheet 0 refl refl) (λ a. absurd (a refl))

-- ---- the cases of a call on a set

module _ (refusals : ℕ → Bool) (those : (n : ℕ) → is_set_refusal n ≡ true → refusals n ≡ true) (sheet ws : List ℕ) where
  as_read : (n : ℕ) → is_read_refusal n ≡ true → refusals n ≡ true
  unfolding is_set_refusal
  as_read n e = those n (rw e)

  ten : refusals 10 ≡ true
  unfolding is_record_fault is_reference_fault is_read_refusal is_set_refusal
  ten = those 10 refl

  set-enough : (k : Kb) → read_kb limit sheet ≡ kb k → (says after : List ℕ) → held (kb_view k) ≤ length ws → Refuses refusals sheet ws says after
      → drop (held (kb_view k)) after ≡ drop (held (kb_view k)) ws → RefusesOnSet refusals sheet ws says after
  unfolding is_record_fault is_reference_fault
  set-enough = from-enough refusals as_read sheet ws 10 ten refl refl (λ k. held (kb_view k))

  written_done : (k : Kb) → read_kb limit sheet ≡ kb k → (says : List ℕ) (D : Set) → held (kb_view k) ≤ length ws
      → RefusesOnSet refusals sheet ws (0 ∷ 0 ∷ says) (written (held (kb_view k)) (dominoes (kb_view k)) D ws)
  written_done k e says D h =
      set-enough k e (0 ∷ 0 ∷ says) (written (held (kb_view k)) (dominoes (kb_view k)) D ws) h
      (no_refusal refusals as_read sheet ws k e says (written (held (kb_view k)) (dominoes (kb_view k)) D ws) (written-long (held (kb_view k)) (dominoes (kb_view k)) D ws h))
      (written-past (held (kb_view k)) (dominoes (kb_view k)) D ws)

  -- a call that does so with words enough does so with any
  from_any : (says leaves : Kb → List ℕ → List ℕ)
      → ((k : Kb) → read_kb limit sheet ≡ kb k → held (kb_view k) ≤ length ws → RefusesOnSet refusals sheet ws (says k ws) (leaves k ws))
      → (s : Reading) → read_kb limit sheet ≡ s → RefusesOnSet refusals sheet ws (says_on_set says s ws) (leaves_on_set leaves s ws)
  unfolding is_record_fault is_reference_fault
  from_any says leaves f (refusal n p) e =
      rw (says-refused says ws n p, leaves-refused leaves ws n p) (from-refusal refusals as_read sheet ws 10 ten refl refl (λ k. held (kb_view k)) n p e)
  from_any says leaves f (kb k) e = go (is_short k ws) refl
    where
      go : (b : Bool) → is_short k ws ≡ b → RefusesOnSet refusals sheet ws (says_on_set says (kb k) ws) (leaves_on_set leaves (kb k) ws)
      go true q =
          let h : length ws < held (kb_view k) = ltb-true (length ws) (held (kb_view k)) q in
          rw (says-short says ws k h, leaves-short leaves ws k h)
          (from-short refusals as_read sheet ws 10 ten refl refl (λ k. held (kb_view k)) k e)
      go false q =
          let h : held (kb_view k) ≤ length ws = ltb-false (length ws) (held (kb_view k)) q in
          rw (says-enough says ws k h, leaves-enough leaves ws k h) (f k e h)

-- ---- the calls

read-refuses : (sheet : List ℕ) → Refuses is_read_refusal sheet [] (read_says (read_kb limit sheet)) []
unfolding read_says
read-refuses sheet = go (read_kb limit sheet) refl
  where
    go : (s : Reading) → read_kb limit sheet ≡ s → Refuses is_read_refusal sheet [] (read_says s) []
    go (refusal n p) e = refused is_read_refusal (λ n h. h) sheet [] n p e
    go (kb k) e = no_refusal is_read_refusal (λ n h. h) sheet [] k e _ [] refl

abbrev needed : Kb → ℕ
needed k = 3 * length (parts_of k)

list-refuses : (sheet list : List ℕ) → RefusesOnList sheet list (list_says (read_kb limit sheet) list) (list_leaves (read_kb limit sheet) list)
unfolding list_says list_leaves is_record_fault is_reference_fault is_read_refusal is_list_refusal
list-refuses sheet list = go (read_kb limit sheet) refl
  where
    listed : (n : ℕ) → is_read_refusal n ≡ true → is_list_refusal n ≡ true
    listed n e = rw e

    read : (k : Kb) → read_kb limit sheet ≡ kb k → (b : Bool) → ltb (length list) (needed k) ≡ b
        → RefusesOnList sheet list (cond b (12 ∷ 0 ∷ []) (0 ∷ 0 ∷ length (parts_of k) ∷ []))
        (cond b list (bytes_of (parts_of k) ++ drop (needed k) list))
    read k e true q = from-short is_list_refusal listed sheet list 12 refl refl refl needed k e
    read k e false q =
        let h : needed k ≤ length list = ltb-false (length list) (needed k) q in
        let b = bytes-long (parts_of k) in
        let bytes : List ℕ = bytes_of (parts_of k) ++ drop (needed k) list in
        let long : length bytes ≡ length list = omega (arith, h, b, length-append (bytes_of (parts_of k)) (drop (needed k) list), length-drop (needed k) list) in
        from-enough is_list_refusal listed sheet list 12 refl refl refl needed k e _ bytes h
        (no_refusal is_list_refusal listed sheet list k e _ bytes long) (drop_at (bytes_of (parts_of k)) (drop (needed k) list) (needed k) b)

    go : (s : Reading) → read_kb limit sheet ≡ s → RefusesOnList sheet list (list_says s list) (list_leaves s list)
    go (refusal n p) e = from-refusal is_list_refusal listed sheet list 12 refl refl refl needed n p e
    go (kb k) e = read k e (ltb (length list) (needed k)) refl

struck_too : (n : ℕ) → is_set_refusal n ≡ true → is_strike_refusal n ≡ true
unfolding is_strike_refusal
struck_too n e = rw e

module _ (sheet ws : List ℕ) where
  open_refuses : RefusesOnSet is_set_refusal sheet ws (open_says (read_kb limit sheet) ws) (open_leaves (read_kb limit sheet) ws)
  unfolding open_says open_leaves
  open_refuses =
      from_any is_set_refusal (λ n e. e) sheet ws _ _ (λ k e h. written_done is_set_refusal (λ n e. e) sheet ws k e _ (initial (kb_view k)) h) (read_kb limit sheet) refl

  strike-refuses : (n : ℕ) → RefusesOnSet is_strike_refusal sheet ws (strike_says (read_kb limit sheet) n ws) (strike_leaves (read_kb limit sheet) n ws)
  unfolding strike_says strike_leaves is_record_fault is_reference_fault is_read_refusal is_set_refusal is_strike_refusal
  strike-refuses n = from_any is_strike_refusal struck_too sheet ws _ _ (λ k e h. go k e h (ltb n (dominoes (kb_view k))) refl) (read_kb limit sheet) refl
    where
      go : (k : Kb) → read_kb limit sheet ≡ kb k → held (kb_view k) ≤ length ws → (d : Bool) → ltb n (dominoes (kb_view k)) ≡ d
          → RefusesOnSet is_strike_refusal sheet ws (cond d (0 ∷ 0 ∷ n ∷ verdict_numbers (verdict_of (kb_view k) (look ws) n)) (11 ∷ 0 ∷ []))
          (strike_words (dominoes (kb_view k)) (defective (kb_view k)) n ws)
      go k e h true r =
          set-enough is_strike_refusal struck_too sheet ws k e _ (strike_words (dominoes (kb_view k)) (defective (kb_view k)) n ws) h
          (no_refusal is_strike_refusal (as_read is_strike_refusal struck_too sheet ws) sheet ws k e _ (strike_words (dominoes (kb_view k)) (defective (kb_view k)) n ws)
          (strike-long (dominoes (kb_view k)) (defective (kb_view k)) n ws))
          (strike-past (held (kb_view k)) (dominoes (kb_view k)) (defective (kb_view k)) n ws (words-room (dominoes (kb_view k))))
      go k e h false r =
          set-enough is_strike_refusal struck_too sheet ws k e (11 ∷ 0 ∷ []) (strike_words (dominoes (kb_view k)) (defective (kb_view k)) n ws) h
          (answered is_strike_refusal (as_read is_strike_refusal struck_too sheet ws) sheet ws k e (11 ∷ 0 ∷ [])
          (strike_words (dominoes (kb_view k)) (defective (kb_view k)) n ws) (place_none sheet 11 refl refl)
          (λ a. (refl, ap (λ (x : Bool). cond (x && (look ws n && defective (kb_view k) (look ws) n)) (cleared ws n) ws) r))
          (strike-long (dominoes (kb_view k)) (defective (kb_view k)) n ws))
          (strike-past (held (kb_view k)) (dominoes (kb_view k)) (defective (kb_view k)) n ws (words-room (dominoes (kb_view k))))

  settle-refuses : RefusesOnSet is_set_refusal sheet ws (settle_says (read_kb limit sheet) ws) (settle_leaves (read_kb limit sheet) ws)
  unfolding settle_says settle_leaves
  settle-refuses =
      from_any is_set_refusal (λ n e. e) sheet ws _ _
      (λ k e h. written_done is_set_refusal (λ n e. e) sheet ws k e _ (settled (dominoes (kb_view k)) (defective (kb_view k)) (look ws)) h)
      (read_kb limit sheet) refl

  judge_refuses : RefusesOnSet is_set_refusal sheet ws (judge_says (read_kb limit sheet) ws) (judge_leaves (read_kb limit sheet) ws)
  unfolding judge_says judge_leaves
  judge_refuses =
      from_any is_set_refusal (λ n e. e) sheet ws _ _ (λ k e h. written_done is_set_refusal (λ n e. e) sheet ws k e _ (canon (kb_view k)) h) (read_kb limit sheet) refl

pub demand_1 : (sheet list ws : List ℕ) (n : ℕ) → Demand1 sheet list ws n
demand_1 sheet list ws n =
    record {
      reading = read-refuses sheet;
      listing = list-refuses sheet list;
      opening = open_refuses sheet ws;
      striking = strike-refuses sheet ws n;
      settling = settle-refuses sheet ws;
      judging = judge_refuses sheet ws;
    }

-- no words are too few for every sheet that is read, the empty one too
pub no_words : (sheet : List ℕ) (k : Kb) (n : ℕ) → read_kb limit sheet ≡ kb k
    → (open_says (read_kb limit sheet) [] ≡ 10 ∷ 0 ∷ []) × (strike_says (read_kb limit sheet) n [] ≡ 10 ∷ 0 ∷ [])
    × (settle_says (read_kb limit sheet) [] ≡ 10 ∷ 0 ∷ []) × (judge_says (read_kb limit sheet) [] ≡ 10 ∷ 0 ∷ [])
no_words sheet k n e =
    let d = demand_1 sheet [] [] n in
    let l : 0 < held (kb_view k) = held-some (kb_view k) in
    (d.opening.short k e l, d.striking.short k e l, d.settling.short k e l, d.judging.short k e l)

-- read and list marks do their work
pub demand_1-listed : (sheet : List ℕ) (k : Kb) → read_kb limit sheet ≡ kb k → (list : List ℕ)
    → Demand1Listed (read_kb limit sheet) k list
unfolding read_says list_says list_leaves
demand_1-listed sheet k e list =
    let c : ℕ = needed k in
    record {
      reads = ap read_says e;
      sum = counts_sum (parts_of k);
      names = names_counted k;
      lists = λ h. ap (λ (s : Reading). list_says s list) e ∙ rw (le-ltb (length list) c h);
      bytes = λ h.
          ap (λ (s : Reading). take c (list_leaves s list)) e
          ∙ rw (le-ltb (length list) c h) (take_at (bytes_of (parts_of k)) (drop c list) c (bytes-long (parts_of k)));
      past = (list-refuses sheet list).past k e;
      kinds = λ h.
          let of : (n : ℕ) → count_by (λ b. eqb b n) (kinds_listed (take c (list_leaves (read_kb limit sheet) list))) ≡ count_kind n (parts_of k) =
          λ n.
          ap (λ (s : Reading). count_by (λ b. eqb b n) (kinds_listed (take c (list_leaves s list)))) e
          ∙ rw (le-ltb (length list) c h)
          (rw (take_at (bytes_of (parts_of k)) (drop c list) c (bytes-long (parts_of k))) (counts_listed n (parts_of k)))
          in
          ap read_says e ∙ rw (of 0, of 1, of 2, of 3) refl;
    }

-- ---- enough words

module _ (k : Kb) (ws : List ℕ) (h : held (kb_view k) ≤ length ws) where
  -- settling what was opened leaves what judging leaves
  pub opened-settled : judge_leaves (kb k) ws ≡ settle_leaves (kb k) (open_leaves (kb k) ws)
  unfolding canon
  opened-settled =
      let v : View = kb_view k in
      let us : List ℕ = written (held v) (dominoes v) (initial v) ws in
      let left : Set = settled (dominoes v) (defective v) (look us) in
      let same : Same (dominoes v) (canon v) left = λ p l. flip (settled_same (dominoes v) (defective v) (defective_monotone v) (look us) (initial v)
      (written-look (held v) (dominoes v) (initial v) ws (words-room (dominoes v))) p l) in
      judge_leaves_lem k ws h
      ∙ written_same (held v) (dominoes v) (canon v) left ws same
      ∙ flip (written-again (held v) (dominoes v) (initial v) left ws)
      ∙ flip (ap (settle_leaves (kb k)) (open_leaves_lem k ws h)
      ∙ settle-leaves k us (omega (arith, written-long (held v) (dominoes v) (initial v) ws h)))

  done : (n : ℕ) → Demand1Done (kb k) (kb_view k) ws n
  done n =
      record {
        opens = ap refusal_of (open_says_lem k ws h);
        strikes = λ l. ap refusal_of (strike-says k ws h n l);
        beyond = strike-beyond k ws h n;
        settles = ap refusal_of (settle-says k ws h);
        judges = ap refusal_of (judge_says_lem k ws h);
        settled = opened-settled;
      }

pub demand_1_done : (sheet : List ℕ) (k : Kb) → read_kb limit sheet ≡ kb k → (ws : List ℕ) (n : ℕ)
    → held (kb_view k) ≤ length ws → Demand1Done (read_kb limit sheet) (kb_view k) ws n
demand_1_done sheet k e ws n h = rw e (done k ws h n)
