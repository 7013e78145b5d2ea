-- The program's steps: each takes the front of the input and prints a line.
use Rattle.std.specs.Prelude.{ℕ, zero, suc, ◌+◌, ◌*◌, ◌≤◌, ◌≡◌, Bool, true, ◌&&◌, cond, List, [], ◌∷◌, ◌++◌, map, eqb, ltb, length, take, drop, Option, Some, None, Result, Ok, Err, IfOk}
use Rattle.std.specs.Borrow.{Bor}
use Rattle.console.specs.Output.{handed}
use Rattle.syntax.specs.Reading.{read_kb}
use Rattle.syntax.specs.Answers.{limit}
use Rattle.domino.specs.Answers.{judge_leaves}
use Rattle.queue.specs.declared.slots.SlotAnswer.{SlotAnswer}
use Rattle.queue.specs.declared.steps.Stepped.{Stepped}
use Rattle.queue.specs.declared.Turned.{Turned}
use Rattle.queue.specs.Queue.{Sums, alone, length_in, sheet_in, slot_says, kind_of, slot_first, slot_of, end_first, met_in, unmet_in, refused_in, survivors_in, totals_of}
use Rattle.queue.specs.Lines.{slot_line, last_line, most}

-- what a slot leaves in the lent words: what judge leaves for its sheet
unfoldable pub slot_leaves : List ℕ → List ℕ → List ℕ
slot_leaves slot ws = cond (ltb 765 (length_in slot)) ws (judge_leaves (read_kb limit (sheet_in slot)) ws)

-- totals with one answer more
unfoldable pub added : Sums → SlotAnswer → Sums
added t a =
    record {
      sheets = t.sheets + 1;
      met = t.met + met_in a;
      unmet = t.unmet + unmet_in a;
      refused = t.refused + refused_in a;
      survivors = t.survivors + survivors_in a;
    }

-- the totals of slots that came, no more than may come
pub record Reached (t : Sums) : Type 0 where
  pub slots : List (List ℕ)
  pub few : length slots ≤ most
  pub totals : t ≡ totals_of (map slot_says slots)

-- so no total wraps: at most 4,096 slots, and at most 2^18 survivors each, as many as 4,096 words hold
pub record Small (t : Sums) : Type 0 where
  pub sheets : t.sheets ≤ most
  pub met : t.met ≤ most
  pub unmet : t.unmet ≤ most
  pub refused : t.refused ≤ most
  pub survivors : t.survivors ≤ 262144 * most

-- ---- a step, from totals and an input

-- is there a slot, whole, that may come?
unfoldable pub takes : Sums → List ℕ → Bool
takes t input = ltb t.sheets most && slot_first input

unfoldable pub step_totals : Sums → List ℕ → Sums
step_totals t input = cond (takes t input) (added t (slot_says (slot_of input))) t

-- the totals that follow; none where there is nothing more to come
unfoldable pub step_next : Sums → List ℕ → Option Sums
step_next t input = cond (takes t input) (Some (step_totals t input)) None

unfoldable pub step_prints : Sums → List ℕ → List ℕ
step_prints t input = cond (takes t input) (slot_line t.sheets (slot_says (slot_of input))) (last_line (end_first input) t)

unfoldable pub step_leaves : Sums → List ℕ → List ℕ → List ℕ
step_leaves t input ws = cond (takes t input) (slot_leaves (slot_of input) ws) ws

-- ---- a turn: a step on the bytes that were read; none where a read failed

abbrev pub turn_next : Sums → Option (List ℕ) → Option Sums
turn_next t (Some piece) = step_next t piece
turn_next t None = None

abbrev pub turn_prints : Sums → Option (List ℕ) → List ℕ
turn_prints t (Some piece) = step_prints t piece
turn_prints t None = []

abbrev pub turn_leaves : Sums → Option (List ℕ) → List ℕ → List ℕ
turn_leaves t (Some piece) ws = step_leaves t piece ws
turn_leaves t None ws = ws

-- ---- all steps

-- how much of the input a step reads: a kind, and the 767 bytes of a slot that may come
unfoldable pub wanted : ℕ → ℕ → ℕ
wanted sheets kind = cond (eqb kind 0x30 && ltb sheets most) 768 1

-- what the steps print, one after another, each with what it reads of the input
unfoldable pub steps_print : ℕ → Sums → List ℕ → List ℕ
steps_print zero t input = []
steps_print (suc more) t input =
    let piece = take (wanted t.sheets (kind_of input)) input in
    step_prints t piece ++ cond (takes t piece) (steps_print more (step_totals t piece) (drop (length piece) input)) []

-- ---- the contracts

-- bytes read for a step: no more than it wants
abbrev pub ReadsStep : {E : Type 0} → ℕ → Result (Bor (List ℕ)) E → Type 0
ReadsStep sheets r = IfOk r (λ bytes. length bytes.now ≤ wanted sheets (kind_of bytes.now))

-- the bytes, if the read did not fail
abbrev pub bytes_read : {E : Type 0} → Result (Bor (List ℕ)) E → Option (List ℕ)
bytes_read (Ok bytes) = Some bytes.now
bytes_read (Err e) = None

pub record JudgesAlone (sheet before after : List ℕ) (r : SlotAnswer) : Type 0 where
  pub answer : r ≡ alone sheet
  pub set : after ≡ judge_leaves (read_kb limit sheet) before

pub record JudgesSlot (slot before after : List ℕ) (r : SlotAnswer) : Type 0 where
  pub answer : r ≡ slot_says slot
  pub set : after ≡ slot_leaves slot before

pub record Steps (t : Sums) (input words left : List ℕ) (r : Stepped) : Type 0 where
  pub next : r.next ≡ step_next t input
  pub line : r.line.items ≡ step_prints t input
  pub set : left ≡ step_leaves t input words

pub record Takes (t : Sums) (input : Option (List ℕ)) (words left : List ℕ) (r : Stepped) : Type 0 where
  pub next : r.next ≡ turn_next t input
  pub line : r.line.items ≡ turn_prints t input
  pub set : left ≡ turn_leaves t input words

-- a turn's line is what is handed to standard output; only whether all of it is written the system decides
pub record Turns (t : Sums) (input : Option (List ℕ)) (words left : List ℕ) (r : Turned) : Type 0 where
  pub next : r.next ≡ cond r.printed.whole (turn_next t input) None
  pub line : handed r.printed ≡ turn_prints t input
  pub set : left ≡ turn_leaves t input words

-- the last turn, from totals that are reached
pub record Served (r : Turned) : Type 0 where
  pub before : Sums
  pub reached : Reached before
  pub input : Option (List ℕ)
  pub words : List ℕ
  pub left : List ℕ
  pub turn : Turns before input words left r
  pub ended : r.next ≡ None

-- ---- turns in a row

-- a turn whose read brought the piece of the input that its step wants, and whose line was written whole
pub record TurnOn (t : Sums) (input : List ℕ) (r : Turned) : Type 0 where
  pub words : List ℕ
  pub left : List ℕ
  pub turn : Turns t (Some (take (wanted t.sheets (kind_of input)) input)) words left r
  pub whole : r.printed.whole ≡ true

-- such turns, each on what the one before left of the input, up to one that is the last
unfoldable pub TurnsOn : Sums → List ℕ → List Turned → Type 0
TurnsOn t input [] = ⊥
TurnsOn t input (r ∷ []) = TurnOn t input r × (r.next ≡ None)
TurnsOn t input (r ∷ s ∷ rs) = TurnOn t input r × ((u : Sums) × (r.next ≡ Some u) × TurnsOn u (drop 768 input) (s ∷ rs))

-- what turns handed to standard output, one after another
unfoldable pub turns_print : List Turned → List ℕ
turns_print [] = []
turns_print (r ∷ rs) = handed r.printed ++ turns_print rs
