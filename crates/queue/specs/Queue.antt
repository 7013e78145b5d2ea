-- The six o'clock queue (02, N1): from its bytes to what is said of it.
use Rattle.std.specs.Prelude.{ℕ, zero, suc, ◌+◌, ◌-◌, ◌*◌, ◌/◌, ◌%◌, ◌≤◌, ◌≡◌, Bool, ◌&&◌, cond, List, [], ◌∷◌, ◌++◌, eqb, ltb, length, get_or, take, drop, replicate}
use Rattle.syntax.specs.Bounds.{All}
use Rattle.syntax.specs.Reading.{read_kb}
use Rattle.syntax.specs.Answers.{limit}
use Rattle.domino.specs.Answers.{judge_says}
use Rattle.queue.specs.declared.slots.SlotAnswer.{SlotAnswer}
use Rattle.queue.specs.declared.slots.SlotAnswer.TheVariants.{Met, Unmet, Refused}

-- what judge says, as a slot's line has it: two numbers are a refusal's and its place; of five the fourth is the survivor count
-- and the fifth 1 for met
unfoldable pub answer_of : List ℕ → SlotAnswer
answer_of says =
    cond (eqb (length says) 2) (Refused (get_or says 0 0))
    (cond (eqb (get_or says 4 0) 1) (Met (get_or says 3 0)) (Unmet (get_or says 3 0)))

-- "what judging that sheet alone with 4,096 words says"
unfoldable pub alone : List ℕ → SlotAnswer
alone sheet = answer_of (judge_says (read_kb limit sheet) (replicate 4096 0))

-- a slot's 767 bytes: "length, two bytes, low first, then 765 bytes of which that many are the sheet"
unfoldable pub length_in : List ℕ → ℕ
length_in slot = get_or slot 0 0 + 256 * get_or slot 1 0

unfoldable pub sheet_in : List ℕ → List ℕ
sheet_in slot = take (length_in slot) (drop 2 slot)

-- "14, slot length above 765, on that slot's line"
unfoldable pub slot_says : List ℕ → SlotAnswer
slot_says slot = cond (ltb 765 (length_in slot)) (Refused 14) (alone (sheet_in slot))

-- the kind at the front of bytes; 0, which is no kind, if there are none
abbrev pub kind_of : List ℕ → ℕ
kind_of bytes = get_or bytes 0 0

-- "A slot is kind 30 hex and 767 bytes": does a whole one stand in front?
unfoldable pub slot_first : List ℕ → Bool
slot_first bytes = eqb (kind_of bytes) 0x30 && ltb 767 (length bytes)

-- its 767 bytes
unfoldable pub slot_of : List ℕ → List ℕ
slot_of bytes = take 767 (drop 1 bytes)

-- "kind 31, with no body, ends the queue"
unfoldable pub end_first : List ℕ → Bool
end_first bytes = eqb (kind_of bytes) 0x31

-- what is said of a queue: the slots' answers in order, and whether it ends as it should; if not, it is refused 15: "queue cut (a
-- cut slot gets no line), kind not known, or a 4,097th slot"
pub record Said : Type 0 where
  pub answers : List SlotAnswer
  pub ended : Bool

-- of a queue that may have so many slots
unfoldable pub said : ℕ → List ℕ → Said
said zero bytes = record { answers = []; ended = end_first bytes }
said (suc more) bytes =
    cond (slot_first bytes) (first (slot_says (slot_of bytes)) (said more (drop 768 bytes)))
    (record { answers = []; ended = end_first bytes })
  where
    first : SlotAnswer → Said → Said
    first a s = record { answers = a ∷ s.answers; ended = s.ended }

-- ---- a queue written out

-- a sheet's slot: its length, then the sheet, then zeros
unfoldable pub slot_for : List ℕ → List ℕ
slot_for sheet = length sheet % 256 ∷ length sheet / 256 ∷ sheet ++ replicate (765 - length sheet) 0

-- slots, each behind its kind
unfoldable pub slots_laid : List (List ℕ) → List ℕ
slots_laid [] = []
slots_laid (slot ∷ rest) = 0x30 ∷ slot ++ slots_laid rest

-- a whole queue
unfoldable pub laid : List (List ℕ) → List ℕ
laid slots = slots_laid slots ++ (0x31 ∷ [])

-- each slot has 767 bytes
abbrev pub Whole : List (List ℕ) → Type 0
Whole slots = All (λ slot. length slot ≡ 767) slots

-- each sheet fits a slot
abbrev pub Fit : List (List ℕ) → Type 0
Fit sheets = All (λ sheet. length sheet ≤ 765) sheets

-- ---- "exact totals, sheets counting every slot, survivors summed"

pub record Sums : Type 0 where
  pub sheets : ℕ
  pub met : ℕ
  pub unmet : ℕ
  pub refused : ℕ
  pub survivors : ℕ

unfoldable pub met_in : SlotAnswer → ℕ
met_in (Met s) = 1
met_in (Unmet s) = 0
met_in (Refused n) = 0

unfoldable pub unmet_in : SlotAnswer → ℕ
unmet_in (Met s) = 0
unmet_in (Unmet s) = 1
unmet_in (Refused n) = 0

unfoldable pub refused_in : SlotAnswer → ℕ
refused_in (Met s) = 0
refused_in (Unmet s) = 0
refused_in (Refused n) = 1

unfoldable pub survivors_in : SlotAnswer → ℕ
survivors_in (Met s) = s
survivors_in (Unmet s) = s
survivors_in (Refused n) = 0

unfoldable pub sum : (SlotAnswer → ℕ) → List SlotAnswer → ℕ
sum f [] = 0
sum f (a ∷ rest) = f a + sum f rest

unfoldable pub totals_of : List SlotAnswer → Sums
totals_of answers =
    record {
      sheets = length answers;
      met = sum met_in answers;
      unmet = sum unmet_in answers;
      refused = sum refused_in answers;
      survivors = sum survivors_in answers;
    }
