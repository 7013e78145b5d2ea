-- The program's steps print what is said of the queue; bytes after its end are ignored; and what is said of slots laid one after
-- another.
use Prim.Native.Nat.{ℕ, zero, suc, ◌+◌, ◌-◌, ◌≤◌}
use mathlib.Core.Path.{◌≡◌, refl, sym, ap, ◌∙◌}
use mathlib.Core.Bool.{Bool, true, false, true≢false, and-eq-true_iff, ◌&&◌, cond}
use mathlib.Core.List.{List, [], ◌∷◌, ◌++◌, map, append-nil, append_assoc}
use native.Mathlib.Nat.{suc-add, zero-add}
use native.Mathlib.Omega.{arith}
use lib.Dec.{eqb, ltb}
use lib.ListN.{length, drop, length-append, length-map}
use lib.Seq.{take-append-le, drop-append-le, take_at, drop_at}
use borrow.Author.Tests.{lt-ltb, le-ltb, ltb-true, eqb-true}
use Rattle.output.specs.Text.{text}
use Rattle.queue.specs.declared.slots.SlotAnswer.{SlotAnswer}
use Rattle.queue.specs.Queue.{Sums, slot_says, slot_first, slot_of, end_first, Said, said, slots_laid, laid, Whole, totals_of}
use Rattle.queue.specs.Lines.{slot_line, slot_lines, totals_line, last_line, most, printed}
use Rattle.queue.specs.Steps.{added, takes, step_totals, step_prints, steps_print}
use Rattle.queue.proofs.Adding.{totals-added}
use Rattle.queue.proofs.Fronts.{first-long, piece, takes_front, piece-long, step_totals_front, step_prints_front}

-- ---- what is said, a slot at a time

-- what is said, by its parts
abbrev said_so : List SlotAnswer → Bool → Said
said_so answers ended = record { answers = answers; ended = ended }

-- no whole slot in front
said_last : (more : ℕ) (input : List ℕ) → slot_first input ≡ false → said (suc more) input ≡ said_so [] (end_first input)
unfolding said
said_last more input e = rw e

-- a whole slot in front
said_slot : (more : ℕ) (input : List ℕ) → slot_first input ≡ true
    → said (suc more) input ≡ said_so (slot_says (slot_of input) ∷ (said more (drop 768 input)).answers) (said more (drop 768 input)).ended
unfolding said
said_slot more input e = rw e

-- ---- what is printed, a step at a time

module _ (more : ℕ) (t : Sums) (input : List ℕ) where
  -- a step reads enough
  pub step-whole : steps_print (suc more) t input
      ≡ step_prints t input ++ cond (takes t input) (steps_print more (step_totals t input) (drop (length (piece t input)) input)) []
  unfolding steps_print
  step-whole = rw (step_prints_front t input, takes_front t input, step_totals_front t input)

  -- nothing is taken: the last line
  step_last : takes t input ≡ false → steps_print (suc more) t input ≡ last_line (end_first input) t
  unfolding step_prints
  step_last e = step-whole ∙ rw e (append-nil (last_line (end_first input) t))

  -- a slot is taken: its line, and then what comes after it
  step_slot : takes t input ≡ true
      → steps_print (suc more) t input
      ≡ slot_line t.sheets (slot_says (slot_of input)) ++ steps_print more (added t (slot_says (slot_of input))) (drop 768 input)
  unfolding step_prints step_totals
  step_slot e = step-whole ∙ rw (e, piece-long t input e)

-- ---- the steps print what is said

-- after so many answers, with so many slots more that may come
module _ (answers : List SlotAnswer) where
  -- the lines of what is said from here on
  abbrev lines_of : Said → List ℕ
  lines_of s = slot_lines (length answers) s.answers ++ last_line s.ended (totals_of (answers ++ s.answers))

  -- the last line alone
  lines_last : (input : List ℕ) → lines_of (said_so [] (end_first input)) ≡ last_line (end_first input) (totals_of answers)
  unfolding slot_lines
  lines_last input = rw (append-nil answers)

  -- a line, and then those with its answer among the answers
  lines_slot : (a : SlotAnswer) (s : Said)
      → lines_of (said_so (a ∷ s.answers) s.ended)
      ≡ slot_line (length answers) a
      ++ (slot_lines (length (answers ++ (a ∷ []))) s.answers ++ last_line s.ended (totals_of (answers ++ (a ∷ []) ++ s.answers)))
  unfolding slot_lines
  lines_slot a s =
      let n : length (answers ++ (a ∷ [])) ≡ suc (length answers) = omega (arith, length-append answers (a ∷ [])) in
      rw (n, append_assoc answers (a ∷ []) s.answers)
      (append_assoc (slot_line (length answers) a) (slot_lines (suc (length answers)) s.answers) _)

  -- a whole slot in front is taken if one more may come
  few : (b : Bool) (input : List ℕ) → ltb (length answers) most ≡ b → takes (totals_of answers) input ≡ (b && slot_first input)
  unfolding takes totals_of
  few b input e = rw e

-- the sheets count every answer
sheets_of : (answers : List SlotAnswer) → (totals_of answers).sheets ≡ length answers
unfolding totals_of
sheets_of answers = refl

-- the steps from there on print the lines of what is said
steps-said : (more : ℕ) (answers : List SlotAnswer) (input : List ℕ) → length answers + more ≡ most
    → steps_print (suc more) (totals_of answers) input ≡ lines_of answers (said more input)
steps-said zero answers input h =
    step_last zero (totals_of answers) input (few answers false input (le-ltb (length answers) most (omega arith)))
    ∙ unfold said in sym (lines_last answers input)
steps-said (suc more) answers input h =
    go (slot_first input) refl (few answers true input (lt-ltb (length answers) most (omega arith)))
    (steps-said more (answers ++ (slot_says (slot_of input) ∷ [])) (drop 768 input)
    (omega (arith, length-append answers (slot_says (slot_of input) ∷ []))))
  where
    a : SlotAnswer
    a = slot_says (slot_of input)

    go : (b : Bool) → slot_first input ≡ b → takes (totals_of answers) input ≡ slot_first input
        → steps_print (suc more) (totals_of (answers ++ (a ∷ []))) (drop 768 input)
        ≡ lines_of (answers ++ (a ∷ [])) (said more (drop 768 input))
        → steps_print (suc (suc more)) (totals_of answers) input ≡ lines_of answers (said (suc more) input)
    go true e f next =
        step_slot (suc more) (totals_of answers) input (f ∙ e)
        ∙ rw (← (totals-added answers a), sheets_of answers, next)
        (sym (lines_slot answers a (said more (drop 768 input)))
        ∙ ap (lines_of answers) (sym (said_slot more input e)))
    go false e f next =
        step_last (suc more) (totals_of answers) input (f ∙ e)
        ∙ sym (lines_last answers input) ∙ ap (lines_of answers) (sym (said_last more input e))

-- all steps, from the start
pub steps_print_lem : (input : List ℕ) → steps_print (suc most) (totals_of []) input ≡ printed input
unfolding printed
steps_print_lem input = steps-said most [] input (zero-add most)

-- ---- bytes after the end are ignored

-- a slot in front stays
first_more : (input rest : List ℕ) → slot_first input ≡ true → slot_first (input ++ rest) ≡ true
unfolding slot_first
first_more [] rest e = absurd (true≢false (sym e))
first_more (b ∷ bs) rest e =
    let k = (and-eq-true_iff (eqb b 0x30) (ltb 767 (length (b ∷ bs)))).0 e in
    (and-eq-true_iff (eqb b 0x30) (ltb 767 (length (b ∷ bs ++ rest)))).1
    (k.0, lt-ltb 767 (length (b ∷ bs ++ rest)) (omega (arith, ltb-true 767 (length (b ∷ bs)) k.1, length-append bs rest)))

-- with its bytes
slot_more : (input rest : List ℕ) → 768 ≤ length input → slot_of (input ++ rest) ≡ slot_of input
unfolding slot_of
slot_more [] rest h = absurd (omega arith)
slot_more (b ∷ bs) rest h = take-append-le 767 bs rest (omega arith)

-- so does the end
end_more : (input rest : List ℕ) → end_first input ≡ true → end_first (input ++ rest) ≡ end_first input
unfolding end_first
end_more [] rest e = absurd (true≢false (sym e))
end_more (b ∷ bs) rest e = refl

-- which is no slot
end_alone : (input rest : List ℕ) → end_first input ≡ true → slot_first (input ++ rest) ≡ false
unfolding end_first slot_first
end_alone [] rest e = absurd (true≢false (sym e))
end_alone (b ∷ bs) rest e = rw (eqb-true b 0x31 e)

-- what follows a queue that ended changes nothing that is said
pub ended_ignores : (more : ℕ) (input rest : List ℕ) → (said more input).ended ≡ true → said more (input ++ rest) ≡ said more input
ended_ignores zero input rest e = unfold said in ap (said_so []) (end_more input rest (unfold said in e))
ended_ignores (suc more) input rest e = go (slot_first input) refl (ended_ignores more (drop 768 input) rest)
  where
    go : (b : Bool) → slot_first input ≡ b
        → ((said more (drop 768 input)).ended ≡ true → said more (drop 768 input ++ rest) ≡ said more (drop 768 input))
        → said (suc more) (input ++ rest) ≡ said (suc more) input
    go true f next =
        let h : 768 ≤ length input = first-long input f in
        let n = next (sym (ap (λ (s : Said). s.ended) (said_slot more input f)) ∙ e) in
        said_slot more (input ++ rest) (first_more input rest f)
        ∙ rw (drop-append-le 768 input rest h, slot_more input rest h, n) (sym (said_slot more input f))
    go false f next =
        let g : end_first input ≡ true = sym (ap (λ (s : Said). s.ended) (said_last more input f)) ∙ e in
        said_last more (input ++ rest) (end_alone input rest g) ∙ ap (said_so []) (end_more input rest g) ∙ sym (said_last more input f)

-- nor what is printed
pub printed_ignores : (input rest : List ℕ) → (said most input).ended ≡ true → printed (input ++ rest) ≡ printed input
unfolding printed
printed_ignores input rest e = rw (ended_ignores most input rest e)

-- ---- slots laid one after another

module _ (s : List ℕ) (h : length s ≡ 767) (rest : List ℕ) where
  -- a slot with its kind in front stands first
  laid-first : slot_first (0x30 ∷ s ++ rest) ≡ true
  unfolding slot_first
  laid-first = lt-ltb 767 (length (0x30 ∷ s ++ rest)) (omega (arith, length-append s rest))

  -- with its bytes
  laid_slot : slot_of (0x30 ∷ s ++ rest) ≡ s
  unfolding slot_of
  laid_slot = take_at s rest 767 h

  -- and is answered first
  said-first : (more : ℕ) → said (suc more) (0x30 ∷ s ++ rest) ≡ said_so (slot_says s ∷ (said more rest).answers) (said more rest).ended
  said-first more = said_slot more (0x30 ∷ s ++ rest) laid-first ∙ rw (laid_slot, drop_at s rest 767 h)

-- each is answered in its place, and then what is said of the rest
pub said-slots : (more : ℕ) (ss : List (List ℕ)) (rest : List ℕ) → Whole ss
    → said (length ss + more) (slots_laid ss ++ rest)
    ≡ record { answers = map slot_says ss ++ (said more rest).answers; ended = (said more rest).ended }
unfolding slots_laid
said-slots more [] rest w = rw (zero-add more)
said-slots more (s ∷ ss) rest w =
    rw (
      suc-add (length ss) more,
      append_assoc s (slots_laid ss) rest,
      said-first s w.0 (slots_laid ss ++ rest) (length ss + more),
      said-slots more ss rest w.1,
    )

-- the end, after which no slot may come
said_end : (more : ℕ) → said more (0x31 ∷ []) ≡ said_so [] true
unfolding said slot_first end_first
said_end zero = refl
said_end (suc more) = refl

-- "For each slot one line": each is answered, in order, and the queue ends
pub said-laid : (ss : List (List ℕ)) → Whole ss → length ss ≤ most
    → said most (laid ss) ≡ record { answers = map slot_says ss; ended = true }
unfolding laid
said-laid ss w h =
    let n : length ss + (most - length ss) ≡ most = omega arith in
    rw n at (said-slots (most - length ss) ss (0x31 ∷ []) w)
    ∙ rw (said_end (most - length ss), append-nil (map slot_says ss))

-- ---- what is printed of them

-- a line for each, and the totals
pub laid-printed : (ss : List (List ℕ)) → Whole ss → length ss ≤ most
    → printed (laid ss) ≡ slot_lines 0 (map slot_says ss) ++ totals_line (totals_of (map slot_says ss))
unfolding printed last_line
laid-printed ss w h = rw (said-laid ss w h)

-- no slot may come, or none stands whole in front, and the queue does not end here
module _ (ss : List (List ℕ)) (rest : List ℕ)
    (cut : takes (totals_of (map slot_says ss)) rest ≡ false) (unended : end_first rest ≡ false) where
  -- nothing is said of the rest
  said_cut : (more : ℕ) → length ss + more ≡ most → said more rest ≡ said_so [] false
  said_cut zero n = unfold said in ap (said_so []) unended
  said_cut (suc more) n =
      let f = few (map slot_says ss) true rest (lt-ltb (length (map slot_says ss)) most (omega (arith, length-map ss slot_says))) in
      said_last more rest (sym f ∙ cut) ∙ ap (said_so []) unended

  -- "queue cut (a cut slot gets no line), kind not known, or a 4,097th slot"
  pub cut_printed : Whole ss → length ss ≤ most → printed (slots_laid ss ++ rest) ≡ slot_lines 0 (map slot_says ss) ++ text "refused 15\n"
  unfolding printed last_line
  cut_printed w h =
      let n : length ss + (most - length ss) ≡ most = omega arith in
      let e : said most (slots_laid ss ++ rest) ≡ said_so (map slot_says ss) false =
      rw n at (said-slots (most - length ss) ss rest w) ∙ rw (said_cut (most - length ss) n, append-nil (map slot_says ss)) in
      rw e
