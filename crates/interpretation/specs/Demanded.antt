-- What is demanded of the check of a drawn interpretation and of drawing one, beside their answers, words and bytes: their refusals, and
-- what is drawn.
use Rattle.std.specs.Prelude.{ℕ, ◌≤◌, ◌≡◌, Bool, true, false, List, [], ◌∷◌, length, take, drop}
use Rattle.syntax.specs.Reading.{Kb, refusal, kb, is_read_refusal, read_kb}
use Rattle.syntax.specs.Answers.{limit}
use Rattle.semantics.specs.Interpretations.{Interpretation, models}
use Rattle.semantics.specs.Conditions.{held}
use Rattle.semantics.specs.Views.{kb_view}
use Rattle.domino.specs.Answers.{is_set_refusal, judge_leaves}
use Rattle.drawings.specs.Entries.{drawing_of}
use Rattle.drawings.specs.Meanings.{Draws}
use Rattle.interpretation.specs.Answers.{is_check_refusal, check_says, check_leaves}
use Rattle.interpretation.specs.DrawnPlant.{is_draw_refusal}

-- a refusal with number n at place p, of a call that refuses with the numbers `refusals`: its number; its place, which is reading's or 0
pub record Reasoned (refusals : ℕ → Bool) (sheet : List ℕ) (n p : ℕ) : Type 0 where
  pub among : refusals n ≡ true
  pub as_read : is_read_refusal n ≡ true → read_kb limit sheet ≡ refusal n p
  pub nowhere : is_read_refusal n ≡ false → p ≡ 0

-- of a check: "the set is untouched"
pub record Refused (sheet before after : List ℕ) (n p : ℕ) : Type 0 where
  pub reasoned : Reasoned is_check_refusal sheet n p
  pub untouched : after ≡ before

-- of a drawing, for an output: "the output is then untouched; past judge's errors the set ends as judged"
pub record RefusedDrawing (sheet before after out bytes : List ℕ) (n p : ℕ) : Type 0 where
  pub reasoned : Reasoned is_draw_refusal sheet n p
  pub untouched : bytes ≡ out
  pub early : is_set_refusal n ≡ true → after ≡ before
  pub late : is_set_refusal n ≡ false → after ≡ judge_leaves (read_kb limit sheet) before

-- n bytes are drawn, of a sheet read as k: they draw an interpretation that is a model of the sheet as written, role inclusions too, and
-- "N10 gives back exactly the judged set"; "every output .. keeps the bytes past what is written"
pub record Drawn (k : Kb) (before after out bytes : List ℕ) (n : ℕ) : Type 0 where
  pub interpretation : Interpretation
  pub some : 1 ≤ interpretation.individuals
  pub few : interpretation.individuals ≤ 1023
  pub draws : Draws k interpretation (drawing_of (take n bytes))
  pub model : models interpretation k ≡ true
  pub holds : (us : List ℕ) → held (kb_view k) ≤ length us → check_says (kb k) (take n bytes) us ≡ 0 ∷ 0 ∷ 0 ∷ []
  pub back : (us : List ℕ) → held (kb_view k) ≤ length us → check_leaves (kb k) (take n bytes) us ≡ judge_leaves (kb k) us
  pub set : after ≡ judge_leaves (kb k) before
  pub fits : n ≤ length out
  pub kept : drop n bytes ≡ drop n out
