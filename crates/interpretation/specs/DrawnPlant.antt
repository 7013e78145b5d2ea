-- What drawing a plant answers and leaves (02, N11).
use Rattle.std.specs.Prelude.{ℕ, ◌≡◌, Bool, ◌||◌, List, eqb, length, Result}
use Rattle.syntax.specs.Reading.{Reading}
use Rattle.semantics.specs.Conditions.{View, canon}
use Rattle.semantics.specs.Views.{kb_view}
use Rattle.refusals.specs.declared.Refusal.{Refusal}
use Rattle.output.specs.Output.{Output, refuse, Writes}
use Rattle.domino.specs.Answers.{is_set_refusal, on_set, judge_leaves}
use Rattle.drawings.specs.Checking.{is_plain}
use Rattle.drawing_layers.specs.LayersDrawn.{set_output}

-- the drawing of what judging leaves, of the knowledge base seen as v
unfoldable pub canon_output : View → Output
canon_output v = set_output v.parts v.roles (is_plain v) (canon v)

-- "Errors: after judge's, 26, no survivors; 27, m above 341; 21, output too short; the output is then untouched": what is to be written for
-- a sheet read as s and so many words
unfoldable pub draw_output : Reading → ℕ → Output
draw_output s words = on_set refuse (λ k. canon_output (kb_view k)) s words

-- the numbers it refuses with: a call's on a set, and its own
unfoldable pub is_draw_refusal : ℕ → Bool
is_draw_refusal n = ((is_set_refusal n || eqb n 26) || eqb n 27) || eqb n 21

-- the contract: for a sheet read as s; "past judge's errors the set ends as judged"
pub record DrawsPlant (s : Reading) (before after out bytes : List ℕ) (r : Result ℕ Refusal) : Type 0 where
  pub output : Writes (draw_output s (length before)) out bytes r
  pub set : after ≡ judge_leaves s before
