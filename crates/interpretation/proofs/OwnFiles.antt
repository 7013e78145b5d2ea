-- Checking an interpretation's own file, of one to 1,024 individuals, with words enough: that all holds is answered exactly if the
-- interpretation is a model, what is named is the first of which the knowledge base as written fails, and the words hold its dominoes.
use Prim.Native.Nat.{ℕ, ◌≤◌, ◌<◌}
use native.Mathlib.Omega.{arith}
use mathlib.Core.Path.{◌≡◌, ap, ◌∙◌}
use mathlib.Core.Logic.{◌↔◌}
use mathlib.Core.Bool.{true}
use mathlib.Core.List.{List, [], ◌∷◌}
use lib.ListN.{length}
use Rattle.std.specs.Prelude.{Result}
use Rattle.bitset.specs.Bits.{look}
use Rattle.elimination.specs.Sets.{Same}
use Rattle.refusals.specs.declared.Refusal.{Refusal}
use Rattle.syntax.specs.Reading.{Kb, kb, read_kb}
use Rattle.syntax.specs.Answers.{limit}
use Rattle.semantics.specs.Interpretations.{Interpretation, models}
use Rattle.semantics.specs.Dominoes.{unnumbered}
use Rattle.semantics.specs.Conditions.{View, dominoes, held}
use Rattle.semantics.specs.Views.{kb_view}
use Rattle.semantics.specs.Projection.{projection}
use Rattle.drawings.specs.Entries.{Drawing, drawing_of}
use Rattle.drawings.specs.Checking.{Breach, unbroken, breach_numbers, drawn_set, breach}
use Rattle.drawings.specs.Laid.{own_file}
use Rattle.drawings.specs.Meanings.{SaysWritten}
use Rattle.drawings.proofs.Breaches.{breach_means}
use Rattle.drawings.proofs.OwnFile.{own_faultless, own_projection, own_models}
use Rattle.drawings.proofs.AsWritten.{own_first}
use Rattle.interpretation.specs.declared.drawing.Finding.{Finding}
use Rattle.interpretation.specs.Answers.{check_numbers, ChecksPlant}
use Rattle.interpretation.proofs.Demands.{check_done, check_means, check_set}

module _ (sheet : List ℕ) (k : Kb) (e : read_kb limit sheet ≡ kb k)
    (I : Interpretation) (few : I.individuals ≤ 1024) (some : 0 < I.individuals) (ws vs : List ℕ) (r : Result Finding Refusal)
    (c : ChecksPlant (read_kb limit sheet) (own_file I k) ws vs r) (enough : held (kb_view k) ≤ length ws) where
  abbrev v : View
  v = kb_view k

  abbrev d : Drawing
  d = drawing_of (own_file I k)

  -- it has no fault, so its first breach is answered
  own_done : check_numbers r ≡ 0 ∷ 0 ∷ breach_numbers (breach v d)
  own_done = check_done sheet (own_file I k) ws vs r c k e enough (own_faultless limit sheet k e (omega arith) I few some)

  own_answer : (b : Breach) → check_numbers r ≡ 0 ∷ 0 ∷ breach_numbers b ↔ breach v d ≡ b
  own_answer b = (
    λ a. (breach_means v d b).1 (check_means sheet (own_file I k) ws vs r c k e b a),
    λ h. own_done ∙ ap (λ (b : Breach). 0 ∷ 0 ∷ breach_numbers b) h,
  )

  -- all holds exactly if it is a model
  pub check_own : check_numbers r ≡ 0 ∷ 0 ∷ 0 ∷ [] ↔ models I k ≡ true
  check_own =
      let m = own_models limit sheet k e (omega arith) I few in (
        λ a. m.0 ((own_answer unbroken).0 a),
        λ h. (own_answer unbroken).1 (m.1 h),
      )

  -- an answer is given exactly where it is so of the axioms and role inclusions as written: an individual that is named is the first of
  -- which an axiom fails, a pair the first between which a role inclusion fails
  pub check_own_written : (b : Breach) → check_numbers r ≡ 0 ∷ 0 ∷ breach_numbers b ↔ SaysWritten I k b
  check_own_written b =
      let f = own_first limit sheet k e (omega arith) I few b in (
        λ a. f.0 ((own_answer b).0 a),
        λ h. (own_answer b).1 (f.1 h),
      )

  -- the words needed hold the dominoes of the interpretation, and no others
  pub check_own_set : Same (dominoes v) (look vs) (unnumbered v.parts v.roles (projection I k))
  unfolding drawn_set unnumbered
  check_own_set n h =
      check_set sheet (own_file I k) ws vs r c k e (breach v d) own_done n h
      ∙ own_projection limit sheet k e (omega arith) I few _ _ _
