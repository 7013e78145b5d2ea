-- What drawing a plant answers and leaves, from what loading, judging and drawing the set say.
use Prim.Native.Nat.{ℕ, ◌≤◌}
use mathlib.Core.Path.{◌≡◌, refl, sym, ap, ap₂, subst, ◌∙◌, fun_ext}
use mathlib.Core.List.{List}
use lib.ListN.{length}
use Rattle.std.specs.Prelude.{Result, Ok, Err, None}
use Rattle.bitset.specs.Bits.{Set, bit, look, words_for_lem}
use Rattle.bitset.proofs.RunLaws.{words-room}
use Rattle.elimination.specs.Sets.{Same}
use Rattle.elimination.specs.Calls.{written}
use Rattle.elimination.proofs.Written.{written-look}
use Rattle.refusals.specs.Numbers.{number}
use Rattle.refusals.specs.declared.Refusal.{Refusal}
use Rattle.syntax.specs.Reading.{Kb, Reading}
use Rattle.semantics.specs.Dominoes.{total}
use Rattle.semantics.specs.Conditions.{View, dominoes, canon, held}
use Rattle.semantics.specs.Views.{kb_view}
use Rattle.semantics.proofs.Rising.{rising_same}
use Rattle.tbox.specs.declared.base.Base.{Base}
use Rattle.domino_conditions.specs.Tables.{view}
use Rattle.domino_labels.specs.declared.judging.Judgement.{Judgement}
use Rattle.domino_labels.specs.Judging.{JudgesSet}
use Rattle.domino.specs.OwnSteps.{LoadsFor}
use Rattle.domino.specs.Answers.{judge_leaves}
use Rattle.domino.proofs.OnSet.{leaves-refusal, on_refusal, on_enough}
use Rattle.domino.proofs.WordsEnough.{judge_leaves_lem}
use Rattle.domino.proofs.Agreement.{Agree, base_agrees, judges_agree}
use Rattle.domino_parts.specs.PartWords.{of_kind}
use Rattle.output.specs.Output.{Output, refuse, output_says, output_leaves, Writes}
use Rattle.drawings.specs.Checking.{is_plain}
use Rattle.drawing_layers.specs.LayersDrawn.{set_output}
use Rattle.interpretation.specs.DrawnPlant.{canon_output, draw_output, DrawsPlant}
use Rattle.interpretation.proofs.Agreement.{plain_same}
use Rattle.interpretation.proofs.Answers.{plain_is}

-- sets with the same members have the same drawing
pub output_same : (c c' L L' : ℕ) (p p' S T : Set) → c ≡ c' → L ≡ L' → ((k : ℕ) → p k ≡ p' k) → Same (total c' L') S T
    → set_output c L p S ≡ set_output c' L' p' T
unfolding set_output
output_same c c' L L' p p' S T e f q h = rw (e, f, fun_ext q, rising_same S T (total c' L') h) refl

module _ (s : Reading) (ws out : List ℕ) where
  pub draw_refused : (r : Refusal) → LoadsFor s (length ws) (Err r) → DrawsPlant s ws ws out out (Err r)
  unfolding draw_output output_says output_leaves judge_leaves
  draw_refused r l =
      let o : draw_output s (length ws) ≡ refuse (number r.reason) r.place =
      on_refusal refuse (λ k. canon_output (kb_view k)) (length ws) s (number r.reason) r.place l in
      record {
        output = rw o (record { answer = refl; output = refl });
        set = sym (leaves-refusal _ ws s (number r.reason) r.place l);
      }

  -- a sheet that is read, and words enough
  module _ (b : Base) (l : LoadsFor s (length ws) (Ok b)) where
    abbrev k : Kb
    k = l.0

    agrees : Agree (view b) (kb_view k)
    agrees = base_agrees k b l.2

    enough : held (kb_view k) ≤ length ws
    enough = subst (λ (x : ℕ). words_for_lem x ≤ length ws) (ap₂ total l.2.count l.2.roles) l.3

    drawn_is : draw_output s (length ws) ≡ canon_output (kb_view k)
    unfolding draw_output
    drawn_is =
        ap (λ (z : Reading). draw_output z (length ws)) l.1
        ∙ on_enough refuse (λ k. canon_output (kb_view k)) (length ws) k enough

    -- the parts that are names or fresh names are those of the knowledge base
    plain_of : (p : ℕ) → p ≡ of_kind (view b) None → (j : ℕ) → bit p j ≡ is_plain (kb_view k) j
    plain_of p e j = plain_is (view b) p e j ∙ plain_same (view b) (kb_view k) agrees j

    module _ (j : Judgement) (vs : List ℕ) (judged : JudgesSet (view b) ws vs j) where
      judged_as : vs ≡ written (held (kb_view k)) (dominoes (kb_view k)) (canon (kb_view k)) ws
      judged_as = (judges_agree (view b) (kb_view k) agrees judged).set

      -- what the words then hold is the canonical set
      set_is : (p : ℕ) → p ≡ of_kind (view b) None
          → set_output b.size.parts b.size.roles (bit p) (look vs) ≡ canon_output (kb_view k)
      unfolding canon_output
      set_is p e =
          let v : View = kb_view k in
          output_same b.size.parts v.parts b.size.roles v.roles (bit p) (is_plain v) (look vs) (canon v) agrees.parts agrees.roles
          (plain_of p e)
          (λ i h. ap (λ (us : List ℕ). look us i) judged_as
          ∙ written-look (held v) (dominoes v) (canon v) ws (words-room (dominoes v)) i h)

      pub draw_whole : (p : ℕ) → p ≡ of_kind (view b) None → (bytes : List ℕ) (r : Result ℕ Refusal)
          → Writes (set_output b.size.parts b.size.roles (bit p) (look vs)) out bytes r → DrawsPlant s ws vs out bytes r
      draw_whole p e bytes r w = record {
        output = subst (λ (o : Output). Writes o out bytes r) (set_is p e ∙ sym drawn_is) w;
        set = judged_as ∙ sym (judge_leaves_lem k ws enough) ∙ ap (λ (s : Reading). judge_leaves s ws) (sym l.1);
      }
