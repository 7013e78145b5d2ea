-- What open, strike, settle and judge answer and leave, from what loading answers and what is done on the tables.
use Prim.Native.Nat.{ℕ, ◌≤◌, ◌<◌}
use native.Mathlib.Omega.{arith}
use mathlib.Core.Path.{◌≡◌, refl, sym as flip, ap, ap₂, subst, ◌∙◌}
use mathlib.Core.Bool.{Bool, true, false, not, cond}
use mathlib.Core.List.{List, [], ◌∷◌}
use lib.Dec.{eqb, ltb}
use lib.ListN.{length}
use Rattle.bitset.specs.Bits.{words_for_lem}
use borrow.Author.Tests.{lt-ltb, le-ltb}
use Rattle.tbox.specs.declared.base.Base.{Base}
use Rattle.syntax.specs.Reading.{Kb, Reading, refusal, kb}
use Rattle.tbox.specs.Promise.{Flattened}
use Rattle.semantics.specs.Dominoes.{total}
use Rattle.semantics.specs.Conditions.{dominoes, held}
use Rattle.semantics.specs.Views.{kb_view}
use Rattle.domino.specs.Answers.{Verdict}
use Rattle.domino.specs.declared.Verdict.{Verdict as CodeVerdict}
use Rattle.refusals.specs.Numbers.{number}
use Rattle.refusals.specs.declared.Refusal.{Refusal}
use Rattle.std.specs.Prelude.{Ok, Err}
use Rattle.domino_labels.specs.declared.judging.Judgement.{Judgement}
use Rattle.domino_conditions.specs.Tables.{view}
use Rattle.domino.specs.Answers.{on_set, says_on_set, leaves_on_set, open_says, open_leaves, Opens, settle_says, settle_leaves, Settles, verdict_numbers, strike_says, strike_leaves, Strikes, judge_says, judge_leaves, Judges}
use Rattle.domino.specs.OwnSteps.{LoadsFor, StrikesSet}
use Rattle.domino_initial.specs.Opening.{OpensSet}
use Rattle.domino_settling.specs.Settling.{SettlesSet}
use Rattle.domino_labels.specs.Judging.{JudgesSet}
use Rattle.domino.proofs.OnSet.{on_refused, on_short, says-refusal, leaves-refusal, says-enough, leaves-enough}
use Rattle.domino.proofs.Agreement.{Agree, base_agrees, opens_agree, strikes_agree, settles_agree, judges_agree}

-- met or unmet, as a number
turned : (b : Bool) → ◌≡◌ {A = ℕ} (cond (not b) 1 0) (cond b 0 1)
turned true = refl
turned false = refl

-- ---- a sheet loaded for a set of so many words

module _ (s : Reading) (words : ℕ) where
  pub for_refused : (r : Refusal) → s ≡ refusal (number r.reason) r.place → LoadsFor s words (Err r)
  for_refused r e = rw e (on_refused refusal kb words (number r.reason) r.place)

  module _ (b : Base) (k : Kb) (e : s ≡ kb k) (f : Flattened k b) where
    needed : words_for_lem (total b.size.parts b.size.roles) ≡ held (kb_view k)
    needed = ap words_for_lem (ap₂ total f.count f.roles)

    pub for_short : (w : ℕ) → w ≡ words_for_lem (total b.size.parts b.size.roles) → words < w → on_set refusal kb s words ≡ refusal 10 0
    for_short w q h = rw e (on_short refusal kb words k (omega (arith, needed)))

    pub for_enough : (w : ℕ) → w ≡ words_for_lem (total b.size.parts b.size.roles) → w ≤ words → LoadsFor s words (Ok b)
    for_enough w q h = (k, e, f, omega arith)

module _ (s : Reading) (ws : List ℕ) where
  -- ---- what is refused

  module _ (r : Refusal) (l : LoadsFor s (length ws) (Err r)) where
    refused_says : (own : Kb → List ℕ → List ℕ) → number r.reason ∷ r.place ∷ [] ≡ says_on_set own s ws
    refused_says own = flip (says-refusal own ws s (number r.reason) r.place l)

    refused-leaves : (own : Kb → List ℕ → List ℕ) → ws ≡ leaves_on_set own s ws
    refused-leaves own = flip (leaves-refusal own ws s (number r.reason) r.place l)

    pub open_refused : Opens s ws ws (Err r)
    unfolding open_says open_leaves
    open_refused = record { answer = refused_says _; set = refused-leaves _ }

    pub strike-refused : (i : ℕ) → Strikes s i ws ws (Err r)
    unfolding strike_says strike_leaves
    strike-refused i = record { answer = refused_says _; set = refused-leaves _ }

    pub settle-refused : Settles s ws ws (Err r)
    unfolding settle_says settle_leaves
    settle-refused = record { answer = refused_says _; set = refused-leaves _ }

    pub judge_refused : Judges s ws ws (Err r)
    unfolding judge_says judge_leaves
    judge_refused = record { answer = refused_says _; set = refused-leaves _ }

  -- ---- a sheet that is read, and words enough

  module _ (b : Base) (l : LoadsFor s (length ws) (Ok b)) where
    -- the knowledge base
    abbrev k : Kb
    k = l.0

    pub total_same : total b.size.parts b.size.roles ≡ dominoes (kb_view k)
    total_same = ap₂ total l.2.count l.2.roles

    enough : held (kb_view k) ≤ length ws
    enough = subst (λ (x : ℕ). words_for_lem x ≤ length ws) total_same l.3

    says_own : (own : Kb → List ℕ → List ℕ) → says_on_set own s ws ≡ own k ws
    says_own own = ap (λ (s : Reading). says_on_set own s ws) l.1 ∙ says-enough own ws k enough

    leaves_own : (own : Kb → List ℕ → List ℕ) → leaves_on_set own s ws ≡ own k ws
    leaves_own own = ap (λ (s : Reading). leaves_on_set own s ws) l.1 ∙ leaves-enough own ws k enough

    -- a strike at a number that is none of a domino
    pub strike-past : (i : ℕ) (r : Refusal) → number r.reason ≡ 11 → r.place ≡ 0 → total b.size.parts b.size.roles ≤ i → Strikes s i ws ws (Err r)
    unfolding strike_says strike_leaves
    strike-past i r n p g =
        let q : ltb i (dominoes (kb_view k)) ≡ false = le-ltb i _ (subst (λ (x : ℕ). x ≤ i) total_same g) in
        record { answer = rw (says_own, q, n, p) refl; set = rw (leaves_own, q) refl }

    -- what was done on the tables was done on the knowledge base
    agrees : Agree (view b) (kb_view k)
    agrees = base_agrees k b l.2

    module _ (vs : List ℕ) where
      pub open_whole : (x : ℕ) → OpensSet (view b) ws vs x → Opens s ws vs (Ok x)
      unfolding open_says open_leaves
      open_whole x o =
          let a = opens_agree _ (kb_view k) agrees o in
          record { answer = ap (λ (y : ℕ). 0 ∷ 0 ∷ y ∷ []) a.answer ∙ flip (says_own _); set = a.set ∙ flip (leaves_own _) }

      pub strike-whole : (i : ℕ) (x : CodeVerdict) → i < total b.size.parts b.size.roles
          → StrikesSet (view b) i ws vs x → Strikes s i ws vs (Ok (record { number = i; verdict = x }))
      unfolding strike_says strike_leaves
      strike-whole i x g o =
          let a = strikes_agree _ (kb_view k) agrees g o in
          let y : ltb i (dominoes (kb_view k)) ≡ true = lt-ltb i _ (subst (λ (x : ℕ). i < x) total_same g) in
          record {
            answer = rw (says_own, y) (ap (λ (u : Verdict). 0 ∷ 0 ∷ i ∷ verdict_numbers u) a.verdict);
            set = a.set ∙ flip (leaves_own _);
          }

      pub settle-whole : (x : ℕ) → SettlesSet (view b) ws vs x → Settles s ws vs (Ok x)
      unfolding settle_says settle_leaves
      settle-whole x o =
          let a = settles_agree _ (kb_view k) agrees o in
          record { answer = ap (λ (y : ℕ). 0 ∷ 0 ∷ y ∷ []) a.answer ∙ flip (says_own _); set = a.set ∙ flip (leaves_own _) }

      pub judge_whole : (x : Judgement) → JudgesSet (view b) ws vs x → Judges s ws vs (Ok x)
      unfolding judge_says judge_leaves
      judge_whole x o =
          let a = judges_agree _ (kb_view k) agrees o in
          record {
            answer = ap (λ (y : ℕ). 0 ∷ 0 ∷ x.opening ∷ x.survivors ∷ y ∷ []) (turned (eqb x.survivors 0))
                ∙ ap₂ (λ (y u : ℕ). 0 ∷ 0 ∷ y ∷ u ∷ cond (eqb u 0) 0 1 ∷ []) a.opening a.survivors
                ∙ flip (says_own _);
            set = a.set ∙ flip (leaves_own _);
          }
