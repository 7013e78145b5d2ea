-- What is demanded of drawing a plant: what it refuses, and what that leaves; where it answers, and that what is then drawn is a model that
-- the check answers holds, and whose dominoes are the judged set. A sheet with more than 341 survivors.
use Prim.Native.Nat.{ℕ, ◌≤◌, ◌<◌}
use native.Mathlib.Decide.{dec_lt, ℕ_discrete}
use native.Mathlib.Omega.{arith}
use mathlib.Core.Path.{◌≡◌, refl, sym, ap, ◌∙◌}
use mathlib.Core.Logic.{◌⊎◌, inl, inr, ⊎_elim, ◌↔◌}
use mathlib.Core.Bool.{true, false, ◌||◌, false≢true}
use mathlib.Core.List.{List, [], ◌∷◌, ◌++◌}
use lib.Dec.{eqb}
use lib.ListN.{length, take, drop}
use lib.Seq.{take_at, drop_at}
use borrow.Author.Tests.{lt-ltb, le-ltb, ne_eqb, eq-eqb}
use Rattle.std.specs.Prelude.{Result}
use Rattle.bitset.proofs.Facts.{or_l, is_false}
use Rattle.elimination.proofs.Written.{written_same}
use Rattle.refusals.specs.declared.Refusal.{Refusal}
use Rattle.syntax.specs.Reading.{Kb, Reading, refusal, kb, is_read_refusal, read_kb}
use Rattle.syntax.specs.Answers.{limit}
use Rattle.syntax.proofs.Refusals.{UpTo, one_more, read_refusals, refusal-number}
use Rattle.semantics.specs.Interpretations.{Satisfiable}
use Rattle.semantics.specs.Conditions.{View, dominoes, canon, held}
use Rattle.semantics.specs.Views.{kb_view}
use Rattle.semantics.specs.Layers.{rising}
use Rattle.domino.specs.Answers.{is_set_refusal, judge_leaves}
use Rattle.domino.proofs.Demand1.{set_refusals}
use Rattle.domino.proofs.OnSet.{says-enough, leaves-refused, leaves-short, leaves-enough, on_refused, on_short, on_enough}
use Rattle.domino.proofs.WordsEnough.{judge_leaves_lem}
use Rattle.output.specs.Output.{Output, refuse, write, output_says, output_leaves, write_numbers}
use Rattle.drawings.specs.Checking.{is_plain}
use Rattle.drawings.specs.Layered.{layered_of, layered_file}
use Rattle.drawings.proofs.LayersKept.{layered_draws, layered_read, layered_faultless, canon_keeps, canon_unbroken, canon_drawn_set, members_met}
use Rattle.drawings.proofs.ManyMembers.{sheet as many_sheet, k as many_kb, is_read, all_dominoes, many_members}
use Rattle.drawing_layers.specs.LayersDrawn.{set_output}
use Rattle.interpretation.specs.Answers.{file_says, file_leaves, check_says, check_leaves}
use Rattle.interpretation.specs.Demanded.{RefusedDrawing, Drawn}
use Rattle.interpretation.specs.DrawnPlant.{canon_output, draw_output, is_draw_refusal, DrawsPlant}
use Rattle.interpretation.proofs.Answers.{whole_says, whole_leaves}

-- ---- the file of a sheet that is read, and the check of it

module _ (sheet : List ℕ) (k : Kb) (e : read_kb limit sheet ≡ kb k) where
  abbrev v : View
  v = kb_view k

  abbrev members : List ℕ
  members = rising (canon v) (dominoes v)

  abbrev m : ℕ
  m = length members

  abbrev file : List ℕ
  file = layered_file v.parts v.roles members (is_plain v)

  module _ (pos : 0 < m) (few : m ≤ 341) (us : List ℕ) (enough : held v ≤ length us) where
    pub layered_holds : check_says (kb k) file us ≡ 0 ∷ 0 ∷ 0 ∷ []
    unfolding check_says
    layered_holds =
        says-enough (λ k ws. file_says (kb_view k) file) us k enough
        ∙ whole_says v file us (layered_faultless limit sheet k e members (omega arith) (omega (arith, few)) pos)
        ∙ rw (
          layered_read limit sheet k e members (omega arith) (omega (arith, few)),
          canon_unbroken limit sheet k e pos,
        ) refl

    -- "N10 gives back exactly the judged set"
    pub layered_back : check_leaves (kb k) file us ≡ judge_leaves (kb k) us
    unfolding check_leaves
    layered_back =
        leaves-enough (λ k ws. file_leaves (kb_view k) file ws) us k enough
        ∙ whole_leaves v file us (layered_faultless limit sheet k e members (omega arith) (omega (arith, few)) pos)
        ∙ rw (layered_read limit sheet k e members (omega arith) (omega (arith, few)))
        (written_same (held v) (dominoes v) _ (canon v) us (canon_drawn_set limit sheet k e pos))
        ∙ sym (judge_leaves_lem k us enough)

-- ---- how a drawing ends

-- of a sheet that is read: the set is too short; its canonical set has no members or too many, or the output is too short; or it is drawn
data Ends (sheet : List ℕ) (k : Kb) (e : read_kb limit sheet ≡ kb k) (ws out says bytes : List ℕ) : Type 0 where
  short : length ws < held (kb_view k) → says ≡ 10 ∷ 0 ∷ [] → bytes ≡ out → Ends sheet k e ws out says bytes
  unmet : held (kb_view k) ≤ length ws → m sheet k e ≡ 0 → says ≡ 26 ∷ 0 ∷ [] → bytes ≡ out → Ends sheet k e ws out says bytes
  many : held (kb_view k) ≤ length ws → 341 < m sheet k e → says ≡ 27 ∷ 0 ∷ [] → bytes ≡ out → Ends sheet k e ws out says bytes
  tight : held (kb_view k) ≤ length ws → 0 < m sheet k e → m sheet k e ≤ 341 → length out < length (file sheet k e)
      → says ≡ 21 ∷ 0 ∷ [] → bytes ≡ out → Ends sheet k e ws out says bytes
  done : held (kb_view k) ≤ length ws → 0 < m sheet k e → m sheet k e ≤ 341 → length (file sheet k e) ≤ length out
      → says ≡ 0 ∷ 0 ∷ length (file sheet k e) ∷ [] → bytes ≡ file sheet k e ++ drop (length (file sheet k e)) out
      → Ends sheet k e ws out says bytes

module _ (sheet : List ℕ) (k : Kb) (e : read_kb limit sheet ≡ kb k) (ws out : List ℕ) where
  -- what is to be written
  module _ (enough : held (kb_view k) ≤ length ws) where
    abbrev o : Output
    o = draw_output (kb k) (length ws)

    to_write : o ≡ canon_output (kb_view k)
    unfolding draw_output
    to_write = on_enough refuse (λ k. canon_output (kb_view k)) (length ws) k enough

    write_none : m sheet k e ≡ 0 → o ≡ refuse 26 0
    unfolding canon_output set_output
    write_none z = to_write ∙ rw (eq-eqb _ _ z) refl

    write_many : 341 < m sheet k e → o ≡ refuse 27 0
    unfolding canon_output set_output
    write_many h = to_write ∙ rw (ne_eqb (m sheet k e) 0 (λ z. omega (arith, z, h)), lt-ltb 341 (m sheet k e) h) refl

    write_file : 0 < m sheet k e → m sheet k e ≤ 341 → o ≡ write (file sheet k e)
    unfolding canon_output set_output
    write_file pos few =
        to_write ∙ rw (ne_eqb (m sheet k e) 0 (λ z. omega (arith, z, pos)), le-ltb 341 (m sheet k e) few) refl

    refused_end : (n : ℕ) → o ≡ refuse n 0 → (output_says o out ≡ n ∷ 0 ∷ []) × (output_leaves o out ≡ out)
    unfolding output_says output_leaves
    refused_end n q = rw q (refl, refl)

    written_end : 0 < m sheet k e → m sheet k e ≤ 341 → Dec (length out < length (file sheet k e))
        → Ends sheet k e ws out (output_says o out) (output_leaves o out)
    unfolding output_says output_leaves
    written_end pos few (yes h) =
        let q = lt-ltb (length out) (length (file sheet k e)) h in
        tight enough pos few h (rw (write_file pos few, q) refl) (rw (write_file pos few, q) refl)
    written_end pos few (no h) =
        let l : length (file sheet k e) ≤ length out = omega (arith, h) in
        let q = le-ltb (length out) (length (file sheet k e)) l in
        done enough pos few l (rw (write_file pos few, q) refl) (rw (write_file pos few, q) refl)

    read_ends : Ends sheet k e ws out (output_says o out) (output_leaves o out)
    read_ends = by_none (ℕ_discrete (m sheet k e) 0)
      where
        by_many : 0 < m sheet k e → Dec (341 < m sheet k e) → Ends sheet k e ws out (output_says o out) (output_leaves o out)
        by_many pos (yes h) = let w = refused_end 27 (write_many h) in many enough h w.0 w.1
        by_many pos (no h) = written_end pos (omega (arith, h)) (dec_lt (length out) (length (file sheet k e)))

        by_none : Dec (m sheet k e ≡ 0) → Ends sheet k e ws out (output_says o out) (output_leaves o out)
        by_none (yes z) = let w = refused_end 26 (write_none z) in unmet enough z w.0 w.1
        by_none (no z) = by_many (omega (arith, z)) (dec_lt 341 (m sheet k e))

  short_end : length ws < held (kb_view k)
      → Ends sheet k e ws out (output_says (draw_output (kb k) (length ws)) out) (output_leaves (draw_output (kb k) (length ws)) out)
  unfolding draw_output output_says output_leaves
  short_end h =
      let q = on_short refuse (λ k. canon_output (kb_view k)) (length ws) k h in
      short h (rw q refl) (rw q refl)

  draw_ends : Ends sheet k e ws out (output_says (draw_output (kb k) (length ws)) out) (output_leaves (draw_output (kb k) (length ws)) out)
  draw_ends = go (dec_lt (length ws) (held (kb_view k)))
    where
      go : Dec (length ws < held (kb_view k))
          → Ends sheet k e ws out (output_says (draw_output (kb k) (length ws)) out) (output_leaves (draw_output (kb k) (length ws)) out)
      go (yes h) = short_end h
      go (no h) = read_ends (omega (arith, h))

-- ---- the numbers of refusals

-- they are 1 to 10, 16, 17, 21, 26 and 27
abbrev Own : ℕ → Type 0
Own n = (n ≡ 26) ⊎ ((n ≡ 27) ⊎ (n ≡ 21))

pub draw_refusal_numbers : (n : ℕ) → (is_draw_refusal n ≡ true) ↔ (UpTo 10 n ⊎ Own n)
unfolding is_draw_refusal
draw_refusal_numbers n =
    let a = one_more (is_set_refusal n) n 26 in
    let b = one_more (is_set_refusal n || eqb n 26) n 27 in
    let c = one_more ((is_set_refusal n || eqb n 26) || eqb n 27) n 21 in (
      λ t. ⊎_elim
          (λ u. ⊎_elim (λ v. ⊎_elim (λ i. inl ((set_refusals n).0 i)) (λ i. inr (inl i)) (a.0 v)) (λ i. inr (inr (inl i))) (b.0 u))
          (λ i. inr (inr (inr i))) (c.0 t),
      λ h. ⊎_elim (λ i. c.1 (inl (b.1 (inl (a.1 (inl ((set_refusals n).1 i)))))))
          (⊎_elim (λ i. c.1 (inl (b.1 (inl (a.1 (inr i)))))) (⊎_elim (λ i. c.1 (inl (b.1 (inr i)))) (λ i. c.1 (inr i)))) h,
    )

own_late : (n : ℕ) → Own n → UpTo 10 n → ⊥
own_late n o u = go o u
  where
    go : Own n → UpTo 10 n → ⊥
    go (inl i) (inl h) = omega (arith, i, h.0, h.1)
    go (inl i) (inr h) = omega (arith, i, h.0, h.1)
    go (inr (inl i)) (inl h) = omega (arith, i, h.0, h.1)
    go (inr (inl i)) (inr h) = omega (arith, i, h.0, h.1)
    go (inr (inr i)) (inl h) = omega (arith, i, h.0, h.1)
    go (inr (inr i)) (inr h) = omega (arith, i, h.0, h.1)

-- ---- for any answer, words and bytes that meet the contract

not_read : is_read_refusal 10 ≡ true → ⊥
not_read t = go ((read_refusals 10).0 t)
  where
    go : UpTo 9 10 → ⊥
    go (inl h) = omega (arith, h.1)
    go (inr h) = omega (arith, h.0)

ten : is_set_refusal 10 ≡ true
ten = (set_refusals 10).1 (inl (omega arith, omega arith))

read_set : (n : ℕ) → is_read_refusal n ≡ true → is_set_refusal n ≡ true
unfolding is_set_refusal
read_set n t = or_l (eqb n 10) t

three_two : {a b x y z : ℕ} → x ∷ y ∷ z ∷ [] ≡ a ∷ b ∷ [] → ⊥
three_two e = omega (arith, ap (λ (l : List ℕ). length l) e)

judged_short : (k : Kb) (ws : List ℕ) → length ws < held (kb_view k) → judge_leaves (kb k) ws ≡ ws
unfolding judge_leaves
judged_short k ws h = leaves-short _ ws k h

module _ (sheet ws vs out bytes : List ℕ) (r : Result ℕ Refusal) (c : DrawsPlant (read_kb limit sheet) ws vs out bytes r) where
  -- a refusal of its own, 26, 27 or 21
  refused_late : (n p : ℕ) → Own n → p ≡ 0 → bytes ≡ out → RefusedDrawing sheet ws vs out bytes n p
  refused_late n p o z q =
      let late : is_set_refusal n ≡ false = is_false (is_set_refusal n) (λ t. own_late n o ((set_refusals n).0 t)) in
      let early : is_read_refusal n ≡ false = is_false (is_read_refusal n) (λ t. own_late n o (wide ((read_refusals n).0 t))) in
      record {
        reasoned = record {
          among = (draw_refusal_numbers n).1 (inr o);
          as_read = λ t. absurd (false≢true (sym early ∙ t));
          nowhere = λ t. z;
        };
        untouched = q;
        early = λ t. absurd (false≢true (sym late ∙ t));
        late = λ t. c.set;
      }
    where
      wide : UpTo 9 n → UpTo 10 n
      wide (inl h) = inl (h.0, omega (arith, h.1))
      wide (inr h) = inr h

  -- one of a call on a set
  refused_early : (n p : ℕ) → is_set_refusal n ≡ true → (is_read_refusal n ≡ true → read_kb limit sheet ≡ refusal n p)
      → (is_read_refusal n ≡ false → p ≡ 0) → bytes ≡ out → vs ≡ ws → RefusedDrawing sheet ws vs out bytes n p
  refused_early n p t a z q s = record {
    reasoned = record { among = (draw_refusal_numbers n).1 (inl ((set_refusals n).0 t)); as_read = a; nowhere = z };
    untouched = q;
    early = λ u. s;
    late = λ f. absurd (false≢true (sym f ∙ t));
  }

  -- for a sheet that is read as k
  module _ (k : Kb) (e : read_kb limit sheet ≡ kb k) where
    ends : Ends sheet k e ws out (write_numbers r) bytes
    ends =
        let q = ap (λ (s : Reading). draw_output s (length ws)) e in
        rw (c.output.answer ∙ ap (λ (o : Output). output_says o out) q, c.output.output ∙ ap (λ (o : Output). output_leaves o out) q)
        (draw_ends sheet k e ws out)

    judged : vs ≡ judge_leaves (kb k) ws
    judged = c.set ∙ ap (λ (s : Reading). judge_leaves s ws) e

    drawn_as : 0 < m sheet k e → m sheet k e ≤ 341 → length (file sheet k e) ≤ length out
        → (n : ℕ) → length (file sheet k e) ≡ n → bytes ≡ file sheet k e ++ drop (length (file sheet k e)) out → Drawn k ws vs out bytes n
    drawn_as pos few fits n i q =
        let l : List ℕ = members sheet k e in
        let f : List ℕ = file sheet k e in
        let t : take n bytes ≡ f = ap (take n) (q ∙ rw i refl) ∙ take_at f (drop n out) n i in
        record {
          interpretation = layered_of (kb_view k).parts (kb_view k).roles l;
          some = omega (arith, pos);
          few = omega (arith, few);
          draws = rw (t, layered_read limit sheet k e l (omega arith) (omega (arith, few))) (layered_draws limit sheet k e l);
          model = canon_keeps limit sheet k e pos;
          holds = λ us h. rw t (layered_holds sheet k e pos few us h);
          back = λ us h. rw t (layered_back sheet k e pos few us h);
          set = judged;
          fits = omega (arith, fits, i);
          kept = ap (drop n) (q ∙ rw i refl) ∙ drop_at f (drop n out) n i;
        }

    -- "26, no survivors": exactly if the sheet cannot be met
    pub draw_unmet : held (kb_view k) ≤ length ws → write_numbers r ≡ 26 ∷ 0 ∷ [] ↔ (Satisfiable k → ⊥)
    draw_unmet h = go ends
      where
        go : Ends sheet k e ws out (write_numbers r) bytes → write_numbers r ≡ 26 ∷ 0 ∷ [] ↔ (Satisfiable k → ⊥)
        go (short l s q) = absurd (omega (arith, l, h))
        go (unmet l z s q) = (λ a w. omega (arith, z, (members_met limit sheet k e).1 w), λ n. s)
        go (many l f s q) = (
          λ a. let i : ◌≡◌ {A = ℕ} 26 27 = cc in absurd (omega arith),
          λ n. absurd (n ((members_met limit sheet k e).0 (omega (arith, f)))),
        )
        go (tight l p f t s q) = (
          λ a. let i : ◌≡◌ {A = ℕ} 26 21 = cc in absurd (omega arith),
          λ n. absurd (n ((members_met limit sheet k e).0 p)),
        )
        go (done l p f t s q) = (
          λ a. let i : ◌≡◌ {A = ℕ} 26 0 = cc in absurd (omega arith),
          λ n. absurd (n ((members_met limit sheet k e).0 p)),
        )

    -- "27, m above 341"; "21, output too short"; else the drawing is written
    pub draw_many : held (kb_view k) ≤ length ws → 341 < m sheet k e → write_numbers r ≡ 27 ∷ 0 ∷ []
    draw_many h f = go ends
      where
        go : Ends sheet k e ws out (write_numbers r) bytes → write_numbers r ≡ 27 ∷ 0 ∷ []
        go (short l s q) = absurd (omega (arith, l, h))
        go (unmet l z s q) = absurd (omega (arith, z, f))
        go (many l g s q) = s
        go (tight l p g t s q) = absurd (omega (arith, f, g))
        go (done l p g t s q) = absurd (omega (arith, f, g))

    module _ (h : held (kb_view k) ≤ length ws) (w : Satisfiable k) (few : m sheet k e ≤ 341) where
      some_members : 0 < m sheet k e
      some_members = (members_met limit sheet k e).1 w

      pub draw_tight : length out < length (file sheet k e) → write_numbers r ≡ 21 ∷ 0 ∷ []
      draw_tight t = go ends
        where
          go : Ends sheet k e ws out (write_numbers r) bytes → write_numbers r ≡ 21 ∷ 0 ∷ []
          go (short l s q) = absurd (omega (arith, l, h))
          go (unmet l z s q) = absurd (omega (arith, z, some_members))
          go (many l g s q) = absurd (omega (arith, few, g))
          go (tight l p g t s q) = s
          go (done l p g u s q) = absurd (omega (arith, t, u))

      pub draw_done : length (file sheet k e) ≤ length out
          → (write_numbers r ≡ 0 ∷ 0 ∷ length (file sheet k e) ∷ []) × (bytes ≡ file sheet k e ++ drop (length (file sheet k e)) out)
      draw_done t = go ends
        where
          go : Ends sheet k e ws out (write_numbers r) bytes
              → (write_numbers r ≡ 0 ∷ 0 ∷ length (file sheet k e) ∷ []) × (bytes ≡ file sheet k e ++ drop (length (file sheet k e)) out)
          go (short l s q) = absurd (omega (arith, l, h))
          go (unmet l z s q) = absurd (omega (arith, z, some_members))
          go (many l g s q) = absurd (omega (arith, few, g))
          go (tight l p g u s q) = absurd (omega (arith, t, u))
          go (done l p g u s q) = (s, q)

    refused_read : (n p : ℕ) → write_numbers r ≡ n ∷ p ∷ [] → RefusedDrawing sheet ws vs out bytes n p
    refused_read n p a = go ends
      where
        go : Ends sheet k e ws out (write_numbers r) bytes → RefusedDrawing sheet ws vs out bytes n p
        go (short l s q) =
            let i : 10 ≡ n = cc in
            let j : 0 ≡ p = cc in
            refused_early n p (ap is_set_refusal (sym i) ∙ ten) (λ t. absurd (not_read (ap is_read_refusal i ∙ t))) (λ t. sym j) q
            (judged ∙ judged_short k ws l)
        go (unmet l z s q) = let i : 26 ≡ n = cc in let j : 0 ≡ p = cc in refused_late n p (inl (sym i)) (sym j) q
        go (many l g s q) = let i : 27 ≡ n = cc in let j : 0 ≡ p = cc in refused_late n p (inr (inl (sym i))) (sym j) q
        go (tight l o g u s q) = let i : 21 ≡ n = cc in let j : 0 ≡ p = cc in refused_late n p (inr (inr (sym i))) (sym j) q
        go (done l o g u s q) = absurd (three_two (sym s ∙ a))

    -- where it answers
    pub draw_answered : (n : ℕ) → write_numbers r ≡ 0 ∷ 0 ∷ n ∷ [] → Drawn k ws vs out bytes n
    draw_answered n a = go ends
      where
        go : Ends sheet k e ws out (write_numbers r) bytes → Drawn k ws vs out bytes n
        go (short l s q) = absurd (three_two (sym a ∙ s))
        go (unmet l z s q) = absurd (three_two (sym a ∙ s))
        go (many l g s q) = absurd (three_two (sym a ∙ s))
        go (tight l p g u s q) = absurd (three_two (sym a ∙ s))
        go (done l p g u s q) = let i : length (file sheet k e) ≡ n = cc in drawn_as p g u n i q

  -- "Errors: after judge's, 26, no survivors; 27, m above 341; 21, output too short"
  pub draw_refusals : (n p : ℕ) → write_numbers r ≡ n ∷ p ∷ [] → RefusedDrawing sheet ws vs out bytes n p
  unfolding draw_output judge_leaves output_says output_leaves
  draw_refusals n p a = go (read_kb limit sheet) refl
    where
      go : (s : Reading) → read_kb limit sheet ≡ s → RefusedDrawing sheet ws vs out bytes n p
      go (refusal m q) e =
          let o : draw_output (read_kb limit sheet) (length ws) ≡ refuse m q =
          ap (λ (s : Reading). draw_output s (length ws)) e ∙ on_refused refuse (λ k. canon_output (kb_view k)) (length ws) m q in
          let t : m ∷ q ∷ [] ≡ n ∷ p ∷ [] = sym (c.output.answer ∙ ap (λ (o : Output). output_says o out) o) ∙ a in
          let i : m ≡ n = cc in
          let j : q ≡ p = cc in
          let f : read_kb limit sheet ≡ refusal n p = rw (← i, ← j) e in
          refused_early n p (read_set n (refusal-number limit sheet f)) (λ x. f)
          (λ x. absurd (false≢true (sym x ∙ refusal-number limit sheet f)))
          (c.output.output ∙ ap (λ (o : Output). output_leaves o out) o)
          (c.set ∙ ap (λ (s : Reading). judge_leaves s ws) e ∙ leaves-refused _ ws m q)
      go (kb k) e = refused_read k e n p a

-- the sheet `03 0B`
pub many_survivors : (ws vs out bytes : List ℕ) (r : Result ℕ Refusal) → DrawsPlant (read_kb limit many_sheet) ws vs out bytes r
    → 262144 ≤ length ws → write_numbers r ≡ 27 ∷ 0 ∷ []
many_survivors ws vs out bytes r c h =
    draw_many many_sheet ws vs out bytes r c many_kb is_read (omega (arith, h, all_dominoes)) many_members
