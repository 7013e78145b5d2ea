-- What judge says, for callers: laws about the name.
use Prim.Native.Nat.{ℕ, ◌*◌, ◌≤◌}
use mathlib.Core.Path.{◌≡◌, refl, ap}
use mathlib.Core.Bool.{Bool, true, false, cond}
use mathlib.Core.List.{List, [], ◌∷◌}
use mathlib.Core.Logic.{◌⊎◌, inl, inr}
use native.Mathlib.Omega.{arith}
use lib.Dec.{eqb}
use lib.ListN.{length}
use borrow.Author.Tests.{le-ltb, ltb-false}
use Rattle.bitset.specs.Bits.{size}
use Rattle.bitset.proofs.Sizes.{size_le}
use Rattle.bitset.proofs.RunLaws.{words-room}
use Rattle.syntax.specs.Reading.{Kb, Reading, refusal, kb}
use Rattle.semantics.specs.Conditions.{dominoes, initial, canon, held}
use Rattle.semantics.specs.Views.{kb_view}
use Rattle.domino.specs.Answers.{is_short, on_set, says_on_set, judge_says}

-- ---- the words lent

-- it depends on them by their number alone
pub judge_by-length : (s : Reading) (us ws : List ℕ) → length us ≡ length ws → judge_says s us ≡ judge_says s ws
unfolding judge_says says_on_set on_set
judge_by-length (refusal n p) us ws e = refl
judge_by-length (kb k) us ws e = rw e

not_two : (a b : Bool) (x y : List ℕ) → (a ≡ false → b ≡ false) → length x ≡ 2 → length (cond a x y) ≡ 5 → cond b x y ≡ cond a x y
not_two true b x y h two five = absurd (omega arith)
not_two false b x y h two five = ap (λ (c : Bool). cond c x y) (h refl)

still-enough : (k : Kb) (us ws : List ℕ) → length us ≤ length ws → is_short k us ≡ false → is_short k ws ≡ false
still-enough k us ws h q =
    let f : held (kb_view k) ≤ length ws = omega (arith, ltb-false (length us) (held (kb_view k)) q) in
    le-ltb (length ws) (held (kb_view k)) f

-- five numbers that it says with some words it says with more
pub more_words : (s : Reading) (us ws : List ℕ) → length us ≤ length ws → length (judge_says s us) ≡ 5 → judge_says s ws ≡ judge_says s us
unfolding judge_says says_on_set on_set
more_words (refusal n p) us ws h e = refl
more_words (kb k) us ws h e = not_two (is_short k us) (is_short k ws) (10 ∷ 0 ∷ []) _ (still-enough k us ws h) refl e

-- too few words
pub judge_short : (k : Kb) (ws : List ℕ) → is_short k ws ≡ true → judge_says (kb k) ws ≡ 10 ∷ 0 ∷ []
unfolding judge_says says_on_set on_set
judge_short k ws e = rw e

-- ---- its two forms

-- a refusal; or the opening size, a survivor count of at most as many as the words hold, and met exactly if that is not 0
abbrev pub Forms : List ℕ → ℕ → Type 0
Forms says words =
    ((n : ℕ) × (p : ℕ) × (says ≡ n ∷ p ∷ []))
    ⊎ ((opening : ℕ) × (n : ℕ) × (says ≡ 0 ∷ 0 ∷ opening ∷ n ∷ cond (eqb n 0) 0 1 ∷ []) × (n ≤ 64 * words))

forms : (short : Bool) (o n w : ℕ) → (short ≡ false → n ≤ 64 * w)
    → Forms (cond short (10 ∷ 0 ∷ []) (0 ∷ 0 ∷ o ∷ n ∷ cond (eqb n 0) 0 1 ∷ [])) w
forms true o n w h = inl (10, 0, refl)
forms false o n w h = inr (o, n, refl, h refl)

pub judge_forms : (s : Reading) (ws : List ℕ) → Forms (judge_says s ws) (length ws)
unfolding judge_says says_on_set on_set
judge_forms (refusal n p) ws = inl (n, p, refl)
judge_forms (kb k) ws =
    let v = kb_view k in
    let n = size (dominoes v) (canon v) in
    forms (is_short k ws) (size (dominoes v) (initial v)) n (length ws)
    (λ q. omega (arith, ltb-false (length ws) (held v) q, size_le (dominoes v) (canon v), words-room (dominoes v)))
