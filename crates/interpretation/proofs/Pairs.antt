-- Laws of the first pair with a breach of those that begin below a bound: one individual more, later bounds, and all individuals.
use mathlib.Core.Path.{◌≡◌, refl, sym, ap, ◌∙◌}
use mathlib.Core.Bool.{Bool, true, false, not}
use mathlib.Core.List.{List}
use Prim.Native.Nat.{ℕ, ◌+◌, ◌*◌, ◌^◌, ◌≤◌, ◌<◌}
use native.Mathlib.Decide.{dec_lt}
use native.Mathlib.Omega.{arith}
use borrow.Author.Tests.{lt-ltb, le-ltb}
use Rattle.elimination.specs.Sets.{every}
use Rattle.elimination.proofs.Quantifiers.{all-at}
use Rattle.semantics.specs.Conditions.{View}
use Rattle.drawings.specs.Entries.{Drawing as DrawingOf}
use Rattle.drawings.specs.Checking.{Breach, unbroken, between, least, individuals, roles_between, breaks_between, pair_below, pair_breach}
use Rattle.drawings.proofs.Breaches.{some_from, none_from, least_none, least_past, least_here, least_right, least_later, least_fails, least_some}
use Rattle.drawings.proofs.Ranges.{roles_lt}
use Rattle.drawing_rows.specs.Rows.{byte_at}
use Rattle.interpretation.specs.declared.drawing.Drawing.{Drawing}
use Rattle.interpretation.specs.declared.drawing.Finding.{Finding}
use Rattle.interpretation.specs.declared.drawing.Finding.TheVariants.{Holds, Individual, Pair}
use Rattle.interpretation.specs.Answers.{finding_is}
use Rattle.interpretation.specs.Drawings.{view_of, drawn, count_of, RowOf}

-- what is found, other than that all holds, is a breach
pub found_breach : (f : Finding) → (f ≡ Holds → ⊥) → finding_is f ≡ unbroken → ⊥
found_breach Holds n e = n refl
found_breach (Individual x) n e = cc
found_breach (Pair x y) n e = cc

-- does a pair break: is its role set not closed, as the row says
pub pair_breaks : (d : Drawing) (x : ℕ) (row : List ℕ) → RowOf d x row → (y : ℕ) → y < count_of d → (r : ℕ) → r ≡ byte_at row y
    → (b : Bool) → b ≡ (view_of d).closed r → breaks_between (view_of d) (drawn d) x y ≡ not b
unfolding breaks_between
pair_breaks d x row o y l r e b f = ap (λ (q : ℕ). not ((view_of d).closed q)) (sym (e ∙ o.bytes y l)) ∙ ap not (sym f)

module _ (v : View) (d : DrawingOf) where
  abbrev n : ℕ
  n = individuals v d

  -- with no pair before m, no individual before m breaks
  none_below : (m : ℕ) → pair_below v d m ≡ unbroken → least m (some_from v d) ≡ m
  unfolding pair_below
  none_below m e = go (dec_lt (least m (some_from v d)) m)
    where
      go : Dec (least m (some_from v d) < m) → least m (some_from v d) ≡ m
      go (yes h) = absurd (cc (lt-ltb (least m (some_from v d)) m h))
      go (no h) = omega (arith, (least_right (some_from v d) m).within)

  -- before the first individual there is none
  pub pair_none : pair_below v d 0 ≡ unbroken
  unfolding pair_below
  pair_none = rw (least_none (some_from v d)) refl

  -- individual m is the next, of k: it breaks with none, or with y first
  module _ (m k : ℕ) (e : pair_below v d m ≡ unbroken) (all : n ≡ k) where
    pub pair_past : least k (breaks_between v d m) ≡ k → pair_below v d (m + 1) ≡ unbroken
    unfolding pair_below
    pair_past h =
        let f : some_from v d m ≡ false = sym (least_some (breaks_between v d m) n) ∙ rw (all, h) (le-ltb k k (omega arith)) in
        rw (least_past (some_from v d) m (none_below m e) f, le-ltb (m + 1) (m + 1) (omega arith)) refl

    pub pair_here : (y : ℕ) → (y < k) × (least k (breaks_between v d m) ≡ y) → between m y ≡ pair_below v d (m + 1)
    unfolding pair_below
    pair_here y h =
        let f : some_from v d m ≡ true = sym (least_some (breaks_between v d m) n) ∙ rw (all, h.1) (lt-ltb y k h.0) in
        rw (least_here (some_from v d) m (none_below m e) f, lt-ltb m (m + 1) (omega arith), all, h.1) refl

  -- a pair that was found stays
  pub pair_stays : (m k : ℕ) (b : Breach) → m ≤ k → (b ≡ unbroken → ⊥) → b ≡ pair_below v d m → b ≡ pair_below v d k
  unfolding pair_below
  pair_stays m k b h q e = go (dec_lt (least m (some_from v d)) m)
    where
      go : Dec (least m (some_from v d) < m) → b ≡ pair_below v d k
      go (yes l) =
          e ∙ rw (
            lt-ltb (least m (some_from v d)) m l,
            least_later (some_from v d) m k h l,
            lt-ltb (least m (some_from v d)) k (omega arith),
          ) refl
      go (no l) = absurd (q (e ∙ rw (le-ltb (least m (some_from v d)) m (omega arith)) refl))

  -- below all individuals it is the first of all
  pub pair_all : (m : ℕ) (b : Breach) → m ≡ n → b ≡ pair_below v d m → b ≡ pair_breach v d
  pair_all m b h e = e ∙ ap (pair_below v d) h

  -- where all role sets are closed, no pair breaks
  module _ (c : every (2 ^ (2 * v.roles)) v.closed ≡ true) where
    none_breaks : (x y : ℕ) → breaks_between v d x y ≡ false
    unfolding breaks_between
    none_breaks x y = ap not (all-at _ v.closed c (roles_between v d x y) (roles_lt v d x y))

    pub pair_closed : (m : ℕ) → pair_below v d m ≡ unbroken
    unfolding pair_below
    pair_closed m = rw (least_fails (some_from v d) m (λ x l. none_from v d x (λ y h. none_breaks x y)), le-ltb m m (omega arith)) refl
