-- Laws of dominoes put into words: the number of a pair's domino, row by row and domino by domino; and that put into emptied words the
-- dominoes of all individuals are those that a file draws.
use mathlib.Core.Path.{◌≡◌, refl, sym, ap, subst, ◌∙◌}
use mathlib.Core.Bool.{Bool, false, ◌&&◌, ◌||◌, or-false}
use mathlib.Core.List.{List}
use Prim.Native.Nat.{ℕ, ◌+◌, ◌*◌, ◌/◌, ◌%◌, ◌≤◌, ◌<◌}
use native.Mathlib.Decide.{dec_lt}
use native.Mathlib.Omega.{arith}
use lib.Dec.{T, eqb}
use lib.ListN.{length, get_or, get_or-eq_default}
use borrow.Author.Tests.{eq-eqb, eqb-true}
use Rattle.bitset.specs.Bits.{bit, look, are_words, inserted}
use Rattle.bitset.specs.Runs.{Emptied}
use Rattle.bitset.proofs.Facts.{is_false, iff_eq, and_l, and_r_lem, and_i, and_out}
use Rattle.bitset.proofs.Laws.{bit_past}
use Rattle.bitset.proofs.RunLaws.{words-room}
use Rattle.elimination.specs.Sets.{some}
use Rattle.elimination.specs.Calls.{written}
use Rattle.elimination.proofs.Quantifiers.{any_found, any_same, some-none}
use Rattle.elimination.proofs.Written.{holding_words}
use Rattle.semantics.specs.Dominoes.{total, number, left_of, roles_of, right_of_lem, unnumbered, Domino}
use Rattle.semantics.specs.Conditions.{dominoes, held}
use Rattle.semantics.specs.Projection.{projection_of}
use Rattle.semantics.proofs.Numbers.{number_lt, left-number, roles-number, right-number, number_of}
use Rattle.domino_conditions.specs.Tables.{Room, Enough}
use Rattle.drawings.specs.Checking.{roles_between, label, drawn_dominoes, drawn_set}
use Rattle.drawings.proofs.Ranges.{label_lt, roles_lt}
use Rattle.drawing_rows.specs.Rows.{byte_at, Joins}
use Rattle.drawing_rows.proofs.Joining.{joins_none, joins_insert, joins_both}
use Rattle.interpretation.specs.declared.drawing.Drawing.{Drawing}
use Rattle.interpretation.specs.Drawings.{view_of, drawn, count_of, RowOf, AllLabelled, number_between, row_set, rows_set}
use Rattle.interpretation.proofs.Successions.{some_next}
use Rattle.interpretation.proofs.RowsOf.{counted}

-- ---- the domino of a pair

-- n is the number of a domino exactly if its parts are the domino's
parts_equal : (c L A R B n : ℕ) → Domino c L A R B → n < total c L
    → (eqb (left_of c L n) A && (eqb (roles_of c L n) R && eqb (right_of_lem c n) B)) ≡ eqb n (number c L A R B)
parts_equal c L A R B n d h =
    iff_eq _ _
    (λ t.
    let u = and_r_lem (eqb (left_of c L n) A) _ t in
    let p : left_of c L n ≡ A = eqb-true _ _ (and_l (eqb (left_of c L n) A) _ t) in
    let q : roles_of c L n ≡ R = eqb-true _ _ (and_l (eqb (roles_of c L n) R) _ u) in
    let r : right_of_lem c n ≡ B = eqb-true _ _ (and_r_lem (eqb (roles_of c L n) R) _ u) in
    eq-eqb n _ (sym (number_of c L n h) ∙ rw (p, q, r) refl))
    (λ t.
    let e : n ≡ number c L A R B = eqb-true _ _ t in
    and_i (eq-eqb _ A (ap (left_of c L) e ∙ left-number c L A R B d))
    (and_i (eq-eqb _ R (ap (roles_of c L) e ∙ roles-number c L A R B d)) (eq-eqb _ B (ap (right_of_lem c) e ∙ right-number c L A R B d))))

module _ (d : Drawing) where
  abbrev c : ℕ
  c = (view_of d).parts

  abbrev L : ℕ
  L = (view_of d).roles

  module _ (x y : ℕ) where
    between_domino : Domino c L (label (view_of d) (drawn d) x) (roles_between (view_of d) (drawn d) x y) (label (view_of d) (drawn d) y)
    between_domino = record {
      left = label_lt (view_of d) (drawn d) x;
      roles = roles_lt (view_of d) (drawn d) x y;
      right = label_lt (view_of d) (drawn d) y;
    }

    between_lt : number_between d x y < total c L
    unfolding number_between
    between_lt = number_lt c L _ _ _ between_domino

  -- a, r and b are the label of x, the roles from x to y and the label of y
  pub record PairIs (x y a r b : ℕ) : Type 0 where
    pub left : a ≡ label (view_of d) (drawn d) x
    pub roles : r ≡ roles_between (view_of d) (drawn d) x y
    pub right : b ≡ label (view_of d) (drawn d) y

  -- as they are read
  pub pair_read : (row labels : List ℕ) (x y a r b : ℕ) → RowOf d x row → AllLabelled d labels → x < count_of d → y < count_of d
      → a ≡ get_or labels x 0 → r ≡ byte_at row y → b ≡ get_or labels y 0 → PairIs x y a r b
  pair_read row labels x y a r b o l h k e f g = record {
    left = e ∙ l.are x h;
    roles = f ∙ o.bytes y k;
    right = g ∙ l.are y k;
  }

  module _ (x y a r b : ℕ) (p : PairIs x y a r b) where
    pub pair_domino : Domino c L a r b
    pair_domino = rw (p.left, p.roles, p.right) (between_domino x y)

    pair_number : number c L a r b ≡ number_between d x y
    unfolding number_between
    pair_number = rw (p.left, p.roles, p.right) refl

    pub pair_room : (n w : ℕ) → n ≡ number c L a r b → Room d.base.now w → n / 64 < w
    pair_room n w e h = omega (arith, between_lt x y, pair_number, h)

  -- ---- the dominoes of an individual, one by one

  -- the dominoes of x with each individual before y
  unfoldable pub row_to : ℕ → ℕ → ℕ → Bool
  row_to x y n = some y (λ z. eqb n (number_between d x z))

  pub row_none : (x : ℕ) (ws : List ℕ) → Joins (row_to x 0) ws ws
  unfolding row_to
  row_none x ws = joins_none _ ws (λ n l. some-none _)

  pub row_next : (x y a r b n : ℕ) (ws vs : List ℕ) → Joins (row_to x y) ws vs → PairIs x y a r b → n ≡ number c L a r b
      → Room d.base.now (length vs) → Joins (row_to x (y + 1)) ws (inserted vs n)
  unfolding row_to
  row_next x y a r b n ws vs j p e h =
      joins_both _ (row_to x y) (λ m. eqb m (number_between d x y)) ws vs _ (λ m. some_next y _) j
      (joins_insert _ vs n (pair_room x y a r b p n (length vs) e h) (λ m. ap (eqb m) (sym (e ∙ pair_number x y a r b p))))

  -- each individual is before the end
  pub row_all : (x y : ℕ) (ws vs : List ℕ) → y ≡ count_of d → Joins (row_to x y) ws vs → Joins (row_set d x) ws vs
  unfolding row_to row_set
  row_all x y ws vs e j = subst (λ (k : ℕ). Joins (row_to x k) ws vs) e j

  -- ---- row by row

  pub rows_none : (ws : List ℕ) → Joins (rows_set d 0) ws ws
  unfolding rows_set
  rows_none ws = joins_none _ ws (λ n l. some-none _)

  pub rows_next : (m : ℕ) (ws vs us : List ℕ) → Joins (rows_set d m) ws vs → Joins (row_set d m) vs us → Joins (rows_set d (m + 1)) ws us
  unfolding rows_set
  rows_next m ws vs us j k = joins_both _ (rows_set d m) (row_set d m) ws vs us (λ n. some_next m _) j k

  -- ---- all dominoes

  -- each number is a domino's
  rows_within : (m n : ℕ) → total c L ≤ n → rows_set d m n ≡ false
  unfolding rows_set row_set
  rows_within m n h =
      is_false (rows_set d m n)
      (λ e.
      let u = any_found m _ e in
      let w = any_found (count_of d) (λ y. eqb n (number_between d u.0 y)) u.2 in
      omega (arith, between_lt u.0 w.0, eqb-true _ _ w.2))

  -- those of all individuals are drawn
  rows_drawn : (n : ℕ) → n < total c L → rows_set d (count_of d) n ≡ drawn_set (view_of d) (drawn d) n
  unfolding rows_set row_set number_between label roles_between drawn_set drawn_dominoes unnumbered projection_of
  rows_drawn n h =
      rw (counted d)
      (any_same (count_of d) _ _
      (λ x i. any_same (count_of d) _ _ (λ y j. sym (parts_equal c L _ _ _ n (between_domino x y) h))))

-- a number past the words is in none
look_past : (ws : List ℕ) (n : ℕ) → 64 * length ws ≤ n → look ws n ≡ false
look_past ws n h =
    ap (λ (x : ℕ). bit x (n % 64)) (get_or-eq_default ws 0 {n = n / 64} (omega arith)) ∙ bit_past 0 0 (n % 64) (omega arith) (omega arith)

-- the words that hold the dominoes are emptied, and then the dominoes of all individuals are put in
module _ (d : Drawing) (ws vs us : List ℕ) (k m : ℕ) (b : Bool) (enough : Enough d.base.now (length ws)) (w : k ≡ held (view_of d))
    (emptied : Emptied (64 * 0) (64 * 0 + 64 * k) ws vs b) (j : Joins (rows_set d m) vs us) where
  put_look : (n : ℕ) → look us n ≡ (look vs n || rows_set d m n)
  put_look n = go (dec_lt n (64 * length vs))
    where
      go : Dec (n < 64 * length vs) → look us n ≡ (look vs n || rows_set d m n)
      go (yes l) = j.look n l
      go (no l) =
          look_past us n (omega (arith, j.long, l))
          ∙ sym (rw (look_past vs n (omega (arith, l)), rows_within d m n (omega (arith, l, enough, emptied.kept.long))) refl)

  -- in the words that were emptied
  put_here : (n : ℕ) → n < 64 * k → look us n ≡ rows_set d m n
  put_here n h =
      put_look n
      ∙ ap (λ (t : Bool). t || rows_set d m n) (emptied.kept.inside n (omega arith) (omega arith) ∙ and_out (look ws n) false refl)

  pub all_put : m ≡ count_of d → T (are_words ws)
      → us ≡ written (held (view_of d)) (dominoes (view_of d)) (drawn_set (view_of d) (drawn d)) ws
  all_put e t =
      let v = view_of d in
      holding_words (held v) (dominoes v) (drawn_set v (drawn d)) ws (words-room (dominoes v)) enough us
      (record {
        long = j.long ∙ emptied.kept.long;
        are = λ t. j.are (emptied.kept.are t);
        inside = λ n h. put_here n (omega (arith, w)) ∙ ap (λ (x : ℕ). rows_set d x n) e ∙ rows_drawn d n h;
        spare = λ n h l. put_here n (omega (arith, w)) ∙ rows_within d m n h;
        past = λ n h.
            put_look n ∙ ap (λ (t : Bool). look vs n || t) (rows_within d m n (omega (arith, w))) ∙ or-false (look vs n)
            ∙ emptied.kept.outside n (λ a q. omega (arith, w));
      })
      t
