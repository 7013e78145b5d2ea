-- Of two views that agree: a file has the same fault, and what it draws the same labels, dominoes and breach; so a check says and leaves
-- the same.
use mathlib.Core.Path.{◌≡◌, refl, ap, ap₂, ◌∙◌, fun_ext}
use mathlib.Core.Bool.{Bool, true, false, not, ◌&&◌, ◌||◌, cond}
use mathlib.Core.List.{List}
use Prim.Native.Nat.{ℕ, ◌≤◌, ◌<◌}
use native.Mathlib.Omega.{arith}
use lib.Dec.{eqb, ltb}
use lib.ListN.{length}
use borrow.Author.Tests.{ltb-true, eqb-true}
use Rattle.bitset.specs.Bits.{word, words_for_lem}
use Rattle.bitset.proofs.Laws.{word_ext}
use Rattle.elimination.specs.Calls.{written}
use Rattle.elimination.proofs.Quantifiers.{any_same, all_same}
use Rattle.semantics.specs.Dominoes.{total, unnumbered}
use Rattle.semantics.specs.Projection.{role_set, projection_of}
use Rattle.semantics.specs.Conditions.{View}
use Rattle.domino.proofs.Agreement.{Agree}
use Rattle.drawings.specs.Entries.{Drawing, entries_of, first_fault, drawing_of}
use Rattle.drawings.specs.Checking.{connects, names_at, interpretation, is_plain, file_fault, roles_between, has_part, label, drawn_dominoes, drawn_set, breaks_at, breaks_between, pair_below, breach}
use Rattle.drawings.proofs.Ranges.{label_lt, roles_lt}
use Rattle.drawings.proofs.Keeping.{projection_same}
use Rattle.interpretation.specs.Answers.{file_says, file_leaves}

-- a choice that comes out the same
chosen : (b x y p q : Bool) → (b ≡ true → x ≡ y) → p ≡ q → cond b x p ≡ cond b y q
chosen true x y p q f e = f refl
chosen false x y p q f e = e

module _ (v w : View) (a : Agree v w) where
  pub plain_same : (k : ℕ) → is_plain v k ≡ is_plain w k
  unfolding is_plain
  plain_same k = rw (← a.parts) (go (ltb k v.parts) refl)
    where
      go : (b : Bool) → ltb k v.parts ≡ b → (b && ltb (v.kind k) 2) ≡ (b && ltb (w.kind k) 2)
      go true q = ap (λ (n : ℕ). ltb n 2) (a.kind k (ltb-true k v.parts q))
      go false q = refl

  pub fault_same : (file : List ℕ) → file_fault v file ≡ file_fault w file
  unfolding file_fault
  fault_same file = ap₂ (λ (p : ℕ → Bool) (L : ℕ). first_fault p L 0 (entries_of file)) (fun_ext plain_same) a.roles

  module _ (d : Drawing) where
    roles_same : (x y : ℕ) → roles_between v d x y ≡ roles_between w d x y
    unfolding roles_between
    roles_same x y = ap (λ (L : ℕ). role_set L (connects d.connections) x y) a.roles

    -- what is asked of the individuals that x leads to, by a restriction
    asked : (x k n : ℕ) → k < v.parts → 2 ≤ n → eqb (v.kind k) n ≡ true → (y : ℕ)
        → (v.holds k (roles_between v d x y) ≡ w.holds k (roles_between w d x y)) × (v.has k (names_at d y) ≡ w.has k (names_at d y))
    asked x k n h l e y =
        let i : v.kind k ≡ n = eqb-true _ _ e in (
          a.holds k (roles_between v d x y) h (roles_lt v d x y) ∙ ap (w.holds k) (roles_same x y),
          a.has k (names_at d y) h (omega arith),
        )

    has_same : (x k : ℕ) → k < v.parts → has_part v d x k ≡ has_part w d x k
    unfolding has_part
    has_same x k h =
        rw (← a.kind k h)
        (chosen (eqb (v.kind k) 2) _ _ _ _
        (λ e. any_same (length d.names) _ _ (λ y l. let s = asked x k 2 h (omega arith) e y in ap₂ ◌&&◌ s.0 s.1))
        (chosen (eqb (v.kind k) 3) _ _ _ _
        (λ e. all_same (length d.names) _ _ (λ y l.
        let s = asked x k 3 h (omega arith) e y in
        ap₂ (λ (r z : Bool). not r || z) s.0 s.1)) refl))

    label_same : (x : ℕ) → label v d x ≡ label w d x
    unfolding label
    label_same x = word_ext v.parts _ _ (has_same x) ∙ ap (λ (c : ℕ). word c (has_part w d x)) a.parts

    dominoes_same : (A R B : ℕ) → drawn_dominoes v d A R B ≡ drawn_dominoes w d A R B
    unfolding drawn_dominoes
    dominoes_same A R B =
        projection_same (interpretation d) (interpretation d) v.roles v.parts (has_part v d) (has_part w d) refl
        (λ x l. word_ext v.parts _ _ (has_same x)) (λ x y lx ly. refl) A R B
        ∙ ap₂ (λ (L c : ℕ). projection_of (interpretation d) L c (has_part w d) A R B) a.roles a.parts

    pub set_same : (n : ℕ) → drawn_set v d n ≡ drawn_set w d n
    unfolding drawn_set unnumbered
    set_same n =
        dominoes_same _ _ _
        ∙ ap₂ (λ (c L : ℕ). unnumbered c L (drawn_dominoes w d) n) a.parts a.roles

    at_same : (x : ℕ) → breaks_at v d x ≡ breaks_at w d x
    unfolding breaks_at
    at_same x = ap not (a.good (label v d x) (label_lt v d x) ∙ ap w.good (label_same x))

    between_same : (x y : ℕ) → breaks_between v d x y ≡ breaks_between w d x y
    unfolding breaks_between
    between_same x y = ap not (a.closed (roles_between v d x y) (roles_lt v d x y) ∙ ap w.closed (roles_same x y))

    pub breach_same : breach v d ≡ breach w d
    unfolding breach pair_below
    breach_same =
        let f : breaks_at v d ≡ breaks_at w d = fun_ext at_same in
        let g : breaks_between v d ≡ breaks_between w d = fun_ext (λ x. fun_ext (between_same x)) in
        rw (f, g) refl

  -- ---- what a check says and leaves

  pub says_same : (file : List ℕ) → file_says v file ≡ file_says w file
  unfolding file_says
  says_same file = rw (fault_same file, breach_same (drawing_of file)) refl

  pub leaves_same : (file ws : List ℕ) → file_leaves v file ws ≡ file_leaves w file ws
  unfolding file_leaves
  leaves_same file ws =
      let s : drawn_set v (drawing_of file) ≡ drawn_set w (drawing_of file) = fun_ext (set_same (drawing_of file)) in
      let D : ℕ → Bool = drawn_set w (drawing_of file) in
      rw (fault_same file, s)
      (ap (λ (n : ℕ). cond (eqb (file_fault w file) 0) (written (words_for_lem n) n D ws) ws) (ap₂ total a.parts a.roles))
