-- `has_passes` computes whether a list of calls has k passes in it, one after another.
use mathlib.Core.Path.{◌≡◌, refl, sym, ap, subst, ◌∙◌}
use mathlib.Core.Bool.{Bool, true, false, ◌&&◌}
use mathlib.Core.List.{List, [], ◌∷◌, ◌++◌, append_assoc, append-nil}
use Prim.Native.Nat.{ℕ, zero, suc}
use lib.Dec.{T, eqb}
use Rattle.elimination.specs.Sets.{every}
use Rattle.elimination.specs.Calls.{Call, strike, settle, strikes, some_cut, pass, Passes, has_passes}
use Rattle.elimination.proofs.Quantifiers.{every-at, every-by}
use Rattle.bitset.proofs.Facts.{and_left, and_right, and_both, or_cases, or_left, or_right}

some_cut-at : (f : List Call → List Call → Bool) (pre cs : List Call) → T (some_cut f pre cs) → (x : List Call) × (y : List Call) × (cs ≡ x ++ y) × T (f (pre ++ x) y)
some_cut-at f pre [] t = ([], [], refl, subst (λ (l : List Call). T (f l [])) (sym (append-nil pre)) t)
some_cut-at f pre (c ∷ cs) t =
    or_cases (f pre (c ∷ cs)) (some_cut f (pre ++ (c ∷ [])) cs) t
    (λ u. ([], c ∷ cs, refl, subst (λ (l : List Call). T (f l (c ∷ cs))) (sym (append-nil pre)) u))
    (λ u.
    let r = some_cut-at f (pre ++ (c ∷ [])) cs u in
    (c ∷ r.0, r.1, ap (λ (l : List Call). c ∷ l) r.2, subst (λ (l : List Call). T (f l r.1)) (append_assoc pre (c ∷ []) r.0) r.3))

some_cut-by : (f : List Call → List Call → Bool) (pre x y : List Call) → T (f (pre ++ x) y) → T (some_cut f pre (x ++ y))
some_cut-by f pre [] [] t = subst (λ (l : List Call). T (f l [])) (append-nil pre) t
some_cut-by f pre [] (c ∷ y) t =
    or_left (f pre (c ∷ y)) (some_cut f (pre ++ (c ∷ [])) y) (subst (λ (l : List Call). T (f l (c ∷ y))) (append-nil pre) t)
some_cut-by f pre (c ∷ x) y t =
    or_right (f pre (c ∷ (x ++ y))) (some_cut f (pre ++ (c ∷ [])) (x ++ y))
    (some_cut-by f (pre ++ (c ∷ [])) x y (subst (λ (l : List Call). T (f l y)) (sym (append_assoc pre (c ∷ []) x)) t))

-- calls before a pass do not spoil it
strikes_more : (p : ℕ) (a r : List Call) → T (strikes p r) → T (strikes p (a ++ r))
strikes_more p [] r t = t
strikes_more p (strike n ∷ a) r t = or_right (eqb p n) (strikes p (a ++ r)) (strikes_more p a r t)
strikes_more p (settle ∷ a) r t = strikes_more p a r t

module _ (N : ℕ) where
  pass_more : (a r : List Call) → T (pass N r) → T (pass N (a ++ r))
  pass_more a r t =
      every-by N (λ p. strikes p (a ++ r)) (λ p h. strikes_more p a r (every-at N (λ q. strikes q r) t p h))

  pub passes_of_test : (k : ℕ) (cs : List Call) → T (has_passes N k cs) → Passes N k cs
  passes_of_test zero cs t = tt
  passes_of_test (suc k) cs t =
      let r = some_cut-at (λ pre post. pass N pre && has_passes N k post) [] cs t in
      ([], r.0, r.1, r.2, and_left (pass N r.0) (has_passes N k r.1) r.3, passes_of_test k r.1 (and_right (pass N r.0) (has_passes N k r.1) r.3))

  pub test_of_passes : (k : ℕ) (cs : List Call) → Passes N k cs → T (has_passes N k cs)
  test_of_passes zero cs w = tt
  test_of_passes (suc k) cs w =
      let a = w.0 in
      let r = w.1 in
      let b = w.2 in
      subst (λ (l : List Call). T (some_cut (λ pre post. pass N pre && has_passes N k post) [] l)) (append_assoc a r b ∙ sym w.3)
      (some_cut-by (λ pre post. pass N pre && has_passes N k post) [] (a ++ r) b
      (and_both (pass N (a ++ r)) (has_passes N k b) (pass_more a r w.4) (test_of_passes k b w.5)))

-- it computes: below 2 there are two passes here, with a settling and a refused strike among them, and not three
two : has_passes 2 2 (strike 1 ∷ settle ∷ strike 0 ∷ strike 7 ∷ strike 0 ∷ strike 0 ∷ strike 1 ∷ []) ≡ true
unfolding every
two = refl

not_three : has_passes 2 3 (strike 1 ∷ settle ∷ strike 0 ∷ strike 7 ∷ strike 0 ∷ strike 0 ∷ strike 1 ∷ []) ≡ false
unfolding every
not_three = refl
