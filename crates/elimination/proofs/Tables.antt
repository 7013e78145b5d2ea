-- What `settled_words` computes are the words of what settling leaves. Assumes of `defective` that it is monotone, and nothing else.
use mathlib.Core.Path.{◌≡◌, refl, sym, ap, ap₂, ◌∙◌}
use mathlib.Core.Bool.{Bool, true, false, not, ◌&&◌}
use mathlib.Core.List.{List, [], ◌∷◌}
use Prim.Native.Nat.{ℕ, zero, suc, ◌*◌, ◌≤◌, ◌<◌}
use native.Mathlib.Omega.{arith}
use lib.Dec.{T, eqb, ltb, eqb→eq, ltb→lt, lt→ltb}
use lib.ListN.{length}
use Rattle.bitset.specs.Bits.{Set, look, words, are_words, size}
use Rattle.elimination.specs.Sets.{below, Sub, Same}
use Rattle.elimination.specs.Elimination.{is_stable, step, settled, Monotone}
use Rattle.elimination.specs.Tables.{same_words, settling_words, settled_words}
use Rattle.bitset.proofs.Facts.{either, and_left, and_right, and_both, T_same, T_of}
use Rattle.bitset.proofs.Words.{look-words, words-length, words_are, words_look'}
use Rattle.bitset.proofs.Sizes.{size_le, size_none, size_same}
use Rattle.elimination.proofs.Settling.{sub_refl, same_by, stable-by, stable_same, step_keeps, step_less, still-stable, settled-sub, settled-stable, settled-keeps}

pub same_words_lem : (ws vs : List ℕ) → T (same_words ws vs) → ws ≡ vs
same_words_lem [] [] t = refl
same_words_lem [] (v ∷ vs) t = absurd t
same_words_lem (w ∷ ws) [] t = absurd t
same_words_lem (w ∷ ws) (v ∷ vs) t =
    ap₂ (λ (a : ℕ) (l : List ℕ). a ∷ l) (eqb→eq w v (and_left (eqb w v) (same_words ws vs) t))
    (same_words_lem ws vs (and_right (eqb w v) (same_words ws vs) t))

module _ (k N : ℕ) (defective : Set → ℕ → Bool) (room : N ≤ 64 * k) where
  next : List ℕ → List ℕ
  next ws = words k (step N defective (look ws))

  settling_words_case : (P : List ℕ → Type 0) (f : ℕ) (ws : List ℕ) → (T (same_words (next ws) ws) → P ws)
      → (T (not (same_words (next ws) ws)) → P (settling_words k N defective f (next ws))) → P (settling_words k N defective (suc f) ws)
  unfolding next
  settling_words_case P f ws a b = go (same_words (next ws) ws) a b
    where
      go : (c : Bool) → (T c → P ws) → (T (not c) → P (settling_words k N defective f (next ws)))
          → P (elim c [ true ↦ ws | false ↦ settling_words k N defective f (next ws) ])
      go true u v = u tt
      go false u v = v tt

  next-look : (ws : List ℕ) → Same (64 * k) (look (next ws)) (step N defective (look ws))
  unfolding next
  next-look ws = look-words k (step N defective (look ws))

  settling_words-sub : (f : ℕ) (ws : List ℕ) → Sub (64 * k) (look (settling_words k N defective f ws)) (look ws)
  settling_words-sub zero ws = λ p h t. t
  settling_words-sub (suc f) ws =
      settling_words_case (λ (vs : List ℕ). Sub (64 * k) (look vs) (look ws)) f ws (λ c p h t. t)
      (λ c p h t. and_left (look ws p) (not (defective (look ws) p)) (T_of (next-look ws p h) (settling_words-sub f (next ws) p h t)))

  next-are : (ws : List ℕ) → T (are_words (next ws))
  unfolding next
  next-are ws = words_are k (step N defective (look ws))

  next-length : (ws : List ℕ) → length (next ws) ≡ k
  unfolding next
  next-length ws = words-length k (step N defective (look ws))

  settling_words-are : (f : ℕ) (ws : List ℕ) → T (are_words ws) → T (are_words (settling_words k N defective f ws))
  settling_words-are zero ws t = t
  settling_words-are (suc f) ws t =
      settling_words_case (λ (vs : List ℕ). T (are_words vs)) f ws (λ c. t) (λ c. settling_words-are f (next ws) (next-are ws))

  settling_words-length : (f : ℕ) (ws : List ℕ) → length ws ≡ k → length (settling_words k N defective f ws) ≡ k
  settling_words-length zero ws e = e
  settling_words-length (suc f) ws e =
      settling_words_case (λ (vs : List ℕ). length vs ≡ k) f ws (λ c. e) (λ c. settling_words-length f (next ws) (next-length ws))

  module _ (mono : Monotone N defective) where
    next_same : (ws : List ℕ) → Same N (look (next ws)) (step N defective (look ws))
    next_same ws p h = next-look ws p (omega arith)

    settling_words-keeps : (f : ℕ) (F : Set) (ws : List ℕ) → Sub N F (look ws) → T (is_stable N defective F) → Sub N F (look (settling_words k N defective f ws))
    settling_words-keeps zero F ws s r = s
    settling_words-keeps (suc f) F ws s r =
        settling_words_case (λ (vs : List ℕ). Sub N F (look vs)) f ws (λ c. s)
        (λ c. settling_words-keeps f F (next ws)
        (λ p h t. T_of (sym (next_same ws p h)) (step_keeps N defective mono F (look ws) s r p h t)) r)

    settling_words-stable : (f : ℕ) (ws : List ℕ) → size N (look ws) ≤ f → T (is_stable N defective (look (settling_words k N defective f ws)))
    settling_words-stable zero ws l = stable-by N defective (look ws) (λ p h t u. size_none N (look ws) (omega arith) p h t)
    settling_words-stable (suc f) ws l =
        either (is_stable N defective (look ws))
        (λ r. stable_same N defective mono (look ws) (look (settling_words k N defective (suc f) ws))
        (same_by N (look ws) (look (settling_words k N defective (suc f) ws))
        (settling_words-keeps (suc f) (look ws) ws (sub_refl N (look ws)) r)
        (λ p h t. settling_words-sub (suc f) ws p (omega arith) t)) r)
        (λ r. settling_words_case (λ (vs : List ℕ). T (is_stable N defective (look vs))) f ws
        (λ c. still-stable N defective (look ws)
        (λ p h. sym (next_same ws p h) ∙ ap (λ (vs : List ℕ). look vs p) (same_words_lem (next ws) ws c)))
        (λ c. settling_words-stable f (next ws)
        (omega (arith, step_less N defective (look ws) r, size_same N (look (next ws)) (step N defective (look ws)) (next_same ws)))))

    below_same : (D : Set) → Same N (below N D) D
    below_same D p h = T_same (ltb p N && D p) (D p) (and_right (ltb p N) (D p)) (and_both (ltb p N) (D p) (lt→ltb p N h))

    start_same : (D : Set) → Same N (look (words k (below N D))) D
    start_same D p h = look-words k (below N D) p (omega arith) ∙ below_same D p h

    -- the members are those that settling leaves
    pub settled_words_same : (D : Set) → Same N (look (settled_words k N defective D)) (settled N defective D)
    settled_words_same D =
        let ws = words k (below N D) in
        let r = settling_words-stable N ws (size_le N (look ws)) in
        same_by N (look (settled_words k N defective D)) (settled N defective D)
        (settled-keeps N defective mono (look (settled_words k N defective D)) D
        (λ p h t. T_of (start_same D p h) (settling_words-sub N ws p (omega arith) t)) r)
        (settling_words-keeps N (settled N defective D) ws
        (λ p h t. T_of (sym (start_same D p h)) (settled-sub N defective D p h t)) (settled-stable N defective D))

    -- word for word, with no spare bit set
    pub settled_words-is : (D : Set) → settled_words k N defective D ≡ words k (below N (settled N defective D))
    settled_words-is D =
        let ws = words k (below N D) in
        sym (words_look' (settled_words k N defective D) k (below N (settled N defective D)) (settling_words-are N ws (words_are k (below N D)))
        (settling_words-length N ws (words-length k (below N D)))
        (λ p h.
        T_same (below N (settled N defective D) p) (look (settled_words k N defective D) p)
        (λ t. let l : p < N = ltb→lt p N (and_left (ltb p N) (settled N defective D p) t) in
        T_of (sym (settled_words_same D p l)) (and_right (ltb p N) (settled N defective D p) t))
        (λ t. let u : T (below N D p) = T_of (look-words k (below N D) p h) (settling_words-sub N ws p h t) in
        let v : T (ltb p N) = and_left (ltb p N) (D p) u in
        and_both (ltb p N) (settled N defective D p) v (T_of (settled_words_same D p (ltb→lt p N v)) t))))
