-- Laws of the tokens of a text, byte by byte.
use Rattle.std.proofs.Common.{◌≡◌, ◌≢◌, ℕ, zero, suc, ◌≤◌, ◌<◌, List, [], ◌∷◌, length, length-drop, map, take, drop, refl, sym, ap, ◌∙◌, true, false, cond, ◌&&◌, eqb, arith, Bor, Option, Some, None, MatchOption}
use Rattle.std.specs.List.{take_while, HoldsAt, AllWithin}
use Rattle.std.proofs.lemmas.Bool.{eqb-true, eq-eqb}
use Rattle.std.proofs.lemmas.List.Sums.{take_while-cons}
use borrow.Author.Tests.{ne_eqb}
use Rattle.owl_words.specs.declared.Word.{Word}
use Rattle.owl_words.specs.declared.Found.{Found}
use Rattle.owl_words.specs.declared.TheConstants.{KNOWN_WORDS}
use Rattle.owl_words.specs.declared.Word.TheVariants.{Unknown, Opening, Closing, Ending}
use Rattle.owl_words.specs.Words.{is_blank_lem, in_word, same_bytes, spelled, known_words, spelling, digits, known, spelled_in, skip, letters, past, token, front, Finds}
use Rattle.output.specs.Text.{text}

pub in_table : (s : List ℕ) → spelled_in (map (λ k. (k.0.now, k.1)) KNOWN_WORDS) s ≡ known s
unfolding spelled_in known spelled known_words spelling digits text
in_table s = refl

-- bytes are the same just where lists of them are equal
pub same_equal : (s t : List ℕ) → s ≡ t → same_bytes s t ≡ true
unfolding same_bytes
same_equal [] [] e = refl
same_equal [] (b ∷ t) e = absurd (cc)
same_equal (a ∷ s) [] e = absurd (cc)
same_equal (a ∷ s) (b ∷ t) e = let h : a ≡ b = cc in let k : s ≡ t = cc in rw (eq-eqb a b h) (same_equal s t k)

pub same_other : (s t : List ℕ) → s ≢ t → same_bytes s t ≡ false
unfolding same_bytes
same_other [] [] h = absurd (h refl)
same_other [] (b ∷ t) h = refl
same_other (a ∷ s) [] h = refl
same_other (a ∷ s) (b ∷ t) h =
    elim (eqb a b) as (λ x. (x ≡ true → a ≡ b) → x && same_bytes s t ≡ false) [
      | true ↦ λ k. same_other s t (λ e. h (let q : a ≡ b = k refl in cc))
      | false ↦ λ k. refl
    ] (eqb-true a b)

-- what a search of a table finds
abbrev pub entry : Type 0
entry = Bor (List ℕ) × Word

abbrev pub plain : List entry → List (List ℕ × Word)
plain = map (λ k. (k.0.now, k.1))

found_none : (ks : List entry) (s : List ℕ) → AllWithin (λ k. k.0.now ≢ s) ks 0 (length ks) → spelled_in (plain ks) s ≡ Unknown
unfolding spelled_in
found_none [] s h = refl
found_none (k ∷ ks) s h =
    rw (same_other s k.0.now (λ e. h 0 k (omega arith) (omega arith) (sym e)))
    (found_none ks s (λ n d lo hi. h (suc n) d (omega arith) (omega arith)))

found_some : (ks : List entry) (s : List ℕ) (e : entry) → e.0.now ≡ s → (i : ℕ) → i < length ks → HoldsAt (λ y. y ≡ e) ks i →
    AllWithin (λ k. k.0.now ≢ s) ks 0 i → spelled_in (plain ks) s ≡ e.1
unfolding spelled_in
found_some [] s e h i l at others = absurd (omega arith)
found_some (k ∷ ks) s e h zero l at others =
    let is : k ≡ e = at k in
    rw (same_equal s k.0.now (sym h ∙ sym (ap (λ (x : entry). x.0.now) is))) (ap (λ (x : entry). x.1) is)
found_some (k ∷ ks) s e h (suc i) l at others =
    rw (same_other s k.0.now (λ q. others 0 k (omega arith) (omega arith) (sym q)))
    (found_some ks s e h i (omega arith) at (λ n d lo hi. others (suc n) d (omega arith) (omega arith)))

-- the word of what it found, or no known one
pub found_entry : (ks : List entry) (s : List ℕ) (r : Option (Bor entry)) →
    MatchOption r (AllWithin (λ k. k.0.now ≢ s) ks 0 (length ks))
    (λ x. (x.now.0.now ≡ s) × (i : ℕ) × (i < length ks) × HoldsAt (λ y. y ≡ x.now) ks i × AllWithin (λ k. k.0.now ≢ s) ks 0 i) →
    (w : Word) → MatchOption r (w ≡ Unknown) (λ x. w ≡ x.now.1) → w ≡ spelled_in (plain ks) s
found_entry ks s None h w e = e ∙ sym (found_none ks s h)
found_entry ks s (Some x) h w e = e ∙ sym (found_some ks s x.now h.0 h.1 h.2 h.3 h.4)

-- bytes in front that pass a test, and the others
pub skip_is : (s : List ℕ) → drop (length (take_while is_blank_lem s)) s ≡ skip s
unfolding skip
skip_is [] = refl
skip_is (b ∷ s) =
    rw (take_while-cons is_blank_lem b s)
    (elim (is_blank_lem b) as (λ v. drop (length (cond v (b ∷ take_while is_blank_lem s) [])) (b ∷ s) ≡ cond v (skip s) (b ∷ s)) [
      | true ↦ skip_is s
      | false ↦ refl
    ])

pub word_is : (s : List ℕ) → (take (length (take_while in_word s)) s ≡ letters s) × (drop (length (take_while in_word s)) s ≡ past s)
unfolding letters past
word_is [] = (refl, refl)
word_is (b ∷ s) =
    rw (take_while-cons in_word b s)
    (elim (in_word b) as (λ v. let w = cond v (b ∷ take_while in_word s) [] in (take (length w) (b ∷ s) ≡ cond v (b ∷ letters s) []) × (drop (length w) (b ∷ s) ≡ cond v (past s) (b ∷ s))) [
      | true ↦ let h = word_is s in (ap (λ (x : List ℕ). b ∷ x) h.0, h.1)
      | false ↦ (refl, refl)
    ])

-- the token that is found in front of what stands after the blanks
module _ (text s : List ℕ) (at : s ≡ skip text) (r : Found) (left : r.left ≡ length s) (within : length s ≤ length text) where
  pub finds_ending : s ≡ [] → r.word ≡ Ending → r.rest.now ≡ s → Finds text r
  unfolding front
  finds_ending e w n = record { word = rw (← at, e) w; left = rw (← at, e) (left ∙ ap length e); rest = rw (← at, e) (n ∙ e); within = omega arith; shorter = omega (arith, ap length e, ap length n) }

  pub finds_opening : (b : ℕ) (x : List ℕ) → s ≡ b ∷ x → b ≡ 40 → r.word ≡ Opening → r.rest.now ≡ x → Finds text r
  unfolding front
  finds_opening b x e h w n = record { word = rw (← at, e, h) w; left = rw (← at, e, h) (left ∙ ap length e); rest = rw (← at, e, h) n; within = omega arith; shorter = omega (arith, ap length e, ap length n) }

  pub finds_closing : (b : ℕ) (x : List ℕ) → s ≡ b ∷ x → b ≡ 41 → r.word ≡ Closing → r.rest.now ≡ x → Finds text r
  unfolding front
  finds_closing b x e h w n = record { word = rw (← at, e, h) w; left = rw (← at, e, h) (left ∙ ap length e); rest = rw (← at, e, h) n; within = omega arith; shorter = omega (arith, ap length e, ap length n) }

  pub finds_word : (b : ℕ) (x : List ℕ) → s ≡ b ∷ x → b ≢ 40 → b ≢ 41 → (n : ℕ) → n ≡ length (take_while in_word s) → r.word ≡ known (take n s) → r.rest.now ≡ drop n s → Finds text r
  unfolding front
  finds_word b x e h k n m w y =
      let c : front s ≡ token (known (letters s)) (length s) (past s) = rw (e, ne_eqb b 40 h, ne_eqb b 41 k) in
      record {
        word = rw (← at, c) (w ∙ ap known (ap (λ (i : ℕ). take i s) m ∙ (word_is s).0));
        left = rw (← at, c) left;
        rest = rw (← at, c) (y ∙ ap (λ (i : ℕ). drop i s) m ∙ (word_is s).1);
        within = omega arith;
        shorter = omega (arith, ap length y, length-drop n s);
      }
