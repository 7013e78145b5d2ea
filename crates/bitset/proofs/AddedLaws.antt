-- Laws of what is put into a run of numbers of a set in words: adjacent runs, another test, a word or a part of one put in.
use mathlib.Core.Path.{◌≡◌, refl, sym as flip, ap, ap₂, subst, subst₂, ◌∙◌}
use mathlib.Core.Bool.{Bool, false, ◌||◌, or-false}
use mathlib.Core.List.{List}
use Prim.Native.Nat.{ℕ, ◌+◌, ◌-◌, ◌*◌, ◌/◌, ◌%◌, ◌^◌, ◌≤◌, ◌<◌}
use native.Mathlib.Nat.{lt_of_lt_of_le}
use native.Mathlib.Decide.{ℕ_discrete}
use native.Mathlib.Omega.{arith}
use lib.Bits.{bit_or, or_lt}
use lib.Count.{ones}
use lib.Dec.{ltb, ltb→lt, nltb→le}
use lib.ListN.{length, get_or, set, length-set}
use lib.Pow.{shl_exact, shl_lt, pow_mono}
use Rattle.bitset.specs.Bits.{Set, bit, look, word, word_at, size}
use Rattle.bitset.specs.Runs.{Added}
use Rattle.bitset.proofs.Facts.{either}
use Rattle.bitset.proofs.Laws.{word_lt, bit_word, bit_or_lem, bit-over, bit_beside}
use Rattle.bitset.proofs.Words.{are-set, are-at}
use Rattle.bitset.proofs.Sizes.{size-add, size_same, size_empty, ones-word}
use Rattle.bitset.proofs.RunLaws.{look_in, look_off}

module _ (f : Set) where
  -- the next range too
  pub added_join : (a e g : ℕ) (ws vs us : List ℕ) (m n : ℕ) → a ≤ e → e ≤ g → Added f a e ws vs m → Added f e g vs us n
      → Added f a g ws us (m + n)
  added_join a e g ws vs us m n h l j k = record {
    long = k.long ∙ j.long;
    are = λ t. k.are (j.are t);
    inside = λ p u v.
        either (ltb p e)
        (λ t. let q = ltb→lt p e t in k.outside p (λ x y. omega arith) ∙ j.inside p u q)
        (λ t.
        let q : e ≤ p = nltb→le p e t in
        k.inside p q v ∙ ap (λ (b : Bool). b || f p) (j.outside p (λ x y. omega arith)));
    outside = λ p u. k.outside p (λ x y. u (omega arith) y) ∙ j.outside p (λ x y. u x (omega arith));
    count =
        let r : g - a ≡ g - e + (e - a) = omega arith in
        ap₂ ◌+◌ j.count
        (k.count ∙ size_same (g - e) (λ i. f (e + i)) (λ i. f (a + (e - a + i))) (λ p i. ap f (omega arith)))
        ∙ flip (size-add (e - a) (g - e) (λ i. f (a + i))) ∙ ap (λ (x : ℕ). size x (λ i. f (a + i))) (flip r);
  }

  -- another test with the same answers there
  pub added_as : (g : Set) (a e : ℕ) (ws vs : List ℕ) (m : ℕ) → ((n : ℕ) → a ≤ n → n < e → f n ≡ g n) → Added f a e ws vs m
      → Added g a e ws vs m
  added_as g a e ws vs m h k = record {
    long = k.long;
    are = k.are;
    inside = λ n u v. k.inside n u v ∙ ap (λ (b : Bool). look ws n || b) (h n u v);
    outside = k.outside;
    count = k.count ∙ size_same (e - a) (λ i. f (a + i)) (λ i. g (a + i)) (λ p l. h (a + p) (omega arith) (omega arith));
  }

  -- the same range, written otherwise
  pub added_at : (a b d e : ℕ) (ws vs : List ℕ) (m : ℕ) → a ≡ b → d ≡ e → Added f a d ws vs m → Added f b e ws vs m
  added_at a b d e ws vs m p q k = subst₂ (λ (x y : ℕ). Added f x y ws vs m) p q k

  -- none is there
  pub added_idle : (a e : ℕ) (ws : List ℕ) → ((n : ℕ) → a ≤ n → n < e → f n ≡ false) → Added f a e ws ws 0
  added_idle a e ws h = record {
    long = refl;
    are = λ t. t;
    inside = λ n u v. flip (ap (λ (b : Bool). look ws n || b) (h n u v) ∙ or-false (look ws n));
    outside = λ n t. refl;
    count = flip (size_empty (e - a) (λ i. f (a + i)) (λ p l. h (a + p) (omega arith) (omega arith)));
  }

  pub added_none : (a : ℕ) (ws : List ℕ) → Added f a a ws ws 0
  added_none a ws = added_idle a a ws (λ n h l. absurd (omega arith))

-- ---- n numbers of one word, put in by OR

module _ (f : Set) (at n p : ℕ) (ws : List ℕ) (within : at % 64 + n ≤ 64) (room : at / 64 < length ws) (e : p ≡ word n (λ i. f (at + i))) where
  abbrev up : ℕ
  up = p * 2 ^ (at % 64)

  abbrev joined : ℕ
  joined = bit_or (get_or ws (at / 64) 0) up

  part_lt : p < 2 ^ n
  part_lt = subst (λ (x : ℕ). x < 2 ^ n) (flip e) (word_lt n (λ i. f (at + i)))

  part_shift : p * 2 ^ (at % 64) % 2 ^ 64 ≡ p * 2 ^ (at % 64)
  part_shift = shl_exact n (at % 64) 64 part_lt (omega arith)

  up_lt : up < 2 ^ 64
  up_lt = lt_of_lt_of_le (shl_lt n (at % 64) part_lt) (pow_mono {i = n + at % 64} {j = 64} (omega arith))

  -- a bit of it
  up_bit : (m : ℕ) → at ≤ m → m < at + n → bit up (m % 64) ≡ f m
  up_bit m h l =
      let k : m % 64 - at % 64 ≡ m - at = omega arith in
      let j : at + (m - at) ≡ m = omega arith in
      bit-over p (at % 64) (m % 64) (omega arith) ∙ ap₂ bit e k ∙ bit_word n (λ i. f (at + i)) (m - at) (omega arith) ∙ ap f j

  pub added_part : Added f at (at + n) ws (set ws (at / 64) (bit_or (get_or ws (at / 64) 0) (p * 2 ^ (at % 64)))) (ones p)
  added_part = record {
    long = length-set ws (at / 64) joined;
    are = λ t. are-set ws (at / 64) joined t (or_lt 64 (get_or ws (at / 64) 0) up (are-at ws (at / 64) t) up_lt);
    inside = λ m h l.
        let i : m / 64 ≡ at / 64 = omega arith in
        look_in ws (at / 64) joined room m i
        ∙ bit_or_lem (get_or ws (at / 64) 0) up (m % 64)
        ∙ ap₂ ◌||◌ (ap (λ (x : ℕ). bit (get_or ws x 0) (m % 64)) (flip i)) (up_bit m h l);
    outside = λ m t. off m t (ℕ_discrete (m / 64) (at / 64));
    count = ap ones e ∙ ones-word n (λ i. f (at + i)) ∙ ap (λ (x : ℕ). size x (λ i. f (at + i))) (omega arith);
  }
    where
      off : (m : ℕ) → (at ≤ m → m < at + n → ⊥) → Dec (m / 64 ≡ at / 64) → look (set ws (at / 64) joined) m ≡ look ws m
      off m t (yes i) =
          look_in ws (at / 64) joined room m i
          ∙ bit_or_lem (get_or ws (at / 64) 0) up (m % 64)
          ∙ ap₂ ◌||◌ (ap (λ (x : ℕ). bit (get_or ws x 0) (m % 64)) (flip i))
          (bit_beside n p (at % 64) (m % 64) part_lt (λ h l. t (omega arith) (omega arith)))
          ∙ or-false (look ws m)
      off m t (no i) = look_off ws (at / 64) joined room m i

  -- as the machine shifts it
  pub added_part_shl : Added f at (at + n) ws (set ws (at / 64) (bit_or (get_or ws (at / 64) 0) (p * 2 ^ (at % 64) % 2 ^ 64))) (ones p)
  added_part_shl = rw part_shift added_part

-- a whole word
pub added_word : (f : Set) (ws : List ℕ) (i v : ℕ) → i < length ws → v ≡ word_at f i
    → Added f (64 * i) (64 * i + 64) ws (set ws i (bit_or (get_or ws i 0) v)) (ones v)
unfolding word_at
added_word f ws i v h e =
    let a : 64 * i / 64 ≡ i = omega arith in
    let b : 64 * i % 64 ≡ 0 = omega arith in
    let c : v * 2 ^ (64 * i % 64) ≡ v = ap (λ (x : ℕ). v * 2 ^ x) b ∙ omega arith in
    subst₂ (λ (j x : ℕ). Added f (64 * i) (64 * i + 64) ws (set ws j (bit_or (get_or ws j 0) x)) (ones v)) a c
    (added_part f (64 * i) 64 v ws (omega arith) (omega arith) e)
