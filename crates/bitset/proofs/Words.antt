-- Laws of sets in lists of words: the words of a set have its members, a list of words is that of its members, and one number is taken out or put in.
use mathlib.Core.Path.{◌≡◌, refl, sym, ap, ap₂, subst, ◌∙◌}
use mathlib.Core.Bool.{Bool, false, cond, not, ◌&&◌, ◌||◌, and-true, or-false}
use mathlib.Core.List.{List, [], ◌∷◌, ◌++◌}
use Prim.Native.Nat.{ℕ, zero, suc, ◌+◌, ◌-◌, ◌*◌, ◌/◌, ◌%◌, ◌^◌, ◌≤◌, ◌<◌}
use native.Mathlib.Nat.{mod-lt, mod-eq_of_lt}
use native.Mathlib.Decide.{ℕ_discrete}
use native.Mathlib.Omega.{arith}
use lib.Dec.{T, eqb, ltb, ltb→lt, lt→ltb}
use lib.Bits.{bit_and, bit_or, and_mask}
use lib.Pow.{pow-lt, pow_pos}
use lib.ListN.{get_or, set, take, drop, length, length-set}
use lib.Seq.{get_or-set_same, get_or-set_other, get_or-take, length-take-le}
use borrow.Author.Tests.{eq-eqb, ne_eqb}
use Rattle.bitset.specs.Bits.{Set, bit, word, word_at, look, words_from, words, are_words, without, with, cleared, inserted}
use Rattle.bitset.proofs.Facts.{and_left, and_right, and_both}
use Rattle.bitset.proofs.Laws.{word_lt, word_ext, word-not, word_and, word_or, word_none, bit_mod, bit_word, word_bits, bit_word_at, word_at_lt, word_at_same}

-- ---- one digit of a word

-- the word of one number
pub word-one : (n j : ℕ) → j < n → word n (λ k. eqb k j) ≡ 2 ^ j
unfolding word
word-one zero j h = absurd (omega arith)
word-one (suc n) j h = go (ℕ_discrete n j) (word-one n j)
  where
    go : Dec (n ≡ j) → (j < n → word n (λ k. eqb k j) ≡ 2 ^ j) → cond (eqb n j) (2 ^ n) 0 + word n (λ k. eqb k j) ≡ 2 ^ j
    go (yes e) r =
        let a : cond (eqb n j) (2 ^ n) 0 ≡ 2 ^ n = ap (λ (b : Bool). cond b (2 ^ n) 0) (eq-eqb n j e) in
        let z : word n (λ k. eqb k j) ≡ 0 = word_ext n (λ k. eqb k j) (λ k. false) (λ k l. ne_eqb k j (λ q. omega arith)) ∙ word_none n in
        let c : 2 ^ n ≡ 2 ^ j = ap (λ (m : ℕ). 2 ^ m) e in
        omega arith
    go (no e) r =
        let a : cond (eqb n j) (2 ^ n) 0 ≡ 0 = ap (λ (b : Bool). cond b (2 ^ n) 0) (ne_eqb n j e) in
        let i : word n (λ k. eqb k j) ≡ 2 ^ j = r (omega arith) in
        omega arith

-- 1 << j, as the machine has it
pub shl_one : (j : ℕ) → j < 64 → 1 * 2 ^ j % 2 ^ 64 ≡ 2 ^ j
shl_one j h = ap (λ (x : ℕ). x % 2 ^ 64) (omega arith) ∙ mod-eq_of_lt (pow-lt h)

-- the n lowest bits, as the machine takes them
pub mask_word : (x n : ℕ) → n < 64 → bit_and x (1 * 2 ^ n % 2 ^ 64 - 1) ≡ word n (bit x)
mask_word x n h =
    ap (λ (y : ℕ). bit_and x (y - 1)) (shl_one n h) ∙ and_mask x n ∙ sym (word_bits n (x % 2 ^ n) (mod-lt x (pow_pos n)))
    ∙ word_ext n (bit (x % 2 ^ n)) (bit x) (λ k l. bit_mod x n k l)

-- a digit is taken out by a mask
pub word_clear : (n w j : ℕ) → w < 2 ^ n → j < n → bit_and w (2 ^ n - 1 - 2 ^ j) ≡ word n (without (bit w) j)
word_clear n w j h l =
    ap₂ bit_and (sym (word_bits n w h)) (ap (λ (x : ℕ). 2 ^ n - 1 - x) (sym (word-one n j l)) ∙ word-not n (λ k. eqb k j))
    ∙ word_and n (bit w) (λ k. not (eqb k j))

-- and put in
pub word_insert : (n w j : ℕ) → w < 2 ^ n → j < n → bit_or w (2 ^ j) ≡ word n (with (bit w) j)
word_insert n w j h l =
    ap₂ bit_or (sym (word_bits n w h)) (sym (word-one n j l)) ∙ word_or n (bit w) (λ k. eqb k j)

-- ---- lists of words

-- a word of them is that of its numbers
pub word_look : (ws : List ℕ) (i : ℕ) → get_or ws i 0 < 2 ^ 64 → get_or ws i 0 ≡ word_at (look ws) i
unfolding word_at
word_look ws i h =
    sym (word_bits 64 (get_or ws i 0) h)
    ∙ word_ext 64 (bit (get_or ws i 0)) (λ j. look ws (64 * i + j))
    (λ j l.
    let a : i ≡ (64 * i + j) / 64 = omega arith in
    let b : j ≡ (64 * i + j) % 64 = omega arith in
    ap₂ (λ (m n : ℕ). bit (get_or ws m 0) n) a b)

-- the numbers of the first word, and of the rest
pub look_head : (w : ℕ) (ws : List ℕ) (p : ℕ) → p < 64 → look (w ∷ ws) p ≡ bit w p
look_head w ws p h =
    let a : p / 64 ≡ 0 = omega arith in
    let b : p % 64 ≡ p = omega arith in
    ap₂ (λ (i j : ℕ). bit (get_or (w ∷ ws) i 0) j) a b

pub look_tail : (w : ℕ) (ws : List ℕ) (p : ℕ) → look (w ∷ ws) (64 + p) ≡ look ws p
look_tail w ws p =
    let a : (64 + p) / 64 ≡ suc (p / 64) = omega arith in
    let b : (64 + p) % 64 ≡ p % 64 = omega arith in
    ap₂ (λ (i j : ℕ). bit (get_or (w ∷ ws) i 0) j) a b

-- a number of the first word, or of those after it
first_or_rest : (C : ℕ → Type 0) (p : ℕ) → (p < 64 → C p) → ((q : ℕ) → p ≡ 64 + q → C (64 + q)) → C p
first_or_rest C p f g = go (ℕ_discrete (p / 64) 0)
  where
    go : Dec (p / 64 ≡ 0) → C p
    go (yes e) = f (omega arith)
    go (no e) = let q : p ≡ 64 + (p - 64) = omega arith in subst C (sym q) (g (p - 64) q)

pub look-from : (k w : ℕ) (D : Set) (p : ℕ) → p < 64 * k → look (words_from k w D) p ≡ D (64 * w + p)
unfolding words_from
look-from zero w D p h = absurd (omega arith)
look-from (suc k) w D p h =
    first_or_rest (λ (q : ℕ). look (word_at D w ∷ words_from k (suc w) D) q ≡ D (64 * w + q)) p
    (λ l. look_head (word_at D w) (words_from k (suc w) D) p l ∙ bit_word_at D w p l)
    (λ q e. look_tail (word_at D w) (words_from k (suc w) D) q
    ∙ look-from k (suc w) D q (omega arith) ∙ ap D (omega arith))

-- the words of a set have its members
pub look-words : (k : ℕ) (D : Set) (p : ℕ) → p < 64 * k → look (words k D) p ≡ D p
look-words k D p h = look-from k 0 D p h ∙ ap D (omega arith)

from-look : (ws : List ℕ) (w : ℕ) (D : Set) → T (are_words ws) → ((p : ℕ) → p < 64 * length ws → D (64 * w + p) ≡ look ws p)
    → words_from (length ws) w D ≡ ws
unfolding words_from are_words word_at
from-look [] w D t e = refl
from-look (x ∷ ws) w D t e =
    ap₂ (λ (a : ℕ) (l : List ℕ). a ∷ l)
    (word_ext 64 (λ j. D (64 * w + j)) (bit x) (λ p l. e p (omega arith) ∙ look_head x ws p l)
    ∙ word_bits 64 x (ltb→lt x (2 ^ 64) (and_left (ltb x (2 ^ 64)) (are_words ws) t)))
    (from-look ws (suc w) D (and_right (ltb x (2 ^ 64)) (are_words ws) t)
    (λ p l. ap D (omega arith) ∙ e (64 + p) (omega arith) ∙ look_tail x ws p))

-- a list of words is that of its members
pub words-look : (ws : List ℕ) (D : Set) → T (are_words ws) → ((p : ℕ) → p < 64 * length ws → D p ≡ look ws p) → words (length ws) D ≡ ws
words-look ws D t e = from-look ws 0 D t (λ p l. ap D (omega arith) ∙ e p l)

pub words_look' : (ws : List ℕ) (k : ℕ) (D : Set) → T (are_words ws) → length ws ≡ k → ((p : ℕ) → p < 64 * k → D p ≡ look ws p) → words k D ≡ ws
words_look' ws k D t n e =
    ap (λ (m : ℕ). words m D) (sym n) ∙ words-look ws D t (λ p h. e p (subst (λ (m : ℕ). p < 64 * m) n h))

-- for a loop that writes word after word
pub words-suc : (k w : ℕ) (D : Set) → words_from (suc k) w D ≡ words_from k w D ++ (word_at D (w + k) ∷ [])
unfolding words_from
words-suc zero w D = ap (λ (m : ℕ). word_at D m ∷ []) (omega arith)
words-suc (suc k) w D =
    let e : suc w + k ≡ w + suc k = omega arith in
    ap (λ (l : List ℕ). word_at D w ∷ l) (words-suc k (suc w) D ∙ ap (λ (m : ℕ). words_from k (suc w) D ++ (word_at D m ∷ [])) e)

from_same : (k w : ℕ) (D E : Set) → ((p : ℕ) → p < 64 * k → D (64 * w + p) ≡ E (64 * w + p)) → words_from k w D ≡ words_from k w E
unfolding words_from
from_same zero w D E e = refl
from_same (suc k) w D E e =
    ap₂ (λ (a : ℕ) (l : List ℕ). a ∷ l)
    (word_at_same D E w (λ p l. e p (omega arith)))
    (from_same k (suc w) D E (λ p l. ap D (omega arith) ∙ e (64 + p) (omega arith) ∙ ap E (omega arith)))

pub words_same : (k : ℕ) (D E : Set) → ((p : ℕ) → p < 64 * k → D p ≡ E p) → words k D ≡ words k E
words_same k D E e = from_same k 0 D E (λ p l. ap D (omega arith) ∙ e p l ∙ ap E (omega arith))

from-are : (k w : ℕ) (D : Set) → T (are_words (words_from k w D))
unfolding words_from are_words
from-are zero w D = tt
from-are (suc k) w D =
    and_both (ltb (word_at D w) (2 ^ 64)) (are_words (words_from k (suc w) D))
    (lt→ltb (word_at D w) (2 ^ 64) (word_at_lt D w)) (from-are k (suc w) D)

pub words_are : (k : ℕ) (D : Set) → T (are_words (words k D))
words_are k D = from-are k 0 D

from-length : (k w : ℕ) (D : Set) → length (words_from k w D) ≡ k
unfolding words_from
from-length zero w D = refl
from-length (suc k) w D = ap suc (from-length k (suc w) D)

pub words-length : (k : ℕ) (D : Set) → length (words k D) ≡ k
words-length k D = from-length k 0 D

-- lists of words with the same members are the same
pub words-one : (ws vs : List ℕ) → T (are_words ws) → T (are_words vs) → length ws ≡ length vs
    → ((p : ℕ) → p < 64 * length ws → look ws p ≡ look vs p) → ws ≡ vs
words-one ws vs t u n e =
    sym (words-look ws (look vs) t (λ p l. sym (e p l)))
    ∙ ap (λ (k : ℕ). words k (look vs)) n
    ∙ words-look vs (look vs) u (λ p l. refl)

-- ---- words stay words

pub are-by : (ws : List ℕ) → ((i : ℕ) → get_or ws i 0 < 2 ^ 64) → T (are_words ws)
unfolding are_words
are-by [] h = tt
are-by (w ∷ ws) h = and_both (ltb w (2 ^ 64)) (are_words ws) (lt→ltb w (2 ^ 64) (h zero)) (are-by ws (λ i. h (suc i)))

pub are-at : (ws : List ℕ) (i : ℕ) → T (are_words ws) → get_or ws i 0 < 2 ^ 64
unfolding are_words
are-at [] i t = pow_pos 64
are-at (w ∷ ws) zero t = ltb→lt w (2 ^ 64) (and_left (ltb w (2 ^ 64)) (are_words ws) t)
are-at (w ∷ ws) (suc i) t = are-at ws i (and_right (ltb w (2 ^ 64)) (are_words ws) t)

pub are-set : (ws : List ℕ) (i v : ℕ) → T (are_words ws) → v < 2 ^ 64 → T (are_words (set ws i v))
unfolding are_words
are-set [] i v t h = t
are-set (w ∷ ws) zero v t h = and_both (ltb v (2 ^ 64)) (are_words ws) (lt→ltb v (2 ^ 64) h) (and_right (ltb w (2 ^ 64)) (are_words ws) t)
are-set (w ∷ ws) (suc i) v t h =
    and_both (ltb w (2 ^ 64)) (are_words (set ws i v)) (and_left (ltb w (2 ^ 64)) (are_words ws) t)
    (are-set ws i v (and_right (ltb w (2 ^ 64)) (are_words ws) t) h)

pub are-cleared : (ws : List ℕ) (n : ℕ) → T (are_words ws) → T (are_words (cleared ws n))
unfolding cleared
are-cleared ws n t = are-set ws (n / 64) (word 64 (without (bit (get_or ws (n / 64) 0)) (n % 64))) t (word_lt 64 (without (bit (get_or ws (n / 64) 0)) (n % 64)))

pub are-inserted : (ws : List ℕ) (n : ℕ) → T (are_words ws) → T (are_words (inserted ws n))
unfolding inserted
are-inserted ws n t = are-set ws (n / 64) (word 64 (with (bit (get_or ws (n / 64) 0)) (n % 64))) t (word_lt 64 (with (bit (get_or ws (n / 64) 0)) (n % 64)))

pub length-inserted : (ws : List ℕ) (n : ℕ) → length (inserted ws n) ≡ length ws
unfolding inserted
length-inserted ws n = length-set ws (n / 64) (word 64 (with (bit (get_or ws (n / 64) 0)) (n % 64)))

pub length-cleared : (ws : List ℕ) (n : ℕ) → length (cleared ws n) ≡ length ws
unfolding cleared
length-cleared ws n = length-set ws (n / 64) (word 64 (without (bit (get_or ws (n / 64) 0)) (n % 64)))

pub are-append : (ws vs : List ℕ) → T (are_words ws) → T (are_words vs) → T (are_words (ws ++ vs))
unfolding are_words
are-append [] vs t u = u
are-append (w ∷ ws) vs t u =
    and_both (ltb w (2 ^ 64)) (are_words (ws ++ vs)) (and_left (ltb w (2 ^ 64)) (are_words ws) t)
    (are-append ws vs (and_right (ltb w (2 ^ 64)) (are_words ws) t) u)

pub are-drop : (k : ℕ) (ws : List ℕ) → T (are_words ws) → T (are_words (drop k ws))
unfolding are_words
are-drop zero ws t = t
are-drop (suc k) [] t = t
are-drop (suc k) (w ∷ ws) t = are-drop k ws (and_right (ltb w (2 ^ 64)) (are_words ws) t)

pub are-take : (k : ℕ) (ws : List ℕ) → T (are_words ws) → T (are_words (take k ws))
unfolding are_words
are-take zero ws t = tt
are-take (suc k) [] t = t
are-take (suc k) (w ∷ ws) t =
    and_both (ltb w (2 ^ 64)) (are_words (take k ws)) (and_left (ltb w (2 ^ 64)) (are_words ws) t)
    (are-take k ws (and_right (ltb w (2 ^ 64)) (are_words ws) t))

-- the first k words are those of what is seen
pub front : (k : ℕ) (ws : List ℕ) → T (are_words ws) → k ≤ length ws → take k ws ≡ words k (look ws)
front k ws t h =
    sym (words_look' (take k ws) k (look ws) (are-take k ws t) (length-take-le k ws h)
    (λ p l. ap (λ (x : ℕ). bit x (p % 64)) (sym (get_or-take k ws (p / 64) 0 (omega arith)))))

-- ---- one number taken out or put in

-- within one word numbers are the same where their digits are
eqb_digit : (p n : ℕ) → p / 64 ≡ n / 64 → eqb (p % 64) (n % 64) ≡ eqb p n
eqb_digit p n e = go (ℕ_discrete p n)
  where
    go : Dec (p ≡ n) → eqb (p % 64) (n % 64) ≡ eqb p n
    go (yes q) = eq-eqb (p % 64) (n % 64) (omega arith) ∙ sym (eq-eqb p n q)
    go (no q) = ne_eqb (p % 64) (n % 64) (λ f. q (omega arith)) ∙ sym (ne_eqb p n q)

-- one word changed by a test of its numbers: f of the old test and of being n, where not being n changes nothing
look-set : (ws : List ℕ) (n : ℕ) (f : Bool → Bool → Bool) → ((b : Bool) → f b false ≡ b) → n / 64 < length ws → (p : ℕ)
    → look (set ws (n / 64) (word 64 (λ k. f (bit (get_or ws (n / 64) 0) k) (eqb k (n % 64))))) p ≡ f (look ws p) (eqb p n)
look-set ws n f z h p = go (ℕ_discrete (p / 64) (n / 64))
  where
    go : Dec (p / 64 ≡ n / 64)
        → look (set ws (n / 64) (word 64 (λ k. f (bit (get_or ws (n / 64) 0) k) (eqb k (n % 64))))) p ≡ f (look ws p) (eqb p n)
    go (yes e) =
        let D : Set = λ k. f (bit (get_or ws (n / 64) 0) k) (eqb k (n % 64)) in
        ap (λ (i : ℕ). bit (get_or (set ws (n / 64) (word 64 D)) i 0) (p % 64)) e
        ∙ ap (λ (x : ℕ). bit x (p % 64)) (get_or-set_same ws (n / 64) (word 64 D) 0 h)
        ∙ bit_word 64 D (p % 64) (omega arith)
        ∙ ap₂ (λ (i : ℕ) (b : Bool). f (bit (get_or ws i 0) (p % 64)) b) (sym e) (eqb_digit p n e)
    go (no e) =
        let D : Set = λ k. f (bit (get_or ws (n / 64) 0) k) (eqb k (n % 64)) in
        ap (λ (x : ℕ). bit x (p % 64)) (get_or-set_other ws (n / 64) (p / 64) (word 64 D) 0 e)
        ∙ sym (ap (λ (b : Bool). f (look ws p) b) (ne_eqb p n (λ q. e (ap (λ (m : ℕ). m / 64) q))) ∙ z (look ws p))

-- n is out, and the others are as they were
pub look-cleared : (ws : List ℕ) (n : ℕ) → n / 64 < length ws → (p : ℕ) → look (cleared ws n) p ≡ without (look ws) n p
unfolding cleared
look-cleared ws n h p = look-set ws n (λ a b. a && not b) and-true h p

-- n is in
pub look-inserted : (ws : List ℕ) (n : ℕ) → n / 64 < length ws → (p : ℕ) → look (inserted ws n) p ≡ with (look ws) n p
unfolding inserted
look-inserted ws n h p = look-set ws n (λ a b. a || b) or-false h p
