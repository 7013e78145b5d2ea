-- What the request's demands 1 to 3 say of the answers and of the words left. Proved in proofs/Demand1.antt, Demand2.antt and
-- Demand3.antt.
use Rattle.std.specs.Prelude.{ℕ, ◌*◌, ◌≤◌, ◌<◌, ◌≡◌, ◌⊎◌, Bool, true, false, ◌&&◌, List, [], ◌∷◌, eqb, length, get_or, take, drop}
use Rattle.std.specs.List.{count_by}
use Rattle.bitset.specs.Bits.{look, size, ones_of}
use Rattle.elimination.specs.Sets.{Sub, Same}
use Rattle.elimination.specs.Elimination.{Largest}
use Rattle.elimination.specs.Calls.{Call, strike, settle, run_with, Passes}
use Rattle.records.specs.Places.{Placed}
use Rattle.syntax.specs.Reading.{Kb, Reading, refusal, kb, parts_of, read_kb, is_read_refusal}
use Rattle.syntax.specs.Counts.{PartCounts, counts_of, sum_of}
use Rattle.syntax.specs.Answers.{limit, read_says, list_says, list_leaves, bytes_of, kinds_listed, is_list_refusal}
use Rattle.semantics.specs.Interpretations.{Interpretation, models}
use Rattle.semantics.specs.Dominoes.{Met, Domino, number, left_of, right_of_lem, inverse, numbered}
use Rattle.semantics.specs.Conditions.{View, stage, SameDominoes, Final, LargestStable, dominoes, initial, defective, defect_at, canon_dominoes, held}
use Rattle.semantics.specs.Views.{kb_view}
use Rattle.semantics.specs.Projection.{projection}
use Rattle.domino.specs.Answers.{is_set_refusal, is_strike_refusal, open_says, open_leaves, strike_says, strike_leaves, settle_says, settle_leaves, judge_says, judge_leaves}

-- ---- demand 1: "the call comes back with the refusal number and place that document 01 fixes, and every set and list is
-- untouched, unless a later request says outright what that refusal leaves. Where the input is sound the call does its work."

-- of an answer: the number of the refusal, 0 for none, and its place
abbrev pub refusal_of : List ℕ → ℕ
refusal_of says = get_or says 0 0

abbrev pub place_of : List ℕ → ℕ
place_of says = get_or says 1 0

-- what a call keeps to that refuses with the numbers `refusals`, and that says `says` and leaves `after` of what it was lent, `before`
pub record Refuses (refusals : ℕ → Bool) (sheet before says after : List ℕ) : Type 0 where
  -- "refuses as read does": with its number and its place
  pub read : (n p : ℕ) → read_kb limit sheet ≡ refusal n p → (says ≡ n ∷ p ∷ []) × (is_read_refusal n ≡ true)
  -- the place is where a record starts for 1 to 4 and 8, a reference's byte for 5, 6, 7, 16 and 17, "and 0 otherwise"
  pub placed : Placed sheet (refusal_of says) (place_of says)
  -- no other number is given; 02, N5: "13 is withdrawn, its number left unused"
  pub among : (refusal_of says ≡ 0 → ⊥) → refusals (refusal_of says) ≡ true
  -- "A refusal writes nothing to any buffer"; 01's exception was 13
  pub untouched : (refusal_of says ≡ 0 → ⊥) → after ≡ before
  pub long : length after ≡ length before

-- and that needs so many bytes or words, and has a number for too few
pub record RefusesShort (refusals : ℕ → Bool) (number : ℕ) (needed : Kb → ℕ) (sheet before says after : List ℕ) : Type 0 where
  pub refuses : Refuses refusals sheet before says after
  -- "then 10, set too short", "then 12, list shorter than 3c bytes"
  pub short : (k : Kb) → read_kb limit sheet ≡ kb k → length before < needed k → says ≡ number ∷ 0 ∷ []
  -- "Further words are never touched.", "bytes past 3c are kept"
  pub past : (k : Kb) → read_kb limit sheet ≡ kb k → drop (needed k) after ≡ drop (needed k) before

-- a call on a set; list marks
abbrev pub RefusesOnSet : (ℕ → Bool) → List ℕ → List ℕ → List ℕ → List ℕ → Type 0
RefusesOnSet refusals = RefusesShort refusals 10 (λ k. held (kb_view k))

abbrev pub RefusesOnList : List ℕ → List ℕ → List ℕ → List ℕ → Type 0
RefusesOnList = RefusesShort is_list_refusal 12 (λ k. 3 * length (parts_of k))

-- for a list of bytes, words ws, and a number n to strike; read is lent nothing
pub record Demand1 (sheet list ws : List ℕ) (n : ℕ) : Type 0 where
  pub reading : Refuses is_read_refusal sheet [] (read_says (read_kb limit sheet)) []
  pub listing : RefusesOnList sheet list (list_says (read_kb limit sheet) list) (list_leaves (read_kb limit sheet) list)
  pub opening : RefusesOnSet is_set_refusal sheet ws (open_says (read_kb limit sheet) ws) (open_leaves (read_kb limit sheet) ws)
  pub striking : RefusesOnSet is_strike_refusal sheet ws (strike_says (read_kb limit sheet) n ws) (strike_leaves (read_kb limit sheet) n ws)
  pub settling : RefusesOnSet is_set_refusal sheet ws (settle_says (read_kb limit sheet) ws) (settle_leaves (read_kb limit sheet) ws)
  pub judging : RefusesOnSet is_set_refusal sheet ws (judge_says (read_kb limit sheet) ws) (judge_leaves (read_kb limit sheet) ws)

-- "Where the input is sound the call does its work": read and list marks, for a sheet that is read as s, which is the knowledge
-- base k, and any list
pub record Demand1Listed (s : Reading) (k : Kb) (list : List ℕ) : Type 0 where
  -- 02, N9: "Read shall give four counts, traits, fresh, some and only", and L; "their sum equal to c"; the first is T
  pub reads : let n : PartCounts = counts_of (parts_of k) in read_says s ≡ 0 ∷ 0 ∷ n.names ∷ n.fresh ∷ n.existentials ∷ n.universals ∷ k.roles ∷ []
  pub sum : sum_of (counts_of (parts_of k)) ≡ length (parts_of k)
  pub names : (counts_of (parts_of k)).names ≡ k.names
  -- a list of 3c bytes is not refused: c is answered, "three bytes for each mark" are written, "Bytes past 3c are kept."
  pub lists : 3 * length (parts_of k) ≤ length list → list_says s list ≡ 0 ∷ 0 ∷ length (parts_of k) ∷ []
  pub bytes : 3 * length (parts_of k) ≤ length list → take (3 * length (parts_of k)) (list_leaves s list) ≡ bytes_of (parts_of k)
  pub past : drop (3 * length (parts_of k)) (list_leaves s list) ≡ drop (3 * length (parts_of k)) list
  -- 02, N9: each count "the number of marks of that kind that the mark list holds": read's answer, by the bytes that list marks leaves
  pub kinds : 3 * length (parts_of k) ≤ length list →
      let of : ℕ → ℕ = λ n. count_by (λ b. eqb b n) (kinds_listed (take (3 * length (parts_of k)) (list_leaves s list))) in
      read_says s ≡ 0 ∷ 0 ∷ of 0 ∷ of 1 ∷ of 2 ∷ of 3 ∷ k.roles ∷ []

-- ---- for a sheet that is read as s, its view v, and words ws that are enough

-- open, settle and judge are not refused, strike with 11 alone
pub record Demand1Done (s : Reading) (v : View) (ws : List ℕ) (n : ℕ) : Type 0 where
  pub opens : refusal_of (open_says s ws) ≡ 0
  pub strikes : n < dominoes v → refusal_of (strike_says s n ws) ≡ 0
  -- "then 11, number not below 2^(2c+2L)"
  pub beyond : dominoes v ≤ n → strike_says s n ws ≡ 11 ∷ 0 ∷ []
  pub settles : refusal_of (settle_says s ws) ≡ 0
  pub judges : refusal_of (judge_says s ws) ≡ 0
  -- "It opens and settles"
  pub settled : judge_leaves s ws ≡ settle_leaves s (open_leaves s ws)

-- no domino in the words is defective in their set. 01: "A set is at rest if no pairing in it is loose in it."
unfoldable pub StableWords : View → List ℕ → Type 0
StableWords v ws = (n : ℕ) → n < dominoes v → look ws n ≡ true → defect_at v (look ws) n ≡ 0

pub record Demand2 (s : Reading) (v : View) (ws : List ℕ) : Type 0 where
  -- "Judging a sheet leaves the largest set of pairings in which none is loose": the words hold the canonical set alone,
  pub members : (A R B : ℕ) → Domino v.parts v.roles A R B
      → look (judge_leaves s ws) (number v.parts v.roles A R B) ≡ canon_dominoes v A R B
  pub spare : (n : ℕ) → dominoes v ≤ n → n < 64 * held v → look (judge_leaves s ws) n ≡ false
  -- which is stable, and of which every stable set is a part; as dominoes, and as words
  pub largest : LargestStable v (canon_dominoes v)
  pub stable : StableWords v (judge_leaves s ws)
  pub most : (vs : List ℕ) → StableWords v vs → Sub (dominoes v) (look vs) (look (judge_leaves s ws))
  -- "as Definition 5 .. sets it out": of its stages, the one that the next does not change; and there is one, not after more stages
  -- than the initial set has members
  pub definition_5 : (i : ℕ) → Final v i
      → SameDominoes v (numbered v.parts v.roles (look (judge_leaves s ws))) (stage v i)
  pub definition_5-ends : (i : ℕ) × (i ≤ size (dominoes v) (initial v)) × Final v i
  -- "and says "can be met" when that set holds a pairing and "cannot be met" when it is empty"
  pub verdict : (opening survivors met : ℕ) → judge_says s ws ≡ 0 ∷ 0 ∷ opening ∷ survivors ∷ met ∷ []
      → ((met ≡ 1) × Met (canon_dominoes v)) ⊎ ((met ≡ 0) × (Met (canon_dominoes v) → ⊥))
  -- the sizes are the ones in the words used: "the count is tied to the set left"
  pub counts : (opening survivors met : ℕ) → judge_says s ws ≡ 0 ∷ 0 ∷ opening ∷ survivors ∷ met ∷ []
      → (opening ≡ ones_of (take (held v) (open_leaves s ws))) × (survivors ≡ ones_of (take (held v) (judge_leaves s ws)))

-- "What judging leaves is fixed by the sheet alone": for other words vs that are enough too
pub record FixedBySheet (s : Reading) (v : View) (ws vs : List ℕ) : Type 0 where
  pub leaves : take (held v) (judge_leaves s ws) ≡ take (held v) (judge_leaves s vs)
  pub says : judge_says s ws ≡ judge_says s vs

-- 02, N5: no sheet leads to 01's refusal 13, "a survivor whose right mark set begins no survivor", which is withdrawn
pub record NeverStranded (s : Reading) (v : View) (ws : List ℕ) : Type 0 where
  -- "a survivor's mirror survives too"
  pub converse : (A R B : ℕ) → Domino v.parts v.roles A R B
      → look (judge_leaves s ws) (number v.parts v.roles A R B) ≡ true
      → look (judge_leaves s ws) (number v.parts v.roles B (inverse v.roles R) A) ≡ true
  -- so the right label of a survivor is the left label of one
  pub begins : (n : ℕ) → n < dominoes v → look (judge_leaves s ws) n ≡ true
      → (m : ℕ) × (m < dominoes v) × (look (judge_leaves s ws) m ≡ true) × (left_of v.parts v.roles m ≡ right_of_lem v.parts n)

-- "Every finite plant of at least one item that keeps the sheet has all its pairings in that set."
pub record Demand2Models (k : Kb) : Type 0 where
  pub inside : (I : Interpretation) → models I k ≡ true
      → (A R B : ℕ) → projection I k A R B ≡ true → canon_dominoes (kb_view k) A R B ≡ true
  pub met : (I : Interpretation) → 0 < I.individuals → models I k ≡ true → Met (canon_dominoes (kb_view k))

-- demand 3: single calls
pub record Demand3Calls (s : Reading) (v : View) (ws : List ℕ) : Type 0 where
  -- "An opened set holds exactly the pairings that do not break the sheet themselves."
  pub opened : Same (dominoes v) (look (open_leaves s ws)) (initial v)
  -- "the spare bits of word 0 are cleared by open, settle and judge"; "answers its size": the ones in the words used
  pub opened-spare : (n : ℕ) → dominoes v ≤ n → n < 64 * held v → look (open_leaves s ws) n ≡ false
  pub opened-count : open_says s ws ≡ 0 ∷ 0 ∷ ones_of (take (held v) (open_leaves s ws)) ∷ []
  -- "A strike removes the pairing it names precisely if it is there and loose, and no other"
  pub struck : (n : ℕ) → n < dominoes v → look (strike_leaves s n ws) n ≡ (look ws n && eqb (defect_at v (look ws) n) 0)
  pub others : (n p : ℕ) → (p ≡ n → ⊥) → look (strike_leaves s n ws) p ≡ look ws p
  pub refused : (n : ℕ) → dominoes v ≤ n → strike_leaves s n ws ≡ ws
  -- "settling strikes until none is loose": what it leaves is the largest stable subset, and its answer the ones in the words used
  pub stable : StableWords v (settle_leaves s ws)
  pub largest : Largest (dominoes v) (defective v) (look ws) (look (settle_leaves s ws))
  pub spare : (n : ℕ) → dominoes v ≤ n → n < 64 * held v → look (settle_leaves s ws) n ≡ false
  pub count : settle_says s ws ≡ 0 ∷ 0 ∷ ones_of (take (held v) (settle_leaves s ws)) ∷ []

-- "the spare bits of word 0 .. are ignored and kept by strike": for other words vs that are enough, with the same dominoes in them
-- (that they are kept: `Demand3Calls.others`, `refused`)
pub record SpareIgnored (s : Reading) (v : View) (ws vs : List ℕ) : Type 0 where
  pub says : (n : ℕ) → strike_says s n ws ≡ strike_says s n vs
  pub leaves : (n : ℕ) → Same (dominoes v) (look (strike_leaves s n ws)) (look (strike_leaves s n vs))

-- what one call does to the words: "a strike refused with 11 counts as a call"
abbrev pub called : Reading → Call → List ℕ → List ℕ
called s (strike n) ws = strike_leaves s n ws
called s settle ws = settle_leaves s ws

-- the words after a list of calls: "It runs from a set just opened, with one sheet throughout, each call getting the set as the
-- last one left it and nobody else writing it meanwhile."
abbrev pub calls_leave : Reading → List Call → List ℕ → List ℕ
calls_leave s cs ws = run_with (called s) cs (open_leaves s ws)

-- demand 3: a list of calls
pub record Demand3 (s : Reading) (v : View) (cs : List Call) (ws : List ℕ) : Type 0 where
  -- "Words beyond these are as they were before open, at rest or not."
  pub past : drop (held v) (calls_leave s cs ws) ≡ drop (held v) ws
  -- "After every such list, every pairing that judging the sheet keeps is still in the set"
  pub keeps : Sub (dominoes v) (look (judge_leaves s ws)) (look (calls_leave s cs ws))
  -- "If it is at rest after the list, the words needed are, word for word, those that judge leaves for the sheet."
  pub exact : StableWords v (calls_leave s cs ws) → take (held v) (calls_leave s cs ws) ≡ take (held v) (judge_leaves s ws)
  -- "The rounds needed are as many as the opening size that open answered; for 0, none."
  pub ends : (opening passes : ℕ) → open_says s ws ≡ 0 ∷ 0 ∷ opening ∷ [] → opening ≤ passes → Passes (dominoes v) passes cs
      → StableWords v (calls_leave s cs ws)
