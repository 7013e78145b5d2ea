-- Lists of strikes and settlings, on sets and on words, and what demand 3 says of them. Document 01, "Strikes and settlings
-- in a row".
use Rattle.std.specs.Prelude.{◌≡◌, Bool, true, false, not, ◌&&◌, ◌||◌, cond, List, [], ◌∷◌, ◌++◌, ℕ, zero, suc, ◌≤◌, T, eqb, ltb, take, drop}
use Rattle.bitset.specs.Bits.{Set, look, words, cleared, size}
use Rattle.elimination.specs.Sets.{every, below, Sub, Same}
use Rattle.elimination.specs.Elimination.{is_stable, settled, defective_by, canonical}

-- a call of the list: "each strike in it names any number"
pub data Call : Type 0 where
  strike : ℕ → Call
  settle : Call

-- does the list strike p
abbrev pub strikes : ℕ → List Call → Bool
strikes p [] = false
strikes p (strike n ∷ cs) = eqb p n || strikes p cs
strikes p (settle ∷ cs) = strikes p cs

-- the calls one after another, on a state of any kind. "The list may be empty"
abbrev pub run_with : {S : Type 0} → (Call → S → S) → List Call → S → S
run_with act [] s = s
run_with act (c ∷ cs) s = run_with act cs (act c s)

-- the test passes at some place where the list is cut in two; the part before it begins with pre
abbrev pub some_cut : (List Call → List Call → Bool) → List Call → List Call → Bool
some_cut f pre [] = f pre []
some_cut f pre (c ∷ cs) = let r = some_cut f (pre ++ (c ∷ [])) cs in f pre (c ∷ cs) || r

module _ (N : ℕ) where
  -- document 01 calls this a round: "a stretch of the list in which every number below 2^(2c+2L) is struck at least once;
  -- settlings, repeated strikes and refused calls may stand in it"
  abbrev pub pass : List Call → Bool
  pass cs = every N (λ p. strikes p cs)

  -- k passes one after another, with any calls between them: "two rounds share no call"
  abbrev pub Passes : ℕ → List Call → Type 0
  Passes zero cs = Unit {0}
  Passes (suc k) cs =
      (a : List Call) × (r : List Call) × (b : List Call) × (cs ≡ a ++ (r ++ b)) × T (pass r) × Passes k b

  -- the same as a test that computes: the first pass is some beginning of the list
  abbrev pub has_passes : ℕ → List Call → Bool
  has_passes zero cs = true
  has_passes (suc k) cs = some_cut (λ pre post. let r = has_passes k post in pass pre && r) [] cs

  module _ (defective : Set → ℕ → Bool) where
    -- "Struck, in it and loose, and now out". A number not below N is refused: "a strike refused with 11 counts as a call"
    abbrev pub struck : Set → ℕ → Set
    struck D n p = D p && not (eqb p n && (ltb n N && defective D n))

    -- what one call does to the set. Settle "leaves the largest subset of the set that has nothing loose"
    abbrev pub act : Call → Set → Set
    act (strike n) D = struck D n
    act settle D = settled N defective D

    -- the set after a list of calls: "each call getting the set as the last one left it" (demand 3)
    abbrev pub run_calls : List Call → Set → Set
    run_calls cs D = run_with act cs D

-- demand 3 for one list of calls, from the initial set on. `keeps` and `exact` are in the words of the demand itself
pub record Demand3 (N : ℕ) (initial : Set) (lacks : Set → ℕ → Bool) (cs : List Call) : Type 0 where
  -- "every pairing that judging the sheet keeps is still in the set"
  pub keeps : Sub N (canonical N initial lacks) (run_calls N (defective_by initial lacks) cs initial)
  -- "if the set is then at rest, with nothing loose left, it holds exactly the pairings that judging leaves"
  pub exact : T (is_stable N (defective_by initial lacks) (run_calls N (defective_by initial lacks) cs initial))
      → Same N (run_calls N (defective_by initial lacks) cs initial) (canonical N initial lacks)
  -- "The rounds needed are as many as the opening size that open answered; for 0, none."
  pub ends : (k : ℕ) → Passes N k cs → size N initial ≤ k
      → T (is_stable N (defective_by initial lacks) (run_calls N (defective_by initial lacks) cs initial))

-- ---- the same on a list of words, of which the first k hold the set

-- the set in the first k words: "the spare bits of word 0 are cleared by open, settle and judge", "Further words are never touched."
abbrev pub written : ℕ → ℕ → Set → List ℕ → List ℕ
written k N D ws = words k (below N D) ++ drop k ws

-- strike: one bit is cleared or none; the spare bits "are ignored and kept by strike"
abbrev pub strike_words : ℕ → (Set → ℕ → Bool) → ℕ → List ℕ → List ℕ
strike_words N defective n ws = cond (ltb n N && (look ws n && defective (look ws) n)) (cleared ws n) ws

-- settle: the words of the largest stable subset, with the spare bits cleared
abbrev pub settle_words : ℕ → ℕ → (Set → ℕ → Bool) → List ℕ → List ℕ
settle_words k N defective ws = written k N (settled N defective (look ws)) ws

-- what one call does to the words
abbrev pub act_words : ℕ → ℕ → (Set → ℕ → Bool) → Call → List ℕ → List ℕ
act_words k N defective (strike n) ws = strike_words N defective n ws
act_words k N defective settle ws = settle_words k N defective ws

-- the words after a list of calls. "It starts from the words as open left them for the sheet."
abbrev pub after : ℕ → ℕ → Set → (Set → ℕ → Bool) → List Call → List ℕ → List ℕ
after k N initial lacks cs ws = run_with (act_words k N (defective_by initial lacks)) cs (written k N initial ws)

-- demand 3 for one list of calls, from words just opened; ws are the words before
pub record Demand3Words (k N : ℕ) (initial : Set) (lacks : Set → ℕ → Bool) (cs : List Call) (ws : List ℕ) : Type 0 where
  -- "Words beyond these are as they were before open, at rest or not."
  pub past : drop k (after k N initial lacks cs ws) ≡ drop k ws
  -- "every pairing that judging the sheet keeps is still in the set" (demand 3)
  pub keeps : Sub N (canonical N initial lacks) (look (after k N initial lacks cs ws))
  -- "If it is at rest after the list, the words needed are, word for word, those that judge leaves for the sheet."
  pub exact : T (is_stable N (defective_by initial lacks) (look (after k N initial lacks cs ws)))
      → take k (after k N initial lacks cs ws) ≡ words k (below N (canonical N initial lacks))
  -- "The rounds needed are as many as the opening size that open answered; for 0, none."
  pub ends : (r : ℕ) → Passes N r cs → size N initial ≤ r
      → T (is_stable N (defective_by initial lacks) (look (after k N initial lacks cs ws)))
