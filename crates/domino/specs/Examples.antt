-- Worked sheets (01, "Sheets to try"): what open, settle and judge answer for each and leave in the words, strikes, and a list of
-- calls. Proved in proofs/Worked.antt.
use Rattle.std.specs.Prelude.{ℕ, zero, suc, List, [], ◌∷◌, ◌++◌}
use Rattle.bitset.specs.Bits.{words_for_lem}
use Rattle.elimination.specs.Calls.{Call, strike as call, settle}
use Rattle.syntax.specs.Concepts.{named, top_c, bottom_c, forall_c}
use Rattle.syntax.specs.Reading.{Kb, read_kb}
use Rattle.syntax.specs.Answers.{limit, read_says}
use Rattle.syntax.specs.Examples.{counts, s1, s2, s3, s4, s5, s6, thrice, without_inclusion, with_inclusion}
use Rattle.semantics.specs.Dominoes.{total}
use Rattle.domino.specs.Answers.{open_says, open_leaves, strike_says, strike_leaves, settle_says, judge_says, judge_leaves}

-- a sheet and what read says of it; words lent; what open says and leaves; what settle says then; what judge says and leaves
pub record Row : Type 0 where
  pub sheet : List ℕ
  pub reads : List ℕ
  pub lent : List ℕ
  pub opens : List ℕ
  pub opened : List ℕ
  pub settles : List ℕ
  pub judges : List ℕ
  pub judged : List ℕ

abbrev pub row : List ℕ → List ℕ → List ℕ → List ℕ → List ℕ → List ℕ → List ℕ → List ℕ → Row
row s r l o p t j q = record { sheet = s; reads = r; lent = l; opens = o; opened = p; settles = t; judges = j; judged = q }

-- the row, as the definitions have it
abbrev pub answered : Row → Row
answered r =
    let s = read_kb limit r.sheet in
    row r.sheet (read_says s) r.lent (open_says s r.lent) (open_leaves s r.lent) (settle_says s (open_leaves s r.lent))
    (judge_says s r.lent) (judge_leaves s r.lent)

-- words, and one more that no call may touch
abbrev pub lend : List ℕ → List ℕ
lend ws = ws ++ (5 ∷ [])

-- what is lent: a full word; four full words
abbrev pub one : List ℕ
one = lend (0xffffffffffffffff ∷ [])

abbrev four : List ℕ
four = lend (0xffffffffffffffff ∷ 0xffffffffffffffff ∷ 0xffffffffffffffff ∷ 0xffffffffffffffff ∷ [])

-- four words with every other bit
abbrev halves : List ℕ
halves = lend (0x5555555555555555 ∷ 0x5555555555555555 ∷ 0x5555555555555555 ∷ 0x5555555555555555 ∷ [])

-- S1, S4 and S5 opened
abbrev opened1 : List ℕ
opened1 = 0xffffffff00000000 ∷ []

abbrev opened4 : List ℕ
opened4 = 0xff00 ∷ []

abbrev opened5 : List ℕ
opened5 = 0xffffffffffff0000 ∷ []

-- the opening size, the survivors, and whether it is met; the words before the last, opened and judged
abbrev works : List ℕ → List ℕ → List ℕ → ℕ → ℕ → ℕ → List ℕ → List ℕ → Row
works s r l o n m p q = row s r l (0 ∷ 0 ∷ o ∷ []) (lend p) (0 ∷ 0 ∷ n ∷ []) (0 ∷ 0 ∷ o ∷ n ∷ m ∷ []) (lend q)

-- the set is too short; every call is refused as read is
abbrev short : List ℕ → List ℕ → List ℕ → Row
short s r l = row s r l (10 ∷ 0 ∷ []) l (10 ∷ 0 ∷ []) (10 ∷ 0 ∷ []) l

abbrev refused : List ℕ → List ℕ → ℕ → ℕ → Row
refused s l n p = row s (n ∷ p ∷ []) l (n ∷ p ∷ []) l (n ∷ p ∷ []) (n ∷ p ∷ []) l

-- S4's row
abbrev pub row4 : Row
row4 = works s4 (counts 0 0 1 0 1) one 8 0 0 opened4 (0 ∷ [])

-- everything is some k0 everything, and k0 is within not k0, which holds on the empty set
abbrev within_not : List ℕ
within_not = 0x01 ∷ 0x10 ∷ 0x00 ∷ 0x07 ∷ 0x01 ∷ 0x00 ∷ 0x20 ∷ 0x00 ∷ 0x02 ∷ 0x12 ∷ 0x01 ∷ 0x21 ∷ 0x01 ∷ 0x04 ∷ []

-- after the sheets of 01: everything is t0 and t1; one restriction in three axioms, whose opening and survivors "now speak of the
-- shared marks" (02, N4); two links, the first within the second, the second within the first, the first within itself reversed and
-- that within the second, and a link within its own not (02, N8)
abbrev pub table : List Row
table =
    works [] (counts 0 0 0 0 0) one 1 1 1 (1 ∷ []) (1 ∷ []) ∷
    short [] (counts 0 0 0 0 0) [] ∷
    works s1 (counts 1 0 1 0 1) one 32 16 1 opened1 (0xcccccccc00000000 ∷ []) ∷
    short s1 (counts 1 0 1 0 1) [] ∷
    works s2 (counts 1 0 1 0 1) one 16 0 0 (0xffff00000000 ∷ []) (0 ∷ []) ∷
    works s3 (counts 1 0 1 1 1) four 64 0 0 (0 ∷ 0xffffffff ∷ 0 ∷ 0xffff0000ffff ∷ []) (0 ∷ 0 ∷ 0 ∷ 0 ∷ []) ∷
    short s3 (counts 1 0 1 1 1) one ∷
    row4 ∷
    works s5 (counts 1 0 0 1 1) one 48 16 1 opened5 (0xcccccccc00000000 ∷ []) ∷
    works s6 (counts 1 1 1 0 1) four 144 85 1 (0xfff0fff ∷ 0xffffffffffffffff ∷ 0xfff0fff ∷ 0xffffffff ∷ [])
    (0xd5d0d5d ∷ 0x5d5d5d5d5d5d5d5d ∷ 0xc4c0d5d ∷ 0x4c4c5d5d ∷ []) ∷
    works (0x03 ∷ 0x00 ∷ []) (counts 1 0 0 0 0) one 4 4 1 (0xf ∷ []) (0xf ∷ []) ∷
    short (0x03 ∷ 0x0b ∷ []) (counts 12 0 0 0 0) one ∷
    refused (0x03 ∷ 0x0c ∷ []) one 4 0 ∷
    refused (0x03 ∷ 0x0b ∷ 0x10 ∷ 0x00 ∷ []) one 9 0 ∷
    refused (0x04 ∷ 0x00 ∷ []) one 5 1 ∷
    refused (0x03 ∷ 0x00 ∷ 0x04 ∷ 0x00 ∷ 0x05 ∷ 0x01 ∷ 0x01 ∷ []) one 7 6 ∷
    refused (0x10 ∷ 0x00 ∷ 0x12 ∷ 0x00 ∷ 0x01 ∷ 0x07 ∷ 0x01 ∷ 0x02 ∷ []) one 8 5 ∷
    refused (0x01 ∷ 0x10 ∷ 0x00 ∷ 0x07 ∷ 0x00 ∷ 0x01 ∷ []) one 16 4 ∷
    refused (0x01 ∷ 0x20 ∷ 0x00 ∷ 0x00 ∷ 0x04 ∷ 0x01 ∷ []) one 17 5 ∷
    works (0x01 ∷ 0x03 ∷ 0x00 ∷ 0x03 ∷ 0x01 ∷ 0x05 ∷ 0x01 ∷ 0x02 ∷ 0x20 ∷ 0x00 ∷ 0x03 ∷ []) (counts 2 0 0 0 0) one 4 1 1
    (0xf000 ∷ []) (0x8000 ∷ []) ∷
    works thrice (counts 1 0 1 0 1) one 32 16 1 opened1 (0xcccccccc00000000 ∷ []) ∷
    works without_inclusion (counts 0 0 1 1 2) four 32 4 1 (0 ∷ 0 ∷ 0 ∷ 0xffff0000ffff ∷ []) (0 ∷ 0 ∷ 0 ∷ 0x8888 ∷ []) ∷
    works with_inclusion (counts 0 0 1 1 2) four 16 0 0 (0 ∷ 0 ∷ 0 ∷ 0xf0f00000f0f ∷ []) (0 ∷ 0 ∷ 0 ∷ 0 ∷ []) ∷
    works (without_inclusion ++ (0x21 ∷ 0x02 ∷ 0x01 ∷ [])) (counts 0 0 1 1 2) four 32 4 1 (0 ∷ 0 ∷ 0 ∷ 0xffff0000ffff ∷ [])
    (0 ∷ 0 ∷ 0 ∷ 0x8888 ∷ []) ∷
    works (without_inclusion ++ (0x11 ∷ 0x00 ∷ 0x21 ∷ 0x01 ∷ 0x08 ∷ 0x21 ∷ 0x08 ∷ 0x02 ∷ [])) (counts 0 0 1 1 2) four 8 0 0
    (0 ∷ 0 ∷ 0 ∷ 0xf0000000f ∷ []) (0 ∷ 0 ∷ 0 ∷ 0 ∷ []) ∷
    works within_not (counts 0 0 1 0 1) one 4 0 0 (0x3300 ∷ []) (0 ∷ []) ∷
    []

-- a strike: a sheet, the words before, a number; what strike says, and what it leaves
pub record Strike : Type 0 where
  pub sheet : List ℕ
  pub words : List ℕ
  pub number : ℕ
  pub says : List ℕ
  pub leaves : List ℕ

abbrev strike : List ℕ → List ℕ → ℕ → List ℕ → List ℕ → Strike
strike s l n m q = record { sheet = s; words = l; number = n; says = m; leaves = q }

-- the row, as the definitions have it
abbrev pub tried : Strike → Strike
tried r =
    let s = read_kb limit r.sheet in
    strike r.sheet r.words r.number (strike_says s r.number r.words) (strike_leaves s r.number r.words)

-- everything is some k0 t0 or only k0 nothing
abbrev some_or_only : List ℕ
some_or_only =
    0x01 ∷ 0x10 ∷ 0x00 ∷ 0x03 ∷ 0x00 ∷ 0x02 ∷ 0x07 ∷ 0x01 ∷ 0x02 ∷ 0x08 ∷ 0x01 ∷ 0x03 ∷ 0x06 ∷ 0x04 ∷ 0x05 ∷ 0x20 ∷ 0x00 ∷ 0x06 ∷ []

-- everything is some k0 t0; t0 is only k0 everything
abbrev some_and_only : List ℕ
some_and_only =
    0x01 ∷ 0x10 ∷ 0x00 ∷ 0x03 ∷ 0x00 ∷ 0x07 ∷ 0x01 ∷ 0x02 ∷ 0x08 ∷ 0x01 ∷ 0x00 ∷ 0x20 ∷ 0x00 ∷ 0x03 ∷ 0x20 ∷ 0x02 ∷ 0x04 ∷ []

-- everything is only k0 nothing, and k0 is within k1; everything is some k0 everything, and k1 is within k0; everything is everything
-- or only k0 nothing, and k1 is within k0
abbrev only_within : List ℕ
only_within =
    0x10 ∷ 0x00 ∷ 0x10 ∷ 0x01 ∷ 0x02 ∷ 0x08 ∷ 0x00 ∷ 0x02 ∷ 0x01 ∷ 0x20 ∷ 0x04 ∷ 0x03 ∷ 0x21 ∷ 0x00 ∷ 0x01 ∷ []

abbrev some_within : List ℕ
some_within =
    0x01 ∷ 0x10 ∷ 0x00 ∷ 0x10 ∷ 0x01 ∷ 0x07 ∷ 0x01 ∷ 0x00 ∷ 0x20 ∷ 0x00 ∷ 0x03 ∷ 0x21 ∷ 0x02 ∷ 0x01 ∷ []

abbrev any_within : List ℕ
any_within =
    0x01 ∷ 0x02 ∷ 0x10 ∷ 0x00 ∷ 0x10 ∷ 0x01 ∷ 0x08 ∷ 0x02 ∷ 0x01 ∷ 0x06 ∷ 0x00 ∷ 0x04 ∷ 0x20 ∷ 0x00 ∷ 0x05 ∷ 0x21 ∷ 0x03 ∷ 0x02 ∷ []

-- "Strikes on S1 opened: 32 Struck; 2 Absent; 34 Kept; 64 refused 11."; one strike by each of the conditions 1 to 5: those of
-- opening on full words, the others on words that the table above has as opened; and 02, N2, "the first condition that fails in 01's
-- order": dominoes that fail 1 and 2, 2 and 3, 3 and 4, 4 and 5 (the one by 5 before them fails 6 too); and N8, "checked after 3 and
-- before 4": 7 alone, 3 and 7, 7 and 4 and 6, 7 and 5 and 6
abbrev pub strikes : List Strike
strikes =
    strike s1 (lend opened1) 32 (0 ∷ 0 ∷ 32 ∷ 1 ∷ 6 ∷ []) (lend (0xfffffffe00000000 ∷ [])) ∷
    strike s1 (lend opened1) 2 (0 ∷ 0 ∷ 2 ∷ 0 ∷ []) (lend opened1) ∷
    strike s1 (lend opened1) 34 (0 ∷ 0 ∷ 34 ∷ 2 ∷ []) (lend opened1) ∷
    strike s1 (lend opened1) 64 (11 ∷ 0 ∷ []) (lend opened1) ∷
    strike s1 one 0 (0 ∷ 0 ∷ 0 ∷ 1 ∷ 1 ∷ []) (lend (0xfffffffffffffffe ∷ [])) ∷
    strike s6 four 12 (0 ∷ 0 ∷ 12 ∷ 1 ∷ 2 ∷ [])
    (lend (0xffffffffffffefff ∷ 0xffffffffffffffff ∷ 0xffffffffffffffff ∷ 0xffffffffffffffff ∷ [])) ∷
    strike s3 four 208 (0 ∷ 0 ∷ 208 ∷ 1 ∷ 3 ∷ [])
    (lend (0xffffffffffffffff ∷ 0xffffffffffffffff ∷ 0xffffffffffffffff ∷ 0xfffffffffffeffff ∷ [])) ∷
    strike s4 (lend opened4) 8 (0 ∷ 0 ∷ 8 ∷ 1 ∷ 4 ∷ []) (lend (0xfe00 ∷ [])) ∷
    strike s5 (lend opened5) 16 (0 ∷ 0 ∷ 16 ∷ 1 ∷ 5 ∷ []) (lend (0xfffffffffffe0000 ∷ [])) ∷
    strike s1 one 5 (0 ∷ 0 ∷ 5 ∷ 1 ∷ 1 ∷ []) (lend (0xffffffffffffffdf ∷ [])) ∷
    strike some_or_only four 137 (0 ∷ 0 ∷ 137 ∷ 1 ∷ 2 ∷ [])
    (lend (0xffffffffffffffff ∷ 0xffffffffffffffff ∷ 0xfffffffffffffdff ∷ 0xffffffffffffffff ∷ [])) ∷
    strike s3 halves 208 (0 ∷ 0 ∷ 208 ∷ 1 ∷ 3 ∷ [])
    (lend (0x5555555555555555 ∷ 0x5555555555555555 ∷ 0x5555555555555555 ∷ 0x5555555555545555 ∷ [])) ∷
    strike some_and_only halves 64 (0 ∷ 0 ∷ 64 ∷ 1 ∷ 4 ∷ [])
    (lend (0x5555555555555555 ∷ 0x5555555555555554 ∷ 0x5555555555555555 ∷ 0x5555555555555555 ∷ [])) ∷
    strike with_inclusion four 196 (0 ∷ 0 ∷ 196 ∷ 1 ∷ 7 ∷ [])
    (lend (0xffffffffffffffff ∷ 0xffffffffffffffff ∷ 0xffffffffffffffff ∷ 0xffffffffffffffef ∷ [])) ∷
    strike only_within one 34 (0 ∷ 0 ∷ 34 ∷ 1 ∷ 3 ∷ []) (lend (0xfffffffbffffffff ∷ [])) ∷
    strike some_within (lend (0x10000000000 ∷ [])) 40 (0 ∷ 0 ∷ 40 ∷ 1 ∷ 7 ∷ []) (lend (0 ∷ [])) ∷
    strike any_within (lend (0x100 ∷ [])) 8 (0 ∷ 0 ∷ 8 ∷ 1 ∷ 7 ∷ []) (lend (0 ∷ [])) ∷
    []

-- S4 as it is read: every only k0 everything is nothing
abbrev pub kb4 : Kb
kb4 = record { names = 0; roles = 1; axioms = record { left = forall_c 2 1 (named 0) top_c; right = bottom_c } ∷ []; inclusions = [] }

-- a pass for S4, whose dominoes are 0 to 15: the last to the first, with a settling, a repeated strike and a refused one among them
abbrev pass4 : List Call
pass4 =
    call 15 ∷ call 14 ∷ call 13 ∷ call 12 ∷ call 11 ∷ call 10 ∷ call 9 ∷ call 8 ∷ call 11 ∷ call 16 ∷
    call 7 ∷ call 6 ∷ call 5 ∷ call 4 ∷ settle ∷ call 3 ∷ call 2 ∷ call 1 ∷ call 0 ∷ []

-- so many times
abbrev again : ℕ → List Call → List Call
again zero cs = []
again (suc n) cs = cs ++ again n cs

-- "The rounds needed are as many as the opening size that open answered"
abbrev pub passes4 : List Call
passes4 = again 8 pass4

-- "c + L of 3 needs 1 word, of 9 needs 4,096 .., of 12 needs 262,144"
abbrev pub needs : ℕ → ℕ → ℕ
needs c l = words_for_lem (total c l)
