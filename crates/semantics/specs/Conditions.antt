-- The conditions on dominoes (01, "Pairings and the six conditions"; 02, N8, condition 7; 002, Definition 5).
use Rattle.std.specs.Prelude.{ℕ, zero, suc, ◌*◌, ◌^◌, ◌≡◌, Bool, true, false, not, ◌&&◌, ◌||◌, cond, List, [], ◌∷◌, ◌++◌, eqb, ltb}
use Rattle.bitset.specs.Bits.{Set, bit, words_for_lem}
use Rattle.elimination.specs.Sets.{every, some}
use Rattle.elimination.specs.Elimination.{defective_by, canonical}
use Rattle.syntax.specs.Bounds.{All}
use Rattle.semantics.specs.Dominoes.{Dominoes, Domino, total, left_of, roles_of, right_of_lem, inverse, numbered}

-- what the conditions look at: the number of parts and of roles; of part k its kind (2 existential, 3 universal), whether its
-- role holds on the role set R, and whether its filler is in the label B; the labels on which every flattened axiom is true; and the
-- role sets that are closed: on which every role inclusion is true
pub record View : Type 0 where
  pub parts : ℕ
  pub roles : ℕ
  pub kind : ℕ → ℕ
  pub holds : ℕ → ℕ → Bool
  pub has : ℕ → ℕ → Bool
  pub good : ℕ → Bool
  pub closed : ℕ → Bool

-- 01's order, with 02, N8: 7 is "checked after 3 and before 4"
abbrev pub order : List ℕ
order = 1 ∷ 2 ∷ 3 ∷ 7 ∷ 4 ∷ 5 ∷ 6 ∷ []

-- the first number of a list whose test fails, 0 if none does
unfoldable pub first_failing : (ℕ → Bool) → List ℕ → ℕ
first_failing test [] = 0
first_failing test (k ∷ ks) = cond (test k) (first_failing test ks) k

-- the same in other words: k fails, and every number before it in the list passes
pub record FirstFails (test : ℕ → Bool) (ks : List ℕ) (k : ℕ) : Type 0 where
  pub before : List ℕ
  pub after : List ℕ
  pub stands : ks ≡ before ++ (k ∷ after)
  pub pass : All (λ (j : ℕ). test j ≡ true) before
  pub fails : test k ≡ false

module _ (v : View) where
  -- 1, kb: "each flattened rule, with marks in A true and the others false, comes out true"
  unfoldable pub kb : ℕ → Bool
  kb A = v.good A

  -- 2, ex: "each some-mark whose link holds on R and whose filler is in B is in A"
  unfoldable pub ex : ℕ → ℕ → ℕ → Bool
  ex A R B = every v.parts (λ k. not (eqb (v.kind k) 2 && (v.holds k R && v.has k B)) || bit A k)

  -- 3, uni: "each only-mark in A whose link holds on R has its filler in B"
  unfoldable pub uni : ℕ → ℕ → ℕ → Bool
  uni A R B = every v.parts (λ k. not (eqb (v.kind k) 3 && (bit A k && v.holds k R)) || v.has k B)

  -- 7, rbox: "if the first holds on R, so does the second" (02, N8), of each role inclusion
  unfoldable pub rbox : ℕ → Bool
  rbox R = v.closed R

  -- "a pairing in the set with the same A, whose links satisfy the mark's link" and whose right label passes a test; 01 calls
  -- this a partner
  unfoldable pub witness : Dominoes → ℕ → ℕ → (ℕ → Bool) → Bool
  witness D A k test = some (2 ^ (2 * v.roles)) (λ R. let r = some (2 ^ v.parts) (λ B. test B && D A R B) in v.holds k R && r)

  -- 4, delex: "each some-mark in A has a pairing in the set with the same A, .. whose right side has the filler"
  unfoldable pub delex : Dominoes → ℕ → Bool
  delex D A = every v.parts (λ k. let w = witness D A k (v.has k) in not (eqb (v.kind k) 2 && bit A k) || w)

  -- 5, deluni: "each only-mark not in A has a pairing in the set with the same A, .. whose right side lacks the filler"
  unfoldable pub deluni : Dominoes → ℕ → Bool
  deluni D A = every v.parts (λ k. let w = witness D A k (λ B. not (v.has k B)) in not (eqb (v.kind k) 3 && not (bit A k)) || w)

  -- 6, sym: "(B, mirror of R, A) is in the set"
  unfoldable pub sym : Dominoes → ℕ → ℕ → ℕ → Bool
  sym D A R B = D B (inverse v.roles R) A

  -- condition k, 1 to 7; other numbers ask nothing
  unfoldable pub condition : Dominoes → ℕ → ℕ → ℕ → ℕ → Bool
  condition D A R B k =
      cond (eqb k 1) (kb A) (cond (eqb k 2) (ex A R B) (cond (eqb k 3) (uni A R B)
      (cond (eqb k 4) (delex D A) (cond (eqb k 5) (deluni D A) (cond (eqb k 6) (sym D A R B) (cond (eqb k 7) (rbox R) true))))))

  -- the number of the first condition that fails, 0 for none: "A pairing is loose in a set if it fails one of"; 02, N2: "the
  -- number, 1 to 6, of the first condition that fails in 01's order"; N8: "N2's numbers gain 7"
  unfoldable pub defect : Dominoes → ℕ → ℕ → ℕ → ℕ
  defect D A R B = first_failing (condition D A R B) order

  -- conditions 1 to 3, "The opening set is all pairings that meet 1 to 3.", and 7, "tested last among those of opening"
  unfoldable pub initially : ℕ → ℕ → ℕ → Bool
  initially A R B = kb A && (ex A R B && (uni A R B && rbox R))

  -- conditions 4 to 6, which depend on the set
  unfoldable pub sustained : Dominoes → ℕ → ℕ → ℕ → Bool
  sustained D A R B = delex D A && (deluni D A && sym D A R B)

  -- 002, Definition 5's 𝔻ᵢ: "𝔻₀ consists of all dominoes ⟨A, R, B⟩ satisfying" kb, ex and uni, and here rbox; "Given a domino set 𝔻ᵢ,
  -- the set 𝔻ᵢ₊₁ consists of all dominoes ⟨A, R, B⟩ ∈ 𝔻ᵢ satisfying" delex, deluni and sym, of 𝔻ᵢ
  unfoldable pub stage : ℕ → Dominoes
  stage zero = initially
  stage (suc i) = λ A R B. stage i A R B && sustained (stage i) A R B

  -- D and E have the same dominoes
  abbrev pub SameDominoes : Dominoes → Dominoes → Type 0
  SameDominoes D E = (A R B : ℕ) → Domino v.parts v.roles A R B → D A R B ≡ E A R B

  -- "The construction of domino sets 𝔻ᵢ₊₁ is continued until 𝔻ᵢ₊₁ = 𝔻ᵢ."
  abbrev pub Final : ℕ → Type 0
  Final i = SameDominoes (stage (suc i)) (stage i)

  -- nothing is defective in the set D
  unfoldable pub Stable : Dominoes → Type 0
  Stable D = (A R B : ℕ) → D A R B ≡ true → defect D A R B ≡ 0

  -- the members of D are dominoes
  unfoldable pub InRange : Dominoes → Type 0
  InRange D = (A R B : ℕ) → D A R B ≡ true → Domino v.parts v.roles A R B

  -- "the set of pairings in which none is loose and of which every other such set is a part"
  pub record LargestStable (D : Dominoes) : Type 0 where
    pub inside : InRange D
    pub stable : Stable D
    pub most : (E : Dominoes) → InRange E → Stable E → (A R B : ℕ) → E A R B ≡ true → D A R B ≡ true

  -- ---- on numbers: the instance of elimination

  abbrev pub dominoes : ℕ
  dominoes = total v.parts v.roles

  -- the initial domino set, 002's 𝔻₀
  unfoldable pub initial : Set
  initial n = initially (left_of v.parts v.roles n) (roles_of v.parts v.roles n) (right_of_lem v.parts n)

  unfoldable pub lacks : Set → ℕ → Bool
  lacks S n =
      not (sustained (numbered v.parts v.roles S)
      (left_of v.parts v.roles n) (roles_of v.parts v.roles n) (right_of_lem v.parts n))

  -- is domino n defective in the set; its condition k; the number of its first failing condition
  abbrev pub defective : Set → ℕ → Bool
  defective = defective_by initial lacks

  abbrev pub condition_at : Set → ℕ → ℕ → Bool
  condition_at S n =
      condition (numbered v.parts v.roles S)
      (left_of v.parts v.roles n) (roles_of v.parts v.roles n) (right_of_lem v.parts n)

  unfoldable pub defect_at : Set → ℕ → ℕ
  defect_at S n =
      defect (numbered v.parts v.roles S)
      (left_of v.parts v.roles n) (roles_of v.parts v.roles n) (right_of_lem v.parts n)

  -- the canonical domino set, 002's 𝔻_KB: what judging leaves
  unfoldable pub canon : Set
  canon = canonical dominoes initial lacks

  -- the same as a set of dominoes
  unfoldable pub canon_dominoes : Dominoes
  canon_dominoes A R B =
      ltb A (2 ^ v.parts) && (ltb R (2 ^ (2 * v.roles)) && (ltb B (2 ^ v.parts) && numbered v.parts v.roles canon A R B))

-- "Words needed: 2^(2c+2L) / 64, but at least 1"
abbrev pub held : View → ℕ
held v = words_for_lem (dominoes v)
