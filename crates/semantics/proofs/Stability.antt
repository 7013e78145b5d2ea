-- What a stable domino set says of its dominoes, part by part, and that two parts of one restriction agree (02, N4).
use Prim.Native.Nat.{ℕ, suc, ◌≤◌, ◌<◌}
use native.Mathlib.Omega.{arith}
use native.Mathlib.Decide.{dec_le}
use mathlib.Core.Path.{◌≡◌, sym, ap, ◌∙◌, subst}
use mathlib.Core.Logic.{◌⊎◌, inl, inr}
use mathlib.Core.Bool.{Bool, true, false, not, ◌&&◌, ◌||◌, false≢true}
use mathlib.Core.List.{List}
use lib.ListN.{length, get_or-eq_default}
use lib.Dec.{eqb}
use Rattle.bitset.specs.Bits.{bit}
use Rattle.bitset.proofs.Facts.{and_l, and_r_lem, and_i, imp_e, iff_eq, dec}
use Rattle.elimination.proofs.Quantifiers.{all-at}
use Rattle.syntax.specs.Concepts.{Role, RoleInclusion}
use Rattle.syntax.specs.Normal.{Tag}
use Rattle.syntax.specs.Flatten.{Filler, Part, name_p, fresh_p, exists_p, forall_p, Flat, part_at}
use Rattle.syntax.specs.Truth.{kb_on, role_on, rbox_on}
use Rattle.syntax.specs.Parts.{kind_of, role_holds}
use Rattle.semantics.specs.Dominoes.{Dominoes, inverse}
use Rattle.semantics.specs.Conditions.{kb, ex, uni, rbox, witness, delex, deluni, sym as converse, sustained, Stable}
use Rattle.semantics.specs.Views.{filler_in, has_filler, view_of}
use Rattle.semantics.proofs.Defects.{defect-none, initially_each, witness_found}
use Rattle.semantics.proofs.Canonical.{stable-converse}

-- the restrictions, told apart from what stands beyond the list of parts
abbrev Restriction : Part → Type 0
Restriction (name_p t) = ⊥
Restriction (fresh_p g c) = ⊥
Restriction (exists_p g u f) = Unit
Restriction (forall_p g u f) = Unit

restriction_in : (ps : List Part) (k : ℕ) (p : Part) → part_at ps k ≡ p → Restriction p → k < length ps
restriction_in ps k p e c = pick (dec_le (suc k) (length ps))
  where
    pick : Dec (suc k ≤ length ps) → k < length ps
    pick (yes h) = h
    pick (no h) = absurd (subst Restriction (sym e ∙ get_or-eq_default ps _ (omega arith)) c)

-- a domino of D with left label A, whose role set satisfies u and whose right label passes a test
abbrev pub Witness : Dominoes → ℕ → Role → (ℕ → Bool) → Type 0
Witness D A u test = (R : ℕ) × (B : ℕ) × (D A R B ≡ true) × (role_on u R ≡ true) × (test B ≡ true)

module _ (L : ℕ) (incl : List RoleInclusion) (fs : List Flat) (ps : List Part) (D : Dominoes) (stable : Stable (view_of L incl fs ps) D) where
  found : (A k : ℕ) (test : ℕ → Bool) (u : Role) → ((R : ℕ) → role_holds (part_at ps k) R ≡ role_on u R)
      → witness (view_of L incl fs ps) D A k test ≡ true → Witness D A u test
  found A k test u same e =
      let w = witness_found (view_of L incl fs ps) D A k test e in (w.0, w.1, w.6, sym (same w.0) ∙ w.4, w.5)

  module _ (A R B : ℕ) (d : D A R B ≡ true) where
    first : (kb (view_of L incl fs ps) A ≡ true) × (ex (view_of L incl fs ps) A R B ≡ true) × (uni (view_of L incl fs ps) A R B ≡ true)
        × (rbox (view_of L incl fs ps) R ≡ true)
    unfolding Stable
    first = let v = view_of L incl fs ps in initially_each v A R B (defect-none v D A R B (stable A R B d)).0

    later : (delex (view_of L incl fs ps) D A ≡ true) × (deluni (view_of L incl fs ps) D A ≡ true)
    unfolding Stable sustained
    later =
        let v = view_of L incl fs ps in
        let o = (defect-none v D A R B (stable A R B d)).1 in
        let r = and_r_lem (delex v D A) (deluni v D A && converse v D A R B) o in
        (and_l (delex v D A) (deluni v D A && converse v D A R B) o, and_l (deluni v D A) (converse v D A R B) r)

    pub stable-kb : kb_on fs A ≡ true
    stable-kb = unfold kb in first.0

    pub stable-rbox : rbox_on incl R ≡ true
    stable-rbox = unfold rbox in first.3

    -- the converse of a domino of the set is in it
    pub stable-sym : D B (inverse L R) A ≡ true
    stable-sym = stable-converse (view_of L incl fs ps) D stable A R B d

    module _ (k : ℕ) (g : Tag) (u : Role) (f : Filler) where
      pub stable-ex : part_at ps k ≡ exists_p g u f → role_on u R ≡ true → filler_in f (bit B) ≡ true → bit A k ≡ true
      unfolding ex kind_of role_holds has_filler
      stable-ex e r h =
          let test : Part → Bool = λ p. eqb (kind_of p) 2 && (role_holds p R && has_filler p B) in
          let a = all-at (length ps) (λ k. not (test (part_at ps k)) || bit A k) first.1 k (restriction_in ps k (exists_p g u f) e tt) in
          imp_e (test (part_at ps k)) (bit A k) a (rw e (and_i r h))

      pub stable-uni : part_at ps k ≡ forall_p g u f → bit A k ≡ true → role_on u R ≡ true → filler_in f (bit B) ≡ true
      unfolding uni kind_of role_holds has_filler
      stable-uni e h r =
          let test : ℕ → Part → Bool = λ k p. eqb (kind_of p) 3 && (bit A k && role_holds p R) in
          let has : ℕ → Bool = λ k. has_filler (part_at ps k) B in
          let a = all-at (length ps) (λ k. not (test k (part_at ps k)) || has k) first.2 k (restriction_in ps k (forall_p g u f) e tt) in
          ap (λ (p : Part). has_filler p B) (sym e) ∙ imp_e (test k (part_at ps k)) (has k) a (rw e (and_i h r))

      pub stable-delex : part_at ps k ≡ exists_p g u f → bit A k ≡ true → Witness D A u (λ B. filler_in f (bit B))
      unfolding delex kind_of role_holds has_filler
      stable-delex e h =
          let v = view_of L incl fs ps in
          let test : ℕ → Bool = λ k. eqb (kind_of (part_at ps k)) 2 && bit A k in
          let wit : ℕ → Bool = λ k. witness v D A k (has_filler (part_at ps k)) in
          let a = all-at (length ps) (λ k. not (test k) || wit k) later.0 k (restriction_in ps k (exists_p g u f) e tt) in
          let w = found A k (has_filler (part_at ps k)) u (λ R. ap (λ (p : Part). role_holds p R) e) (imp_e (test k) (wit k) a (rw e h)) in
          (w.0, w.1, w.2, w.3, ap (λ (p : Part). has_filler p w.1) (sym e) ∙ w.4)

      pub stable-deluni : part_at ps k ≡ forall_p g u f → bit A k ≡ false → Witness D A u (λ B. not (filler_in f (bit B)))
      unfolding deluni kind_of role_holds has_filler
      stable-deluni e h =
          let v = view_of L incl fs ps in
          let test : ℕ → Bool = λ k. eqb (kind_of (part_at ps k)) 3 && not (bit A k) in
          let wit : ℕ → Bool = λ k. witness v D A k (λ B. not (has_filler (part_at ps k) B)) in
          let a = all-at (length ps) (λ k. not (test k) || wit k) later.1 k (restriction_in ps k (forall_p g u f) e tt) in
          let t = imp_e (test k) (wit k) a (rw e (ap not h)) in
          let w = found A k (λ B. not (has_filler (part_at ps k) B)) u (λ R. ap (λ (p : Part). role_holds p R) e) t in
          (w.0, w.1, w.2, w.3, ap (λ (p : Part). not (has_filler p w.1)) (sym e) ∙ w.4)

  -- two parts of one restriction agree on every left label (and so, by the converse, on every right one)
  module _ (A R B : ℕ) (d : D A R B ≡ true) (u : Role) (f : Filler) where
    exists_half : (k j : ℕ) (g h : Tag) → part_at ps k ≡ exists_p g u f → part_at ps j ≡ exists_p h u f → bit A k ≡ true → bit A j ≡ true
    exists_half k j g h p q a =
        let w = stable-delex A R B d k g u f p a in stable-ex A w.0 w.1 w.2 j h u f q w.3 w.4

    forall_half : (k j : ℕ) (g h : Tag) → part_at ps k ≡ forall_p g u f → part_at ps j ≡ forall_p h u f → bit A k ≡ true → bit A j ≡ true
    forall_half k j g h p q a = pick (dec (bit A j))
      where
        pick : (bit A j ≡ true) ⊎ (bit A j ≡ false) → bit A j ≡ true
        pick (inl t) = t
        pick (inr n) =
            let w = stable-deluni A R B d j h u f q n in
            let t = stable-uni A w.0 w.1 w.2 k g u f p a w.3 in
            absurd (false≢true (ap not (sym t) ∙ w.4))

    module _ (k j : ℕ) (g h : Tag) where
      pub twin_exists : part_at ps k ≡ exists_p g u f → part_at ps j ≡ exists_p h u f → bit A k ≡ bit A j
      twin_exists p q = iff_eq (bit A k) (bit A j) (exists_half k j g h p q) (exists_half j k h g q p)

      pub twin_forall : part_at ps k ≡ forall_p g u f → part_at ps j ≡ forall_p h u f → bit A k ≡ bit A j
      twin_forall p q = iff_eq (bit A k) (bit A j) (forall_half k j g h p q) (forall_half j k h g q p)
