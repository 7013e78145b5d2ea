-- Two views that agree where the conditions look have the same initial set, defects and canonical set, so the same answers and
-- words; the tables of a loaded knowledge base agree with what the knowledge base says.
use Prim.Native.Nat.{ℕ, ◌*◌, ◌/◌, ◌%◌, ◌^◌, ◌≤◌, ◌<◌}
use native.Mathlib.Omega.{arith}
use mathlib.Core.Path.{◌≡◌, refl, sym as flip, ap, ap₂, subst, ◌∙◌}
use mathlib.Core.Bool.{Bool, true, false, not, ◌&&◌, ◌||◌, cond}
use mathlib.Core.List.{List}
use lib.Dec.{eqb, ltb}
use borrow.Author.Tests.{ltb-true, eqb-true}
use Rattle.bitset.specs.Bits.{Set, bit, look, cleared}
use Rattle.bitset.proofs.Facts.{T_of}
use Rattle.bitset.proofs.Laws.{bit_word_at}
use Rattle.bitset.proofs.Sizes.{size_same}
use Rattle.elimination.specs.Sets.{Same}
use Rattle.elimination.specs.Elimination.{settled, Monotone}
use Rattle.elimination.specs.Calls.{strike_words}
use Rattle.elimination.proofs.Settling.{same_by, stable-at, stable-by, settled-sub, settled-stable, settled-keeps, settled_same}
use Rattle.elimination.proofs.Written.{written_same}
use Rattle.elimination.proofs.Quantifiers.{all_same, any_same}
use Rattle.syntax.specs.Flatten.{everything, nothing, name_a, Filler, atomic, fresh, Part, name_p, fresh_p, exists_p, forall_p, part_at}
use Rattle.syntax.specs.Truth.{kb_on, rbox_on}
use Rattle.syntax.specs.Parts.{role_holds}
use Rattle.tbox.specs.Promise.{filler_is, kind_is, Flattened}
use Rattle.tbox.specs.declared.base.Kind.{Kind}
use Rattle.syntax.specs.Reading.{Kb, flats_of, parts_of}
use Rattle.tbox.specs.declared.base.Base.{Base}
use Rattle.semantics.specs.Dominoes.{Dominoes, left_of, roles_of, right_of_lem, numbered}
use Rattle.semantics.specs.Conditions.{View, kb, ex, uni, rbox, witness, delex, deluni, sym, initially, dominoes, initial, defective, defect_at, canon}
use Rattle.semantics.specs.Views.{filler_in, has_filler, kb_view}
use Rattle.semantics.proofs.Numbers.{domino_of}
use Rattle.semantics.proofs.Defects.{defect_cases, defective-is, defective_monotone}
use Rattle.domino.specs.declared.Verdict.{Verdict}
use Rattle.domino_labels.specs.declared.judging.Judgement.{Judgement}
use Rattle.domino_conditions.specs.Tables.{filler_in_label_lem, kind_has, view}
use Rattle.domino.specs.Answers.{verdict_of}
use Rattle.domino.specs.OwnSteps.{StrikesSet}
use Rattle.domino_initial.specs.Opening.{OpensSet}
use Rattle.domino_settling.specs.Settling.{SettlesSet}
use Rattle.domino_labels.specs.Judging.{JudgesSet}
use Rattle.tbox.proofs.KindNumbers.{loaded_kind}
use Rattle.domino_conditions.proofs.Rows.{few_sets}

-- ---- tests that count only where another passes

when : (b x y : Bool) → (b ≡ true → x ≡ y) → (b && x) ≡ (b && y)
when true x y f = f refl
when false x y f = refl

implies : (b x y p q : Bool) → (b ≡ true → (x ≡ y) × (p ≡ q)) → (not (b && x) || p) ≡ (not (b && y) || q)
implies true x y p q f = ap₂ (λ (i j : Bool). not i || j) (f refl).0 (f refl).1
implies false x y p q f = refl

-- ---- sets with the same members below N

-- two tests that agree below N settle alike
settled-alike : (N : ℕ) (d e : Set → ℕ → Bool) → Monotone N d → Monotone N e → ((D : Set) (p : ℕ) → p < N → d D p ≡ e D p)
    → (D : Set) → Same N (settled N d D) (settled N e D)
settled-alike N d e m n s D =
    same_by N (settled N d D) (settled N e D)
    (settled-keeps N e n (settled N d D) D (settled-sub N d D)
    (stable-by N e (settled N d D) (λ p h t u. stable-at N d (settled N d D) (settled-stable N d D) p h t (T_of (flip (s (settled N d D) p h)) u))))
    (settled-keeps N d m (settled N e D) D (settled-sub N e D)
    (stable-by N d (settled N e D) (λ p h t u. stable-at N e (settled N e D) (settled-stable N e D) p h t (T_of (s (settled N e D) p h) u))))

-- ---- two views

-- they agree on what counts; the filler of a part counts where it is a restriction
pub record Agree (v w : View) : Type 0 where
  pub parts : v.parts ≡ w.parts
  pub roles : v.roles ≡ w.roles
  pub kind : (k : ℕ) → k < v.parts → v.kind k ≡ w.kind k
  pub holds : (k R : ℕ) → k < v.parts → R < 2 ^ (2 * v.roles) → v.holds k R ≡ w.holds k R
  pub has : (k B : ℕ) → k < v.parts → 2 ≤ v.kind k → v.has k B ≡ w.has k B
  pub good : (A : ℕ) → A < 2 ^ v.parts → v.good A ≡ w.good A
  pub closed : (R : ℕ) → R < 2 ^ (2 * v.roles) → v.closed R ≡ w.closed R

module _ (v w : View) (a : Agree v w) where
  -- w with the counts of v
  abbrev counted : ℕ → ℕ → View
  counted c l = record { parts = c; roles = l; kind = w.kind; holds = w.holds; has = w.has; good = w.good; closed = w.closed }

  abbrev u : View
  u = counted v.parts v.roles

  -- it is w
  u_is : u ≡ w
  u_is = ap₂ counted a.parts a.roles

  -- what is asked of parts of a kind of restriction
  asked : (k n : ℕ) (x y p q : Bool) → k < v.parts → 2 ≤ n → (((B : ℕ) → v.has k B ≡ w.has k B) → (x ≡ y) × (p ≡ q))
      → (not (eqb (v.kind k) n && x) || p) ≡ (not (eqb (w.kind k) n && y) || q)
  asked k n x y p q h l f =
      implies (eqb (v.kind k) n) x y p q (λ e. let i : v.kind k ≡ n = eqb-true _ _ e in f (λ B. a.has k B h (omega arith)))
      ∙ ap (λ (m : ℕ). not (eqb m n && y) || q) (a.kind k h)

  ex_same : (A R B : ℕ) → R < 2 ^ (2 * v.roles) → ex v A R B ≡ ex u A R B
  unfolding ex
  ex_same A R B r =
      all_same v.parts _ _ (λ k h. asked k 2 _ _ _ _ h (omega arith) (λ f. (ap₂ ◌&&◌ (a.holds k R h r) (f B), refl)))

  uni_same : (A R B : ℕ) → R < 2 ^ (2 * v.roles) → uni v A R B ≡ uni u A R B
  unfolding uni
  uni_same A R B r =
      all_same v.parts _ _ (λ k h. asked k 3 _ _ _ _ h (omega arith) (λ f. (ap (λ (z : Bool). bit A k && z) (a.holds k R h r), f B)))

  witness_same : (D : Dominoes) (A k : ℕ) (f g : ℕ → Bool) → k < v.parts → ((B : ℕ) → f B ≡ g B)
      → witness v D A k f ≡ witness u D A k g
  unfolding witness
  witness_same D A k f g h e =
      any_same (2 ^ (2 * v.roles)) _ _ (λ R r. ap₂ ◌&&◌ (a.holds k R h r)
      (any_same (2 ^ v.parts) (λ B. f B && D A R B) (λ B. g B && D A R B) (λ B b. ap (λ (z : Bool). z && D A R B) (e B))))

  delex_same : (D : Dominoes) (A : ℕ) → delex v D A ≡ delex u D A
  unfolding delex
  delex_same D A =
      all_same v.parts _ _ (λ k h. asked k 2 _ _ _ _ h (omega arith) (λ f. (refl, witness_same D A k (v.has k) (w.has k) h f)))

  deluni_same : (D : Dominoes) (A : ℕ) → deluni v D A ≡ deluni u D A
  unfolding deluni
  deluni_same D A =
      all_same v.parts _ _ (λ k h. asked k 3 _ _ _ _ h (omega arith)
      (λ f. (refl, witness_same D A k (λ B. not (v.has k B)) (λ B. not (w.has k B)) h (λ B. ap not (f B)))))

  kb_same : (A : ℕ) → A < 2 ^ v.parts → kb v A ≡ kb u A
  unfolding kb
  kb_same A h = a.good A h

  rbox_same : (R : ℕ) → R < 2 ^ (2 * v.roles) → rbox v R ≡ rbox u R
  unfolding rbox
  rbox_same R h = a.closed R h

  -- ---- on numbers

  initial_same : Same (dominoes v) (initial v) (initial u)
  unfolding initial initially
  initial_same n h =
      let d = domino_of v.parts v.roles n h in
      let A : ℕ = left_of v.parts v.roles n in
      let B : ℕ = right_of_lem v.parts n in
      rw (kb_same A d.left, ex_same A _ B d.roles, uni_same A _ B d.roles, rbox_same _ d.roles)

  defect_same : (S : Set) (n : ℕ) → n < dominoes v → defect_at v S n ≡ defect_at u S n
  unfolding defect_at sym
  defect_same S n h =
      let d = domino_of v.parts v.roles n h in
      let A : ℕ = left_of v.parts v.roles n in
      let R : ℕ = roles_of v.parts v.roles n in
      let B : ℕ = right_of_lem v.parts n in
      let D : Dominoes = numbered v.parts v.roles S in
      rw (
        defect_cases v D A R B,
        defect_cases u D A R B,
        kb_same A d.left,
        ex_same A R B d.roles,
        uni_same A R B d.roles,
        rbox_same R d.roles,
        delex_same D A,
        deluni_same D A,
      )

  defective_same : (S : Set) (n : ℕ) → n < dominoes v → defective v S n ≡ defective u S n
  defective_same S n h = defective-is v S n ∙ ap (λ (x : ℕ). not (eqb x 0)) (defect_same S n h) ∙ flip (defective-is u S n)

  settled_agree : (D : Set) → Same (dominoes v) (settled (dominoes v) (defective v) D) (settled (dominoes v) (defective u) D)
  settled_agree = settled-alike (dominoes v) (defective v) (defective u) (defective_monotone v) (defective_monotone u) defective_same

  canon_same : Same (dominoes v) (canon v) (canon u)
  unfolding canon
  canon_same n h =
      settled_agree (initial v) n h ∙ settled_same (dominoes v) (defective u) (defective_monotone u) (initial v) (initial u) initial_same n h

  -- ---- what the calls do

  opens_u : (ws vs : List ℕ) (r : ℕ) → OpensSet v ws vs r → OpensSet u ws vs r
  opens_u ws vs r o = record {
    answer = o.answer ∙ size_same (dominoes v) (initial v) (initial u) initial_same;
    set = o.set ∙ written_same _ (dominoes v) (initial v) (initial u) ws initial_same;
  }

  verdict_same : (D : Set) (n : ℕ) → n < dominoes v → verdict_of v D n ≡ verdict_of u D n
  unfolding verdict_of
  verdict_same D n h = rw (defect_same D n h)

  strike_same : (n : ℕ) (ws : List ℕ) → strike_words (dominoes v) (defective v) n ws ≡ strike_words (dominoes v) (defective u) n ws
  strike_same n ws =
      ap (λ (b : Bool). cond b (cleared ws n) ws)
      (when (ltb n (dominoes v)) _ _ (λ e. ap (λ (b : Bool). look ws n && b) (defective_same (look ws) n (ltb-true n (dominoes v) e))))

  settles_u : (ws vs : List ℕ) (r : ℕ) → SettlesSet v ws vs r → SettlesSet u ws vs r
  settles_u ws vs r o =
      let S : Set = settled (dominoes v) (defective v) (look ws) in
      let U : Set = settled (dominoes v) (defective u) (look ws) in
      record {
        answer = o.answer ∙ size_same (dominoes v) S U (settled_agree (look ws));
        set = o.set ∙ written_same _ (dominoes v) S U ws (settled_agree (look ws));
      }

  judges_u : (ws vs : List ℕ) (r : Judgement) → JudgesSet v ws vs r → JudgesSet u ws vs r
  judges_u ws vs r o = record {
    opening = o.opening ∙ size_same (dominoes v) (initial v) (initial u) initial_same;
    survivors = o.survivors ∙ size_same (dominoes v) (canon v) (canon u) canon_same;
    set = o.set ∙ written_same _ (dominoes v) (canon v) (canon u) ws canon_same;
  }

  pub opens_agree : {ws vs : List ℕ} {r : ℕ} → OpensSet v ws vs r → OpensSet w ws vs r
  opens_agree {ws} {vs} {r} o = subst (λ (x : View). OpensSet x ws vs r) u_is (opens_u ws vs r o)

  pub strikes_agree : {ws vs : List ℕ} {n : ℕ} {r : Verdict} → n < dominoes v → StrikesSet v n ws vs r → StrikesSet w n ws vs r
  strikes_agree {ws} {vs} {n} {r} h o =
      subst (λ (x : View). StrikesSet x n ws vs r) u_is
      (record { verdict = o.verdict ∙ verdict_same (look ws) n h; set = o.set ∙ strike_same n ws })

  pub settles_agree : {ws vs : List ℕ} {r : ℕ} → SettlesSet v ws vs r → SettlesSet w ws vs r
  settles_agree {ws} {vs} {r} o = subst (λ (x : View). SettlesSet x ws vs r) u_is (settles_u ws vs r o)

  pub judges_agree : {ws vs : List ℕ} {r : Judgement} → JudgesSet v ws vs r → JudgesSet w ws vs r
  judges_agree {ws} {vs} {r} o = subst (λ (x : View). JudgesSet x ws vs r) u_is (judges_u ws vs r o)

-- ---- the tables of a loaded knowledge base

filler_has : (f : Filler) (B : ℕ) → filler_in_label_lem (filler_is f) B ≡ filler_in f (bit B)
unfolding filler_in_label_lem filler_in
filler_has (atomic everything) B = refl
filler_has (atomic nothing) B = refl
filler_has (atomic (name_a t)) B = refl
filler_has (fresh j) B = refl

part_has : (p : Part) (B : ℕ) → kind_has (kind_is p) B ≡ has_filler p B
unfolding kind_has has_filler
part_has (name_p t) B = refl
part_has (fresh_p g d) B = refl
part_has (exists_p g u f) B = filler_has f B
part_has (forall_p g u f) B = filler_has f B

pub base_agrees : (k : Kb) (b : Base) → Flattened k b → Agree (view b) (kb_view k)
base_agrees k b f = record {
  parts = f.count;
  roles = f.roles;
  kind = loaded_kind k b f;
  holds = λ i R h l.
      let r = few_sets b.size.roles R b.few l in
      ap (λ (x : ℕ). bit x (R % 64)) (f.role i (R / 64) h (omega arith))
      ∙ bit_word_at (role_holds (part_at (parts_of k) i)) (R / 64) (R % 64) (omega arith)
      ∙ ap (role_holds (part_at (parts_of k) i)) (omega arith);
  has = λ i B h l. ap (λ (x : Kind). kind_has x B) (f.kind i h) ∙ part_has (part_at (parts_of k) i) B;
  good = λ A h.
      ap (λ (x : ℕ). bit x (A % 64)) (f.good (A / 64) (omega arith))
      ∙ bit_word_at (kb_on (flats_of k)) (A / 64) (A % 64) (omega arith)
      ∙ ap (kb_on (flats_of k)) (omega arith);
  closed = λ R l.
      let r = few_sets b.size.roles R b.few l in
      ap (λ (x : ℕ). bit x (R % 64)) (f.closed (R / 64) (omega arith))
      ∙ bit_word_at (rbox_on k.inclusions) (R / 64) (R % 64) (omega arith)
      ∙ ap (rbox_on k.inclusions) (omega arith);
}
