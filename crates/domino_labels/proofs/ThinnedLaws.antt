-- Labels that lack a witness go, one after another and sweep after sweep; what is left once none goes spans the canonical set.
use mathlib.Core.Path.{◌≡◌, refl, sym as flip, ap, ap₂, subst, ◌∙◌}
use mathlib.Core.Bool.{Bool, true, false, not, ◌||◌, false≢true, or-true, or-false}
use mathlib.Core.List.{List}
use Prim.Native.Nat.{ℕ, ◌+◌, ◌*◌, ◌/◌, ◌^◌, ◌≤◌, ◌<◌}
use native.Mathlib.Omega.{arith}
use lib.Dec.{eqb, ltb, ltb→lt, nltb→le}
use lib.ListN.{length}
use borrow.Author.Tests.{lt-ltb, le-ltb}
use Rattle.bitset.specs.Bits.{look, cleared, without, size, words_for_lem}
use Rattle.bitset.specs.Runs.{Kept}
use Rattle.bitset.proofs.Facts.{either, is_true, of_true, is_false, and_l, and_in, and_out}
use Rattle.bitset.proofs.RunLaws.{words-room, look_same}
use Rattle.bitset.proofs.Sizes.{size_mono, size_strict}
use Rattle.bitset.proofs.Words.{look-cleared}
use Rattle.elimination.specs.Sets.{Same}
use Rattle.semantics.specs.Conditions.{View, dominoes, canon}
use Rattle.labels.specs.Labels.{spanned_set, supported, Covers}
use Rattle.labels.proofs.Covering.{covers_good, covers_without, covers_below, spanned_canon}
use Rattle.domino_conditions.proofs.Rows.{few_labels}
use Rattle.domino_labels.specs.Live.{Inside, GoodLabels}
use Rattle.domino_labels.specs.Fittings.{view_of, row_view, IsRow}
use Rattle.domino_labels.specs.Searches.{Lives}
use Rattle.domino_labels.specs.Thinnings.{Stays, Thinned, ThinnedFrom, ThinnedLabel, ThinnedOnce, Rested, ThinnedAll}
use Rattle.domino_labels.specs.declared.fitting.Fitting.{Fitting}
use Rattle.domino_labels.specs.declared.fitting.Row.{Row}
use Rattle.domino_labels.specs.declared.live.Thinning.{Thinning}

-- 64 words hold the labels
pub label_word : (c a n : ℕ) → a < 2 ^ c → c ≤ 12 → n ≡ 64 → a / 64 < n
label_word c a n l h e = omega (arith, few_labels c a h l)

-- of one list of words, all in the other
abbrev Part : List ℕ → List ℕ → Type 0
Part ws vs = (n : ℕ) → look vs n ≡ true → look ws n ≡ true

module _ (v : View) where
  -- a part of a set of labels has only labels
  inside_part : (ws vs : List ℕ) → Part ws vs → Inside v ws → Inside v vs
  inside_part ws vs f i b h l = is_false (look vs b) (λ t. false≢true (flip (i b h l) ∙ f b t))

  size_part : (ws vs : List ℕ) → Part ws vs → size (2 ^ v.parts) (look vs) ≤ size (2 ^ v.parts) (look ws)
  size_part ws vs f = size_mono (2 ^ v.parts) (look vs) (look ws) (λ n h t. of_true (f n (is_true (look vs n) t)))

  -- ---- labels that stay, and one that goes

  thinned_idle : (a e : ℕ) (ws : List ℕ) → ((A : ℕ) → a ≤ A → A < e → look ws A ≡ true → supported v (look ws) A ≡ true)
      → Thinned v a e ws ws false
  thinned_idle a e ws f = record {
    part = λ n t. t;
    covers = λ c. c;
    still = λ q. (refl, f);
    fewer = λ q. absurd (false≢true q);
  }

  pub thinned_none : (a : ℕ) (ws : List ℕ) → Thinned v a a ws ws false
  thinned_none a ws = thinned_idle a a ws (λ A h l t. absurd (omega arith))

  -- one that is out, or has its witnesses
  pub thinned_stays : (a : ℕ) (ws : List ℕ) → (look ws a ≡ true → supported v (look ws) a ≡ true) → Thinned v a (a + 1) ws ws false
  thinned_stays a ws f =
      thinned_idle a (a + 1) ws (λ A h l t.
      let q : a ≡ A = omega arith in
      subst (λ (x : ℕ). look ws x ≡ true → supported v (look ws) x ≡ true) q f t)

  -- one that lacks a witness is taken out
  module _ (a : ℕ) (ws : List ℕ) (room : a / 64 < length ws) where
    cleared_part : Part ws (cleared ws a)
    cleared_part n t = and_l (look ws n) (not (eqb n a)) (flip (look-cleared ws a room n) ∙ t)

    pub cleared_inside : Inside v ws → Inside v (cleared ws a)
    cleared_inside = inside_part ws (cleared ws a) cleared_part

    pub thinned_goes : a < 2 ^ v.parts → look ws a ≡ true → supported v (look ws) a ≡ false → Thinned v a (a + 1) ws (cleared ws a) true
    thinned_goes l i o = record {
      part = cleared_part;
      covers = λ c.
          covers_below v (without (look ws) a) (look (cleared ws a)) (λ A h. look-cleared ws a room A)
          (covers_without v (look ws) a c o);
      still = λ q. absurd (false≢true (flip q));
      fewer = λ q.
          size_strict (2 ^ v.parts) (look (cleared ws a)) (look ws) (λ n h t. of_true (cleared_part n (is_true (look (cleared ws a) n) t)))
          a l (of_true i)
          (of_true (ap not (look_same ws a (omega arith))));
    }

  -- ---- one range after another

  module _ (a e g : ℕ) (ws vs us : List ℕ) (b : Bool) (k : Thinned v a e ws vs b) where
    -- some went in the second
    thinned_moved : Thinned v e g vs us true → Thinned v a g ws us true
    thinned_moved j = record {
      part = λ n u. k.part n (j.part n u);
      covers = λ c. j.covers (k.covers c);
      still = λ q. absurd (false≢true (flip q));
      fewer = λ q. omega (arith, j.fewer refl, size_part ws vs k.part);
    }

    -- none did
    thinned_still : Thinned v e g vs us false → Thinned v a g ws us b
    thinned_still j =
        let s = (j.still refl).0 in
        record {
          part = λ n u. k.part n (j.part n u);
          covers = λ c. j.covers (k.covers c);
          still = λ q. (
            s ∙ (k.still q).0,
            λ A h l.
                either (ltb A e)
                (λ t. subst (λ (x : List ℕ). look x A ≡ true → supported v (look x) A ≡ true) (flip s) ((k.still q).1 A h (ltb→lt A e t)))
                (λ t. (j.still refl).1 A (nltb→le A e t) l),
          );
          fewer = λ q. omega (arith, k.fewer q, size_part vs us j.part);
        }

    pub thinned_on : (d : Bool) → Thinned v e g vs us d → Thinned v a g ws us (b || d)
    thinned_on true j = rw or-true (thinned_moved j)
    thinned_on false j = rw or-false (thinned_still j)

  -- ---- sweep after sweep

  -- only labels that lacked a witness went
  pub record Between (ws vs : List ℕ) : Type 0 where
    pub part : Part ws vs
    pub covers : Covers v (look ws) → Covers v (look vs)

  between_none : (ws : List ℕ) → Between ws ws
  between_none ws = record { part = λ n t. t; covers = λ c. c }

  between_more : (a e : ℕ) (ws vs us : List ℕ) (m : Bool) → Between ws vs → Thinned v a e vs us m → Between ws us
  between_more a e ws vs us m j k = record { part = λ n u. j.part n (k.part n u); covers = λ c. k.covers (j.covers c) }

  -- in the last none did
  between_last : (ws vs us : List ℕ) (m : Bool) → m ≡ false → Between ws vs → Thinned v 0 (2 ^ v.parts) vs us m → Rested v ws us
  between_last ws vs us m q j k =
      let b = between_more 0 (2 ^ v.parts) ws vs us m j k in
      record { part = b.part; covers = b.covers; supported = λ A h t. (k.still q).1 A (omega arith) h t }

  -- ---- the good labels, trimmed

  pub trim_below : (ws vs : List ℕ) → Kept (λ n. ltb n (2 ^ v.parts)) 0 (64 * words_for_lem (2 ^ v.parts)) ws vs
      → (A : ℕ) → A < 2 ^ v.parts → look vs A ≡ look ws A
  trim_below ws vs k A h =
      k.inside A (omega arith) (omega (arith, words-room (2 ^ v.parts)))
      ∙ and_in (look ws A) (ltb A (2 ^ v.parts)) (lt-ltb A (2 ^ v.parts) h)

  -- the good labels, those that are labels of them
  pub good_trimmed : (ws vs : List ℕ) → ((A : ℕ) → look ws A ≡ v.good A)
      → Kept (λ n. ltb n (2 ^ v.parts)) 0 (64 * words_for_lem (2 ^ v.parts)) ws vs → GoodLabels v vs
  good_trimmed ws vs g k = record {
    inside = λ b h l. k.inside b (omega arith) l ∙ and_out (look ws b) (ltb b (2 ^ v.parts)) (le-ltb b (2 ^ v.parts) h);
    good = λ A h. trim_below ws vs k A h ∙ g A;
  }

  -- what rests of them spans just the canonical set
  pub rested_canon : (ws vs us : List ℕ) → GoodLabels v ws → us ≡ vs → Rested v ws vs → Same (dominoes v) (spanned_set v (look us)) (canon v)
  rested_canon ws vs us g e r =
      let c = r.covers (covers_below v v.good (look ws) g.good (covers_good v)) in
      rw e (spanned_canon v (look vs) (λ A h t. flip (g.good A h) ∙ r.part A t) r.supported c)

-- the witnesses of a label, by its row
pub row_supported : (f : Fitting) (A : ℕ) (row : Row) (ws : List ℕ) (b : Bool) → IsRow f A row
    → b ≡ supported (row_view row) (look ws) row.label → supported (view_of f) (look ws) A ≡ b
row_supported f A row ws b r e = flip (e ∙ ap₂ (λ (g : Fitting) (x : ℕ). supported (view_of g) (look ws) x) r.fitting r.label)

-- what the search for them is asked
pub row_lives : (f : Fitting) (A : ℕ) (row : Row) (ws : List ℕ) (y : Bool) → IsRow f A row → Inside (view_of f) ws → y ≡ look ws A → y ≡ true
    → Lives row ws
row_lives f A row ws y r i e t = record {
  inside = subst (λ (g : Fitting). Inside (view_of g) ws) (flip r.fitting) i;
  lives = ap (look ws) r.label ∙ flip e ∙ t;
}

-- ---- the same of lent words

stays_on : {s t u : Thinning} → Stays s t → Stays t u → Stays s u
stays_on j k = record { live = k.live ∙ j.live; fitting = k.fitting ∙ j.fitting }

pub lent : {a e : ℕ} (s t : Thinning) {m : Bool} → t.live.ghost_name ≡ s.live.ghost_name → t.fitting ≡ s.fitting
    → Thinned (view_of s.fitting.now) a e s.live.now t.live.now m → ThinnedFrom a e s t m
lent s t j k p = record { stays = record { live = j; fitting = k }; thinned = p }

pub lent_none : (s : Thinning) → ThinnedFrom 0 0 s s false
lent_none s = lent s s refl refl (thinned_none (view_of s.fitting.now) 0 s.live.now)

pub lent_on : (s t u : Thinning) (x y : Bool) (a : ℕ) → ThinnedFrom 0 a s t x → ThinnedLabel a t u y → ThinnedFrom 0 (a + 1) s u (x || y)
lent_on s t u x y a j k = record {
  stays = stays_on j.stays k.stays;
  thinned = thinned_on (view_of s.fitting.now) 0 a (a + 1) s.live.now t.live.now u.live.now x j.thinned y
      (subst (λ f. Thinned (view_of f.now) a (a + 1) t.live.now u.live.now y) j.stays.fitting k.thinned);
}

-- some sweeps
pub record ThinnedSome (s t : Thinning) : Type 0 where
  pub stays : Stays s t
  pub between : Between (view_of s.fitting.now) s.live.now t.live.now

pub some_none : (s : Thinning) → ThinnedSome s s
some_none s = record { stays = record { live = refl; fitting = refl }; between = between_none (view_of s.fitting.now) s.live.now }

module _ (s t u : Thinning) {m : Bool} where
  -- a sweep after others, as one of the knowledge base of the first
  again : ThinnedSome s t → ThinnedOnce t u m → Thinned (view_of s.fitting.now) 0 (2 ^ (view_of s.fitting.now).parts) t.live.now u.live.now m
  again j k = subst (λ f. Thinned (view_of f.now) 0 (2 ^ (view_of f.now).parts) t.live.now u.live.now m) j.stays.fitting k.thinned

  pub some_more : ThinnedSome s t → ThinnedOnce t u m → ThinnedSome s u
  some_more j k = record {
    stays = stays_on j.stays k.stays;
    between = between_more (view_of s.fitting.now) _ _ _ _ _ _ j.between (again j k);
  }

  pub some_last : m ≡ false → ThinnedSome s t → ThinnedOnce t u m → ThinnedAll s u
  some_last q j k = record {
    stays = stays_on j.stays k.stays;
    rested = between_last (view_of s.fitting.now) _ _ _ _ q j.between (again j k);
  }
