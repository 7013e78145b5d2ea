-- What is put into the words of a set: of a run what a mask allows and is live, run after run and row after row.
use mathlib.Core.Path.{◌≡◌, refl, sym as flip, ap, ap₂, subst, subst₂, ◌∙◌}
use mathlib.Core.Bool.{Bool, true, false, ◌&&◌, and_comm, false≢true}
use mathlib.Core.List.{List}
use Prim.Native.Nat.{ℕ, ◌+◌, ◌-◌, ◌*◌, ◌/◌, ◌%◌, ◌^◌, ◌≤◌, ◌<◌}
use native.Mathlib.Nat.{add-zero, lt_of_le_of_lt}
use native.Mathlib.Omega.{arith}
use lib.Bits.{bit_and, bit_or, and_le_r}
use lib.Count.{ones, ones-le}
use lib.ListN.{length, get_or, set}
use lib.Pow.{pow-lt}
use Rattle.bitset.specs.Bits.{Set, bit, look, word, word_at}
use Rattle.bitset.specs.Runs.{Added}
use Rattle.bitset.proofs.Facts.{and_out, is_false}
use Rattle.bitset.proofs.Laws.{word_ext, bit_first, bit_and_lem, word_at_and}
use Rattle.bitset.proofs.Words.{mask_word, word_look}
use Rattle.bitset.proofs.Sizes.{size_le}
use Rattle.bitset.proofs.AddedLaws.{added_none, added_join, added_as, added_at, added_idle, added_word, added_part_shl}
use Rattle.semantics.specs.Dominoes.{number, unnumbered}
use Rattle.semantics.specs.Conditions.{View}
use Rattle.labels.specs.Labels.{fits_both, spanned, spanned_set}
use Rattle.labels.proofs.Fits.{both_closed}
use Rattle.domino_conditions.specs.Tables.{RowOf}
use Rattle.domino_conditions.proofs.Rows.{total_le, runs_le, rows_le, last_run, row_le, At, at_run, left_in_row, run_end, row_fit}
use Rattle.domino_initial.specs.RightMasks.{allows, allows_low, high_of}
use Rattle.domino_initial.specs.declared.masks.RightMask.{RightMask}
use Rattle.domino_initial.proofs.MaskBits.{word_some, allows_split}
use Rattle.domino_initial.proofs.Dropping.{run_words, labels_words}
use Rattle.domino_labels.specs.Rows.{Picks}
use Rattle.domino_labels.specs.Fittings.{view_of, row_view, RoleSet}
use Rattle.domino_labels.specs.Live.{allowed_live}
use Rattle.domino_labels.specs.Writings.{matched, OwnRow, Stays, Puts, run_of, PutsRun, PutsRow}
use Rattle.domino_labels.specs.declared.fitting.Fitting.{Fitting}
use Rattle.domino_labels.specs.declared.fitting.Row.{Row}
use Rattle.domino_labels.specs.declared.writing.Writing.{Writing}

-- what is put in from a to e are at most so many numbers
pub put_le : (f : Set) (a e : ℕ) (ws vs : List ℕ) (m : ℕ) → Added f a e ws vs m → m ≤ e - a
put_le f a e ws vs m k = omega (arith, k.count, size_le (e - a) (λ i. f (a + i)))

-- and of a word at most 64
pub ones_both : (low x : ℕ) → x < 2 ^ 64 → ones (bit_and low x) ≤ 64
ones_both low x h = ones-le 64 (bit_and low x) (lt_of_le_of_lt (and_le_r low x) h)

-- ---- a run that is part of a word

-- the labels below n that are in two words
labels_both : (D : Set) (n low live : ℕ) → n < 64 → low ≡ word_at D 0
    → bit_and (bit_and low live) (1 * 2 ^ n % 2 ^ 64 - 1) ≡ word n (λ k. D k && bit live k)
labels_both D n low live h e =
    mask_word (bit_and low live) n h
    ∙ word_ext n (bit (bit_and low live)) (λ k. D k && bit live k)
    (λ k l. bit_and_lem low live k ∙ ap (λ (y : Bool). y && bit live k) (bit_first D low k e (omega arith)))

pub part_put : (D : Set) (at n low live total : ℕ) (ws : List ℕ) → at / 64 < length ws → n ≤ 32 → at % 64 + n ≤ 64 → low ≡ word_at D 0
    → total ≡ ones (bit_and (bit_and low live) (1 * 2 ^ n % 2 ^ 64 - 1))
    → Added (λ m. D (m - at) && bit live (m - at)) at (at + n) ws
    (set ws (at / 64) (bit_or (get_or ws (at / 64) 0) (bit_and (bit_and low live) (1 * 2 ^ n % 2 ^ 64 - 1) * 2 ^ (at % 64) % 2 ^ 64))) total
part_put D at n low live total ws room few within e g =
    rw g
    (added_part_shl (λ m. D (m - at) && bit live (m - at)) at n _ ws within room
    (labels_both D n low live (omega arith) e
    ∙ word_ext n (λ k. D k && bit live k) (λ i. D (at + i - at) && bit live (at + i - at))
    (λ k l. let q : k ≡ at + k - at = omega arith in ap (λ (y : ℕ). D y && bit live y) q)))

-- ---- and word by word

module _ (d : RightMask) (live : List ℕ) (start i : ℕ) (ws vs : List ℕ) (total : ℕ)
    (k : Added (allowed_live d live start) (64 * start) (64 * (start + i)) ws vs total) (above : RightMask) (ea : above ≡ high_of d)
    (y : Bool) (ey : y ≡ allows above i) where
  there : y ≡ allows (high_of d) i
  there = ey ∙ ap (λ (m : RightMask). allows m i) ea

  next : (us : List ℕ) (m : ℕ) → Added (allowed_live d live start) (64 * (start + i)) (64 * (start + i) + 64) vs us m
      → Added (allowed_live d live start) (64 * start) (64 * (start + (i + 1))) ws us (total + m)
  next us m j =
      added_at (allowed_live d live start) (64 * start) (64 * start) (64 * (start + i) + 64) (64 * (start + (i + 1))) ws us (total + m) refl
      (omega arith)
      (added_join (allowed_live d live start) (64 * start) (64 * (start + i)) (64 * (start + i) + 64) ws vs us total m (omega arith)
      (omega arith) k j)

  -- word i of them, among all
  word_there : word_at (λ n. allows d n && look live n) i ≡ word_at (allowed_live d live start) (start + i)
  unfolding word_at
  word_there =
      word_ext 64 (λ j. allows d (64 * i + j) && look live (64 * i + j)) (λ j. allowed_live d live start (64 * (start + i) + j))
      (λ j l. let q : 64 * i + j ≡ 64 * (start + i) + j - 64 * start = omega arith in ap (λ (n : ℕ). allows d n && look live n) q)

  module _ (low : ℕ) (t : y ≡ true) (e : low ≡ word_at (allows_low d) 0) (fits : get_or live i 0 < 2 ^ 64) (h : start + i < length vs) where
    word_is : bit_and low (get_or live i 0) ≡ word_at (allowed_live d live start) (start + i)
    word_is =
        ap₂ bit_and (word_some d i y low there t e) (word_look live i fits)
        ∙ word_at_and (allows d) (look live) i ∙ word_there

    pub word_put : (us : List ℕ) (m n : ℕ) → us ≡ set vs (start + i) (bit_or (get_or vs (start + i) 0) (bit_and low (get_or live i 0)))
        → m ≡ ones (bit_and low (get_or live i 0)) → n ≡ total + m
        → Added (allowed_live d live start) (64 * start) (64 * (start + (i + 1))) ws us n
    word_put us m n q g f = rw f (next us m (rw (q, g) (added_word (allowed_live d live start) vs (start + i) _ h word_is)))

  none_there : y ≡ false → Added (allowed_live d live start) (64 * (start + i)) (64 * (start + i) + 64) vs vs 0
  none_there t =
      added_idle (allowed_live d live start) (64 * (start + i)) (64 * (start + i) + 64) vs
      (λ n a b.
      let q : n - 64 * start ≡ 64 * i + (n - 64 * (start + i)) = omega arith in
      ap (λ (x : Bool). x && look live (n - 64 * start))
      (ap (allows d) q ∙ allows_split d i (n - 64 * (start + i)) (omega arith)
      ∙ ap (λ (x : Bool). x && allows_low d (n - 64 * (start + i))) (flip there ∙ t)))

  pub word_skipped : y ≡ false → (us : List ℕ) (n : ℕ) → us ≡ vs → n ≡ total
      → Added (allowed_live d live start) (64 * start) (64 * (start + (i + 1))) ws us n
  word_skipped t us n q f = rw (q, f, ← add-zero total) (next vs 0 (none_there t))

-- ---- a run of the left label a and the role set r, by its mask

module _ (v : View) (Λ : Set) (a r : ℕ) (la : a < 2 ^ v.parts) (lr : r < 2 ^ (2 * v.roles)) where
  matched_at : (n b : ℕ) → At v.parts v.roles n a r b → matched v Λ n ≡ (Λ b && fits_both v a r b)
  unfolding matched
  matched_at n b t = rw (t.left, t.roles, t.right) refl

  module _ (m : RightMask) (p : Picks v (fits_both v a r) m) (at labels : ℕ) (ea : at ≡ number v.parts v.roles a r 0)
      (el : labels ≡ 2 ^ v.parts) (ws vs : List ℕ) (total : ℕ) where
    run_put : (live : Set) → ((b : ℕ) → b < 2 ^ v.parts → live b ≡ Λ b)
        → Added (λ n. allows m (n - at) && live (n - at)) at (at + labels) ws vs total
        → Added (matched v Λ) (number v.parts v.roles a r 0) (number v.parts v.roles a (r + 1) 0) ws vs total
    run_put live same k =
        let e = run_end v.parts v.roles a r at labels ea el in
        added_at (matched v Λ) at _ (at + labels) _ ws vs total ea e
        (added_as (λ n. allows m (n - at) && live (n - at)) (matched v Λ) at (at + labels) ws vs total
        (λ n h l.
        let q : n - at ≡ n - number v.parts v.roles a r 0 = omega arith in
        ap₂ ◌&&◌ (p (n - at) (omega arith)) (same (n - at) (omega arith))
        ∙ and_comm (fits_both v a r (n - at)) (Λ (n - at))
        ∙ ap (λ (b : ℕ). Λ b && fits_both v a r b) q
        ∙ flip (matched_at n (n - number v.parts v.roles a r 0) (at_run v.parts v.roles a r n la lr (omega arith) (omega arith))))
        k)

-- ---- the same of lent words

abbrev pub writing_view : Writing → View
writing_view s = view_of s.fitting.now

abbrev pub live_in : Writing → Set
live_in s = look s.live.now

pub puts_same : {test : View → Set → Set} {b e count : ℕ} (s t : Writing) → t.set.ghost_name ≡ s.set.ghost_name → t.fitting ≡ s.fitting
    → t.live ≡ s.live → Added (test (writing_view s) (live_in s)) b e s.set.now t.set.now count → Puts test b e s t count
puts_same s t i j k a = record { stays = record { set = i; fitting = j; live = k }; added = a }

-- a row of the same tables
module _ (s : Writing) (row : Row) (own : OwnRow s row) where
  own_label : row.label < 2 ^ (writing_view s).parts
  own_label = subst (λ (f : Fitting). row.label < 2 ^ (view_of f).parts) own row.words.label

  pub own_fit : RowOf (writing_view s).parts (writing_view s).roles row.label (length s.set.now)
  own_fit = row_fit s.fitting.now.base.now row.label (length s.set.now) (record { label = own_label; room = s.room })

  module _ (r : ℕ) (inside : RoleSet row r) where
    pub own_roles : r < 2 ^ (2 * (writing_view s).roles)
    own_roles = subst (λ (f : Fitting). r < 2 ^ (2 * (view_of f).roles)) own inside

    module _ (m : RightMask) (p : Picks (row_view row) (fits_both (row_view row) row.label r) m) (at : ℕ) (ea : at ≡ run_of s row.label r)
        (ws vs : List ℕ) (total : ℕ) where
      own_picks : Picks (writing_view s) (fits_both (writing_view s) row.label r) m
      own_picks = subst (λ (f : Fitting). Picks (view_of f) (fits_both (view_of f) row.label r) m) own p

      pub run_by_part : (labels : ℕ) → (writing_view s).parts < 6 → labels ≡ 2 ^ (writing_view s).parts
          → Added (λ n. allows m (n - at) && bit (get_or s.live.now 0 0) (n - at)) at (at + labels) ws vs total
          → Added (matched (writing_view s) (live_in s)) (run_of s row.label r) (run_of s row.label (r + 1)) ws vs total
      run_by_part labels few el =
          run_put (writing_view s) (live_in s) row.label r own_label own_roles m own_picks at labels ea el ws vs total
          (bit (get_or s.live.now 0 0)) (λ b h.
          let u : 2 ^ (writing_view s).parts < 2 ^ 6 = pow-lt {i = (writing_view s).parts} {j = 6} few in
          let x : 0 ≡ b / 64 = omega arith in
          let y : b ≡ b % 64 = omega arith in
          ap₂ (λ (i j : ℕ). bit (get_or s.live.now i 0) j) x y)

      pub run_by_words : (count : ℕ) → 6 ≤ (writing_view s).parts → count ≡ 2 ^ ((writing_view s).parts - 6)
          → Added (allowed_live m s.live.now (at / 64)) (64 * (at / 64)) (64 * (at / 64) + 64 * count) ws vs total
          → Added (matched (writing_view s) (live_in s)) (run_of s row.label r) (run_of s row.label (r + 1)) ws vs total
      run_by_words count many ec =
          run_put (writing_view s) (live_in s) row.label r own_label own_roles m own_picks (64 * (at / 64)) (64 * count)
          (run_words (writing_view s).parts (writing_view s).roles row.label r at many ea ∙ ea)
          (labels_words (writing_view s).parts count many ec) ws vs total (live_in s) (λ b h. refl)

-- rows and runs end at numbers that are small
pub row_few : (s : Writing) (a : ℕ) → a < 2 ^ (writing_view s).parts → run_of s (a + 1) 0 ≤ 16777216
row_few s a h =
    let c : ℕ = (writing_view s).parts in
    let l : ℕ = (writing_view s).roles in
    let w = s.fitting.now.base.now.size.within in
    omega (arith, row_le c l a h, total_le c l w)

pub run_few : (s : Writing) (a r : ℕ) → a < 2 ^ (writing_view s).parts → r ≤ 2 ^ (2 * (writing_view s).roles)
    → run_of s a r ≤ 16777216
run_few s a r h k =
    let c : ℕ = (writing_view s).parts in
    let l : ℕ = (writing_view s).roles in
    omega (arith, runs_le c l a r (2 ^ (2 * l)) k, last_run c l a, row_few s a h)

pub puts_le : {test : View → Set → Set} {b e count : ℕ} {s t : Writing} → Puts test b e s t count → count ≤ e - b
puts_le k = put_le _ _ _ _ _ _ k.added

pub puts_as : {test : View → Set → Set} {b e m : ℕ} (s t u : Writing) (n : ℕ) → u ≡ t → n ≡ m → Puts test b e s t m → Puts test b e s u n
puts_as s t u n p q k = rw (p, q) k

module _ (test : View → Set → Set) where
  pub puts_none : (b e : ℕ) (s : Writing) → b ≡ e → Puts test b e s s 0
  puts_none b e s q = puts_same s s refl refl refl (rw q (added_none _ _ _))

  -- none of the next range is to be put in
  pub puts_idle : (b e g m : ℕ) (s t : Writing) → b ≤ e → e ≤ g
      → ((n : ℕ) → e ≤ n → n < g → test (writing_view s) (live_in s) n ≡ false) → Puts test b e s t m → Puts test b g s t m
  puts_idle b e g m s t h l none k = record {
    stays = k.stays;
    added = rw (← add-zero m)
        (added_join (test (writing_view s) (live_in s)) b e g s.set.now t.set.now t.set.now m 0 h l k.added
        (added_idle (test (writing_view s) (live_in s)) e g t.set.now none));
  }

  module _ (s t u : Writing) where
    stays_on : Stays s t → Stays t u → Stays s u
    stays_on j k = record { set = k.set ∙ j.set; fitting = k.fitting ∙ j.fitting; live = k.live ∙ j.live }

    -- from the run (a, r, _) to before (x, y, _), and on to before (z, w, _)
    pub puts_join : (b x y z w m n : ℕ) → b ≤ run_of s x y → run_of s x y ≤ run_of s z w → Puts test b (run_of s x y) s t m
        → Puts test (run_of t x y) (run_of t z w) t u n → Puts test b (run_of s z w) s u (m + n)
    puts_join b x y z w m n h l j k = record {
      stays = stays_on j.stays k.stays;
      added = added_join (test (writing_view s) (live_in s)) b _ _ _ _ _ m n h l j.added
          (subst₂ (λ f o.
          Added (test (view_of f.now) (look o.now)) (number (view_of f.now).parts (view_of f.now).roles x y 0)
          (number (view_of f.now).parts (view_of f.now).roles z w 0) t.set.now u.set.now n) j.stays.fitting j.stays.live k.added);
    }

-- ---- run after run, and row after row

module _ (s t : Writing) (a r m : ℕ) (la : a < 2 ^ (writing_view s).parts) where
  -- of a role set that is not closed both ways nothing is matched
  pub run_skipped : r < 2 ^ (2 * (writing_view s).roles) → (y : Bool) → y ≡ look s.fitting.now.closed r → y ≡ false
      → Puts matched (run_of s a 0) (run_of s a r) s t m → Puts matched (run_of s a 0) (run_of s a (r + 1)) s t m
  run_skipped lr y e f k =
      let v : View = writing_view s in
      puts_idle matched _ _ _ m s t (runs_le v.parts v.roles a 0 r (omega arith)) (runs_le v.parts v.roles a r (r + 1) (omega arith))
      (λ n h l.
      let b : ℕ = n - number v.parts v.roles a r 0 in
      matched_at v (live_in s) a r la lr n b (at_run v.parts v.roles a r n la lr h l)
      ∙ and_out (look s.live.now b) _
      (is_false _ (λ t. false≢true (flip f ∙ e ∙ s.fitting.now.both r lr ∙ both_closed v a r b t)))) k

  -- of a live label's row all that is matched is spanned
  pub row_put : r ≡ 2 ^ (2 * (writing_view s).roles) → live_in s a ≡ true
      → Puts matched (run_of s a 0) (run_of s a r) s t m → PutsRow a s t m
  unfolding spanned_set unnumbered spanned matched
  row_put e g k =
      let v : View = writing_view s in
      let q : number v.parts v.roles a r 0 ≡ number v.parts v.roles (a + 1) 0 0 =
      ap (λ (x : ℕ). number v.parts v.roles a x 0) e ∙ last_run v.parts v.roles a in
      record {
        stays = k.stays;
        added = added_as (matched v (live_in s)) (spanned_set v (live_in s)) _ _ s.set.now t.set.now m
            (λ n h l.
            flip (ap (λ (x : Bool). x && matched v (live_in s) n) (ap (live_in s) (left_in_row v.parts v.roles a n h l) ∙ g)))
            (added_at (matched v (live_in s)) _ _ _ _ s.set.now t.set.now m refl q k.added);
      }

-- and of the row of another label nothing is
pub row_skipped : (s t : Writing) (a m : ℕ) (y : Bool) → y ≡ live_in s a → y ≡ false
    → Puts spanned_set 0 (run_of s a 0) s t m → Puts spanned_set 0 (run_of s (a + 1) 0) s t m
unfolding spanned_set unnumbered spanned matched
row_skipped s t a m y e f k =
    let v : View = writing_view s in
    puts_idle spanned_set _ _ _ m s t (omega arith) (rows_le v.parts v.roles a (a + 1) (omega arith))
    (λ n h l.
    ap (λ (x : Bool). x && matched v (live_in s) n)
    (ap (live_in s) (left_in_row v.parts v.roles a n h l) ∙ flip e ∙ f)) k

-- one run more, and one row more
module _ (s t u : Writing) (a m n : ℕ) where
  pub run_more : (r x : ℕ) → x ≡ a → Puts matched (run_of s a 0) (run_of s a r) s t m → PutsRun x r t u n
      → Puts matched (run_of s a 0) (run_of s a (r + 1)) s u (m + n)
  run_more r x e j k =
      let c : ℕ = (writing_view s).parts in
      let l : ℕ = (writing_view s).roles in
      puts_join matched s t u _ a r a (r + 1) m n (runs_le c l a 0 r (omega arith)) (runs_le c l a r (r + 1) (omega arith)) j
      (subst (λ (y : ℕ). PutsRun y r t u n) e k)

  pub row_more : Puts spanned_set 0 (run_of s a 0) s t m → PutsRow a t u n → Puts spanned_set 0 (run_of s (a + 1) 0) s u (m + n)
  row_more =
      puts_join spanned_set s t u 0 a 0 (a + 1) 0 m n (omega arith)
      (rows_le (writing_view s).parts (writing_view s).roles a (a + 1) (omega arith))
