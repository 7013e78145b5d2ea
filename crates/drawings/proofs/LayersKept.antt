-- The drawing in three layers of a domino set (02, N11), of a sheet that is read. Of any set that is stable it draws the layered
-- interpretation, has its labels, breaks nothing, and has each domino of the set; of the canonical set it has no others, so a sheet can be
-- met exactly if some drawing of at least one individual breaks nothing. Its file is read back as itself and has no fault, with a limit of
-- at most 16 and at most 1,024 individuals.
use Prim.Native.Nat.{ℕ, ◌*◌, ◌≤◌, ◌<◌}
use native.Mathlib.Nat.{lt_of_lt_of_le}
use native.Mathlib.Omega.{arith}
use mathlib.Core.Path.{◌≡◌, refl, sym, ap, ◌∙◌}
use mathlib.Core.Logic.{◌↔◌, ◌⊎◌}
use mathlib.Core.Bool.{Bool, true, not, ◌&&◌, ◌||◌}
use mathlib.Core.List.{List}
use lib.Dec.{ltb}
use lib.ListN.{length}
use lib.Pow.{pow_mono}
use borrow.Author.Tests.{lt-ltb, le-ltb}
use Rattle.bitset.specs.Bits.{bit, word}
use Rattle.bitset.proofs.Laws.{word_lt, word_ext, word_bits}
use Rattle.bitset.proofs.Facts.{imp_i, and_l}
use Rattle.elimination.specs.Sets.{every}
use Rattle.elimination.proofs.Quantifiers.{all_intro}
use Rattle.syntax.specs.Flatten.{Part, name_p, fresh_p, exists_p, forall_p, part_at}
use Rattle.syntax.specs.Parts.{kind_of}
use Rattle.syntax.specs.Bounds.{Plain}
use Rattle.syntax.specs.Reading.{Kb, kb, flats_of, parts_of, read_kb}
use Rattle.syntax.proofs.Promised.{kb-small, kb-few}
use Rattle.semantics.specs.Interpretations.{Interpretation, models, Satisfiable}
use Rattle.semantics.specs.Dominoes.{Dominoes, unnumbered}
use Rattle.semantics.specs.Conditions.{View, Stable, InRange, dominoes, canon, canon_dominoes}
use Rattle.semantics.specs.Views.{kb_view}
use Rattle.semantics.specs.Projection.{role_set, projection_of}
use Rattle.semantics.specs.Flattens.{Flattens}
use Rattle.semantics.specs.Labelling.{Labelling}
use Rattle.semantics.specs.Layers.{label_at, rising}
use Rattle.semantics.proofs.Canonical.{canon-largest, of_unnumbered, dominoes_of}
use Rattle.semantics.proofs.Projecting.{domino_from, word-whole}
use Rattle.semantics.proofs.Rising.{Lists, canon_enumerates}
use Rattle.semantics.proofs.Verdict.{Bounded, bounded, sheet_flat, sheet-verdict, layered_labelling, layered_rbox, layered-models, layered_label, label_out, layered_pair, layered_roles, layered-has, labelling_in, layered-projection}
use Rattle.drawings.specs.Entries.{Entry, Drawing, drawing_of, first_fault, entries_of, names_of, connections_of}
use Rattle.drawings.specs.Checking.{names_at, interpretation, unbroken, is_plain, file_fault, roles_between, has_part, label, drawn_dominoes, drawn_set, breach}
use Rattle.drawings.specs.Layered.{right, joined_in, layered_of, names_in, layered_entries, layered_file, layered_drawing}
use Rattle.drawings.specs.Meanings.{Draws}
use Rattle.drawings.proofs.Keeping.{part_by, projection_same, part_there, part_read, drawn_models, canonical_holds}
use Rattle.drawings.proofs.Laying.{entries_laid}
use Rattle.drawings.proofs.Recorded.{recorded_length, recorded_name, recorded_roles, recorded_fits, recorded_faultless}

plain_kind : (p : Part) → Plain p → ltb (kind_of p) 2 ≡ true
unfolding kind_of
plain_kind (name_p t) h = refl
plain_kind (fresh_p g b) h = refl
plain_kind (exists_p g u f) h = absurd h
plain_kind (forall_p g u f) h = absurd h

module _ (limit : ℕ) (sheet : List ℕ) (k : Kb) (e : read_kb limit sheet ≡ kb k) where
  abbrev v : View
  v = kb_view k

  abbrev ps : List Part
  ps = parts_of k

  abbrev c : ℕ
  c = length ps

  B : Bounded k
  B = bounded limit sheet k e

  F : Flattens k.axioms ps (flats_of k)
  F = sheet_flat limit sheet k e

  -- ---- of any dominoes

  module _ (members : List ℕ) where
    abbrev m : ℕ
    m = length members

    abbrev lab : ℕ → ℕ
    lab = label_at m (right c k.roles members)

    abbrev names : ℕ → ℕ
    names = names_in c k.roles members (is_plain v)

    abbrev J : ℕ → ℕ → ℕ → Bool
    J = joined_in c k.roles members

    abbrev I : Interpretation
    I = layered_of c k.roles members

    abbrev d : Drawing
    d = layered_drawing c k.roles members (is_plain v)

    abbrev entries : List Entry
    entries = layered_entries c k.roles members (is_plain v)

    abbrev file : List ℕ
    file = layered_file c k.roles members (is_plain v)

    pub layered_count : length d.names ≡ 3 * m
    unfolding layered_entries
    layered_count = recorded_length (3 * m) k.roles names J

    -- of the label the names and fresh names are drawn
    names_own : (x j : ℕ) → bit (names x) j ≡ (is_plain v j && bit (lab x) j)
    unfolding names_in is_plain
    names_own x j = word-whole c _ (λ i h. rw (le-ltb i c h) refl) j

    names_bit : (x j : ℕ) → x < 3 * m → j < c → Plain (part_at ps j) → bit (names_at d x) j ≡ bit (lab x) j
    unfolding layered_entries is_plain
    names_bit x j l h p =
        ap (λ (w : ℕ). bit w j) (recorded_name (3 * m) k.roles names J x l) ∙ names_own x j
        ∙ rw (lt-ltb j c h, plain_kind (part_at ps j) p) refl

    pub layered_draws : Draws k I d
    unfolding kind_of roles_between layered_entries joined_in
    layered_draws = record {
      individuals = sym layered_count;
      names = λ x t l q. sym (names_bit x t l (part_there limit sheet k e d t (name_p t) q (λ z. omega (arith, z))) (rw q tt));
      roles = recorded_roles (3 * m) k.roles names J;
    }

    -- ---- the file

    module _ (low : limit ≤ 16) (few : 3 * m ≤ 1024) where
      names_small : (x : ℕ) → names x < 65536
      unfolding names_in
      names_small x =
          let h : c ≤ 16 = omega (arith, kb-small limit sheet e) in
          lt_of_lt_of_le (word_lt c _) (pow_mono h)

      names_plain : (x : ℕ) → every 16 (λ j. not (bit (names x) j) || is_plain v j) ≡ true
      names_plain x =
          all_intro 16 _
          (λ j l. imp_i (bit (names x) j) (is_plain v j) (λ b. and_l (is_plain v j) (bit (lab x) j) (sym (names_own x j) ∙ b)))

      pub layered_entries_read : entries_of file ≡ entries
      unfolding layered_file layered_entries
      layered_entries_read =
          entries_laid entries
          (recorded_fits (3 * m) k.roles names J (omega (arith, few)) (omega (arith, (kb-few limit sheet e).1)) (λ x l. names_small x))

      pub layered_read : drawing_of file ≡ d
      layered_read = ap (λ (l : List Entry). record { names = names_of l; connections = connections_of l }) layered_entries_read

      pub layered_faultless : 0 < m → file_fault v file ≡ 0
      unfolding file_fault layered_entries
      layered_faultless pos =
          ap (first_fault (is_plain v) k.roles 0) layered_entries_read
          ∙ recorded_faultless (3 * m) k.roles names J (is_plain v) few (λ x l. names_plain x) (omega (arith, pos))

    -- ---- of a stable set's

    module _ (D : Dominoes) (stable : Stable v D) (inside : InRange v D) (E : Lists v D members) (pos : 0 < m) where
      fits : Labelling I (part_at ps) (flats_of k) (λ x. bit (lab x))
      fits = layered_labelling k B ps (flats_of k) F D stable inside m _ _ _ E pos

      part_label : (x j : ℕ) → x < 3 * m → j < c → has_part v d x j ≡ bit (lab x) j
      unfolding part_by
      part_label x j l h =
          part_read limit sheet k e d I layered_draws (λ x. bit (lab x)) (λ y i q. names_bit y i (omega (arith, q, layered_count)))
          x j (omega (arith, l, layered_count)) (names_bit x j l h)
          ∙ go (part_at ps j) refl
        where
          go : (p : Part) → part_at ps j ≡ p → part_by I (λ x. bit (lab x)) p x j ≡ bit (lab x) j
          go (name_p t) q = refl
          go (fresh_p g a) q = refl
          go (exists_p g u f) q = sym (fits.existentials x j g u f l q)
          go (forall_p g u f) q = sym (fits.universals x j g u f l q)

      label_whole : (x : ℕ) → word c (bit (lab x)) ≡ lab x
      label_whole x = word_bits c (lab x) (layered_label k B ps (flats_of k) F D stable inside m _ _ _ E pos x)

      pub layered_labels : (x : ℕ) → x < 3 * m → label v d x ≡ lab x
      unfolding label
      layered_labels x l = word_ext c (has_part v d x) (bit (lab x)) (λ j h. part_label x j l h) ∙ label_whole x

      pub layered_keeps : models I k ≡ true
      layered_keeps = layered-models k B ps (flats_of k) F D stable inside m _ _ _ E pos

      -- the dominoes as drawn are those of the layered interpretation
      layered_dominoes : (A R B : ℕ) → drawn_dominoes v d A R B ≡ projection_of I k.roles c (λ x. bit (lab x)) A R B
      unfolding drawn_dominoes role_set roles_between label
      layered_dominoes =
          projection_same (interpretation d) I k.roles c (has_part v d) (λ x. bit (lab x)) layered_count
          (λ x l. layered_labels x (omega (arith, l, layered_count)) ∙ sym (label_whole x))
          (λ x y lx ly. sym (layered_draws.roles x y (omega (arith, lx, layered_count)) (omega (arith, ly, layered_count))))

      -- and all of these are canonical
      pub layered_unbroken : breach v d ≡ unbroken
      layered_unbroken =
          canonical_holds limit sheet k e d (λ P R Q h.
          labelling_in k B ps (flats_of k) F (canon_dominoes v) (canon-largest v) I (λ x. bit (lab x)) fits
          (label_out k B ps (flats_of k) F D stable inside m _ _ _ E pos)
          (layered_rbox k B ps (flats_of k) F D stable inside m _ _ _ E pos) P R Q (sym (layered_dominoes P R Q) ∙ h))

      -- each of the set is drawn, and no others, but such as have no roles
      pub layered_drawn : (P R Q : ℕ) → D P R Q ≡ true → drawn_dominoes v d P R Q ≡ true
      layered_drawn P R Q h = layered_dominoes P R Q ∙ layered-has k B ps (flats_of k) F D stable inside m _ _ _ E pos P R Q h

      pub drawn_of_stable : (P R Q : ℕ) → drawn_dominoes v d P R Q ≡ true → (D P R Q ≡ true) ⊎ (R ≡ 0)
      drawn_of_stable P R Q h =
          let w = domino_from I k.roles c (λ x. bit (lab x)) P R Q (sym (layered_dominoes P R Q) ∙ h) in
          pair w.0 w.1 w.2 w.3 w.4 w.5 w.6
        where
          pair : (x y : ℕ) → x < 3 * m → y < 3 * m
              → P ≡ word c (bit (lab x)) → R ≡ role_set k.roles I.joined x y → Q ≡ word c (bit (lab y)) → (D P R Q ≡ true) ⊎ (R ≡ 0)
          pair x y lx ly p r q =
              let t = layered_roles k B ps (flats_of k) F D stable inside m _ _ _ E pos x y lx ly in
              rw (p ∙ label_whole x, r ∙ t, q ∙ label_whole y)
              (layered_pair k B ps (flats_of k) F D stable inside m _ _ _ E pos x y lx ly)

  -- ---- of the canonical set's

  abbrev members : List ℕ
  members = rising (canon v) (dominoes v)

  abbrev canon_drawing : Drawing
  canon_drawing = layered_drawing c k.roles members (is_plain v)

  module _ (pos : 0 < length members) where
    -- "this plant keeps the sheet"
    pub canon_keeps : models (layered_of c k.roles members) k ≡ true
    canon_keeps =
        let C = canon-largest v in layered_keeps members (canon_dominoes v) C.stable C.inside (canon_enumerates v) pos

    -- its dominoes are exactly the set
    pub canon_drawn : (P R Q : ℕ) → drawn_dominoes v canon_drawing P R Q ≡ canon_dominoes v P R Q
    canon_drawn P R Q =
        let C = canon-largest v in
        layered_dominoes members (canon_dominoes v) C.stable C.inside (canon_enumerates v) pos P R Q
        ∙ layered-projection k B ps (flats_of k) F (canon_dominoes v) C (length members) _ _ _ (canon_enumerates v) pos P R Q

    pub canon_unbroken : breach v canon_drawing ≡ unbroken
    canon_unbroken =
        let C = canon-largest v in layered_unbroken members (canon_dominoes v) C.stable C.inside (canon_enumerates v) pos

    pub canon_drawn_set : (n : ℕ) → n < dominoes v → drawn_set v canon_drawing n ≡ canon v n
    unfolding drawn_set unnumbered canon_dominoes dominoes_of
    canon_drawn_set n l = canon_drawn _ _ _ ∙ of_unnumbered v (canon v) n l

  -- "a sheet can be met precisely if some finite plant of at least one item keeps it", fresh names read as their fillers
  pub members_met : 0 < length members ↔ Satisfiable k
  members_met =
      let V = sheet-verdict limit sheet k e in
      let E = canon_enumerates v in (
        λ h. V.0 (_, _, _, E.each 0 h),
        λ s. let w = V.1 s in omega (arith, (E.all w.0 w.1 w.2 w.3).1),
      )

  -- and precisely if some drawing of at least one individual breaks nothing, fresh names as drawn
  pub drawn_met : 0 < length members ↔ ((d : Drawing) × (0 < length d.names) × (breach v d ≡ unbroken))
  drawn_met = (
    λ pos. (canon_drawing, omega (arith, layered_count members, pos), canon_unbroken pos),
    λ w. members_met.1 (interpretation w.0, w.1, drawn_models limit sheet k e w.0 w.2),
  )
