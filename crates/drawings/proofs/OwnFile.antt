-- An interpretation's own file: it has no fault, draws the interpretation, has its dominoes, and breaks nothing exactly if the
-- interpretation is a model. Of a sheet that is read with a limit of at most 16, and at most 1,024 individuals; that it has no fault
-- needs at least one.
use Prim.Native.Nat.{ℕ, ◌≤◌, ◌<◌}
use native.Mathlib.Decide.{dec_lt}
use native.Mathlib.Nat.{lt_of_lt_of_le}
use native.Mathlib.Omega.{arith}
use mathlib.Core.Path.{◌≡◌, refl, sym, ap, ◌∙◌, fun_ext}
use mathlib.Core.Logic.{◌↔◌}
use mathlib.Core.Bool.{Bool, true, false, not, ◌&&◌, ◌||◌, false≢true}
use mathlib.Core.List.{List}
use lib.Dec.{ltb}
use lib.ListN.{length, get_or, get_or-eq_default}
use lib.Pow.{pow_mono}
use borrow.Author.Tests.{lt-ltb}
use Rattle.bitset.specs.Bits.{bit}
use Rattle.bitset.proofs.Laws.{word_lt, word_ext}
use Rattle.bitset.proofs.Facts.{imp_i, and_i}
use Rattle.elimination.specs.Sets.{every}
use Rattle.elimination.proofs.Quantifiers.{all_intro}
use Rattle.syntax.specs.Flatten.{Part, name_p, fresh_p, exists_p, forall_p, no_part, part_at}
use Rattle.syntax.specs.Parts.{kind_of}
use Rattle.syntax.specs.Bounds.{All}
use Rattle.syntax.specs.Reading.{Kb, kb, parts_of, read_kb}
use Rattle.syntax.proofs.Promised.{kb-small, kb-few}
use Rattle.semantics.specs.Interpretations.{Interpretation, holds_nf, models}
use Rattle.semantics.specs.Conditions.{View}
use Rattle.semantics.specs.Views.{kb_view}
use Rattle.semantics.specs.Projection.{plain_at, read_part, parts_in, role_set, projection}
use Rattle.semantics.proofs.Projecting.{word-whole}
use Rattle.semantics.proofs.Verdict.{model_dominoes}
use Rattle.drawings.specs.Entries.{Entry, Drawing, drawing_of, first_fault, entries_of, names_of, connections_of}
use Rattle.drawings.specs.Checking.{connects, names_at, interpretation, unbroken, is_plain, file_fault, roles_between, has_part, drawn_dominoes, breach}
use Rattle.drawings.specs.Laid.{FitsBytes, own_names, own_entries, own_file}
use Rattle.drawings.specs.Meanings.{Draws}
use Rattle.drawings.proofs.Keeping.{part_by, projection_same, part_read, holds_models, canonical_holds}
use Rattle.drawings.proofs.Laying.{entries_laid, laid_small}
use Rattle.drawings.proofs.Recorded.{recorded_length, recorded_name, recorded_joins, recorded_joined, recorded_roles, recorded_fits, recorded_faultless}

module _ (limit : ℕ) (sheet : List ℕ) (k : Kb) (e : read_kb limit sheet ≡ kb k) (low : limit ≤ 16)
    (I : Interpretation) (few : I.individuals ≤ 1024) where
  abbrev v : View
  v = kb_view k

  abbrev n : ℕ
  n = I.individuals

  abbrev c : ℕ
  c = length (parts_of k)

  abbrev d : Drawing
  d = drawing_of (own_file I k)

  -- ---- the names and fresh names of an individual

  plain_none : (x j : ℕ) → c ≤ j → plain_at I (part_at (parts_of k) j) x ≡ false
  unfolding plain_at holds_nf
  plain_none x j h = rw (get_or-eq_default (parts_of k) no_part {n = j} h) refl

  plain_kind : (p : Part) (x : ℕ) → plain_at I p x ≡ true → ltb (kind_of p) 2 ≡ true
  unfolding plain_at kind_of
  plain_kind (name_p t) x e = refl
  plain_kind (fresh_p g b) x e = refl
  plain_kind (exists_p g u f) x e = absurd (false≢true e)
  plain_kind (forall_p g u f) x e = absurd (false≢true e)

  own_bit : (x j : ℕ) → bit (own_names I k x) j ≡ plain_at I (part_at (parts_of k) j) x
  unfolding own_names
  own_bit x j = word-whole c (λ j. plain_at I (part_at (parts_of k) j) x) (plain_none x) j

  own_lt : (x : ℕ) → own_names I k x < 65536
  unfolding own_names
  own_lt x =
      let h : c ≤ 16 = omega (arith, kb-small limit sheet e) in
      lt_of_lt_of_le (word_lt c (λ j. plain_at I (part_at (parts_of k) j) x)) (pow_mono h)

  own_plain : (x : ℕ) → every 16 (λ j. not (bit (own_names I k x) j) || is_plain v j) ≡ true
  unfolding is_plain
  own_plain x =
      all_intro 16 _ (λ j l. imp_i (bit (own_names I k x) j) (is_plain v j) (λ b. go j (sym (own_bit x j) ∙ b) (dec_lt j c)))
    where
      go : (j : ℕ) → plain_at I (part_at (parts_of k) j) x ≡ true → Dec (j < c)
          → (ltb j c && ltb (kind_of (part_at (parts_of k) j)) 2) ≡ true
      go j b (yes h) = and_i (lt-ltb j c h) (plain_kind (part_at (parts_of k) j) x b)
      go j b (no h) = absurd (false≢true (sym (plain_none x j (omega (arith, h))) ∙ b))

  -- ---- its file

  fits : All FitsBytes (own_entries I k)
  unfolding own_entries
  fits = recorded_fits n k.roles (own_names I k) I.joined (omega (arith, few)) (omega (arith, (kb-few limit sheet e).1)) (λ x l. own_lt x)

  own_read : entries_of (own_file I k) ≡ own_entries I k
  unfolding own_file
  own_read = entries_laid (own_entries I k) fits

  pub own_faultless : 0 < n → file_fault v (own_file I k) ≡ 0
  unfolding file_fault own_entries
  own_faultless pos =
      ap (first_fault (is_plain v) k.roles 0) own_read
      ∙ recorded_faultless n k.roles (own_names I k) I.joined (is_plain v) few (λ x l. own_plain x) pos

  pub own_bytes : All (λ b. b < 256) (own_file I k)
  unfolding own_file
  own_bytes = laid_small (own_entries I k) fits

  -- ---- what it draws

  pub own_individuals : length d.names ≡ n
  unfolding own_entries
  own_individuals = ap (λ (l : List Entry). length (names_of l)) own_read ∙ recorded_length n k.roles (own_names I k) I.joined

  pub own_names_at : (x : ℕ) → x < n → names_at d x ≡ own_names I k x
  unfolding own_entries
  own_names_at x h = ap (λ (l : List Entry). get_or (names_of l) x 0) own_read ∙ recorded_name n k.roles (own_names I k) I.joined x h

  -- the roles of the knowledge base between individuals, and nothing else
  pub own_connects : (r x y : ℕ) → r < k.roles → x < n → y < n → connects d.connections r x y ≡ I.joined r x y
  unfolding own_entries
  own_connects r x y h lx ly =
      ap (λ (l : List Entry). connects (connections_of l) r x y) own_read
      ∙ recorded_joins n k.roles (own_names I k) I.joined r x y h lx ly

  pub own_within : (r x y : ℕ) → connects d.connections r x y ≡ true
      → (x < n) × (y < n) × (r < k.roles) × (I.joined r x y ≡ true)
  unfolding own_entries
  own_within r x y h =
      recorded_joined n k.roles (own_names I k) I.joined r x y
      (ap (λ (l : List Entry). connects (connections_of l) r x y) (sym own_read) ∙ h)

  -- a name or a fresh name as drawn is what it is in the interpretation
  pub own_name : (x : ℕ) → x < n → bit (names_at d x) ≡ (λ j. plain_at I (part_at (parts_of k) j) x)
  own_name x h = fun_ext (λ j. ap (λ (m : ℕ). bit m j) (own_names_at x h) ∙ own_bit x j)

  own_roles : (x y : ℕ) → x < n → y < n → role_set k.roles I.joined x y ≡ roles_between v d x y
  unfolding roles_between own_entries
  own_roles x y lx ly =
      recorded_roles n k.roles (own_names I k) I.joined x y lx ly
      ∙ ap (λ (l : List Entry). role_set k.roles (connects (connections_of l)) x y) (sym own_read)

  pub own_drawn : Draws k I d
  unfolding plain_at
  own_drawn = record {
    individuals = sym own_individuals;
    names = λ x t l q. sym (ap (λ (f : ℕ → Bool). f t) (own_name x l) ∙ rw q refl);
    roles = own_roles;
  }

  -- a part of an individual's label holds of it
  pub own_part : (x j : ℕ) → x < n → has_part v d x j ≡ parts_in I (part_at (parts_of k)) x j
  unfolding parts_in part_by read_part plain_at
  own_part x j l =
      part_read limit sheet k e d I own_drawn (λ y i. plain_at I (part_at (parts_of k) i) y)
      (λ y i m h p. ap (λ (f : ℕ → Bool). f i) (own_name y (omega (arith, m, own_individuals))))
      x j (omega (arith, l, own_individuals)) (λ p. ap (λ (f : ℕ → Bool). f j) (own_name x l))
      ∙ go (part_at (parts_of k) j) refl
    where
      go : (p : Part) → part_at (parts_of k) j ≡ p
          → part_by I (λ y i. plain_at I (part_at (parts_of k) i) y) p x j ≡ read_part I (part_at (parts_of k)) p x
      go (name_p t) q = ap (λ (p : Part). plain_at I p x) q
      go (fresh_p g b) q = ap (λ (p : Part). plain_at I p x) q
      go (exists_p g u f) q = refl
      go (forall_p g u f) q = refl

  -- its dominoes are those of the interpretation
  pub own_projection : (A R B : ℕ) → drawn_dominoes v d A R B ≡ projection I k A R B
  unfolding drawn_dominoes projection roles_between
  own_projection =
      projection_same (interpretation d) I k.roles c (has_part v d) (parts_in I (part_at (parts_of k))) own_individuals
      (λ x l. word_ext c _ _ (λ j h. own_part x j (omega (arith, l, own_individuals))))
      (λ x y lx ly. sym (own_roles x y (omega (arith, lx, own_individuals)) (omega (arith, ly, own_individuals))))

  -- and it breaks nothing exactly if the interpretation is a model
  pub own_models : breach v d ≡ unbroken ↔ models I k ≡ true
  own_models = (
    holds_models limit sheet k e d I own_drawn,
    λ h. canonical_holds limit sheet k e d (λ A R B m. model_dominoes limit sheet k e I h A R B (sym (own_projection A R B) ∙ m)),
  )
