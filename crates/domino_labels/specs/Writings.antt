-- What is put into lent words, run after run and row after row.
use Rattle.std.specs.Prelude.{ℕ, ◌+◌, ◌≡◌, ◌&&◌}
use Rattle.bitset.specs.Bits.{Set, look}
use Rattle.bitset.specs.Runs.{Added}
use Rattle.semantics.specs.Conditions.{View, dominoes}
use Rattle.semantics.specs.Dominoes.{number, left_of, roles_of, right_of_lem}
use Rattle.labels.specs.Labels.{fits_both, spanned_set}
use Rattle.domino_labels.specs.Fittings.{view_of}
use Rattle.domino_labels.specs.declared.fitting.Row.{Row}
use Rattle.domino_labels.specs.declared.writing.Writing.{Writing}

-- the right label of domino n is in the set, and the domino fits both ways
unfoldable pub matched : View → Set → Set
matched v Λ n =
    Λ (right_of_lem v.parts n)
    && fits_both v (left_of v.parts v.roles n) (roles_of v.parts v.roles n) (right_of_lem v.parts n)

-- the row is one of the same tables
abbrev pub OwnRow : Writing → Row → Type 0
OwnRow s row = row.fitting.now ≡ s.fitting.now

-- the same words lent, the same tables and live labels; the words may have changed
pub record Stays (s t : Writing) : Type 0 where
  pub set : t.set.ghost_name ≡ s.set.ghost_name
  pub fitting : t.fitting ≡ s.fitting
  pub live : t.live ≡ s.live

-- from b to e what passes the test is put in
pub record Puts (test : View → Set → Set) (b e : ℕ) (s t : Writing) (count : ℕ) : Type 0 where
  pub stays : Stays s t
  pub added : Added (test (view_of s.fitting.now) (look s.live.now)) b e s.set.now t.set.now count

-- where the run (a, r, _) begins
abbrev pub run_of : Writing → ℕ → ℕ → ℕ
run_of s a r = number (view_of s.fitting.now).parts (view_of s.fitting.now).roles a r 0

abbrev pub PutsRun : ℕ → ℕ → Writing → Writing → ℕ → Type 0
PutsRun a r s t count = Puts matched (run_of s a r) (run_of s a (r + 1)) s t count

-- of the row (a, _, _), and of all dominoes
abbrev pub PutsRow : ℕ → Writing → Writing → ℕ → Type 0
PutsRow a s t count = Puts spanned_set (run_of s a 0) (run_of s (a + 1) 0) s t count

abbrev pub PutsAll : Writing → Writing → ℕ → Type 0
PutsAll s t count = Puts spanned_set 0 (dominoes (view_of s.fitting.now)) s t count
