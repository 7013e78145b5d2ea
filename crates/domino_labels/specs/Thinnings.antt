-- What sweeps over live labels leave.
use Rattle.std.specs.Prelude.{ℕ, ◌+◌, ◌^◌, ◌<◌, ◌≤◌, ◌≡◌, Bool, true, false, List}
use Rattle.bitset.specs.Bits.{look, size}
use Rattle.semantics.specs.Conditions.{View}
use Rattle.labels.specs.Labels.{supported, Covers, AllSupported}
use Rattle.domino_labels.specs.Fittings.{view_of}
use Rattle.domino_labels.specs.declared.live.Thinning.{Thinning}

-- the same words lent, and the same tables; the words may have changed
pub record Stays (s t : Thinning) : Type 0 where
  pub live : t.live.ghost_name ≡ s.live.ghost_name
  pub fitting : t.fitting ≡ s.fitting

-- labels went, of those from a to e, that lacked a witness when their turn came; if none went, each of them has its witnesses
pub record Thinned (v : View) (a e : ℕ) (ws vs : List ℕ) (moved : Bool) : Type 0 where
  pub part : (n : ℕ) → look vs n ≡ true → look ws n ≡ true
  pub covers : Covers v (look ws) → Covers v (look vs)
  pub still : moved ≡ false → (vs ≡ ws) × ((A : ℕ) → a ≤ A → A < e → look vs A ≡ true → supported v (look vs) A ≡ true)
  pub fewer : moved ≡ true → size (2 ^ v.parts) (look vs) < size (2 ^ v.parts) (look ws)

-- the same of lent words
pub record ThinnedFrom (a e : ℕ) (s t : Thinning) (moved : Bool) : Type 0 where
  pub stays : Stays s t
  pub thinned : Thinned (view_of s.fitting.now) a e s.live.now t.live.now moved

abbrev pub ThinnedLabel : ℕ → Thinning → Thinning → Bool → Type 0
ThinnedLabel a s t moved = ThinnedFrom a (a + 1) s t moved

abbrev pub ThinnedOnce : Thinning → Thinning → Bool → Type 0
ThinnedOnce s t moved = ThinnedFrom 0 (2 ^ (view_of s.fitting.now).parts) s t moved

-- labels went until each that is left has its witnesses
pub record Rested (v : View) (ws vs : List ℕ) : Type 0 where
  pub part : (n : ℕ) → look vs n ≡ true → look ws n ≡ true
  pub covers : Covers v (look ws) → Covers v (look vs)
  pub supported : AllSupported v (look vs)

pub record ThinnedAll (s t : Thinning) : Type 0 where
  pub stays : Stays s t
  pub rested : Rested (view_of s.fitting.now) s.live.now t.live.now
