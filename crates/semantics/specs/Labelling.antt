-- Labels on the individuals of an interpretation.
use Rattle.std.specs.Prelude.{ℕ, ◌<◌, ◌≡◌, Bool, true, not, ◌&&◌, ◌||◌, List}
use Rattle.elimination.specs.Sets.{every, some}
use Rattle.syntax.specs.Concepts.{Role}
use Rattle.syntax.specs.Normal.{Tag}
use Rattle.syntax.specs.Flatten.{Filler, Part, name_p, exists_p, forall_p, Flat}
use Rattle.syntax.specs.Truth.{eval}
use Rattle.syntax.specs.Bounds.{All}
use Rattle.semantics.specs.Interpretations.{Interpretation, role_in}
use Rattle.semantics.specs.Views.{filler_in}

-- the labels `lab` (individual, part) fit an interpretation, where part k is m k and the flattened axioms are fs: they have the
-- names, a restriction is in a label exactly if it holds of the labels that its role leads to, and every flattened axiom is
-- true on every label. A fresh name need not be its filler.
pub record Labelling (I : Interpretation) (m : ℕ → Part) (fs : List Flat) (lab : ℕ → ℕ → Bool) : Type 0 where
  pub names : (x t : ℕ) → x < I.individuals → m t ≡ name_p t → lab x t ≡ I.has x t
  pub existentials : (x k : ℕ) (g : Tag) (u : Role) (f : Filler) → x < I.individuals → m k ≡ exists_p g u f
      → lab x k ≡ some I.individuals (λ y. role_in I.joined u x y && filler_in f (lab y))
  pub universals : (x k : ℕ) (g : Tag) (u : Role) (f : Filler) → x < I.individuals → m k ≡ forall_p g u f
      → lab x k ≡ every I.individuals (λ y. not (role_in I.joined u x y) || filler_in f (lab y))
  pub kb : All (λ f. (x : ℕ) → x < I.individuals → eval (lab x) f ≡ true) fs
