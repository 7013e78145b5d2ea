-- The kind of a part and its filler, as the code has them, have the numbers of the definitions.
use Rattle.std.proofs.Common.{◌≡◌, ℕ, ◌<◌, refl, ap, ◌∙◌}
use Rattle.syntax.specs.Flatten.{everything, nothing, name_a, Filler, atomic, fresh, Part, name_p, fresh_p, exists_p, forall_p, part_at}
use Rattle.syntax.specs.Reading.{Kb, parts_of}
use Rattle.syntax.specs.Parts.{kind_of, filler_no, filler_of}
use Rattle.flattening.specs.declared.parts.Quantifier.{Quantifier}
use Rattle.flattening.specs.declared.parts.Quantifier.TheVariants.{Exists, Forall}
use Rattle.tbox.specs.declared.base.Base.{Base}
use Rattle.tbox.specs.declared.base.Kind.TheVariants.{Restriction}
use Rattle.tbox.specs.Promise.{filler_is, kind_is, kind_number, filler_number, part_in, Flattened}

pub kind_number_is : (p : Part) → kind_number (kind_is p) ≡ kind_of p
unfolding kind_number kind_of
kind_number_is (name_p t) = refl
kind_number_is (fresh_p g c) = refl
kind_number_is (exists_p g u f) = refl
kind_number_is (forall_p g u f) = refl

filler_no_is : (q : Quantifier) (f : Filler) → filler_number (Restriction q (filler_is f)) ≡ filler_no f
unfolding filler_number filler_no
filler_no_is q (atomic everything) = refl
filler_no_is q (atomic nothing) = refl
filler_no_is q (atomic (name_a t)) = refl
filler_no_is q (fresh j) = refl

pub filler_number_is : (p : Part) → filler_number (kind_is p) ≡ filler_of p
unfolding filler_number filler_of
filler_number_is (name_p t) = refl
filler_number_is (fresh_p g c) = refl
filler_number_is (exists_p g u f) = filler_no_is Exists f
filler_number_is (forall_p g u f) = filler_no_is Forall f

-- of a knowledge base that is loaded
module _ (k : Kb) (b : Base) (f : Flattened k b) where
  pub loaded_kind : (i : ℕ) → i < b.size.parts → kind_number (part_in b i).kind ≡ kind_of (part_at (parts_of k) i)
  loaded_kind i l = ap kind_number (f.kind i l) ∙ kind_number_is (part_at (parts_of k) i)

  pub loaded_filler : (i : ℕ) → i < b.size.parts → filler_number (part_in b i).kind ≡ filler_of (part_at (parts_of k) i)
  loaded_filler i l = ap filler_number (f.kind i l) ∙ filler_number_is (part_at (parts_of k) i)
