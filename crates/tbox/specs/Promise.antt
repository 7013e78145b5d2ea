-- The promise of the reader to the layers above: the flattened knowledge base as plain data (01, "the pairing conditions are
-- layered above the reader and rely on its promise alone").
use Rattle.std.specs.Prelude.{ℕ, ◌*◌, ◌^◌, ◌<◌, ◌≡◌, List, [], ◌∷◌, length, get_or, Result, Ok, Err}
use Rattle.bitset.specs.Bits.{word_at}
use Rattle.refusals.specs.Numbers.{number}
use Rattle.refusals.specs.declared.Refusal.{Refusal}
use Rattle.flattening.specs.declared.parts.Quantifier.TheVariants.{Exists, Forall}
use Rattle.tbox.specs.declared.base.Filler.{Filler}
use Rattle.tbox.specs.declared.base.Filler.TheVariants.{Everything, Nothing, Part as PartFiller}
use Rattle.tbox.specs.declared.base.Kind.{Kind}
use Rattle.tbox.specs.declared.base.Kind.TheVariants.{Name, Fresh, Restriction}
use Rattle.tbox.specs.declared.base.Part.{Part}
use Rattle.tbox.specs.declared.base.Base.{Base}
use Rattle.syntax.specs.Flatten.{everything, nothing, name_a, Filler as FillerOf, atomic, fresh, Part as PartOf, name_p, fresh_p, exists_p, forall_p, part_at}
use Rattle.syntax.specs.Truth.{kb_on, rbox_on}
use Rattle.syntax.specs.Reading.{Kb, refusal, kb, flats_of, parts_of, read_kb}
use Rattle.syntax.specs.Answers.{limit}
use Rattle.syntax.specs.Parts.{role_holds, everything_no, nothing_no}

-- the filler of a restriction, and the kind of a part, as the code has them
abbrev pub filler_is : FillerOf → Filler
filler_is (atomic everything) = Everything
filler_is (atomic nothing) = Nothing
filler_is (atomic (name_a t)) = PartFiller t
filler_is (fresh j) = PartFiller j

abbrev pub kind_is : PartOf → Kind
kind_is (name_p t) = Name
kind_is (fresh_p g c) = Fresh
kind_is (exists_p g u f) = Restriction Exists (filler_is f)
kind_is (forall_p g u f) = Restriction Forall (filler_is f)

-- their numbers: 0 name, 1 fresh, 2 existential, 3 universal; a filler's number, 0 for a name
unfoldable pub kind_number : Kind → ℕ
kind_number Name = 0
kind_number Fresh = 1
kind_number (Restriction Exists f) = 2
kind_number (Restriction Forall f) = 3

unfoldable pub filler_number : Kind → ℕ
filler_number Name = 0
filler_number Fresh = 0
filler_number (Restriction q Everything) = everything_no
filler_number (Restriction q Nothing) = nothing_no
filler_number (Restriction q (PartFiller j)) = j

-- part i; past the last a name
abbrev pub no_part : Part
no_part = record { kind = Name; role = 0 ∷ 0 ∷ 0 ∷ 0 ∷ [] }

abbrev pub part_in : Base → ℕ → Part
part_in b i = get_or b.parts.items i no_part

-- b is the flattened knowledge base k. Free: what `good` holds past the last word of labels.
pub record Flattened (k : Kb) (b : Base) : Type 0 where
  pub names : b.names ≡ k.names
  pub roles : b.size.roles ≡ k.roles
  pub count : b.size.parts ≡ length (parts_of k)
  pub kind : (i : ℕ) → i < b.size.parts → (part_in b i).kind ≡ kind_is (part_at (parts_of k) i)
  pub role : (i w : ℕ) → i < b.size.parts → w < 4 → get_or (part_in b i).role w 0 ≡ word_at (role_holds (part_at (parts_of k) i)) w
  pub good : (w : ℕ) → 64 * w < 2 ^ b.size.parts → get_or b.good w 0 ≡ word_at (kb_on (flats_of k)) w
  pub closed : (w : ℕ) → w < 4 → get_or b.closed w 0 ≡ word_at (rbox_on k.inclusions) w

-- what loading a sheet answers: the refusal, or the knowledge base
abbrev pub Loads : List ℕ → Result Base Refusal → Type 0
Loads sheet (Ok b) = (k : Kb) × (read_kb limit sheet ≡ kb k) × Flattened k b
Loads sheet (Err r) = read_kb limit sheet ≡ refusal (number r.reason) r.place
