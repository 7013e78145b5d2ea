-- Laws on the flattened knowledge base as plain data: from what the code holds of a part to what is promised of it.
use Rattle.std.proofs.Common.{◌≡◌, ℕ, ◌+◌, ◌<◌, List, length, get_or, false, Option, Some, None, MatchOption, add-one, Ok, sym, ap, ◌∙◌, arith}
use Rattle.bitset.proofs.Laws.{word_at_none}
use Rattle.records.specs.Entries.{Entry}
use Rattle.syntax.specs.Concepts.{nodes_of, inclusions_of}
use Rattle.syntax.specs.Flatten.{atomic, Part, part_at}
use Rattle.syntax.specs.Parts.{role_holds}
use Rattle.syntax.specs.Reading.{parts_of}
use Rattle.flattening.specs.Origins.{atom_is, role_of, filler_at, part_of}
use Rattle.flattening.specs.declared.parts.Atom.{Atom}
use Rattle.flattening.specs.declared.parts.Quantifier.{Quantifier}
use Rattle.flattening.specs.declared.parts.Quantifier.TheVariants.{Exists, Forall}
use Rattle.flattening.specs.declared.parts.Source.{Source}
use Rattle.flattening.specs.declared.parts.Origin.TheVariants.{Name, Restriction}
use Rattle.tbox.specs.declared.admission.Admitted.{Admitted}
use Rattle.tbox.specs.declared.base.Filler.{Filler}
use Rattle.tbox.specs.declared.base.Filler.TheVariants.{Part as PartFiller}
use Rattle.tbox.specs.declared.base.Kind.TheVariants.{Restriction as RestrictionKind}
use Rattle.tbox.specs.declared.base.Part.{Part as PlainPart}
use Rattle.tbox.specs.declared.base.Base.{Base}
use Rattle.tbox.specs.Promise.{filler_is, kind_is, no_part, Loads}
use Rattle.tbox.specs.GoodLabels.{GoodOf}
use Rattle.tbox.specs.ClosedRoleSets.{ClosedOf}
use Rattle.tbox.specs.Admission.{kb_admitted, Reads}
use Rattle.tbox.specs.PlainData.{RoleOf, PartIs, PartsAre}
use Rattle.tbox.proofs.PartLists.{parts_at}
use Rattle.tbox.proofs.SheetsRead.{count-is}

-- a part with no role, and a restriction
pub no_role_is : (p : Part) (x : PlainPart) → x.kind ≡ kind_is p → ((w : ℕ) → w < 4 → get_or x.role w 0 ≡ 0) → role_holds p ≡ (λ R. false) → PartIs p x
no_role_is p x k z e = record { kind = k; role = λ w l. z w l ∙ rw e (sym (word_at_none w)) }

pub restriction_is : (es : List Entry) (i : ℕ) (q : Quantifier) (s : Source) (a : Option Atom) (f : Filler) (words : List ℕ) → f ≡ filler_is (filler_at i a) →
    RoleOf (role_of es s) words → PartIs (part_of es i (Restriction q s a)) (record { kind = RestrictionKind q f; role = words })
unfolding role_holds
restriction_is es i Exists s a f words e h = record { kind = ap (λ f. RestrictionKind Exists f) e; role = h }
restriction_is es i Forall s a f words e h = record { kind = ap (λ f. RestrictionKind Forall f) e; role = h }

-- a filler that needs a fresh name is the next part
pub filler_or_next : (i : ℕ) (a : Option Atom) (f : Filler) → MatchOption a (f ≡ PartFiller (i + 1)) (λ x. f ≡ filler_is (atomic (atom_is x))) →
    f ≡ filler_is (filler_at i a)
filler_or_next i (Some x) f h = h
filler_or_next i None f h = rw add-one at h

-- what loading a sheet answers
module _ (sheet : List ℕ) (es : List Entry) (a : Admitted) (h : Reads sheet es a) where
  part_is : (xs : List PlainPart) → PartsAre es a.parts.now (length a.parts.now) xs →
      (i : ℕ) → i < length a.parts.now → PartIs (part_at (parts_of (kb_admitted es a)) i) (get_or xs i no_part)
  part_is xs m i l = rw (← h.parts, parts_at es a.parts.now i (Name 0) l) (m.each i (Name 0) l)

  pub loads_whole : (b : Base) → b.names ≡ a.names → b.size.roles ≡ a.roles → b.size.parts ≡ length a.parts.now →
      PartsAre es a.parts.now (length a.parts.now) b.parts.items → GoodOf es a.names (length a.parts.now) b.good →
      ClosedOf (inclusions_of (nodes_of es)) b.closed → Loads sheet (Ok b)
  loads_whole b t l c m g i = (
    kb_admitted es a,
    h.reading,
    record {
      names = t;
      roles = l;
      count = c ∙ count-is sheet es a h;
      kind = λ i n. (part_is b.parts.items m i (omega arith)).kind;
      role = λ i w n. (part_is b.parts.items m i (omega arith)).role w;
      good = rw (← c) at g;
      closed = i;
    },
  )
