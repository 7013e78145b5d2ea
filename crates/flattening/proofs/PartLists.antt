-- Laws on lists of origins: what a part more adds, and one step after another.
use Rattle.std.proofs.Common.{ℕ, suc, ◌+◌, ◌<◌, ◌≡◌, List, [], ◌∷◌, ◌++◌, length, Ok, Err, Option, Some, None, refl, sym, ap, ◌∙◌, arith, length-append, append_assoc, add-one}
use mathlib.Core.Bool.{false≢true}
use mathlib.Core.List.{append-nil}
use mathlib.Core.Option.{Option as Maybe, none, some}
use Rattle.std.specs.Result.{IsErr, OnOk, OnErr}
use Rattle.records.specs.Entries.{Entry}
use Rattle.syntax.specs.Flatten.{Atom, Part, atomic, name_parts_lem, placed, meet_one}
use Rattle.syntax.specs.Normal.{Nf}
use Rattle.syntax.specs.Answers.{part_bytes}
use Rattle.flattening.specs.Origins.{atom_is, restriction, tag_of, role_of, part_of, parts_from, parts_in, slot_bytes}
use Rattle.flattening.specs.Adding.{Outcome, Adds, AddsParts, met, Meets}
use Rattle.flattening.specs.AlikeParts.{FoundAlike}
use Rattle.flattening.specs.declared.parts.TooMany.{TooMany}
use Rattle.flattening.specs.declared.parts.Atom.{Atom as CodeAtom}
use Rattle.flattening.specs.declared.parts.Quantifier.{Quantifier}
use Rattle.flattening.specs.declared.parts.Source.{Source}
use Rattle.flattening.specs.declared.parts.Origin.{Origin}
use Rattle.flattening.specs.declared.parts.Origin.TheVariants.{Name, Fresh, Restriction}
use Rattle.flattening.specs.declared.parts.Quantifier.TheVariants.{Exists, Forall}

-- an answer that is too many
pub at_err : (P : Outcome → Type 0) (r : Outcome) → IsErr r → ((e : TooMany) → P (Err e)) → P r
at_err P (Ok u) h f = absurd (false≢true h)
at_err P (Err e) h f = f e

pub parts_length : (es : List Entry) (k : ℕ) (os : List Origin) → length (parts_from es k os) ≡ length os
unfolding parts_from
parts_length es k [] = refl
parts_length es k (o ∷ os) = omega (arith, parts_length es (suc k) os)

push_from : (es : List Entry) (k l : ℕ) (os : List Origin) (o : Origin) → k + length os ≡ l →
    parts_from es k (os ++ (o ∷ [])) ≡ parts_from es k os ++ (part_of es l o ∷ [])
unfolding parts_from
push_from es k l [] o e = let q : k ≡ l = omega arith in rw q refl
push_from es k l (p ∷ os) o e = let q : suc k + length os ≡ l = omega arith in rw (push_from es (suc k) l os o q)

-- a part more
pub parts_push : (es : List Entry) (os : List Origin) (o : Origin) → parts_in es (os ++ (o ∷ [])) ≡ parts_in es os ++ (part_of es (length os) o ∷ [])
parts_push es os o = push_from es 0 (length os) os o (omega arith)

module _ (es : List Entry) (f : List Part → List Part) (before after : List Origin) where
  -- the exit where there are too many
  pub adds_over : {room : ℕ} (r : Outcome) → IsErr r → room < length (parts_in es before ++ f (parts_in es before)) →
      Adds room es f before after r
  adds_over (Ok u) h l = absurd (false≢true h)
  adds_over (Err e) h l = l

  -- what adds the same
  pub adds_as : (room : ℕ) (g : List Part → List Part) (r : Outcome) → g (parts_in es before) ≡ f (parts_in es before) →
      Adds room es f before after r → Adds room es g before after r
  adds_as room g (Ok u) e a = rw e a
  adds_as room g (Err x) e a = rw e a

-- nothing
pub adds_nothing : (es : List Entry) (f : List Part → List Part) (os : List Origin) → f (parts_in es os) ≡ [] → parts_in es os ≡ parts_in es os ++ f (parts_in es os)
adds_nothing es f os e = rw (e, append-nil)

-- more in front is too many still
pub longer : {room : ℕ} (so a b : List Part) → room < length (so ++ a) → room < length (so ++ (a ++ b))
longer so a b h = rw (← append_assoc so a b, length-append (so ++ a) b) (omega arith)

-- first f, then g
abbrev pub both : (f g : List Part → List Part) → List Part → List Part
both f g so = f so ++ g (so ++ f so)

module _ (es : List Entry) (f g : List Part → List Part) (before : List Origin) where
  pub adds_then : (room : ℕ) (mid after : List Origin) (r : Outcome) → parts_in es mid ≡ parts_in es before ++ f (parts_in es before) →
      Adds room es g mid after r → Adds room es (both f g) before after r
  adds_then room mid after (Ok u) e a = rw e at a ∙ append_assoc (parts_in es before) _ _
  adds_then room mid after (Err x) e a = rw (← append_assoc (parts_in es before) (f (parts_in es before))) (rw e at a)

  pub adds_cut : {room : ℕ} (after : List Origin) (r : Outcome) → IsErr r →
      room < length (parts_in es before ++ f (parts_in es before)) → Adds room es (both f g) before after r
  adds_cut after r h l = adds_over es (both f g) before after r h (longer (parts_in es before) (f (parts_in es before)) _ l)

-- a part put at the end
pub adds_push : (room : ℕ) (es : List Entry) (before after : List Origin) (o : Origin) (r : Outcome) →
    OnOk r (after ≡ before ++ (o ∷ [])) → OnErr r (length before ≡ room) → Adds room es (λ so. part_of es (length before) o ∷ []) before after r
adds_push room es before after o (Ok u) p q = rw p (parts_push es before o)
adds_push room es before after o (Err x) p q =
    let l = parts_length es 0 before in
    rw length-append (omega arith)

-- ---- a restriction met

module _ (es : List Entry) (q : Quantifier) (s : Source) (before : List Origin) (o : Maybe Atom) where
  abbrev whole : Option CodeAtom → Origin
  whole a = Restriction q s a

  abbrev alone : CodeAtom → Part
  alone a = restriction q (tag_of s) (role_of es s) (atomic (atom_is a))

  -- its filler needs a fresh name
  pub met_fresh : (room : ℕ) (mid after : List Origin) (r : Outcome) → none ≡ o → mid ≡ before ++ (whole None ∷ []) →
      OnOk r (after ≡ mid ++ (Fresh s ∷ [])) → OnErr r (length mid ≡ room) → Meets room es q s o before after r
  unfolding meet_one
  met_fresh room mid after r e m p f =
      rw (← e)
      (adds_as es (λ so. part_of es (length before) (whole None) ∷ part_of es (length mid) (Fresh s) ∷ []) before after room (met es q s none) r
      (rw (parts_length es 0 before) refl)
      (adds_then es (λ so. part_of es (length before) (whole None) ∷ []) (λ so. part_of es (length mid) (Fresh s) ∷ []) before room mid after r
      (rw m (parts_push es before (whole None))) (adds_push room es mid after (Fresh s) r p f)))

  pub met_over : {room : ℕ} (after : List Origin) (r : Outcome) → none ≡ o → IsErr r → length before ≡ room → Meets room es q s o before after r
  unfolding meet_one
  met_over after r e h l =
      rw (← e) (adds_over es (met es q s none) before after r h (let e = parts_length es 0 before in rw length-append (omega arith)))

  -- a part alike is there, or is not
  pub met_shared : (a : CodeAtom) (j : ℕ) (after : List Origin) → some (atom_is a) ≡ o → FoundAlike es before q (role_of es s) a (Some j) → after ≡ before →
      parts_in es after ≡ parts_in es before ++ met es q s o (parts_in es before)
  unfolding meet_one placed
  met_shared a j after e f m =
      rw (← e, m) (adds_nothing es (met es q s (some (atom_is a))) before (ap (λ (o : Maybe ℕ). (placed (alone a) (parts_in es before) o).parts) (sym (f (tag_of s)))))

  pub met_new : (room : ℕ) (a : CodeAtom) (after : List Origin) (r : Outcome) → some (atom_is a) ≡ o → FoundAlike es before q (role_of es s) a None →
      OnOk r (after ≡ before ++ (whole (Some a) ∷ [])) → OnErr r (length before ≡ room) → Meets room es q s o before after r
  unfolding meet_one placed
  met_new room a after r e f p l =
      rw (← e)
      (adds_as es (λ so. part_of es (length before) (whole (Some a)) ∷ []) before after room (met es q s (some (atom_is a))) r
      (ap (λ (o : Maybe ℕ). (placed (alone a) (parts_in es before) o).parts) (sym (f (tag_of s))))
      (adds_push room es before after (whole (Some a)) r p l))

-- ---- the names

pub names_push : (es : List Entry) (os after : List Origin) (i : ℕ) → after ≡ os ++ (Name i ∷ []) → parts_in es os ≡ name_parts_lem i →
    parts_in es after ≡ name_parts_lem (i + 1)
unfolding name_parts_lem
names_push es os after i e h = rw (e, add-one) (rw h at (parts_push es os (Name i)))

-- ---- going through a concept

pub adds_same : (room : ℕ) (es : List Entry) (c d : Nf) (before after : List Origin) (r : Outcome) → d ≡ c →
    AddsParts room es c before after r → AddsParts room es d before after r
adds_same room es c d before after r e a = rw e a

-- ---- the bytes of a part

pub slot_bytes_of : (es : List Entry) (k : ℕ) (o : Origin) → slot_bytes o ≡ part_bytes (part_of es k o)
unfolding slot_bytes part_bytes
slot_bytes_of es k (Name t) = refl
slot_bytes_of es k (Fresh s) = refl
slot_bytes_of es k (Restriction Exists s a) = refl
slot_bytes_of es k (Restriction Forall s a) = refl
