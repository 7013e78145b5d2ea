-- Laws on counting a list of parts, one after another.
use Rattle.std.proofs.Common.{◌≡◌, ℕ, ◌+◌, ◌<◌, List, [], ◌∷◌, ◌++◌, length, get_or, take, sym, ap, ◌∙◌, arith, length-take-le}
use Rattle.std.proofs.lemmas.List.{take_more}
use Rattle.records.specs.Entries.{Entry}
use Rattle.syntax.specs.Counts.{counts_of, sum_of}
use Rattle.syntax.proofs.Counting.{counts_sum, with_part, counts_push}
use Rattle.flattening.specs.Origins.{part_of, parts_in}
use Rattle.flattening.specs.declared.parts.Origin.{Origin}
use Rattle.flattening.proofs.PartLists.{parts_length, parts_push}
use Rattle.tbox.specs.declared.Counts.{Counts}
use Rattle.tbox.specs.Answers.{part_counts}
use Rattle.tbox.specs.CountedParts.{CountsParts}

module _ (os : List Origin) (i L : ℕ) (n : Counts) (c : CountsParts (take i os) L n) (l : i < length os) where
  -- as many are counted as were gone through
  pub counted_all : sum_of (part_counts n) ≡ i
  counted_all = ap sum_of (c.parts []) ∙ counts_sum (parts_in [] (take i os)) ∙ parts_length [] 0 (take i os) ∙ length-take-le i os (omega arith)

  -- the next one is counted
  pub counted_more : (m : Counts) (d o : Origin) → get_or os i d ≡ o →
      ((es : List Entry) → part_counts m ≡ with_part (part_of es i o) (part_counts n)) → m.roles ≡ n.roles → CountsParts (take (i + 1) os) L m
  counted_more m d o at e r =
      record {
        parts = λ es. e es
            ∙ ap (with_part (part_of es i o)) (c.parts es)
            ∙ ap (λ (k : ℕ). with_part (part_of es k o) (counts_of (parts_in es (take i os)))) (sym (length-take-le i os (omega arith)))
            ∙ sym (counts_push (parts_in es (take i os)) (part_of es (length (take i os)) o))
            ∙ ap counts_of (sym (parts_push es (take i os) o))
            ∙ ap (λ (l : List Origin). counts_of (parts_in es l)) (ap (λ (x : Origin). take i os ++ (x ∷ [])) (sym at) ∙ sym (take_more os i d l));
        roles = r ∙ c.roles;
      }
