use Rattle.owl_import.specs.RecordsOf.{put_role, put_concept}
use Rattle.owl_import.specs.Grammar.{role, concept}
use Rattle.owl_import.proofs.Stepping.{leaves, concept_top, concept_bottom, concept_named, not_open, not_stop, not_done, intersection, union, some_values, all_values, joined, operands_open, operands_first, operands_second, operands_done, concept_wrong}
use Rattle.owl_import.proofs.parser.Parser.+concept.Goals as goal

pub concept-returns-in-Thing-clause-reads : goal.concept-returns-in-Thing-clause-reads
concept-returns-in-Thing-clause-reads t c =
    concept_top _ _ _ c.next-word.ensures _ _ c.in-Thing.is c.leaf.ensures.reads

pub concept-returns-in-Nothing-clause-reads : goal.concept-returns-in-Nothing-clause-reads
concept-returns-in-Nothing-clause-reads t c =
    concept_bottom _ _ _ c.next-word.ensures _ _ c.in-Nothing.is c.leaf-in-Nothing.ensures.reads

pub concept-returns-in-ClassNamed-clause-reads : goal.concept-returns-in-ClassNamed-clause-reads
concept-returns-in-ClassNamed-clause-reads t c =
    concept_named _ _ _ c.next-word.ensures _ _ c.in-ClassNamed.n c.in-ClassNamed.is c.leaf-in-ClassNamed.ensures.reads

pub concept-returns-in_err-open-in-ComplementOf-clause-reads : goal.concept-returns-in_err-open-in-ComplementOf-clause-reads
concept-returns-in_err-open-in-ComplementOf-clause-reads t c =
    rw (leaves _ _ c.from_residual.ensures.1) (not_open _ _ _ c.next-word.ensures c.in-ComplementOf.is _ _ _ c.in_err-open-in-ComplementOf.ensures.reads)

pub concept-returns-in_err-i-in-ComplementOf-clause-reads : goal.concept-returns-in_err-i-in-ComplementOf-clause-reads
concept-returns-in_err-i-in-ComplementOf-clause-reads t c =
    let o = c.in_ok-open-in-ComplementOf.ensures in
    rw (leaves _ _ c.from_residual-in_err-i-in-ComplementOf.ensures.1) (not_stop _ _ _ c.next-word.ensures c.in-ComplementOf.is _ _ o.reads o.opens _ _ _ c.in_err-i-in-ComplementOf.ensures.reads)

pub concept-returns-in_ok-i-in-ComplementOf-clause-reads : goal.concept-returns-in_ok-i-in-ComplementOf-clause-reads
concept-returns-in_ok-i-in-ComplementOf-clause-reads t c =
    let o = c.in_ok-open-in-ComplementOf.ensures in
    not_done _ _ _ c.next-word.ensures c.in-ComplementOf.is _ _ o.reads o.opens _ _ _ _ c.in_ok-i-in-ComplementOf.ensures.reads c.close.ensures.reads

pub concept-returns-in-IntersectionOf-clause-reads : goal.concept-returns-in-IntersectionOf-clause-reads
concept-returns-in-IntersectionOf-clause-reads t c =
    joined _ _ _ _ _ intersection _ _ _ c.next-word.ensures c.in-IntersectionOf.is _ _ c.pair.ensures.reads

pub concept-returns-in-UnionOf-clause-reads : goal.concept-returns-in-UnionOf-clause-reads
concept-returns-in-UnionOf-clause-reads t c =
    joined _ _ _ _ _ union _ _ _ c.next-word.ensures c.in-UnionOf.is _ _ c.pair-in-UnionOf.ensures.reads

pub concept-returns-in-SomeValuesFrom-clause-reads : goal.concept-returns-in-SomeValuesFrom-clause-reads
concept-returns-in-SomeValuesFrom-clause-reads t c =
    joined _ _ _ _ _ some_values _ _ _ c.next-word.ensures c.in-SomeValuesFrom.is _ _ c.restriction.ensures.reads

pub concept-returns-in-AllValuesFrom-clause-reads : goal.concept-returns-in-AllValuesFrom-clause-reads
concept-returns-in-AllValuesFrom-clause-reads t c =
    joined _ _ _ _ _ all_values _ _ _ c.next-word.ensures c.in-AllValuesFrom.is _ _ c.restriction-in-AllValuesFrom.ensures.reads

pub concept-returns-in_default-clause-reads : goal.concept-returns-in_default-clause-reads
concept-returns-in_default-clause-reads t c =
    let d = c.in_default in
    concept_wrong _ _ _ c.next-word.ensures _ _ c.wrong.ensures d.not-Thing d.not-Nothing d.not-ClassNamed d.not-ComplementOf d.not-IntersectionOf d.not-UnionOf d.not-SomeValuesFrom d.not-AllValuesFrom

pub pair-returns-in_err-open-clause-reads : goal.pair-returns-in_err-open-clause-reads
pair-returns-in_err-open-clause-reads t c =
    rw (leaves _ _ c.from_residual.ensures.1) (operands_open concept put_concept _ _ _ _ _ c.in_err-open.ensures.reads)

pub pair-returns-in_err-left-clause-reads : goal.pair-returns-in_err-left-clause-reads
pair-returns-in_err-left-clause-reads t c =
    let o = c.in_ok-open.ensures in
    rw (leaves _ _ c.from_residual-in_err-left.ensures.1) (operands_first concept put_concept _ _ _ _ o.reads o.opens _ _ _ c.in_err-left.ensures.reads)

pub pair-returns-in_err-right-clause-reads : goal.pair-returns-in_err-right-clause-reads
pair-returns-in_err-right-clause-reads t c =
    let o = c.in_ok-open.ensures in
    let i = c.in_ok-left.ensures in
    rw (leaves _ _ c.from_residual-in_err-right.ensures.1) (operands_second concept put_concept _ _ _ _ o.reads o.opens _ _ i.reads i.moves _ _ _ c.in_err-right.ensures.reads)

pub pair-returns-clause-reads : goal.pair-returns-clause-reads
pair-returns-clause-reads t c =
    let o = c.in_ok-open.ensures in
    let i = c.in_ok-left.ensures in
    operands_done concept put_concept _ _ _ _ o.reads o.opens _ _ i.reads i.moves _ _ _ _ c.in_ok-right.ensures.reads c.close.ensures.reads

pub restriction-returns-in_err-open-clause-reads : goal.restriction-returns-in_err-open-clause-reads
restriction-returns-in_err-open-clause-reads t c =
    rw (leaves _ _ c.from_residual.ensures.1) (operands_open (λ _. role) put_role _ _ _ _ _ c.in_err-open.ensures.reads)

pub restriction-returns-in_err-role-clause-reads : goal.restriction-returns-in_err-role-clause-reads
restriction-returns-in_err-role-clause-reads t c =
    let o = c.in_ok-open.ensures in
    rw (leaves _ _ c.from_residual-in_err-role.ensures.1) (operands_first (λ _. role) put_role _ _ _ _ o.reads o.opens _ _ _ (λ d rs l st. c.in_err-role.ensures.reads rs st))

pub restriction-returns-in_err-filler-clause-reads : goal.restriction-returns-in_err-filler-clause-reads
restriction-returns-in_err-filler-clause-reads t c =
    let o = c.in_ok-open.ensures in
    let i = c.in_ok-role.ensures in
    rw (leaves _ _ c.from_residual-in_err-filler.ensures.1) (operands_second (λ _. role) put_role _ _ _ _ o.reads o.opens _ _ (λ d rs l st. i.reads rs st) i.moves _ _ _ c.in_err-filler.ensures.reads)

pub restriction-returns-clause-reads : goal.restriction-returns-clause-reads
restriction-returns-clause-reads t c =
    let o = c.in_ok-open.ensures in
    let i = c.in_ok-role.ensures in
    operands_done (λ _. role) put_role _ _ _ _ o.reads o.opens _ _ (λ d rs l st. i.reads rs st) i.moves _ _ _ _ c.in_ok-filler.ensures.reads c.close.ensures.reads
