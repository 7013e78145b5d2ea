use Rattle.std.proofs.Common.{◌≡◌, ◌≢◌, refl, sym, ap, ◌∙◌, rules}
use Rattle.owl_import.specs.Grammar.{wrong_no}
use Rattle.owl_import.specs.Steps.{Expects}
use Rattle.owl_import.proofs.parser.Parser.expect.Goals as goal

pub returns-then-eq-clause-reads : goal.returns-then-eq-clause-reads
unfolding Expects
returns-then-eq-clause-reads c =
    let n = c.next-word.ensures in
    let e : c.next-word.result.0 ≡ c.args.wanted = search rules in
    record { word = sym e ∙ n.word; place = refl; text = n.text; rest = n.rest; room = n.room; sheet = n.sheet }

pub returns-else-eq-clause-reads : goal.returns-else-eq-clause-reads
unfolding Expects
returns-else-eq-clause-reads c =
    let n = c.next-word.ensures in
    let e : c.next-word.result.0 ≢ c.args.wanted = search rules in
    ((λ q. e (n.word ∙ q)), record { number = c.wrong.ensures.number ∙ ap wrong_no n.word; place = c.wrong.ensures.place ∙ n.place })
