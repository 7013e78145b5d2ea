use Rattle.std.proofs.Common.{◌≡◌, ◌≢◌, rules}
use Rattle.std.proofs.lemmas.Iterator.{first_from_find, YieldsList-from_slice}
use borrow.Author.Tests.{tests}
use Rattle.owl_words.proofs.Tokening.{found_entry}
use Rattle.owl_words.proofs.lookup.Goals as goal

pub returns : goal.returns
returns c =
    found_entry c.args.table.now c.args.w.now c.find.result
    (first_from_find c.find.new.self _ c.find.result (λ k. k.0.now ≡ c.args.w.now) (λ k. k.0.now ≢ c.args.w.now) c.find.ensures.ran
    (YieldsList-from_slice c.args.table.now cc) (λ x q k. search (rules, tests)) (λ x q k. search (rules, tests)))
    _ (search (rules))
