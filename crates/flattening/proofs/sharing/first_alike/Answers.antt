-- The test of the parts is that of being alike.
use Rattle.std.proofs.Common.{rules, ◌∙◌, tests}
use Rattle.std.proofs.lemmas.Iterator.{YieldsList-from_slice}
use Rattle.std.proofs.lemmas.Iterator.Search.{position_from_yields_List}
use Rattle.std.proofs.lemmas.Iterator.Adapters.{position_from-zero}
use Rattle.flattening.specs.Trees.{role_at}
use Rattle.flattening.proofs.AlikeSearch.{is_like, told_like, found_alike}
use Rattle.flattening.proofs.sharing.first_alike.Goals as goal

pub returns : goal.returns
returns c =
    let a = c.args in
    let test = is_like a.role.table.now a.quantifier (role_at a.role) a.filler in
    found_alike _ _ _ _ a.parts.now c.position.result
    (position_from_yields_List test _ _ c.position.result c.position.ensures.ran (YieldsList-from_slice a.parts.now cc) (λ x b q k. search (rules, tests, told_like))
    ∙ position_from-zero test a.parts.now)
