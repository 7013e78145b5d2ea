use Rattle.std.proofs.Common.{sym, ap, ◌∙◌}
use Rattle.refusals.specs.Numbers.{number}
use Rattle.owl_import.specs.Grammar.{wrong_no}
use Rattle.owl_import.proofs.Stepping.{wrong_other}
use Rattle.owl_import.proofs.parser.Parser.wrong.Goals as goal

pub returns-in-Unknown : goal.returns-in-Unknown
unfolding wrong_no
returns-in-Unknown c = rw c.in-Unknown.is (record { number = ap number c.at.ensures.0; place = c.at.ensures.1 })

pub returns-in_default : goal.returns-in_default
returns-in_default c = record { number = ap number c.at-in_default.ensures.0 ∙ sym (wrong_other _ c.in_default.not-Unknown); place = c.at-in_default.ensures.1 }
