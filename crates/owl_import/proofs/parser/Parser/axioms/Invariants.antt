use Rattle.refusals.specs.declared.Refusal.{Refusal}
use Rattle.std.proofs.Common.{Result}
use Rattle.owl_import.specs.declared.parser.Parser.{Parser}
use Rattle.owl_import.specs.Steps.{AxiomsRead}
use Rattle.owl_import.proofs.parser.Parser.axioms.Given as goal

-- what is read from here on is what is read of the whole
abbrev pub invariant-loop-self : goal.invariant-loop-self
invariant-loop-self l = (r : Result (Unit {0}) Refusal) (t : Parser) → AxiomsRead l.self r t → AxiomsRead l.initial.self r t

abbrev pub decreases-loop-self : goal.decreases-loop-self
decreases-loop-self l = l.self.room
