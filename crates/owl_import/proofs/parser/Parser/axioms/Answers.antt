use Rattle.owl_import.proofs.Stepping.{leaves}
use Rattle.owl_import.proofs.Importing.{axioms_end, axioms_stop, axioms_more, axioms_wrong}
use Rattle.owl_import.proofs.parser.Parser.axioms.Goals as goal

pub returns-in-Ending : goal.returns-in-Ending
returns-in-Ending c = c.loop-self.invariant _ _ (axioms_end _ _ _ c.next-word.ensures c.in-Ending.is)

pub loop-self-preserved : goal.loop-self-preserved
loop-self-preserved c r t h =
    let a = c.in_ok-pair-in-SubClassOf.ensures in
    c.loop-self.invariant r t (axioms_more _ _ _ c.next-word.ensures _ _ c.in-SubClassOf.is a.reads a.falls r t h)

pub returns-in_err-pair-in-SubClassOf : goal.returns-in_err-pair-in-SubClassOf
returns-in_err-pair-in-SubClassOf c =
    rw (leaves _ _ c.from_residual.ensures.1)
    (c.loop-self.invariant _ _ (axioms_stop _ _ _ c.next-word.ensures _ _ _ c.in-SubClassOf.is c.in_err-pair-in-SubClassOf.ensures.reads))

pub returns-in_default : goal.returns-in_default
returns-in_default c =
    c.loop-self.invariant _ _ (axioms_wrong _ _ _ c.next-word.ensures _ _ c.wrong.ensures c.in_default.not-Ending c.in_default.not-SubClassOf)
