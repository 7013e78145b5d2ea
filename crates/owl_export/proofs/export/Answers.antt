-- Read, then refusal 20, then the length, then the text.
use mathlib.Core.Path.{refl}
use native.Mathlib.Omega.{arith}
use borrow.Author.Rules.{rules}
use Rattle.std.proofs.lemmas.Result.{err_from_is_err_and}
use Rattle.owl_export.proofs.Exporting.{export_refused, export_beyond, export_short, export_written}
use Rattle.owl_export.proofs.export.Goals as goal

pub returns-in_err-read : goal.returns-in_err-read
returns-in_err-read c =
    let p = err_from_is_err_and c.from_residual.result c.from_residual.ensures.1 in
    rw (p.1, p.2) (export_refused _ _ _ c.in_err-read.ensures)

pub returns-in-Some : goal.returns-in-Some
returns-in-Some c = export_beyond _ _ _ _ c.in_ok-read.ensures _ c.in-Some.ensures _ c.at.ensures.0 c.at.ensures.1

pub returns-in_default-axioms : goal.returns-in_default-axioms
returns-in_default-axioms c =
    export_short _ _ _ _ c.in_ok-read.ensures c.in_default.ensures (omega (arith, c.in_default-axioms.ensures)) _ c.of.ensures.0 c.of.ensures.1

pub returns : goal.returns
returns c =
    export_written _ _ _ _ c.in_ok-read.ensures c.in_default.ensures _ c.axioms-2.new.self _ refl refl (omega (arith, c.in-Some-axioms-2.ensures.most))
    c.in-Some-axioms-2.ensures (search rules)
