use Rattle.std.proofs.Common.{ℕ, List, ◌++◌, drop, ap, ◌∙◌, length, arith}
use Rattle.owl_import.proofs.Stepping.{leaves}
use Rattle.owl_import.proofs.Importing.{import_refused, import_short, import_written}
use Rattle.owl_import.proofs.import.Goals as goal

pub returns-in_err-axioms : goal.returns-in_err-axioms
returns-in_err-axioms c =
    let n = c.new-parser.ensures in
    rw (leaves _ _ c.from_residual.ensures.1) (import_refused _ _ _ n.text n.rest n.room n.count n.bytes _ _ c.in_err-axioms.ensures)

pub returns-then-out-sheet : goal.returns-then-out-sheet
returns-then-out-sheet c =
    let n = c.new-parser.ensures in
    import_short _ _ _ n.text n.rest n.room n.count n.bytes _ _ c.in_ok-axioms.ensures _ c.of.ensures.0 c.of.ensures.1 (omega (arith, ap length c.as_slice-sheet.ensures.value))

pub returns : goal.returns
returns c =
    let n = c.new-parser.ensures in
    import_written _ _ _ n.text n.rest n.room n.count n.bytes _ _ c.in_ok-axioms.ensures _ _ (ap length c.as_slice-sheet.ensures.value) (omega arith)
    (ap (λ (l : List ℕ). l ++ drop (length c.as_slice-sheet.result.now) c.args.out.now) (c.copy_from_slice.ensures.after ∙ c.as_slice-sheet.ensures.value))
