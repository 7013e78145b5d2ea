-- What is read behind the kind lies within what is wanted, and the kind stays; both are what the reader gave.
use native.Mathlib.Omega.{arith}
use borrow.Author.Rules.{rules}
use Rattle.queue.proofs.Fitting.{wanted-some, wanted-most}
use Rattle.queue.proofs.Intake.{rest_read, step_read}
use Rattle.queue.proofs.read_step.Goals as goal

pub slice_bounds-read_all-count : goal.slice_bounds-read_all-count
slice_bounds-read_all-count g c = wanted-some _ _ _ c.wanted-all.ensures

pub slice_bounds-read_all-start : goal.slice_bounds-read_all-start
slice_bounds-read_all-start g c = wanted-some _ _ _ c.wanted-all.ensures

pub slice_bounds-read_all-end-3 : goal.slice_bounds-read_all-end-3
slice_bounds-read_all-end-3 g c = wanted-most _ _ _ c.wanted-all.ensures

pub returns-clause-bound : goal.returns-clause-bound
returns-clause-bound g c = rest_read _ _ _ _ _ (search rules) c.wanted-all.ensures (search rules) (omega (arith, c.in_ok-rest.ensures.bound.0))

pub returns-clause-bytes : goal.returns-clause-bytes
returns-clause-bytes g c =
    let first = c.in_ok-first.ensures in
    let rest = c.in_ok-rest.ensures in
    step_read _ _ _ _ _ _ _ _ _ (search rules) (search rules) c.if-first-eq0.false first.bound.0 first.bytes rest.bound.0 rest.bytes
