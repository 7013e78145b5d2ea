-- The invariant: the totals are those of slots that came. Each turn counts one more, of 4,096.
use Prim.Native.Nat.{◌-◌}
use Rattle.queue.specs.Lines.{most}
use Rattle.queue.specs.Steps.{Reached}
use Rattle.queue.proofs.serve.Given as goal

abbrev pub invariant-loop-next : goal.invariant-loop-next
invariant-loop-next g l = Reached l.t

abbrev pub decreases-loop-next : goal.decreases-loop-next
decreases-loop-next g l = most - l.t.sheets
