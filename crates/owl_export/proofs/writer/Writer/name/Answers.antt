use Prim.Native.Nat.{◌+◌, ◌-◌}
use native.Mathlib.Omega.{arith}
use mathlib.Core.Path.{◌≡◌}
use mathlib.Core.List.{append-nil}
use Rattle.owl_export.proofs.Emitted.{emits_then}
use Rattle.owl_export.proofs.Lines.{digits_one, digits_two, digits_none}
use Rattle.owl_export.proofs.writer.Writer.name.Goals as goal

pub returns-in-0-to-9 : goal.returns-in-0-to-9
returns-in-0-to-9 c =
    rw (digits_one c.args.n (omega arith)) (emits_then _ _ _ _ _ c.in_ok-put.ensures _ c.put-in-0-to-9.ensures)

pub returns-in-10-to-11 : goal.returns-in-10-to-11
returns-in-10-to-11 c =
    let e : 48 + (c.args.n - 10) ≡ 38 + c.args.n = omega arith in
    rw (digits_two c.args.n (omega arith) (omega arith), ← e) (emits_then _ _ _ _ _ c.in_ok-put.ensures _ c.put-in-10-to-11.ensures)

pub returns-in_default : goal.returns-in_default
returns-in_default c = rw (digits_none c.args.n (omega arith), append-nil) c.in_ok-put.ensures
