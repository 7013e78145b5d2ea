-- `drawing_rows::put_role` meets its contract: the number of the bit is put in, or its row is none of these.
use Prim.Native.Nat.{◌≤◌}
use native.Mathlib.Omega.{arith}
use Rattle.drawing_rows.proofs.Joining.{pair_out, pair_in}
use Rattle.drawing_rows.proofs.put_role.Goals as goal

pub returns-then-row-words : goal.returns-then-row-words
returns-then-row-words c =
    let r = c.requires.0 in
    let t = c.if-row-words.true in
    let h : c.args.start ≤ c.args.x = omega (arith, r.few, r.small, t) in
    rw c.insert.ensures
    (pair_in c.args.start c.args.x c.args.y c.args.b _ h c.requires.2 c.requires.3 _
    (omega (arith, r.few, r.small, t, h)) (omega (arith, r.few, r.small, r.whole, t, h)))

pub returns-else-row-words : goal.returns-else-row-words
returns-else-row-words c =
    let r = c.requires.0 in
    pair_out c.args.start c.args.x c.args.y c.args.b _ c.requires.2 c.requires.3
    (λ h. omega (arith, r.few, r.small, r.whole, c.if-row-words.false, h))
