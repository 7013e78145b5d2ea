-- Those to one member more.
use Rattle.std.proofs.Common.{◌≡◌, ◌+◌, arith}
use Rattle.drawing_layers.specs.Pieces.{reach_with}
use Rattle.drawing_layers.proofs.Lengths.{reach_found, summed_next, with_few, some_few}
use Rattle.drawing_layers.proofs.layers.Layers.reach.Goals as goal

here : (c : goal.After-role_count-in-loop-j) → c.role_count.result + c.role_count-in-loop-j.result
    ≡ reach_with c.args.self.now.size.parts c.args.self.now.size.roles c.args.self.now.members.now c.args.i c.loop-j.j
here c =
    reach_found c.args.self.now c.args.i c.loop-j.j (c.roles_after.ensures c.args.i c.sides-sides.ensures)
    (c.roles_before.ensures c.args.i c.sides-sides.ensures) c.role_count.ensures c.role_count-in-loop-j.ensures

pub overflow_add-count : goal.overflow_add-count
overflow_add-count c = omega (arith, here c, with_few c.args.self.now)

pub overflow_add-count-in-loop-j : goal.overflow_add-count-in-loop-j
overflow_add-count-in-loop-j c =
    omega (arith, here c, with_few c.args.self.now c.args.i c.loop-j.j, some_few c.args.self.now c.args.i c.loop-j.j)

pub loop-j-preserved : goal.loop-j-preserved
loop-j-preserved c = omega (arith, here c, summed_next)
