-- A role by its node, or none.
use Rattle.std.proofs.Common.{None}
use Rattle.flattening.proofs.NodeForms.{role_says}
use Rattle.flattening.proofs.RoleTrees.{outer_node, outer_rest}
use Rattle.flattening.proofs.sharing.outer_role.Goals as goal

pub returns-in_default : goal.returns-in_default
returns-in_default c = role_says _ _ _ None c.in_default.ensures

pub returns-in-Role : goal.returns-in-Role
returns-in-Role c = outer_node c.args.tree _ c.in-Some.ensures c.in-Role.is

pub returns-in_default-node : goal.returns-in_default-node
returns-in_default-node c =
    let w = c.in_default-node in
    outer_rest c.args.tree _ c.in-Some.ensures w.not-Role w.not-Inverse w.not-RoleNot w.not-RoleAnd w.not-RoleOr
