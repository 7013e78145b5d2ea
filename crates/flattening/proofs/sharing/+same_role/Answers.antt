-- Two roles by their outermost records.
use Rattle.std.proofs.Common.{refl, sym, ◌∙◌}
use Rattle.syntax.specs.Concepts.{named, inverse, not_r, and_r, or_r}
use Rattle.flattening.proofs.RoleTrees.{records_same, outer_is, unlike, leaf_same, not_same, both_then, both_else}
use Rattle.flattening.proofs.sharing.+same_role.Goals as goal

pub returns-then-same_record : goal.returns-then-same_record
returns-then-same_record t c = records_same _ _ _ _ _ _ refl (c.same_record.ensures c.if-same_record.true)

pub returns-in-Role-Role : goal.returns-in-Role-Role
returns-in-Role-Role t c = leaf_same _ _ named (λ m n e. cc) _ _ c.in-Role-Role.ensures c.in-Role-Role.ensures'

pub returns-in-Inverse-Inverse : goal.returns-in-Inverse-Inverse
returns-in-Inverse-Inverse t c = leaf_same _ _ inverse (λ m n e. cc) _ _ c.in-Inverse-Inverse.ensures c.in-Inverse-Inverse.ensures'

pub returns-in-RoleNot-RoleNot : goal.returns-in-RoleNot-RoleNot
returns-in-RoleNot-RoleNot t c =
    let w = c.in-RoleNot-RoleNot in
    not_same _ _ _ _ w.ensures.1 w.ensures'.1 _ (rw (c.from-i.ensures, c.from-j.ensures) at c.same_role.ensures)

pub returns-then-same_role : goal.returns-then-same_role
returns-then-same_role t c =
    let w = c.in-RoleAnd-RoleAnd in
    both_then _ _ and_r (λ a c b d e. (cc, cc)) _ _ _ _ w.ensures.1 w.ensures'.1 _
    (rw (c.from-i.ensures, c.from-j.ensures) at c.same_role-in-RoleAnd-RoleAnd.ensures) c.if-same_role.true
    _ (rw (c.from-i.ensures, c.from-j.ensures) at c.same_role-then-same_role.ensures)

pub returns-else-same_role : goal.returns-else-same_role
returns-else-same_role t c =
    let w = c.in-RoleAnd-RoleAnd in
    both_else _ _ and_r (λ a c b d e. (cc, cc)) _ _ _ _ w.ensures.1 w.ensures'.1 _
    (rw (c.from-i.ensures, c.from-j.ensures) at c.same_role-in-RoleAnd-RoleAnd.ensures) c.if-same_role.false

pub returns-then-same_role-2 : goal.returns-then-same_role-2
returns-then-same_role-2 t c =
    let w = c.in-RoleOr-RoleOr in
    both_then _ _ or_r (λ a c b d e. (cc, cc)) _ _ _ _ w.ensures.1 w.ensures'.1 _
    (rw (c.from-i.ensures, c.from-j.ensures) at c.same_role-in-RoleOr-RoleOr.ensures) c.if-same_role-2.true
    _ (rw (c.from-i.ensures, c.from-j.ensures) at c.same_role-then-same_role-2.ensures)

pub returns-else-same_role-2 : goal.returns-else-same_role-2
returns-else-same_role-2 t c =
    let w = c.in-RoleOr-RoleOr in
    both_else _ _ or_r (λ a c b d e. (cc, cc)) _ _ _ _ w.ensures.1 w.ensures'.1 _
    (rw (c.from-i.ensures, c.from-j.ensures) at c.same_role-in-RoleOr-RoleOr.ensures) c.if-same_role-2.false

pub returns-in_default : goal.returns-in_default
returns-in_default t c =
    unlike _ _ (λ e. c.in_default.not-Role-1 _ (outer_is _ _ _ _ (named _) c.outer_role-2.ensures (sym e ∙ c.in_default.ensures)))

pub returns-in_default-2 : goal.returns-in_default-2
returns-in_default-2 t c =
    unlike _ _ (λ e. c.in_default.not-Inverse-1 _ (outer_is _ _ _ _ (inverse _) c.outer_role-2.ensures (sym e ∙ c.in_default.ensures)))

pub returns-in_default-3 : goal.returns-in_default-3
returns-in_default-3 t c =
    unlike _ _ (λ e. let w = outer_is _ _ _ _ (not_r _) c.outer_role-2.ensures (sym e ∙ c.in_default.ensures.1) in
    c.in_default.not-RoleNot-1 _ w.1)

pub returns-in_default-4 : goal.returns-in_default-4
returns-in_default-4 t c =
    unlike _ _ (λ e. let w = outer_is _ _ _ _ (and_r _ _) c.outer_role-2.ensures (sym e ∙ c.in_default.ensures.1) in
    c.in_default.not-RoleAnd-1 _ _ w.2)

pub returns-in_default-5 : goal.returns-in_default-5
returns-in_default-5 t c =
    unlike _ _ (λ e. let w = outer_is _ _ _ _ (or_r _ _) c.outer_role-2.ensures (sym e ∙ c.in_default.ensures.1) in
    c.in_default.not-RoleOr-1 _ _ w.2)
