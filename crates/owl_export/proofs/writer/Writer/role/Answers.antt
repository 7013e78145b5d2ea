-- A role by its node.
use mathlib.Core.Path.{sym, ◌∙◌}
use Rattle.std.specs.Prelude.{[], ◌∷◌, ◌++◌}
use Rattle.owl_words.specs.Words.{digits}
use Rattle.output.specs.Text.{text}
use Rattle.owl_export.proofs.Emitted.{emits_nothing, emits_cut, emits_over, emits_then, emits_as}
use Rattle.owl_export.proofs.Lines.{text_no-role, text_role, text_inverse, text_other-role, composed_text}
use Rattle.owl_export.proofs.writer.Writer.role.Goals as goal

pub returns-then-is_composed : goal.returns-then-is_composed
returns-then-is_composed c = rw (← composed_text _ (sym c.is_composed.ensures ∙ c.if-is_composed.true)) (emits_nothing _)

pub returns-in_default : goal.returns-in_default
unfolding text
returns-in_default c = emits_as _ _ _ _ _ (text_no-role _ _ _ c.in_default.ensures) c.name.ensures

pub returns-in-Role : goal.returns-in-Role
unfolding text
returns-in-Role c = emits_as _ _ _ _ _ (text_role _ _ _ _ c.in-Some.ensures _ c.in-Role.is) c.name-in-Role.ensures

pub returns-in_err-put-in-Inverse : goal.returns-in_err-put-in-Inverse
unfolding text
returns-in_err-put-in-Inverse c =
    rw (c.from_residual.ensures, ← text_inverse _ _ _ _ c.in-Some.ensures _ c.in-Inverse.is) (emits_cut (text "ObjectInverseOf(") ((text ":k" ++ digits c.in-Inverse.k) ++ (41 ∷ [])) c.args.self.now c.in_err-put-in-Inverse.ensures)

pub returns-in_err-name-in-Inverse : goal.returns-in_err-name-in-Inverse
unfolding text
returns-in_err-name-in-Inverse c =
    rw (c.from_residual-in_err-name-in-Inverse.ensures, ← text_inverse _ _ _ _ c.in-Some.ensures _ c.in-Inverse.is)
    (emits_over (text "ObjectInverseOf(") ((text ":k" ++ digits c.in-Inverse.k) ++ (41 ∷ [])) c.args.self.now _ c.in_ok-put-in-Inverse.ensures
    (emits_cut (text ":k" ++ digits c.in-Inverse.k) (41 ∷ []) c.put.new.self c.in_err-name-in-Inverse.ensures))

pub returns-in_ok-name-in-Inverse : goal.returns-in_ok-name-in-Inverse
unfolding text
returns-in_ok-name-in-Inverse c =
    emits_as _ _ _ _ _ (text_inverse _ _ _ _ c.in-Some.ensures _ c.in-Inverse.is)
    (emits_then (text "ObjectInverseOf(") ((text ":k" ++ digits c.in-Inverse.k) ++ (41 ∷ [])) _ _ _ c.in_ok-put-in-Inverse.ensures _
    (emits_then (text ":k" ++ digits c.in-Inverse.k) (41 ∷ []) _ _ _ c.in_ok-name-in-Inverse.ensures _ c.put-in-Inverse.ensures))

pub returns-in_default-node : goal.returns-in_default-node
unfolding text
returns-in_default-node c =
    emits_as _ _ _ _ _
    (text_other-role _ _ _ _ c.in-Some.ensures (sym c.is_composed.ensures ∙ c.if-is_composed.false) c.in_default-node.not-Role
    c.in_default-node.not-Inverse) c.name-in_default-node.ensures
