-- Concepts by their nodes as fillers, read plainly and under a not.
use Rattle.std.proofs.Common.{true, false, None, sym, ap, ◌∙◌}
use Rattle.records.specs.declared.nodes.Node.TheVariants.{Everything, Name, Not}
use Rattle.syntax.specs.Concepts.{node_of, concept_below}
use Rattle.syntax.specs.Normal.{plain}
use Rattle.syntax.specs.Flatten.{atom}
use Rattle.flattening.proofs.NodeForms.{nf_says, atom_node, atom_compound, atom_rest}
use Rattle.flattening.proofs.parts.+negated_atom_into_plain_atom_into.Goals as goal

pub negated_atom_into-returns-in_default : goal.negated_atom_into-returns-in_default
unfolding plain atom
negated_atom_into-returns-in_default t c = ap atom (sym (nf_says _ _ _ true None c.in_default.ensures))

pub negated_atom_into-returns-in-Everything : goal.negated_atom_into-returns-in-Everything
unfolding node_of plain atom
negated_atom_into-returns-in-Everything t c = atom_node _ _ _ true _ Everything c.in-Some.ensures c.in-Everything.is

pub negated_atom_into-returns-in-Name : goal.negated_atom_into-returns-in-Name
unfolding node_of plain atom
negated_atom_into-returns-in-Name t c = atom_node _ _ _ true _ (Name _) c.in-Some.ensures c.in-Name.is

pub negated_atom_into-returns-in-Not : goal.negated_atom_into-returns-in-Not
unfolding node_of plain concept_below
negated_atom_into-returns-in-Not t c = rw c.from.ensures at c.plain_atom_into.ensures ∙ atom_node _ _ _ true _ (Not _) c.in-Some.ensures c.in-Not.is

pub negated_atom_into-returns-in-And : goal.negated_atom_into-returns-in-And
negated_atom_into-returns-in-And t c = atom_compound _ _ _ true _ c.in-Some.ensures c.in-And.is

pub negated_atom_into-returns-in_default-node : goal.negated_atom_into-returns-in_default-node
negated_atom_into-returns-in_default-node t c =
    let w = c.in_default-node in
    (atom_rest _ _ _ w.not-Not w.not-And w.not-Or w.not-Exists w.not-Forall _ c.in-Some.ensures w.not-Everything w.not-Name).1

pub plain_atom_into-returns-in_default : goal.plain_atom_into-returns-in_default
unfolding plain atom
plain_atom_into-returns-in_default t c = ap atom (sym (nf_says _ _ _ false None c.in_default.ensures))

pub plain_atom_into-returns-in-Everything : goal.plain_atom_into-returns-in-Everything
unfolding node_of plain atom
plain_atom_into-returns-in-Everything t c = atom_node _ _ _ false _ Everything c.in-Some.ensures c.in-Everything.is

pub plain_atom_into-returns-in-Name : goal.plain_atom_into-returns-in-Name
unfolding node_of plain atom
plain_atom_into-returns-in-Name t c = atom_node _ _ _ false _ (Name _) c.in-Some.ensures c.in-Name.is

pub plain_atom_into-returns-in-Not : goal.plain_atom_into-returns-in-Not
unfolding node_of plain concept_below
plain_atom_into-returns-in-Not t c = rw c.from.ensures at c.negated_atom_into.ensures ∙ atom_node _ _ _ false _ (Not _) c.in-Some.ensures c.in-Not.is

pub plain_atom_into-returns-in-And : goal.plain_atom_into-returns-in-And
plain_atom_into-returns-in-And t c = atom_compound _ _ _ false _ c.in-Some.ensures c.in-And.is

pub plain_atom_into-returns-in_default-node : goal.plain_atom_into-returns-in_default-node
plain_atom_into-returns-in_default-node t c =
    let w = c.in_default-node in
    (atom_rest _ _ _ w.not-Not w.not-And w.not-Or w.not-Exists w.not-Forall _ c.in-Some.ensures w.not-Everything w.not-Name).0
