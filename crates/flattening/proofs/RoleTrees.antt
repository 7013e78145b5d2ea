-- Laws on roles written alike, by their outermost records.
use Rattle.std.proofs.Common.{ℕ, ◌≡◌, ◌<◌, ◌⊎◌, inl, inr, Bool, true, false, ◌&&◌, eqb, List, Some, refl, sym, ap, ◌∙◌, arith}
use mathlib.Core.Path.{ap₂}
use mathlib.Core.Bool.{false≢true, and-eq-true_iff}
use borrow.Author.Tests.{eqb-true, eq-eqb}
use Rattle.records.specs.Entries.{Entry}
use Rattle.records.specs.declared.nodes.Node.{Node}
use Rattle.records.specs.declared.nodes.Node.TheVariants.{Everything, Nothing, Name, Not, And, Or, Exists, Forall, Role, Inverse, RoleNot, RoleAnd, RoleOr, Axiom, RoleInclusion}
use Rattle.syntax.specs.Concepts.{Role as RoleTree, named, inverse, not_r, and_r, or_r, node_of, role_below}
use Rattle.syntax.specs.Flatten.{same_role_lem}
use Rattle.flattening.specs.Trees.{NodeOf, role_at}
use Rattle.flattening.specs.AlikeParts.{OuterBelow, Outer}
use Rattle.flattening.specs.declared.trees.Tree.{Tree}
use Rattle.syntax.proofs.Trees.{role-low}
use Rattle.syntax.proofs.Alike.{role_same, same_role_law}
use Rattle.flattening.proofs.NodeForms.{role_node}

-- ---- the outermost record

abbrev pub OfRole : Node → Type 0
OfRole n = ((k : ℕ) × n ≡ Role k) ⊎ ((k : ℕ) × n ≡ Inverse k) ⊎ ((a : ℕ) × n ≡ RoleNot a)
    ⊎ ((a : ℕ) × (b : ℕ) × n ≡ RoleAnd a b) ⊎ ((a : ℕ) × (b : ℕ) × n ≡ RoleOr a b)

module _ (t : Tree) (n : Node) (h : NodeOf t (Some n)) where
  pub outer_node : OfRole n → Outer t n
  unfolding node_of role_below
  outer_node (inl (k, q)) = rw q (role_node t.table.now t.below t.number n (Role k) h q)
  outer_node (inr (inl (k, q))) = rw q (role_node t.table.now t.below t.number n (Inverse k) h q)
  outer_node (inr (inr (inl (a, q)))) = rw q (h.0, role_node t.table.now t.below t.number n (RoleNot a) h q)
  outer_node (inr (inr (inr (inl (a, b, q))))) = rw q (h.0, role_node t.table.now t.below t.number n (RoleAnd a b) h q)
  outer_node (inr (inr (inr (inr (a, b, q))))) = rw q (h.0, role_node t.table.now t.below t.number n (RoleOr a b) h q)

  pub outer_rest : ((k : ℕ) → n ≡ Role k → ⊥) → ((k : ℕ) → n ≡ Inverse k → ⊥) → ((a : ℕ) → n ≡ RoleNot a → ⊥) →
      ((a b : ℕ) → n ≡ RoleAnd a b → ⊥) → ((a b : ℕ) → n ≡ RoleOr a b → ⊥) → role_at t ≡ named 0
  unfolding node_of
  outer_rest named_n inverse_n not_n and_n or_n = at n refl
    where
      at : (k : Node) → n ≡ k → role_at t ≡ named 0
      at (Role k) q = absurd (named_n k q)
      at (Inverse k) q = absurd (inverse_n k q)
      at (RoleNot a) q = absurd (not_n a q)
      at (RoleAnd a b) q = absurd (and_n a b q)
      at (RoleOr a b) q = absurd (or_n a b q)
      at Everything q = role_node t.table.now t.below t.number n Everything h q
      at Nothing q = role_node t.table.now t.below t.number n Nothing h q
      at (Name k) q = role_node t.table.now t.below t.number n (Name k) h q
      at (Not a) q = role_node t.table.now t.below t.number n (Not a) h q
      at (And a b) q = role_node t.table.now t.below t.number n (And a b) h q
      at (Or a b) q = role_node t.table.now t.below t.number n (Or a b) h q
      at (Exists a b) q = role_node t.table.now t.below t.number n (Exists a b) h q
      at (Forall a b) q = role_node t.table.now t.below t.number n (Forall a b) h q
      at (Axiom a b) q = role_node t.table.now t.below t.number n (Axiom a b) h q
      at (RoleInclusion a b) q = role_node t.table.now t.below t.number n (RoleInclusion a b) h q

-- the node of a role
abbrev pub NodeRole : Node → RoleTree → Type 0
NodeRole n (named k) = n ≡ Role k
NodeRole n (inverse k) = n ≡ Inverse k
NodeRole n (not_r u) = (a : ℕ) × n ≡ RoleNot a
NodeRole n (and_r u v) = (a : ℕ) × (b : ℕ) × n ≡ RoleAnd a b
NodeRole n (or_r u v) = (a : ℕ) × (b : ℕ) × n ≡ RoleOr a b

pub outer_is : (es : List Entry) (below r : ℕ) (n : Node) (u : RoleTree) → OuterBelow es below r n → role_below es below r ≡ u → NodeRole n u
outer_is es below r (Role k) u o q = rw (← q, o) refl
outer_is es below r (Inverse k) u o q = rw (← q, o) refl
outer_is es below r (RoleNot a) u o q = rw (← q, o.1) (a, refl)
outer_is es below r (RoleAnd a b) u o q = rw (← q, o.1) (a, b, refl)
outer_is es below r (RoleOr a b) u o q = rw (← q, o.1) (a, b, refl)
outer_is es below r Everything u o q = absurd o
outer_is es below r Nothing u o q = absurd o
outer_is es below r (Name k) u o q = absurd o
outer_is es below r (Not a) u o q = absurd o
outer_is es below r (And a b) u o q = absurd o
outer_is es below r (Or a b) u o q = absurd o
outer_is es below r (Exists a b) u o q = absurd o
outer_is es below r (Forall a b) u o q = absurd o
outer_is es below r (Axiom a b) u o q = absurd o
outer_is es below r (RoleInclusion a b) u o q = absurd o

-- ---- trees alike

same_iff : (u v : RoleTree) (b : Bool) → (b ≡ true → u ≡ v) → (u ≡ v → b ≡ true) → b ≡ same_role_lem u v
same_iff u v b f g = go b (same_role_lem u v) refl f g (role_same u v) (same_role_law u v)
  where
    go : (b c : Bool) → same_role_lem u v ≡ c → (b ≡ true → u ≡ v) → (u ≡ v → b ≡ true) → (c ≡ true → u ≡ v) → (u ≡ v → c ≡ true) → b ≡ c
    go true c q f g h k = sym (k (f refl))
    go false true q f g h k = g (h refl)
    go false false q f g h k = refl

-- one record of one table, whatever it is below
pub records_same : (es fs : List Entry) (m n a b : ℕ) → es ≡ fs → (a ≡ b) × (a < m) × (b < n) →
    true ≡ same_role_lem (role_below es m a) (role_below fs n b)
records_same es fs m n a b e w = sym (same_role_law (role_below es m a) (role_below fs n b) (go e w.0 w.1 w.2))
  where
    go : es ≡ fs → a ≡ b → a < m → b < n → role_below es m a ≡ role_below fs n b
    go e q l h = let k : b < m = omega arith in rw (e, q) (role-low fs m n b k h)

pub unlike : (u v : RoleTree) → (u ≡ v → ⊥) → false ≡ same_role_lem u v
unlike u v n = same_iff u v false (λ e. absurd (false≢true e)) (λ e. absurd (n e))

module _ (u v : RoleTree) where
  pub leaf_same : (op : ℕ → RoleTree) → ((m n : ℕ) → op m ≡ op n → m ≡ n) → (m n : ℕ) → u ≡ op m → v ≡ op n → eqb m n ≡ same_role_lem u v
  leaf_same op apart m n p q =
      rw (p, q) (same_iff (op m) (op n) (eqb m n) (λ e. ap op (eqb-true m n e)) (λ e. eq-eqb m n (apart m n e)))

  pub not_same : (a b : RoleTree) → u ≡ not_r a → v ≡ not_r b → (f : Bool) → f ≡ same_role_lem a b → f ≡ same_role_lem u v
  not_same a b p q f first =
      first ∙ rw (p, q) (same_iff (not_r a) (not_r b) (same_role_lem a b) (λ e. ap not_r (role_same a b e)) (λ e. same_role_law a b cc))

  -- and, or: the firsts alike and the seconds alike
  pub both_same : (op : RoleTree → RoleTree → RoleTree) → ((a c b d : RoleTree) → op a c ≡ op b d → (a ≡ b) × (c ≡ d)) → (a c b d : RoleTree) →
      u ≡ op a c → v ≡ op b d → same_role_lem a b && same_role_lem c d ≡ same_role_lem u v
  both_same op apart a c b d p q =
      rw (p, q) (same_iff (op a c) (op b d) (same_role_lem a b && same_role_lem c d)
      (λ e. let h = (and-eq-true_iff (same_role_lem a b) (same_role_lem c d)).0 e in ap₂ op (role_same a b h.0) (role_same c d h.1))
      (λ e. let h = apart a c b d e in rw (same_role_law a b h.0, same_role_law c d h.1)))

  -- the one and then the other
  module _ (op : RoleTree → RoleTree → RoleTree) (apart : (a c b d : RoleTree) → op a c ≡ op b d → (a ≡ b) × (c ≡ d)) (a c b d : RoleTree)
      (p : u ≡ op a c) (q : v ≡ op b d) (f : Bool) (first : f ≡ same_role_lem a b) where
    pub both_then : f ≡ true → (g : Bool) → g ≡ same_role_lem c d → g ≡ same_role_lem u v
    both_then t g second = rw (← first, t, ← second) at (both_same op apart a c b d p q)

    pub both_else : f ≡ false → f ≡ same_role_lem u v
    both_else t = rw (t) (rw (← first, t) at (both_same op apart a c b d p q))
