-- Role inclusions as written, between two individuals: they are true on the role set from one to the other exactly if they hold between
-- the two, and an interpretation satisfies them exactly if they hold between each two.
use Prim.Native.Nat.{ℕ, ◌<◌}
use mathlib.Core.Path.{◌≡◌, refl, sym, ap, ◌∙◌, fun_ext}
use mathlib.Core.Bool.{Bool, true, not, ◌&&◌, ◌||◌}
use mathlib.Core.List.{List, [], ◌∷◌}
use Rattle.elimination.specs.Sets.{every}
use Rattle.elimination.proofs.Quantifiers.{all_intro, every_and}
use Rattle.syntax.specs.Concepts.{RoleInclusion}
use Rattle.syntax.specs.Truth.{rbox_on}
use Rattle.syntax.specs.Bounds.{All, InclusionBelow}
use Rattle.semantics.specs.Interpretations.{Interpretation, role_in, satisfies_inclusion, satisfies_rbox}
use Rattle.semantics.specs.Projection.{role_set}
use Rattle.semantics.proofs.Projecting.{role_in_lem}
use Rattle.drawings.specs.Meanings.{inclusions_between}

-- role inclusions are true on the role set from x to y exactly if they hold between x and y
pub rbox_between : (I : Interpretation) (L : ℕ) (x y : ℕ) (l : List RoleInclusion) → All (InclusionBelow L) l
    → rbox_on l (role_set L I.joined x y) ≡ inclusions_between I l x y
unfolding rbox_on inclusions_between
rbox_between I L x y [] b = refl
rbox_between I L x y (i ∷ l) b =
    rw (role_in_lem I.joined x y L i.left b.0.left, role_in_lem I.joined x y L i.right b.0.right, rbox_between I L x y l b.1) refl

-- an interpretation satisfies role inclusions exactly if they hold between each two individuals
pub inclusions_each : (I : Interpretation) (l : List RoleInclusion)
    → satisfies_rbox I l ≡ every I.individuals (λ x. every I.individuals (inclusions_between I l x))
unfolding satisfies_rbox satisfies_inclusion inclusions_between
inclusions_each I [] = sym (all_intro I.individuals _ (λ x l. all_intro I.individuals (inclusions_between I [] x) (λ y m. refl)))
inclusions_each I (i ∷ l) =
    let here : ℕ → ℕ → Bool = λ x y. not (role_in I.joined i.left x y) || role_in I.joined i.right x y in
    ap (λ (z : Bool). satisfies_inclusion I i && z) (inclusions_each I l)
    ∙ every_and I.individuals (λ x. every I.individuals (here x)) (λ x. every I.individuals (inclusions_between I l x))
    ∙ ap (every I.individuals) (fun_ext (λ x. every_and I.individuals (here x) (inclusions_between I l x)))

-- so role inclusions that are true on each role set hold
pub rbox_holds : (I : Interpretation) (L : ℕ) (l : List RoleInclusion) → All (InclusionBelow L) l
    → ((x y : ℕ) → x < I.individuals → y < I.individuals → rbox_on l (role_set L I.joined x y) ≡ true) → satisfies_rbox I l ≡ true
rbox_holds I L l b h =
    inclusions_each I l
    ∙ all_intro I.individuals _ (λ x lx. all_intro I.individuals _ (λ y ly. sym (rbox_between I L x y l b) ∙ h x y lx ly))
