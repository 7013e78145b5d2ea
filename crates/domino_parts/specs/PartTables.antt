-- What the tables by role set hold.
use Rattle.std.specs.Prelude.{ℕ, ◌*◌, ◌^◌, ◌<◌, ◌≡◌, length, get_or, Some}
use Rattle.semantics.specs.Conditions.{View}
use Rattle.flattening.specs.declared.parts.Quantifier.TheVariants.{Exists, Forall}
use Rattle.domino_parts.specs.PartWords.{of_kind, on_role_set}
use Rattle.domino_parts.specs.declared.tables.PartTables.{PartTables}

-- the tables, made for the role sets below r
pub record PartTablesTo (v : View) (t : PartTables) (r : ℕ) : Type 0 where
  pub room : length t.holds ≡ 256
  pub existentials : t.existentials ≡ of_kind v (Some Exists)
  pub universals : t.universals ≡ of_kind v (Some Forall)
  pub holds : (R : ℕ) → R < r → get_or t.holds R 0 ≡ on_role_set v R

-- the whole of them
abbrev pub PartTablesOf : View → PartTables → Type 0
PartTablesOf v t = PartTablesTo v t (2 ^ (2 * v.roles))
