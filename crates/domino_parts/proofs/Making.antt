-- Tables made entry by entry.
use mathlib.Core.Path.{◌≡◌, ◌∙◌}
use mathlib.Core.List.{List}
use Prim.Native.Nat.{ℕ, ◌+◌, ◌<◌}
use native.Mathlib.Decide.{ℕ_discrete}
use native.Mathlib.Omega.{arith}
use lib.ListN.{get_or, set, length, length-set}
use lib.Seq.{get_or-set_same, get_or-set_other}
use Rattle.semantics.specs.Conditions.{View}
use Rattle.domino_parts.specs.declared.tables.PartTables.{PartTables}
use Rattle.domino_parts.specs.PartTables.{PartTablesTo}
use Rattle.domino_parts.specs.PartWords.{on_role_set}

-- one entry more, by a function of its number
pub set_next : (xs : List ℕ) (n x : ℕ) (f : ℕ → ℕ) → n < length xs → ((m : ℕ) → m < n → get_or xs m 0 ≡ f m) → x ≡ f n
    → (m : ℕ) → m < n + 1 → get_or (set xs n x) m 0 ≡ f m
set_next xs n x f h e i m l = go (ℕ_discrete m n)
  where
    go : Dec (m ≡ n) → get_or (set xs n x) m 0 ≡ f m
    go (yes q) = rw q (get_or-set_same xs n x 0 h ∙ i)
    go (no q) = get_or-set_other xs n m x 0 q ∙ e m (omega (arith, q))

pub made_holds : (v : View) (t : PartTables) (r x : ℕ) → PartTablesTo v t r → r < 256 → x ≡ on_role_set v r
    → PartTablesTo v (record { existentials = t.existentials; universals = t.universals; holds = set t.holds r x }) (r + 1)
made_holds v t r x a h e = record {
  room = length-set t.holds r x ∙ a.room;
  existentials = a.existentials;
  universals = a.universals;
  holds = set_next t.holds r x (on_role_set v) (omega (arith, a.room)) a.holds e;
}
