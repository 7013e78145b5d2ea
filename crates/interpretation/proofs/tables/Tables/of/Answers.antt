-- `Tables::of` meets its contract.
use mathlib.Core.Path.{◌≡◌, ap, ◌∙◌}
use mathlib.Core.List.{List}
use Prim.Native.Nat.{ℕ, ◌+◌, ◌<◌}
use native.Mathlib.Omega.{arith}
use lib.ListN.{get_or, set, length-set}
use Rattle.semantics.specs.Conditions.{View}
use Rattle.domino_conditions.specs.Tables.{view}
use Rattle.domino_parts.specs.PartWords.{filled_by}
use Rattle.domino_parts.proofs.Making.{set_next}
use Rattle.interpretation.specs.declared.tables.Tables.{Tables}
use Rattle.interpretation.specs.Successors.{TablesTo}
use Rattle.interpretation.proofs.tables.Tables.of.Goals as goal

-- one individual more
made_fillers : (v : View) (names : List ℕ) (t : Tables) (y x : ℕ) → TablesTo v names t y → y < 1024 → x ≡ filled_by v (get_or names y 0)
    → TablesTo v names (record { parts = t.parts; fillers = set t.fillers y x }) (y + 1)
made_fillers v names t y x a h e = record {
  parts = a.parts;
  room = length-set t.fillers y x ∙ a.room;
  fillers = set_next t.fillers y x (λ z. filled_by v (get_or names z 0)) (omega (arith, a.room)) a.fillers e;
}

pub loop-y-preserved : goal.loop-y-preserved
loop-y-preserved c =
    let v = view c.args.base.now in
    made_fillers v _ _ _ _ c.loop-y.invariant (omega arith) (c.parts_filled.ensures ∙ ap (filled_by v) c.from.ensures)
