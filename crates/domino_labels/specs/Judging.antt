-- What judging leaves and answers for a view, where there is room enough.
use Rattle.std.specs.Prelude.{ℕ, ◌≡◌, Bool, not, List, eqb}
use Rattle.bitset.specs.Bits.{size}
use Rattle.bitset.specs.Runs.{Added}
use Rattle.elimination.specs.Calls.{written}
use Rattle.semantics.specs.Conditions.{View, dominoes, initial, canon, held}
use Rattle.domino_labels.specs.declared.judging.Judgement.{Judgement}

-- met is that a domino is left
abbrev pub met : Judgement → Bool
met j = not (eqb j.survivors 0)

pub record JudgesSet (v : View) (before after : List ℕ) (r : Judgement) : Type 0 where
  pub opening : r.opening ≡ size (dominoes v) (initial v)
  pub survivors : r.survivors ≡ size (dominoes v) (canon v)
  pub set : after ≡ written (held v) (dominoes v) (canon v) before

-- the canonical set is put in
pub record PutsCanon (v : View) (before after : List ℕ) (r : Judgement) : Type 0 where
  pub opening : r.opening ≡ size (dominoes v) (initial v)
  pub added : Added (canon v) 0 (dominoes v) before after r.survivors
