-- What the functions of the calls tell each other: the knowledge base for a call on a set, and what a strike does where there is room.
use Rattle.std.specs.Prelude.{ℕ, ◌≡◌, List, Result, Ok, Err}
use Rattle.bitset.specs.Bits.{look}
use Rattle.elimination.specs.Calls.{strike_words}
use Rattle.refusals.specs.Numbers.{number}
use Rattle.refusals.specs.declared.Refusal.{Refusal}
use Rattle.syntax.specs.Reading.{Kb, Reading, refusal, kb}
use Rattle.semantics.specs.Conditions.{View, dominoes, defective}
use Rattle.tbox.specs.declared.base.Base.{Base}
use Rattle.tbox.specs.Promise.{Flattened}
use Rattle.domino_conditions.specs.Tables.{Enough}
use Rattle.domino.specs.declared.Verdict.{Verdict}
use Rattle.domino.specs.Answers.{on_set, verdict_is, verdict_of}

-- what every call on so many words refuses with, of a sheet read as s; or the knowledge base, for which the words are enough
abbrev pub LoadsFor : Reading → ℕ → Result Base Refusal → Type 0
LoadsFor s words (Ok b) = (k : Kb) × (s ≡ kb k) × Flattened k b × Enough b words
LoadsFor s words (Err r) = on_set refusal kb s words ≡ refusal (number r.reason) r.place

-- a strike at number n, for a view, where there is room enough
pub record StrikesSet (v : View) (n : ℕ) (before after : List ℕ) (r : Verdict) : Type 0 where
  pub verdict : verdict_is r ≡ verdict_of v (look before) n
  pub set : after ≡ strike_words (dominoes v) (defective v) n before
