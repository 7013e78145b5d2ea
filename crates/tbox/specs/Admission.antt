-- A sheet that is read, with its records and parts, or refused.
use Rattle.std.specs.Prelude.{ℕ, ◌≡◌, List, Result, Ok, Err}
use Rattle.refusals.specs.Numbers.{number}
use Rattle.refusals.specs.declared.Refusal.{Refusal}
use Rattle.records.specs.Entries.{Entry}
use Rattle.records.specs.RecordTable.{Scans}
use Rattle.records.specs.declared.Progress.{Progress}
use Rattle.syntax.specs.Concepts.{nodes_of, axioms_of, inclusions_of}
use Rattle.syntax.specs.Reading.{Kb, refusal, kb, read_kb}
use Rattle.syntax.specs.Answers.{limit}
use Rattle.tbox.specs.declared.admission.Admitted.{Admitted}
use Rattle.tbox.specs.GoodLabels.{Made}

-- the knowledge base that records make
abbrev pub kb_admitted : List Entry → Admitted → Kb
kb_admitted es a =
    record {
      names = a.names;
      roles = a.roles;
      axioms = axioms_of (nodes_of es);
      inclusions = inclusions_of (nodes_of es);
    }

-- its records, and the knowledge base and parts that they make
pub record Reads (sheet : List ℕ) (es : List Entry) (a : Admitted) : Type 0 where
  pub records : (p : Progress) × Scans sheet es (Ok p)
  pub reading : read_kb limit sheet ≡ kb (kb_admitted es a)
  pub parts : Made es a.names a.parts.now

-- a sheet that is read, or refused
abbrev pub Admits : List ℕ → List Entry → Result Admitted Refusal → Type 0
Admits sheet es (Ok a) = Reads sheet es a
Admits sheet es (Err r) = read_kb limit sheet ≡ refusal (number r.reason) r.place
