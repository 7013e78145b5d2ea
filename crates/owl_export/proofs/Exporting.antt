-- What export answers and leaves, by what the code finds out.
use Prim.Native.Nat.{ℕ, ◌≤◌, ◌<◌}
use mathlib.Core.Path.{◌≡◌, refl, ◌∙◌}
use mathlib.Core.Option.{none, some}
use mathlib.Core.List.{List}
use native.Mathlib.Omega.{arith}
use borrow.Author.Tests.{lt-ltb, le-ltb}
use lib.ListN.{length}
use Rattle.std.specs.Prelude.{Ok, Err}
use Rattle.refusals.specs.Numbers.{number}
use Rattle.refusals.specs.declared.Refusal.{Refusal}
use Rattle.refusals.specs.declared.Reason.TheVariants.{BeyondText, OutputTooShort}
use Rattle.output.specs.Output.{Writes, write, output_says, output_leaves}
use Rattle.records.specs.Entries.{Entry}
use Rattle.syntax.specs.Concepts.{nodes_of, axioms_of}
use Rattle.syntax.specs.Reading.{refusal, read_kb}
use Rattle.syntax.specs.Answers.{limit}
use Rattle.tbox.specs.Admission.{Reads}
use Rattle.tbox.specs.declared.admission.Admitted.{Admitted}
use Rattle.owl_export.specs.Export.{exported, exporting, export_of, export_at, first_beyond}
use Rattle.owl_export.specs.RecordText.{lines_of}
use Rattle.owl_export.specs.Emitting.{Emitted}
use Rattle.owl_export.specs.declared.writer.Writer.{Writer}

module _ (sheet out : List ℕ) where
  pub export_refused : (x : Refusal) → read_kb limit sheet ≡ refusal (number x.reason) x.place → Writes (exported sheet) out out (Err x)
  unfolding exported exporting output_says output_leaves
  export_refused x e = rw e (record { answer = refl; output = refl })

  module _ (es : List Entry) (a : Admitted) (h : Reads sheet es a) where
    exported_is : exported sheet ≡ export_at (axioms_of (nodes_of es)) (first_beyond 0 es (nodes_of es))
    unfolding exported exporting export_of
    exported_is = rw (h.reading, ← h.records.1) refl

    pub export_beyond : (p : ℕ) → first_beyond 0 es (nodes_of es) ≡ some p → (x : Refusal) → x.reason ≡ BeyondText → x.place ≡ p
        → Writes (exported sheet) out out (Err x)
    unfolding export_at output_says output_leaves
    export_beyond p f x e q = rw (exported_is, f, e, q) (record { answer = refl; output = refl })

    module _ (f : first_beyond 0 es (nodes_of es) ≡ none) where
      exported_lines : exported sheet ≡ write (lines_of es)
      unfolding export_at
      exported_lines = rw (exported_is, f) refl

      pub export_short : length out < length (lines_of es) → (x : Refusal) → x.reason ≡ OutputTooShort → x.place ≡ 0 → Writes (exported sheet) out out (Err x)
      unfolding output_says output_leaves
      export_short l x e q =
          rw (exported_lines, e, q) (record { answer = rw (lt-ltb (length out) (length (lines_of es)) l); output = rw (lt-ltb (length out) (length (lines_of es)) l) })

      pub export_written : (w v : Writer) (after : List ℕ) → w.out.now ≡ out → w.at ≡ 0 → v.at ≤ length out → Emitted (lines_of es) w v → after ≡ v.out.now
          → Writes (exported sheet) out after (Ok v.at)
      unfolding output_says output_leaves
      export_written w v after o z l p s =
          let q = p.put (rw o l) in
          let n : v.at ≡ length (lines_of es) = omega (arith, p.at, z) in
          let r : length (lines_of es) ≤ length out = omega (arith, n) in
          rw exported_lines (record {
            answer = rw (n, le-ltb (length out) (length (lines_of es)) r) refl;
            output = s ∙ q.buffer ∙ rw (o, z, n, le-ltb (length out) (length (lines_of es)) r) refl;
          })
