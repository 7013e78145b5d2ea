-- Records laid as bytes are read back as themselves.
use Prim.Native.Nat.{ℕ, ◌+◌, ◌*◌, ◌/◌, ◌%◌, ◌<◌}
use native.Mathlib.Omega.{arith}
use mathlib.Core.Path.{◌≡◌, refl, ap, ◌∙◌}
use mathlib.Core.List.{List, [], ◌∷◌, ◌++◌}
use lib.ListN.{length}
use Rattle.syntax.specs.Bounds.{All}
use Rattle.drawings.specs.Entries.{Entry, individual, connection, unreadable, entry_of, after_entry, entries_of}
use Rattle.drawings.specs.Laid.{entry_bytes, laid, FitsBytes}
use Rattle.drawings.proofs.EntryLaws.{entry_individual, entry_connection, entries_none, entries_step}

low_high : (m : ℕ) → m % 256 + 256 * (m / 256) ≡ m
low_high m = omega arith

-- what a record's bytes begin with
first_laid : (e : Entry) (bytes : List ℕ) → FitsBytes e
    → (entry_of (entry_bytes e ++ bytes) ≡ e) × (after_entry e (entry_bytes e ++ bytes) ≡ bytes) × (0 < length (entry_bytes e ++ bytes))
unfolding entry_bytes after_entry
first_laid (individual m) bytes h =
    (entry_individual (entry_bytes (individual m) ++ bytes) refl (omega arith) ∙ rw (low_high m), refl, omega arith)
first_laid (connection c) bytes h =
    (entry_connection (entry_bytes (connection c) ++ bytes) refl (omega arith) ∙ rw (low_high c.from, low_high c.to), refl, omega arith)
first_laid unreadable bytes h = absurd h

pub entries_laid : (es : List Entry) → All FitsBytes es → entries_of (laid es) ≡ es
unfolding laid
entries_laid [] h = entries_none
entries_laid (e ∷ es) h =
    let w = first_laid e (laid es) h.0 in
    entries_step (entry_bytes e ++ laid es) w.2 ∙ rw (w.0, w.1) (ap (λ (l : List Entry). e ∷ l) (entries_laid es h.1))

-- and they are bytes
pub laid_small : (es : List Entry) → All FitsBytes es → All (λ b. b < 256) (laid es)
unfolding laid entry_bytes
laid_small [] h = tt
laid_small (individual m ∷ es) h = (omega arith, (omega arith, (omega (arith, h.0), laid_small es h.1)))
laid_small (connection c ∷ es) h =
    let b = h.0 in
    (omega arith, (omega arith, (omega (arith, b.0), (omega arith, (omega (arith, b.1), (b.2, laid_small es h.1))))))
laid_small (unreadable ∷ es) h = absurd h.0
