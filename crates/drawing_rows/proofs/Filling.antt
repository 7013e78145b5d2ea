-- Laws of rows that are filled connection by connection: emptied words, one connection put in, none left; and record by record of a file.
use mathlib.Core.Path.{◌≡◌, refl, sym, ap, subst, ◌∙◌}
use mathlib.Core.Bool.{Bool, false, ◌||◌, or-false, or_assoc}
use mathlib.Core.List.{List, [], ◌∷◌}
use Prim.Native.Nat.{ℕ, ◌+◌, ◌*◌, ◌%◌, ◌≤◌, ◌<◌}
use native.Mathlib.Omega.{arith}
use lib.ListN.{length, drop}
use Rattle.bitset.specs.Bits.{look}
use Rattle.bitset.specs.Runs.{Emptied}
use Rattle.bitset.proofs.Facts.{and_out}
use Rattle.drawings.specs.Entries.{Connection, Entry, unreadable, entry_of, entries_of, connections_of}
use Rattle.drawings.proofs.RoleBits.{bits_past}
use Rattle.drawing_entries.specs.declared.Connection.{Connection as CodeConnection}
use Rattle.drawing_entries.specs.declared.Entry.TheVariants.{Individual, Connection as Joined}
use Rattle.drawing_entries.proofs.Records.{Next, last_unreadable, none_left}
use Rattle.drawing_entries.specs.Reading.{connection_is}
use Rattle.drawing_rows.specs.Rows.{Rows, Numbered, AllNumbered, InRows, bits_of, RowsFilled}
use Rattle.drawing_rows.proofs.Joining.{bits_more}
use Rattle.drawing_rows.proofs.RowBytes.{rows_filled}

-- what words have, with the bits of the connections that are left, are the bits of all
pub record Filling (start : ℕ) (cs left : List Connection) (ws vs : List ℕ) : Type 0 where
  pub long : length vs ≡ length ws
  pub numbered : AllNumbered left
  pub bits : (n : ℕ) → n < 64 * length ws → (look vs n || bits_of start left n) ≡ bits_of start cs n

module _ (start : ℕ) (cs : List Connection) (ws vs : List ℕ) where
  pub filling_none : (b : Bool) → AllNumbered cs → Emptied (64 * 0) (64 * 0 + 64 * length ws) ws vs b → Filling start cs cs ws vs
  filling_none b a e = record {
    long = e.kept.long;
    numbered = a;
    bits = λ n l. ap (λ (t : Bool). t || bits_of start cs n) (e.kept.inside n (omega arith) (omega arith) ∙ and_out (look ws n) false refl);
  }

  pub filling_more : (c : Connection) (left : List Connection) (us : List ℕ) → Filling start cs (c ∷ left) ws vs → InRows start c vs us
      → Filling start cs left ws us
  filling_more c left us f j = record {
    long = j.long ∙ f.long;
    numbered = f.numbered.1;
    bits = λ n l.
        ap (λ (t : Bool). t || bits_of start left n) (j.look n (omega (arith, f.long)))
        ∙ or_assoc (look vs n) (bits_of start (c ∷ []) n) (bits_of start left n)
        ∙ ap (λ (t : Bool). look vs n || t) (sym (bits_more start c left n)) ∙ f.bits n l;
  }

  pub filling_all : Filling start cs [] ws vs → RowsFilled start cs ws vs
  unfolding bits_of
  filling_all f =
      rows_filled start cs ws vs f.long
      (λ n l. sym (or-false (look vs n)) ∙ ap (λ (t : Bool). look vs n || t) (sym (bits_past 0 [] tt _ _ _ (omega arith))) ∙ f.bits n l)

-- ---- up to a place of a file

abbrev pub FilledTo : ℕ → List ℕ → ℕ → List ℕ → List ℕ → Type 0
FilledTo start file at ws vs =
    (at ≤ length file) × Filling start (connections_of (entries_of file)) (connections_of (entries_of (drop at file))) ws vs

module _ (start : ℕ) (file : List ℕ) (at : ℕ) (ws vs : List ℕ) (f : FilledTo start file at ws vs) where
  left_as : (es : List Entry) → entries_of (drop at file) ≡ es → Filling start (connections_of (entries_of file)) (connections_of es) ws vs
  left_as es e = subst (λ (l : List Entry). Filling start (connections_of (entries_of file)) (connections_of l) ws vs) e f.1

  pub filled_end : length file ≤ at → RowsFilled start (connections_of (entries_of file)) ws vs
  unfolding connections_of
  filled_end h = filling_all start _ ws vs (left_as [] (none_left file at h))

  pub filled_rows : Rows start ws → Rows start vs
  filled_rows r = record { few = r.few; small = omega (arith, f.1.long, r.small); whole = ap (λ (n : ℕ). n % 128) f.1.long ∙ r.whole }

  -- a record that cannot be read is the last, and draws nothing
  pub filled_unreadable : at < length file → unreadable ≡ entry_of (drop at file)
      → RowsFilled start (connections_of (entries_of file)) ws vs
  unfolding connections_of
  filled_unreadable h u = filling_all start _ ws vs (left_as _ (last_unreadable file at h u))

  pub filled_individual : (m : ℕ) → Next file at (Individual m) → FilledTo start file (at + 3) ws vs
  unfolding connections_of
  filled_individual m n = (n.within, left_as _ n.entries)

  module _ (c : CodeConnection) (n : Next file at (Joined c)) where
    pub next_numbered : Numbered (connection_is c)
    unfolding connections_of
    next_numbered = (left_as _ n.entries).numbered.0

    pub filled_connection : (us : List ℕ) → InRows start (connection_is c) vs us → FilledTo start file (at + 6) ws us
    unfolding connections_of
    filled_connection us j = (n.within, filling_more start _ ws vs (connection_is c) _ us (left_as _ n.entries) j)
