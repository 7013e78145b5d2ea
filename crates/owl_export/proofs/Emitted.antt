-- One text after another is both as one; and where the text would be too long.
use Prim.Native.Nat.{ℕ, ◌+◌, ◌<◌}
use mathlib.Core.Path.{◌≡◌, refl, sym, ◌∙◌}
use mathlib.Core.List.{List, [], ◌++◌, append-nil}
use native.Mathlib.Omega.{arith}
use lib.ListN.{length, length-append, take-append-drop}
use Rattle.std.specs.Prelude.{Option, Some, None}
use Rattle.output.proofs.Putting.{puts_then}
use Rattle.owl_export.specs.declared.writer.Writer.{Writer}
use Rattle.owl_export.specs.Emitting.{Emitted, Emits}

pub emits_nothing : (w : Writer) → Emitted [] w w
emits_nothing w = record {
  lent = refl;
  at = omega arith;
  most = refl;
  long = refl;
  put = λ h. record { answer = omega arith; fits = h; buffer = sym (rw append-nil (take-append-drop w.at w.out.now)) };
}

module _ (s t : List ℕ) where
  -- too long at once, and after a text
  pub emits_cut : (w : Writer) → w.most < w.at + length s → w.most < w.at + length (s ++ t)
  emits_cut w h = omega (arith, length-append s t)

  pub emits_over : (w m : Writer) → Emitted s w m → m.most < m.at + length t → w.most < w.at + length (s ++ t)
  emits_over w m p h = omega (arith, p.at, p.most, length-append s t)

  pub emits_then : (w m v : Writer) → Emitted s w m → (r : Option Unit) → Emits t m v r → Emits (s ++ t) w v r
  emits_then w m v p None q = emits_over w m p q
  emits_then w m v p (Some u) q = record {
    lent = q.lent ∙ p.lent;
    at = omega (arith, p.at, q.at, length-append s t);
    most = q.most ∙ p.most;
    long = q.long ∙ p.long;
    put = λ h. puts_then (p.put (omega (arith, q.at))) (q.put (omega (arith, p.long)));
  }

-- the same under another name
pub emits_as : (s t : List ℕ) (w v : Writer) (r : Option Unit) → s ≡ t → Emits s w v r → Emits t w v r
emits_as s t w v r e h = rw (← e) h
