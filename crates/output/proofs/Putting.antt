-- Laws of bytes put into a buffer: one text after another is both as one, and what stands in front.
use Prim.Native.Nat.{ℕ, ◌+◌, ◌≤◌}
use mathlib.Core.Path.{◌≡◌, refl, sym, ap, ◌∙◌}
use mathlib.Core.List.{List, ◌++◌, append_assoc}
use native.Mathlib.Omega.{arith}
use lib.ListN.{length, take, drop, length-append, length-drop}
use lib.Seq.{paste, length-take-le, take-length, take_at, drop_at, drop-drop}
use Rattle.output.specs.Output.{Puts}

-- a copy of a whole text
pub puts_paste : (bytes : List ℕ) (at : ℕ) (before after : List ℕ) → at + length bytes ≤ length before → after ≡ paste before at bytes (length bytes)
    → Puts bytes at before after (at + length bytes)
puts_paste bytes at before after h e =
    record { answer = refl; fits = h; buffer = e ∙ rw (take-length bytes) refl }

module _ {bytes : List ℕ} {at : ℕ} {before after : List ℕ} {r : ℕ} (p : Puts bytes at before after r) where
  -- the front, up to the place after the bytes
  pub puts_head : length (take at before ++ bytes) ≡ r
  puts_head =
      let a : at ≤ length before = omega (arith, p.answer, p.fits) in
      length-append (take at before) bytes ∙ ap (λ (n : ℕ). n + length bytes) (length-take-le at before a) ∙ sym p.answer

  pub puts_taken : take r after ≡ take at before ++ bytes
  puts_taken = ap (take r) p.buffer ∙ take_at (take at before ++ bytes) (drop r before) r puts_head

  pub puts_dropped : drop r after ≡ drop r before
  puts_dropped = ap (drop r) p.buffer ∙ drop_at (take at before ++ bytes) (drop r before) r puts_head

  pub puts_length : length after ≡ length before
  puts_length =
      ap length p.buffer ∙ length-append (take at before ++ bytes) (drop r before)
      ∙ simp (puts_head, length-drop) (omega (arith, p.fits))

-- the bytes themselves, put in front
pub puts_front : {bytes before after : List ℕ} {r : ℕ} → Puts bytes 0 before after r → take r after ≡ bytes
puts_front p = puts_taken p

-- one text, then another
pub puts_then : {s t : List ℕ} {at m r : ℕ} {before mid after : List ℕ} → Puts s at before mid m → Puts t m mid after r
    → Puts (s ++ t) at before after r
puts_then {s} {t} {at} {m} {r} {before} {mid} {after} p q =
    let far : drop r mid ≡ drop r before =
    ap (λ (n : ℕ). drop n mid) q.answer ∙ sym (drop-drop (length t) m mid) ∙ ap (drop (length t)) (puts_dropped p)
    ∙ drop-drop (length t) m before ∙ ap (λ (n : ℕ). drop n before) (sym q.answer) in
    record {
      answer = omega (arith, p.answer, q.answer, length-append s t);
      fits = omega (arith, q.fits, puts_length p);
      buffer =
          q.buffer ∙ ap (λ (l : List ℕ). l ++ t ++ drop r mid) (puts_taken p)
          ∙ ap (λ (l : List ℕ). l ++ drop r mid) (append_assoc (take at before) s t)
          ∙ ap (λ (l : List ℕ). take at before ++ (s ++ t) ++ l) far;
    }
