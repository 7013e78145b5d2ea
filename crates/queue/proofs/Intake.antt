-- Bytes read for a step: its kind, and what stands behind it.
use Prim.Native.Nat.{ℕ, ◌+◌, ◌-◌, ◌≤◌}
use mathlib.Core.Path.{◌≡◌, sym, ap, ◌∙◌, subst}
use mathlib.Core.List.{List, ◌++◌}
use native.Mathlib.Omega.{arith}
use lib.ListN.{length, get_or, take}
use lib.Seq.{get_or-take, length-take-le, take-append-le}
use borrow.Rule.Slice.PartMut.{mid_of, put_mid, same_len_mid, mid_len, take_put}
use Rattle.std.specs.Prelude.{Option}
use Rattle.std.specs.Io.KnownBytes.{Consumes}
use Rattle.std.proofs.KnownBytes.{Consumes-trans}
use Rattle.console.proofs.Reading.{read_behind}
use Rattle.queue.specs.Queue.{kind_of}
use Rattle.queue.specs.Steps.{wanted}
use Rattle.queue.proofs.Fitting.{wanted-some, wanted-most}

-- n bytes are wanted, and m of the n - 1 behind the first were read into the buffer, whose first byte stays
module _ (sheets n m : ℕ) (buffer last : List ℕ) (long : length buffer ≡ 768) (all : n ≡ wanted sheets (get_or buffer 0 0)) where
  pub rest_read : length last ≡ length (mid_of 1 (n - 1) buffer) → m ≤ length last
      → length (take (1 + m) (put_mid 1 (n - 1) buffer last)) ≤ wanted sheets (kind_of (take (1 + m) (put_mid 1 (n - 1) buffer last)))
  rest_read h few =
      let after = put_mid 1 (n - 1) buffer last in
      let some = wanted-some _ _ _ all in
      let most = wanted-most _ _ _ all in
      let mid = mid_len 1 n buffer (omega arith) in
      let same = same_len_mid 1 (n - 1) buffer last h in
      let front : take 1 after ≡ take 1 buffer = take_put 1 (n - 1) buffer last (omega arith) in
      let kind : get_or (take (1 + m) after) 0 0 ≡ get_or buffer 0 0 =
      get_or-take (1 + m) after 0 0 (omega arith) ∙ sym (get_or-take 1 after 0 0 (omega arith))
      ∙ ap (λ (l : List ℕ). get_or l 0 0) front ∙ get_or-take 1 buffer 0 0 (omega arith) in
      let w : wanted sheets (get_or (take (1 + m) after) 0 0) ≡ n = ap (wanted sheets) kind ∙ sym all in
      omega (arith, length-take-le (1 + m) after (omega arith))

-- a reader gave the kind, and then m bytes that were read behind it: both are what stands in front
module _ (given left last : Option (List ℕ)) (k n m : ℕ) (kind behind brought : List ℕ) where
  pub step_read : length kind ≡ 1 → length (kind ++ behind) ≡ 768 → (k ≡ 0 → ⊥) → k ≤ length kind → Consumes given left (take k kind)
      → m ≤ length brought → Consumes left last (take m brought) → Consumes given last (take (1 + m) (put_mid 1 (n - 1) (kind ++ behind) brought))
  step_read one long some few first more next =
      let k_one : k ≡ 1 = omega (arith, some) in
      let front : take k kind ≡ take 1 (kind ++ behind) = ap (λ j. take j kind) k_one ∙ sym (take-append-le 1 kind behind (omega arith)) in
      subst (Consumes given last)
      (ap (λ (l : List ℕ). l ++ take m brought) front ∙ read_behind 1 (n - 1) m (kind ++ behind) brought (omega arith) more)
      (Consumes-trans given left last _ _ first next)
