-- Laws on the list of parts that origins stand for.
use Rattle.std.proofs.Common.{◌≡◌, ℕ, zero, suc, ◌+◌, ◌<◌, List, [], ◌∷◌, length, get_or, sym, ap, ◌∙◌, arith}
use Rattle.records.specs.Entries.{Entry}
use Rattle.syntax.specs.Flatten.{part_at}
use Rattle.flattening.specs.Origins.{part_of, parts_from, parts_in, parts_made}
use Rattle.flattening.specs.declared.parts.Origin.{Origin}
use Rattle.flattening.proofs.PartLists.{parts_length}
use Rattle.tbox.specs.GoodLabels.{Made}

pub made-length : (es : List Entry) (names : ℕ) (os : List Origin) → Made es names os → length (parts_made names es) ≡ length os
made-length es names os h = sym (ap length h) ∙ parts_length es 0 os

from_at : (es : List Entry) (k n : ℕ) (os : List Origin) (i : ℕ) (o : Origin) → i < length os → k + i ≡ n →
    part_at (parts_from es k os) i ≡ part_of es n (get_or os i o)
unfolding parts_from
from_at es k n [] i o h e = absurd (omega arith)
from_at es k n (x ∷ os) zero o h e = let m : k ≡ n = omega arith in rw m
from_at es k n (x ∷ os) (suc i) o h e = from_at es (suc k) n os i o (omega arith) (omega arith)

pub parts_at : (es : List Entry) (os : List Origin) (i : ℕ) (o : Origin) → i < length os → part_at (parts_in es os) i ≡ part_of es i (get_or os i o)
parts_at es os i o h = from_at es 0 i os i o h (omega arith)
