-- `put_words` meets its contract. The invariant of the loop: of the words passed, what is allowed and live is put in.
use Prim.Native.Nat.{◌+◌, ◌*◌}
use Rattle.bitset.specs.Runs.{Added}
use Rattle.domino_labels.specs.Live.{allowed_live}
use Rattle.domino_labels.proofs.writing.put_words.Given as goal

abbrev pub invariant-loop-i : goal.invariant-loop-i
invariant-loop-i l =
    Added (allowed_live l.fn.mask l.live l.start) (64 * l.start) (64 * (l.start + l.i)) l.fn.set l.set l.total
