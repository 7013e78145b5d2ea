-- What a read brings stands behind what was read before, and both are what the reader gave.
use Rattle.std.proofs.Common.{◌-◌, length, arith, rules, ◌∙◌}
use borrow.Rule.Slice.PartMut.{same_len_mid}
use Rattle.io.proofs.Counting.{prefix_len_of_le}
use Rattle.console.proofs.Reading.{reads_all, reads_on}
use Rattle.console.proofs.read_all.Goals as goal

pub returns-in-Ended-clause-bound : goal.returns-in-Ended-clause-bound
returns-in-Ended-clause-bound g c =
    let at = c.loop-done in
    let read = c.read-read.ensures in
    let f = reads_all _ _ _ _ _ _ _ _ _ at.invariant.within (search rules) at.invariant.consumed read.bound read.bytes c.in_ok-next.ensures c.in-Ended.is in
    prefix_len_of_le _ _ f.within

pub returns-in-Ended-clause-bytes : goal.returns-in-Ended-clause-bytes
returns-in-Ended-clause-bytes g c =
    let at = c.loop-done in
    let read = c.read-read.ensures in
    let f = reads_all _ _ _ _ _ _ _ _ _ at.invariant.within (search rules) at.invariant.consumed read.bound read.bytes c.in_ok-next.ensures c.in-Ended.is in
    f.bytes

pub returns-in-Ended-clause-end : goal.returns-in-Ended-clause-end
returns-in-Ended-clause-end g c =
    let at = c.loop-done in
    let read = c.read-read.ensures in
    let f = reads_all _ _ _ _ _ _ _ _ _ at.invariant.within (search rules) at.invariant.consumed read.bound read.bytes c.in_ok-next.ensures c.in-Ended.is in
    f.end

pub loop-done-smaller : goal.loop-done-smaller
loop-done-smaller g c =
    let at = c.loop-done in
    let read = c.read-read.ensures in
    let f = reads_on _ _ _ _ _ _ _ _ _ at.invariant.within (search rules) at.invariant.consumed read.bound read.bytes c.in_ok-next.ensures c.in-Again.is in
    let same = same_len_mid at.done (length at.buffer - at.done) at.buffer c.read-read.new.buf (search rules) in
    omega (arith, f.within, f.more, same, at.invariant.same_length)

pub loop-done-preserved : goal.loop-done-preserved
loop-done-preserved g c =
    let at = c.loop-done in
    let read = c.read-read.ensures in
    let f = reads_on _ _ _ _ _ _ _ _ _ at.invariant.within (search rules) at.invariant.consumed read.bound read.bytes c.in_ok-next.ensures c.in-Again.is in
    let same = same_len_mid at.done (length at.buffer - at.done) at.buffer c.read-read.new.buf (search rules) in
    record {
      within = f.within;
      same_length = same ∙ at.invariant.same_length;
      consumed = f.bytes;
    }
