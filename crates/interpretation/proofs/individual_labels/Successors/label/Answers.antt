use mathlib.Core.Path.{refl}
use Prim.Native.Nat.{◌-◌}
use native.Mathlib.Omega.{arith}
use lib.Bits.{bit_and, bit_or}
use Rattle.bitset.proofs.Laws.{bit_and_lem, bit_or_lem, bit_not}
use Rattle.interpretation.specs.Successors.{concluded}
use Rattle.interpretation.proofs.individual_labels.Successors.label.Goals as goal

pub returns : goal.returns
unfolding concluded
returns c k l =
    let m = c.args.self.missed in
    let n = 65535 - m in
    let u = c.args.tables.now.parts.universals in
    let a = bit_and c.args.self.met c.args.tables.now.parts.existentials in
    rw (bit_or_lem (bit_or c.args.names a) (bit_and n u) k, bit_or_lem c.args.names a k, bit_and_lem c.args.self.met c.args.tables.now.parts.existentials k, bit_and_lem n u k, bit_not 16 m k (omega arith) l) refl
