-- Twelve parts have no more than 64 words of labels.
use Prim.Native.Nat.{◌^◌, ◌≤◌}
use native.Mathlib.Omega.{arith}
use lib.Pow.{pow_mono}
use Rattle.loads.proofs.write_base.Goals as goal

pub shared_ref_as_front-write_words : goal.shared_ref_as_front-write_words
shared_ref_as_front-write_words c =
    let few : 2 ^ c.args.base.now.size.parts ≤ 2 ^ 12 = pow_mono {i = c.args.base.now.size.parts} {j = 12} (omega (arith, c.args.base.now.size.within)) in
    omega (arith, c.words_for.ensures, few)
