-- A sheet that is refused, or what is held of each part.
use Rattle.std.proofs.Common.{refl}
use Rattle.tbox.proofs.BaseTables.{loads_whole}
use Rattle.tbox.proofs.loading.load.Goals as goal

pub returns : goal.returns
returns c = loads_whole _ _ _ c.in_ok-admitted.ensures _ refl refl refl
    c.parts_of.ensures c.good_words.ensures c.closed_words.ensures
