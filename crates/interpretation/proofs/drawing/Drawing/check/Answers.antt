use mathlib.Core.Path.{◌∙◌}
use Rattle.interpretation.proofs.Breaching.{found_at, found_none}
use Rattle.interpretation.proofs.drawing.Drawing.check.Goals as goal

pub returns-in-Some : goal.returns-in-Some
returns-in-Some c =
    record { set = c.put_all-pair.ensures.set; finding = found_at c.args.self.now _ c.in-Some.ensures.0 c.in-Some.ensures.1 }

pub returns-in-None : goal.returns-in-None
returns-in-None c =
    record { set = c.put_all-pair.ensures.set; finding = c.put_all-pair.ensures.pair ∙ found_none c.args.self.now c.in-None.ensures }
