use Rattle.interpretation.proofs.RowsOf.{count_few}
use Rattle.interpretation.proofs.drawing.Drawing.label_all.Goals as goal

pub of-tables-requires : goal.of-tables-requires
of-tables-requires c = count_few c.args.self.now
