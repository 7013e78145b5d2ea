use Rattle.domino_parts.proofs.Fillers.{filled_by_tables}
use Rattle.domino_parts.proofs.tables.FillerTables.filled.Goals as goal

pub returns : goal.returns
returns c b a h = filled_by_tables b c.args.self.now c.args.label a h
