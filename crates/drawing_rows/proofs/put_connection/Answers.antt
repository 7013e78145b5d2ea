-- `drawing_rows::put_connection` meets its contract: a connection has two bits.
use Rattle.drawing_rows.proofs.Joining.{joins_both, bits_one}
use Rattle.drawing_rows.proofs.put_connection.Goals as goal

pub returns : goal.returns
returns c = joins_both _ _ _ _ _ _ (bits_one c.args.start _) c.put_role.ensures c.put_role-2.ensures
