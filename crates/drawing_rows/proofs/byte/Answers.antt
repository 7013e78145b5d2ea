-- `drawing_rows::byte` meets its contract: byte p is one of eight of word p / 8.
use native.Mathlib.Omega.{arith}
use Rattle.drawing_rows.proofs.RowBytes.{byte_of_word}
use Rattle.drawing_rows.proofs.byte.Goals as goal

pub returns : goal.returns
returns c = byte_of_word c.args.words.now c.args.p _ (omega arith)
