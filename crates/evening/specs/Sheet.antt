-- What the evening program reads and prints.
use Rattle.std.specs.Prelude.{ℕ, List, [], Result, Ok, Err}
use Rattle.std.specs.Borrow.{Bor}
use Rattle.report.specs.Lines.{printed}

-- "Input beyond 766 bytes is not read"
abbrev pub most : ℕ
most = 766

-- "reads one sheet from standard input": the bytes that were read are the sheet; nothing is printed where a read failed
abbrev pub answered : {E : Type 0} → Result (Bor (List ℕ)) E → List ℕ
answered (Ok sheet) = printed sheet.now
answered (Err e) = []
