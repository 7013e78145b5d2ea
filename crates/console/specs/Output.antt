-- What is handed to standard output. What the system takes of it no contract can say.
use Rattle.std.specs.Prelude.{ℕ, List}
use Rattle.console.specs.declared.Printed.{Printed}

-- the bytes that were handed over
abbrev pub handed : {N : ℕ} → Printed N → List ℕ
handed p = p.text.items
