-- What the methods of the writer tell each other: bytes put at the end of a text that may have so many.
use Rattle.std.specs.Prelude.{ℕ, ◌+◌, ◌≤◌, ◌<◌, ◌≡◌, List, length, Option, Some, None}
use Rattle.output.specs.Output.{Puts}
use Rattle.owl_export.specs.declared.writer.Writer.{Writer}

-- the same buffer is lent; the text is longer by these bytes, and the buffer has them if it has room for all so far
pub record Emitted (bytes : List ℕ) (w v : Writer) : Type 0 where
  pub lent : v.out.ghost_name ≡ w.out.ghost_name
  pub at : v.at ≡ w.at + length bytes
  pub most : v.most ≡ w.most
  pub long : length v.out.now ≡ length w.out.now
  pub put : v.at ≤ length w.out.now → Puts bytes w.at w.out.now v.out.now v.at

-- none where the text would be too long
abbrev pub Emits : List ℕ → Writer → Writer → Option Unit → Type 0
Emits bytes w v None = w.most < w.at + length bytes
Emits bytes w v (Some u) = Emitted bytes w v
