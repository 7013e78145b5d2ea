-- What follows a read. Which bytes it brings the contract of `read_all` says, of a reader whose bytes are known.
use Rattle.std.specs.Prelude.{ℕ, ◌+◌, cond, eqb, ltb, Result, Ok, Err}
use Rattle.console.specs.declared.Next.{Next}
use Rattle.console.specs.declared.Next.TheVariants.{Ended, Again}

-- what follows a read behind `done` bytes: the input ends where nothing was read, and a full buffer is the last; a read that failed
-- alone is followed by a failure, and by its own
unfoldable pub next_read_lem : {E : Type 0} → ℕ → Result ℕ E → ℕ → Result Next E
next_read_lem done (Ok n) room = cond (eqb n 0) (Ok (Ended done)) (cond (ltb (done + n) room) (Ok (Again (done + n))) (Ok (Ended room)))
next_read_lem done (Err e) room = Err e
