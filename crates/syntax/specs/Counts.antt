-- How many parts of each kind there are (02, N9: "four counts, traits, fresh, some and only, each the number of marks of that kind
-- that the mark list holds").
use Rattle.std.specs.Prelude.{ℕ, ◌+◌, List, eqb}
use Rattle.std.specs.List.{count_by}
use Rattle.syntax.specs.Flatten.{Part}
use Rattle.syntax.specs.Parts.{kind_of}

-- how many of a list of parts are of a kind
abbrev pub count_kind : ℕ → List Part → ℕ
count_kind n ps = count_by (λ p. eqb (kind_of p) n) ps

pub record PartCounts : Type 0 where
  pub names : ℕ
  pub fresh : ℕ
  pub existentials : ℕ
  pub universals : ℕ

abbrev pub counts_of : List Part → PartCounts
counts_of ps = record { names = count_kind 0 ps; fresh = count_kind 1 ps; existentials = count_kind 2 ps; universals = count_kind 3 ps }

-- how many parts they count in all
abbrev pub sum_of : PartCounts → ℕ
sum_of n = n.names + n.fresh + n.existentials + n.universals
