-- How many whole records an input has.
use Rattle.std.specs.Prelude.{cond, List, [], ◌∷◌, ℕ, ◌+◌, ◌/◌, eqb}
use Rattle.records.specs.Records.{line_feed}

unfoldable pub line_feeds : List ℕ → ℕ
line_feeds [] = 0
line_feeds (b ∷ s) = cond (eqb b line_feed) 1 0 + line_feeds s

-- a line feed ends each of a record's four lines
abbrev pub whole_records : List ℕ → ℕ
whole_records s = line_feeds s / 4
