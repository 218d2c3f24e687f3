-- Bytes moved to the front of a row. Assumes nothing.
use Rattle.std.specs.Prelude.{ℕ, List, ◌++◌, take, drop}

-- so many bytes from a place on, and behind them the row as it was
abbrev pub shifted : List ℕ → ℕ → ℕ → List ℕ
shifted row by count = take count (drop by row) ++ drop count row
