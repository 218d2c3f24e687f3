-- A row tested block by block. Assumes nothing.
use Rattle.std.specs.Prelude.{ℕ, ◌-◌, ◌≤◌, ◌≡◌, Bool, true, false, List, length, take, drop}
use Rattle.octets.specs.Searches.{every}

-- the end of a row, before which every byte passes a test
pub record Passed (f : ℕ → Bool) (s rest : List ℕ) : Type 0 where
  pub inside : length rest ≤ length s
  pub is : rest ≡ drop (length s - length rest) s
  pub pass : every f (take (length s - length rest) s) ≡ true

-- the end that is left after blocks of n bytes that pass: fewer than n, or some that do not pass
pub record IsLeft (f : ℕ → Bool) (n : ℕ) (s rest : List ℕ) : Type 0 where
  pub passed : Passed f s rest
  pub stop : n ≤ length rest → every f rest ≡ false
