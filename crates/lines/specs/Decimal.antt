-- A number in decimal, as its digits' bytes. Assumes nothing.
use Rattle.std.specs.Prelude.{ℕ, zero, suc, ◌+◌, ◌*◌, ◌-◌, ◌/◌, ◌%◌, cond, List, [], ◌∷◌, ◌++◌, ltb}

-- the last digit of a number, as its byte
abbrev pub last_digit : ℕ → List ℕ
last_digit n = (48 + n % 10) ∷ []

-- a number below ten is one digit, any other its tenth and then its last digit; the first number bounds how often
unfoldable pub decimal_in : ℕ → ℕ → List ℕ
decimal_in zero n = last_digit n
decimal_in (suc k) n = let longer = decimal_in k (n / 10) ++ last_digit n in cond (ltb n 10) (last_digit n) longer

unfoldable pub decimal : ℕ → List ℕ
decimal n = decimal_in n n

-- the number that digits stand for, behind those that were read before
unfoldable pub read_on : ℕ → List ℕ → ℕ
read_on x [] = x
read_on x (d ∷ ds) = read_on (10 * x + (d - 48)) ds

abbrev pub number_in : List ℕ → ℕ
number_in = read_on 0
