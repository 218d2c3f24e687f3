-- Parts of a row, and runs of bytes at its front. Assumes nothing.
use Rattle.std.specs.Prelude.{ℕ, suc, ◌+◌, Bool, false, not, ◌||◌, cond, List, [], ◌∷◌, leb, eqb, length}
use Rattle.octets.specs.Searches.{every}

-- where a part that begins at a place stands: a block of memory and an offset there; at the front where the row ends before it
unfoldable pub span_place : ℕ × ℕ → List ℕ → ℕ → ℕ × ℕ
span_place p s from = (p.0, cond (leb from (length s)) from 0 + p.1)

-- "the byte is not 64, or the next byte is there and not 64": how many bytes at the front are skipped for certain
abbrev pub starts_other : List ℕ → Bool
starts_other [] = false
starts_other (y ∷ ys) = not (eqb y 64)

unfoldable pub noise_run : List ℕ → ℕ
noise_run [] = 0
noise_run (x ∷ xs) = cond (not (eqb x 64) || starts_other xs) (suc (noise_run xs)) 0

-- how many there are before the first 64, and whether there is none
unfoldable pub plain_run : List ℕ → ℕ
plain_run [] = 0
plain_run (x ∷ xs) = cond (eqb x 64) 0 (suc (plain_run xs))

abbrev pub no64 : List ℕ → Bool
no64 = every (λ b. not (eqb b 64))
