-- Parts of a row of bytes, and bytes put into one.
-- Assumes nothing.
use Rattle.std.specs.Prelude.{ℕ, zero, suc, ◌+◌, ◌-◌, Bool, ◌&&◌, cond, List, [], ◌∷◌, ◌++◌, leb, length, get_or, take, drop}

-- whether there is a part from one place to another
abbrev pub within : List ℕ → ℕ → ℕ → Bool
within s from to = leb to (length s) && leb from to

-- "that part of the caller's own bytes": its bytes, none where there is no such part
unfoldable pub part : List ℕ → ℕ → ℕ → List ℕ
part s from to = cond (within s from to) (take (to - from) (drop from s)) []

-- and where it stands: a block of memory and an offset there
unfoldable pub part_place : ℕ × ℕ → List ℕ → ℕ → ℕ → ℕ × ℕ
part_place p s from to = (p.0, cond (within s from to) from 0 + p.1)

-- "changes that object's bytes only": bytes put at a place; what does not fit changes nothing
unfoldable pub put_at : List ℕ → ℕ → List ℕ → List ℕ
put_at o at bytes =
    cond (leb (at + length bytes) (length o)) (take at o ++ bytes ++ drop (at + length bytes) o) o

-- n bytes from a place on, one by one, 0 behind the end
abbrev pub one_by_one : List ℕ → ℕ → ℕ → List ℕ
one_by_one s i zero = []
one_by_one s i (suc n) = get_or s i 0 ∷ one_by_one s (suc i) n
