-- A packet's frame (document 01, "Packet", "Orders"; 001, 6.6), over the largest unit M. The document counts a packet's bytes from 1, a
-- list's places from 0. Assumes nothing.
use Rattle.std.specs.Prelude.{ℕ, ◌+◌, ◌%◌, Bool, ◌&&◌, List, [], ◌∷◌, leb, eqb, length, get_or, take, drop}
use Rattle.octets.specs.Numbers.{low_first}
use Rattle.octets.specs.Sums.{total}
use Rattle.verdict.specs.Orders.{Test, ◌or_else◌}
use Rattle.verdict.specs.Refusals.{CUT, START, LENGTH, END, SUM}

-- "A packet has 30+L bytes"
abbrev pub packet_length : ℕ → ℕ
packet_length l = 30 + l

-- "1,054 at most", where M is 1,024: the largest packet, and the room for it
unfoldable pub room : ℕ → ℕ
room M = packet_length M

-- bytes 25-26: "L, length of the unit"
unfoldable pub unit_length : List ℕ → ℕ
unit_length p = low_first (take 2 (drop 24 p))

-- bytes 29+L and 30+L are "35, 35"
unfoldable pub ended : ℕ → List ℕ → Bool
ended l p = eqb (get_or p (28 + l) 0) 35 && eqb (get_or p (29 + l) 0) 35

-- "sum of bytes 3 to 27+L, modulo 256"
abbrev pub sum_of : ℕ → List ℕ → ℕ
sum_of l p = total (take (25 + l) (drop 2 p)) % 256

-- byte 28+L is that sum
unfoldable pub summed : ℕ → List ℕ → Bool
summed l p = eqb (sum_of l p) (get_or p (27 + l) 0)

-- "CUT under 30, START, LENGTH, CUT, END, SUM", where l is the length that bytes 25 and 26 say
abbrev pub frame_tests_at : ℕ → List ℕ → ℕ → List Test
frame_tests_at M p l =
    (leb 30 (length p) or_else CUT)
    ∷ (eqb (get_or p 0 0) 64 && eqb (get_or p 1 0) 64 or_else START)
    ∷ (leb l M or_else LENGTH)
    ∷ (eqb (length p) (packet_length l) or_else CUT)
    ∷ (ended l p or_else END)
    ∷ (summed l p or_else SUM)
    ∷ []

abbrev pub frame_tests : ℕ → List ℕ → List Test
frame_tests M p = frame_tests_at M p (unit_length p)
