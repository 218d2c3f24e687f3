-- One place of the exchange table (document 01, "Open exchanges"; 001, 6.5), and its part of the state's rules.
-- Assumes nothing.
use Rattle.std.specs.Prelude.{ℕ, ◌+◌, ◌*◌, Bool, ◌&&◌, ◌||◌, cond, leb, ltb, eqb}
use Rattle.place.specs.declared.Place.{Place}

-- "mode (free, send, request)"
abbrev pub FREE : ℕ
FREE = 0

abbrev pub SEND : ℕ
SEND = 1

abbrev pub REQUEST : ℕ
REQUEST = 2

-- "serial, mode (free, send, request), resends made, age": the place that a beginning opens
abbrev pub opened : ℕ → ℕ → Place
opened s m = record { serial = s; mode = m; resends = 0; age = 0 }

-- "A free place is all zero."
abbrev pub free : Place
free = opened 0 FREE

unfoldable pub is_open : ℕ → Bool
is_open m = eqb m SEND || eqb m REQUEST

unfoldable pub is_zero : Place → Bool
is_zero p = eqb p.serial 0 && eqb p.mode FREE && eqb p.resends 0 && eqb p.age 0

-- its numbers as one
abbrev pub weight : Place → ℕ
weight p = p.serial + p.mode * 65536 + (p.resends + p.age * 65536) * 4294967296

-- open under a serial
unfoldable pub holds : ℕ → Place → Bool
holds s p = is_open p.mode && eqb p.serial s

-- "an open place with age T or more or resends above R", "a free place not zero": a place that is neither. A mode that is none of the
-- three opens no place, so that such a place is not zero.
unfoldable pub keeps : ℕ → ℕ → Place → Bool
keeps t r p = cond (is_open p.mode) (ltb p.age t && leb p.resends r) (is_zero p)
