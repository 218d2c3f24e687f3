-- The outcomes' numbers: no two are the same, and none is a number that document 01 or 02 uses, 1 to 31. By computation. Assumes nothing.
use Prim.Native.Nat.{ℕ}
use mathlib.Core.Bool.{Bool, true, ◌&&◌}
use mathlib.Core.List.{List, [], ◌∷◌}
use mathlib.Core.Path.{◌≡◌, refl}
use lib.Dec.{eqb, ltb}
use Rattle.place.specs.Steps.{outcomes}

-- each above the one before and, but for the first, above 31
abbrev rising : ℕ → List ℕ → Bool
rising n [] = true
rising n (o ∷ os) = ltb n o && ltb 31 o && rising o os

abbrev pub from_zero : List ℕ → Bool
from_zero [] = true
from_zero (o ∷ os) = eqb o 0 && rising o os

pub outside-and-distinct : from_zero outcomes ≡ true
outside-and-distinct = refl
