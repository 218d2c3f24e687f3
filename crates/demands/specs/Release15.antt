-- How release 1.6 differs from 1.5 (document 02, Q-4: "they cannot tell a cut unit from one with padding. Split it"). What 1.5 said is `as_one_size` of what is said now
-- (unit/specs/Units.antt); here are its names. Assumes nothing.
use Rattle.std.specs.Prelude.{ℕ, cond, List, [], ◌∷◌, eqb}
use Rattle.naming.specs.Names.{names, letters_in}
use Rattle.verdict.specs.Refusals.{Row, row, SHORT, LONG}

-- a table of names as in 1.5: 14 was SIZE, and 28 had no name
abbrev pub titled_in15 : List Row → List Row
titled_in15 [] = []
titled_in15 (r ∷ rs) = cond (eqb r.number LONG) (titled_in15 rs) (cond (eqb r.number SHORT) (row 14 "SIZE") r ∷ titled_in15 rs)

unfoldable pub letters_in15 : ℕ → List ℕ
letters_in15 n = letters_in (titled_in15 names) n
