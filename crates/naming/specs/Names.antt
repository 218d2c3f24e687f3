-- The names of document 01's refusals and events, and of the outcomes, under their numbers, as bytes.
-- Assumes nothing.
use Rattle.std.specs.Prelude.{ℕ, cond, List, [], ◌∷◌, ◌++◌, eqb}
use Prim.Native.Char.{code}
use Prim.Native.String.{String}
use Rattle.verdict.specs.Refusals.{Row, row, refusals}
use Rattle.reading.specs.Values.{MORE, NOISE, PACKET}
use Rattle.place.specs.Steps.{CONFIRMED, ANSWERED, RESENT, FAILED}

-- "the judge's OK or refusal name": 0 is good, and so OK is also said of an outcome of which nothing is told
abbrev pub verdicts : List Row
verdicts = row 0 "OK" ∷ refusals

-- the events that are no refused start, and the outcomes
abbrev pub happenings : List Row
happenings =
    row MORE "MORE" ∷ row NOISE "NOISE" ∷ row PACKET "PACKET"
    ∷ row CONFIRMED "CONFIRMED" ∷ row ANSWERED "ANSWERED" ∷ row RESENT "RESENT" ∷ row FAILED "FAILED" ∷ []

abbrev pub names : List Row
names = verdicts ++ happenings

-- a text as its bytes
abbrev pub ascii : String → List ℕ
ascii String.[] = []
ascii (String.◌∷◌ c s) = code c ∷ ascii s

-- the name in the row of a number, as bytes; none where no row has the number
unfoldable pub letters_in : List Row → ℕ → List ℕ
letters_in [] n = []
letters_in (r ∷ rs) n = cond (eqb r.number n) (ascii r.name) (letters_in rs n)

unfoldable pub letters : ℕ → List ℕ
letters n = letters_in names n
