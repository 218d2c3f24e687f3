-- What the calls on the exchange table answer, line by line, as a box could write it down: no table stands in it (document 01, "Open exchanges";
-- document 02, Q-10). Assumes nothing.
use Rattle.std.specs.Prelude.{ℕ, ◌+◌, Bool, true, false, not, ◌&&◌, ◌||◌, cond, List, [], ◌∷◌, eqb, get_or}
use Rattle.verdict.specs.declared.Verdict.{Verdict}
use Rattle.verdict.specs.Orders.{is_good}
use Rattle.place.specs.Steps.{NOTHING, RESENT}
use Rattle.places.specs.declared.Report.{Report}
use Rattle.places.specs.Rows.{owner_of, nothing}
use Rattle.exchange.specs.declared.Exchanges.{Exchanges}
use Rattle.exchange.specs.Calls.{begun_by, Call, begin, reply, tick, after}
use Rattle.exchange.specs.Table.{answered, ticking}

-- a call's answer: the verdict with, of a beginning, the place and the serial, of a reply the place and the outcome, of a tick what it tells of
-- all sixteen places
pub data Line : Type 0 where
  of_begin : Verdict → ℕ → ℕ → Line
  of_reply : Verdict → ℕ → ℕ → Line
  of_tick : Verdict → List Report → Line

unfoldable pub line_of : Exchanges → Call → Line
line_of x (begin a) = let b = begun_by x a in of_begin b.verdict b.place b.serial
line_of x (reply a s w) = let y = answered x a s w in of_reply y.verdict y.place y.outcome
line_of x tick = let y = ticking x in of_tick y.verdict y.reports

-- the log of a sequence of calls, by the line of each and the table that it gives back
unfoldable pub logged_by : {C : Type 0} → (Exchanges → C → Line) → (Exchanges → C → Exchanges) → Exchanges → List C → List Line
logged_by line next x [] = []
logged_by line next x (c ∷ cs) = line x c ∷ logged_by line next (next x c) cs

abbrev pub logged : Exchanges → List Call → List Line
logged = logged_by line_of after

unfoldable pub is_tick : Line → Bool
is_tick (of_begin v k s) = false
is_tick (of_reply v k o) = false
is_tick (of_tick v rs) = true

-- "it writes the packet .. and only then opens the place": whether a line is a beginning that was taken, at a place, or under a serial and of the centre
-- that has a place
unfoldable pub begins : ℕ → Line → Bool
begins k (of_begin v j s) = is_good v && eqb k j
begins k (of_reply v j o) = false
begins k (of_tick v rs) = false

unfoldable pub gives : ℕ → ℕ → Line → Bool
gives k s (of_begin v j n) = is_good v && (eqb (owner_of k) (owner_of j) && eqb s n)
gives k s (of_reply v j o) = false
gives k s (of_tick v rs) = false

-- what a line tells of a place: a reply answers one place, "The tick answers all sixteen places."
unfoldable pub tells : ℕ → Line → ℕ
tells k (of_begin v j s) = NOTHING
tells k (of_reply v j o) = cond (eqb k j) o NOTHING
tells k (of_tick v rs) = (get_or rs k nothing).outcome

-- whether it tells anything of it
abbrev pub speaks : ℕ → Line → Bool
speaks k l = not (eqb (tells k l) NOTHING)

-- whether it is a reply that does, one that fitted the exchange there
unfoldable pub answers : ℕ → Line → Bool
answers k (of_begin v j s) = false
answers k (of_reply v j o) = speaks k (of_reply v j o)
answers k (of_tick v rs) = false

-- whether it is a tick that tells of a place under another serial than this
unfoldable pub misnames : ℕ → ℕ → Line → Bool
misnames k s (of_begin v j n) = false
misnames k s (of_reply v j o) = false
misnames k s (of_tick v rs) = not (eqb (get_or rs k nothing).serial s)

-- a sending: the beginning, or a resend that was told
abbrev pub resends : ℕ → Line → Bool
resends k l = eqb (tells k l) RESENT

abbrev pub sends : ℕ → Line → Bool
sends k l = begins k l || resends k l

-- how many lines pass a test
unfoldable pub count : (Line → Bool) → List Line → ℕ
count f [] = 0
count f (l ∷ ls) = cond (f l) 1 0 + count f ls

-- the lines before the first that passes a test
unfoldable pub up_to : (Line → Bool) → List Line → List Line
up_to f [] = []
up_to f (l ∷ ls) = cond (f l) [] (l ∷ up_to f ls)
