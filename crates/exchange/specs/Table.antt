-- The exchange table and its calls (document 01, "Open exchanges"; 001, 6.5), for two monitoring centres (document 02, Q-11).
-- Assumes nothing.
use Rattle.std.specs.Prelude.{ℕ, Bool, not, ◌&&◌, cond, List, [], ◌∷◌, leb, ltb, get_or, set, replicate, Option, Some, None, Result, Ok, Err}
use Rattle.octets.specs.Searches.{first_fit, same}
use Rattle.verdict.specs.declared.Verdict.{Verdict}
use Rattle.verdict.specs.declared.Refused.{Refused}
use Rattle.verdict.specs.Refusals.{STATE, SETTING, FULL, STRAY, CENTRE, number_of}
use Rattle.verdict.specs.declared.Refusal.TheVariants.{State, Full, Stray, Centre as OfCentre}
use Rattle.verdict.specs.Orders.{Test, refusal, good, is_good, in_order, ◌or_else◌, refused_at}
use Rattle.place.specs.declared.Place.{Place}
use Rattle.place.specs.declared.Reply.{Reply}
use Rattle.place.specs.Rules.{free, opened}
use Rattle.place.specs.Steps.{NOTHING, replied}
use Rattle.exchange.specs.declared.Centre.{Centre}
use Rattle.exchange.specs.declared.Exchanges.{Exchanges}
use Rattle.exchange.specs.declared.Made.{Made}
use Rattle.exchange.specs.declared.Replied.{Replied}
use Rattle.exchange.specs.declared.Ticked.{Ticked}
use Rattle.places.specs.declared.Swept.{Swept}
use Rattle.places.specs.declared.Unfound.{Unfound}
use Rattle.places.specs.declared.Unfound.TheVariants.{Broken, Outside, Nothing}
use Rattle.places.specs.Rows.{place_at, lowest_free, upward, serial_for, fitting, low_of, end_of, all_sound, nothing, swept}

-- "Timeout T is 1 to 10 ticks, resends R 0 to 9."
abbrev pub in_range : ℕ → ℕ → Bool
in_range t r = leb 1 t && leb t 10 && leb r 9

-- "each centre has an address and a next serial of its own"; no address, and 0, for a centre other than the two
abbrev pub centre : List ℕ → ℕ → Centre
centre a n = record { address = record { bytes = a }; next = n }

abbrev pub centre_at : Exchanges → ℕ → Centre
centre_at x c = get_or x.centres c (centre [] 0)

abbrev pub address_at : Exchanges → ℕ → List ℕ
address_at x c = (centre_at x c).address.bytes

abbrev pub next_at : Exchanges → ℕ → ℕ
next_at x c = (centre_at x c).next

-- the centre that has an address, 2 where neither has it
unfoldable pub centre_of : Exchanges → List ℕ → ℕ
centre_of x a = first_fit (λ c. same (address_at x c) a) 0 2

-- "equal centre addresses" are no more allowed than a T or R out of range
abbrev pub settled : ℕ → ℕ → List ℕ → List ℕ → Bool
settled t r a b = in_range t r && not (same a b)

-- "STATE: T or R out of range, an open place with age T or more or resends above R, two open with one serial, a free place not zero",
-- "for one serial twice within one centre, or equal centre addresses": a state that is none of these
unfoldable pub legal : Exchanges → Bool
legal x = settled x.timeout x.resends (address_at x 0) (address_at x 1) && all_sound x.timeout x.resends x.places

-- "A fresh table starts at serial 0", for each centre
abbrev pub blank : ℕ → ℕ → List ℕ → List ℕ → Exchanges
blank t r a b = record { places = replicate 16 free; centres = centre a 0 ∷ centre b 0 ∷ []; timeout = t; resends = r }

-- "making a table: SETTING, with a table of zeros", "SETTING for these at the making"
unfoldable pub made : ℕ → ℕ → List ℕ → List ℕ → Made
made t r a b =
    let v = in_order ((settled t r a b or_else SETTING) ∷ []) good in
    record { verdict = v; state = cond (is_good v) (blank t r a b) (blank 0 0 (replicate 6 0) (replicate 6 0)) }

-- the lowest free place of a centre's eight, its end where none is free; "a serial is open only within its centre": the first from its own next one upward
abbrev pub lowest_of : Exchanges → ℕ → ℕ
lowest_of x c = lowest_free x.places (low_of c) (end_of c)

abbrev pub serial_of : Exchanges → ℕ → ℕ
serial_of x c = serial_for x.places (low_of c) (end_of c) (next_at x c)

-- "Exchange calls: STATE, then FULL or STRAY", "30 CENTRE, after STATE, for a centre other than the two", "FULL where that centre's eight are open"
abbrev pub begin_tests : Exchanges → ℕ → List Test
begin_tests x c = (legal x or_else STATE) ∷ (ltb c 2 or_else CENTRE) ∷ (ltb (lowest_of x c) (end_of c) or_else FULL) ∷ []

-- a place and a serial for a beginning, or the verdict where there are none
pub record Found : Type 0 where
  pub verdict : Verdict
  pub place : ℕ
  pub serial : ℕ

-- where there are none: "zero or nothing for all else"
abbrev pub unfound : ℕ → Found
unfound n = record { verdict = refusal n 0; place = 0; serial = 0 }

-- "takes the lowest free place and the first serial, from the next one upward .., that is not open"
unfoldable pub found : Exchanges → ℕ → Found
found x c =
    let v = in_order (begin_tests x c) good in
    record { verdict = v; place = cond (is_good v) (lowest_of x c) 0; serial = cond (is_good v) (serial_of x c) 0 }

-- the same of an answer: the place and the serial, or the refusal
abbrev pub found_as : Result (ℕ × ℕ) Refused → Found
found_as (Ok at) = record { verdict = good; place = at.0; serial = at.1 }
found_as (Err e) = record { verdict = refusal (number_of e.refusal) e.place; place = 0; serial = 0 }

-- what a beginning is refused by, and a reply
abbrev pub no_opening : Unfound → Refused
no_opening Broken = refused_at State 0
no_opening Outside = refused_at OfCentre 0
no_opening Nothing = refused_at Full 0

abbrev pub no_fitting : Unfound → Refused
no_fitting Broken = refused_at State 0
no_fitting Outside = refused_at Stray 0
no_fitting Nothing = refused_at Stray 0

-- the table with other places
abbrev pub placed : Exchanges → List Place → Exchanges
placed x ps = record { places = ps; centres = x.centres; timeout = x.timeout; resends = x.resends }

-- the table with an exchange of a centre entered at a place: "the one after it is then next"
abbrev pub entered : Exchanges → ℕ → ℕ → ℕ → ℕ → Exchanges
entered x c k s m =
    record {
      places = set x.places k (opened s m);
      centres = set x.centres c (centre (address_at x c) (upward s 1));
      timeout = x.timeout;
      resends = x.resends;
    }

-- the place of a centre that a reply fits, its end where it fits none
abbrev pub fitting_of : Exchanges → ℕ → ℕ → Reply → ℕ
fitting_of x c s w = fitting x.places (low_of c) (end_of c) s w

-- "a reply fits only when its source address is that centre's": STRAY where neither has the address (c is 2), and where it fits no exchange of the one that has it
abbrev pub reply_tests : Exchanges → ℕ → ℕ → Reply → List Test
reply_tests x c s w = (legal x or_else STATE) ∷ (ltb c 2 or_else STRAY) ∷ (ltb (fitting_of x c s w) (end_of c) or_else STRAY) ∷ []

-- the step of the place at a number, as a reply that fits it makes it
abbrev pub stepped : Exchanges → ℕ → Reply → Replied
stepped x k w =
    let step = replied x.resends w (place_at x.places k) in
    record { verdict = good; place = k; outcome = step.outcome; state = placed x (set x.places k step.place) }

-- nothing told, and the table as it came: "zero or nothing for all else, .. gives the state back as it came"
abbrev pub untold : Exchanges → Verdict → Replied
untold x v = record { verdict = v; place = 0; outcome = NOTHING; state = x }

-- "A reply is given as its serial and one of confirm, answer, deny, bad answer", and with its source address a: the place that it fits takes its step
abbrev pub answered_by : Exchanges → ℕ → ℕ → Reply → Replied
answered_by x c s w =
    let v = in_order (reply_tests x c s w) good in
    cond (is_good v) (stepped x (fitting_of x c s w) w) (untold x v)

unfoldable pub answered : Exchanges → List ℕ → ℕ → Reply → Replied
answered x a s w = answered_by x (centre_of x a) s w

-- a tick that was refused
abbrev pub unticked : Exchanges → Verdict → Ticked
unticked x v = record { verdict = v; reports = replicate 16 nothing; state = x }

-- what a tick makes of the places and tells of them; no places that break the rules are ticked
abbrev pub ticked_by : Exchanges → Verdict → Option Swept → Ticked
ticked_by x v None = unticked x v
ticked_by x v (Some all) = record { verdict = v; reports = all.reports; state = placed x all.places }

-- "The tick answers all sixteen places.", "a tick serves both"
unfoldable pub ticking : Exchanges → Ticked
ticking x =
    let v = in_order ((legal x or_else STATE) ∷ []) good in
    cond (is_good v) (ticked_by x v (swept x.timeout x.resends x.places)) (unticked x v)
