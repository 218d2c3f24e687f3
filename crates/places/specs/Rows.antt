-- The searches over a row of places of any length, from one number up to another (document 01, "Open exchanges"; 001, 6.5), and the eight of each
-- centre (document 02, Q-11).
-- Assumes nothing.
use Rattle.std.specs.Prelude.{ℕ, ◌+◌, ◌*◌, ◌-◌, ◌/◌, ◌%◌, Bool, not, ◌&&◌, cond, List, map, ltb, get_or, Option, Some, None, Result, Ok, Err}
use Rattle.octets.specs.Searches.{first_fit, any_fits, all_fit}
use Rattle.place.specs.declared.Place.{Place}
use Rattle.place.specs.declared.Reply.{Reply}
use Rattle.place.specs.Rules.{free, is_open, holds, keeps}
use Rattle.place.specs.Steps.{NOTHING, ticked, fits}
use Rattle.places.specs.declared.Report.{Report}
use Rattle.places.specs.declared.Unfound.{Unfound}
use Rattle.places.specs.declared.Unfound.TheVariants.{Broken, Outside, Nothing}
use Rattle.places.specs.declared.Swept.{Swept}

-- the place at a number
abbrev pub place_at : List Place → ℕ → Place
place_at ps k = get_or ps k free

-- what is asked of the place at a number
abbrev pub free_at : List Place → ℕ → Bool
free_at ps k = not (is_open (place_at ps k).mode)

abbrev pub holds_at : List Place → ℕ → ℕ → Bool
holds_at ps s k = holds s (place_at ps k)

abbrev pub keeps_at : ℕ → ℕ → List Place → ℕ → Bool
keeps_at t r ps k = keeps t r (place_at ps k)

abbrev pub fits_at : List Place → ℕ → Reply → ℕ → Bool
fits_at ps s w k = fits s w (place_at ps k)

-- "the lowest free place"; the end of the row where none is free
unfoldable pub lowest_free : List Place → ℕ → ℕ → ℕ
lowest_free ps from to = first_fit (free_at ps) from (to - from)

-- whether a serial is open
unfoldable pub is_open_as : List Place → ℕ → ℕ → ℕ → Bool
is_open_as ps from to s = any_fits (holds_at ps s) from (to - from)

-- open under a serial that is open again further on
abbrev pub double_at : List Place → ℕ → ℕ → Bool
double_at ps to k = is_open (place_at ps k).mode && is_open_as ps (k + 1) to (place_at ps k).serial

-- "two open with one serial"
unfoldable pub twice : List Place → ℕ → ℕ → Bool
twice ps from to = any_fits (double_at ps to) from (to - from)

-- no place breaks the rules for a place
unfoldable pub all_keep : ℕ → ℕ → List Place → ℕ → ℕ → Bool
all_keep t r ps from to = all_fit (keeps_at t r ps) from (to - from)

-- the state's rules for the places from one number up to another: "an open place with age T or more or resends above R, two open with one
-- serial, a free place not zero", none of these
unfoldable pub are_sound : ℕ → ℕ → List Place → ℕ → ℕ → Bool
are_sound t r ps from to = all_keep t r ps from to && not (twice ps from to)

-- "from the next one upward and past 65,535 to 0": the serial so many after another
abbrev pub upward : ℕ → ℕ → ℕ
upward s j = (s + j) % 65536

abbrev pub unopened : List Place → ℕ → ℕ → ℕ → ℕ → Bool
unopened ps from to next j = not (is_open_as ps from to (upward next j))

-- "the first serial .. that is not open": no more serials are open than there are places, so this many are tried at most
unfoldable pub serial_for : List Place → ℕ → ℕ → ℕ → ℕ
serial_for ps from to next = upward next (first_fit (unopened ps from to next) 0 (to - from))

-- the place that a reply fits; the end of the row where it fits none
unfoldable pub fitting : List Place → ℕ → ℕ → ℕ → Reply → ℕ
fitting ps from to s w = first_fit (fits_at ps s w) from (to - from)

-- "Places 0 to 7 are the first centre's, 8 to 15 the second's": where a centre's places begin and end, and whose a place is
abbrev pub low_of : ℕ → ℕ
low_of c = c * 8

abbrev pub end_of : ℕ → ℕ
end_of c = c * 8 + 8

abbrev pub owner_of : ℕ → ℕ
owner_of k = k / 8

-- "STATE for one serial twice within one centre": the rules are those of each centre's places
unfoldable pub all_sound : ℕ → ℕ → List Place → Bool
all_sound t r ps = all_fit (λ c. are_sound t r ps (low_of c) (end_of c)) 0 2

-- "STATE, then FULL or STRAY", and "CENTRE, after STATE, for a centre other than the two": what is found among a centre's places, where a search came to
-- place k, and x is the serial beside it
unfoldable pub sought : ℕ → ℕ → List Place → ℕ → ℕ → ℕ → Result (ℕ × ℕ) Unfound
sought t r ps c k x = cond (all_sound t r ps) (cond (ltb c 2) (cond (ltb k (end_of c)) (Ok (k, x)) (Err Nothing)) (Err Outside)) (Err Broken)

-- "takes the lowest free place and the first serial, from the next one upward .., that is not open": what a beginning finds
abbrev pub opening : ℕ → ℕ → List Place → ℕ → ℕ → Result (ℕ × ℕ) Unfound
opening t r ps c next = sought t r ps c (lowest_free ps (low_of c) (end_of c)) (serial_for ps (low_of c) (end_of c) next)

-- and what a reply finds
abbrev pub reached : ℕ → ℕ → List Place → ℕ → ℕ → Reply → Result (ℕ × ℕ) Unfound
reached t r ps c s w = sought t r ps c (fitting ps (low_of c) (end_of c) s w) s

-- what a tick makes of a place
abbrev pub aged : ℕ → ℕ → Place → Place
aged t r p = (ticked t r p).place

-- and what it tells of it: the outcome, with the serial
abbrev pub report : ℕ → ℕ → Place → Report
report t r p = record { outcome = (ticked t r p).outcome; serial = p.serial }

-- a place of which nothing is told
abbrev pub nothing : Report
nothing = record { outcome = NOTHING; serial = 0 }

-- "The tick answers all sixteen places.", "a tick serves both"; None of places that break the rules
unfoldable pub swept : ℕ → ℕ → List Place → Option Swept
swept t r ps = cond (all_sound t r ps) (Some (record { places = map (aged t r) ps; reports = map (report t r) ps })) None
