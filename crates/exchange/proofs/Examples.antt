-- The readings of the exchange table, by computation. Assumes nothing.
use Prim.Native.Nat.{ℕ, ◌+◌}
use mathlib.Core.List.{List, [], ◌∷◌, ◌++◌, map}
use mathlib.Core.Path.{◌≡◌, refl}
use lib.ListN.{length, get_or, take, drop, replicate}
use Rattle.kinds.specs.Table.{table as types, rows_of, find_row}
use Rattle.frame.specs.Frame.{unit_length}
use Rattle.label.specs.Times.{judged, in_ranges}
use Rattle.octets.specs.Numbers.{low_first}
use Rattle.octets.specs.Parts.{part}
use Rattle.octets.specs.Searches.{first_fit, any_fits, same}
use Rattle.output.specs.Writing.{packet_verdict}
use Rattle.packet.specs.Frames.{unit_of}
use Rattle.packet.specs.Headers.{header_of}
use Rattle.packet.proofs.Examples.{B}
use Rattle.unit.specs.Objects.{text_size, end_of, walk, timely}
use Rattle.unit.specs.Units.{judged_unit, judged_under}
use Rattle.verdict.specs.Orders.{in_order}
use Rattle.verdict.specs.Refusals.{STATE, SETTING, FULL, STRAY, CENTRE}
use Rattle.place.specs.declared.Place.{Place}
use Rattle.place.specs.declared.Reply.{Reply}
use Rattle.place.specs.declared.Reply.TheVariants.{Confirm, Answer, Deny, BadAnswer}
use Rattle.place.specs.Rules.{FREE, SEND, REQUEST, opened, free, is_open, is_zero, holds, keeps}
use Rattle.place.specs.Steps.{CONFIRMED, ANSWERED, RESENT, FAILED, counted, denied, ticked, fits, replied}
use Rattle.exchange.specs.declared.Exchanges.{Exchanges}
use Rattle.exchange.specs.declared.Draft.{Draft}
use Rattle.places.specs.declared.Report.{Report}
use Rattle.places.specs.Rows.{lowest_free, is_open_as, twice, all_keep, are_sound, serial_for, fitting, low_of, all_sound, nothing, swept}
use Rattle.exchange.specs.Begins.{mode_of, begun_verdict, begun}
use Rattle.exchange.specs.Table.{centre, next_at, centre_of, legal, blank, made, found, answered, ticking}
use Rattle.exchange.specs.Calls.{Asked, begun_by, Call, begin, reply, tick, after, run}

-- what the header of document 01's packet B has beside its serial, under a command
abbrev pub draft : ℕ → Draft
draft c =
    let h = header_of B in
    record { version = h.version; label = h.label; source = h.source; command = c }

-- the two centres' addresses, the first that of B's destination, and one of neither
abbrev pub first-address : List ℕ
first-address = (header_of B).destination

abbrev pub second-address : List ℕ
second-address = 0 ∷ 0 ∷ 0 ∷ 0 ∷ 0 ∷ 9 ∷ []

abbrev pub neither : List ℕ
neither = 0 ∷ 0 ∷ 0 ∷ 0 ∷ 0 ∷ 8 ∷ []

-- a beginning for a centre with this command and this unit in an output that just holds the packet
abbrev pub asked : ℕ → ℕ → List ℕ → Asked
asked n c u = record { centre = n; out = replicate 27 0 ++ (u ++ replicate 3 0); draft = draft c; size = length u }

-- B's own for a centre, and for the first a request for the state of system 1 at address 2
abbrev pub send_to : ℕ → Call
send_to n = begin (asked n 2 (unit_of B))

abbrev pub send : Call
send = send_to 0

abbrev pub request : Call
request = begin (asked 0 4 (0x3D ∷ 0x01 ∷ 0x01 ∷ 0x02 ∷ []))

-- a reply from the first centre
abbrev reply-1 : ℕ → Reply → Call
reply-1 = reply first-address

-- a fresh table for the two
abbrev pub fresh : ℕ → ℕ → Exchanges
fresh t r = (made t r first-address second-address).state

-- a call's answer in numbers: the refusal or 0, then of a beginning the place, the packet's length, the serial and the serial that is then
-- next for each centre, of a reply the place and the outcome, of a tick the serial told of the first place and the outcome of each
abbrev answer : Exchanges → Call → List ℕ
answer x (begin a) = let b = begun_by x a in b.verdict.number ∷ b.place ∷ b.length ∷ b.serial ∷ next_at b.state 0 ∷ next_at b.state 1 ∷ []
answer x (reply a s w) = let y = answered x a s w in y.verdict.number ∷ y.place ∷ y.outcome ∷ []
answer x tick =
    (ticking x).verdict.number ∷ (get_or (ticking x).reports 0 nothing).serial ∷ map (λ (r : Report). r.outcome) (ticking x).reports

abbrev answers : Exchanges → List Call → List (List ℕ)
answers x [] = []
answers x (c ∷ cs) = answer x c ∷ answers (after x c) cs

-- a table, calls on it, what they answer, and the first two places of a centre after them
pub record Example : Type 0 where
  pub start : Exchanges
  pub calls : List Call
  pub told : List (List ℕ)
  pub whose : ℕ
  pub left : List Place

abbrev example : Exchanges → List Call → List (List ℕ) → List Place → Example
example x cs a ps = record { start = x; calls = cs; told = a; whose = 0; left = ps }

abbrev second : Exchanges → List Call → List (List ℕ) → List Place → Example
second x cs a ps = record { start = x; calls = cs; told = a; whose = 1; left = ps }

-- a table with these places first for each centre and these serials next
abbrev tables : List Place → List Place → ℕ → ℕ → ℕ → ℕ → Exchanges
tables ps qs n m t r =
    record {
      places = take 8 (ps ++ replicate 8 free) ++ take 8 (qs ++ replicate 8 free);
      centres = centre first-address n ∷ centre second-address m ∷ [];
      timeout = t;
      resends = r;
    }

abbrev table : List Place → ℕ → ℕ → ℕ → Exchanges
table ps n t r = tables ps [] n 0 t r

abbrev both-free : List Place
both-free = free ∷ free ∷ []

-- what a tick answers whose first place has this serial and this outcome
abbrev first : ℕ → ℕ → List ℕ
first s o = 0 ∷ s ∷ o ∷ replicate 15 0

-- what a call answers that was refused: a beginning, a reply, a tick
abbrev no-begin : ℕ → ℕ → ℕ → List ℕ
no-begin n next other = n ∷ 0 ∷ 0 ∷ 0 ∷ next ∷ other ∷ []

abbrev no-reply : ℕ → List ℕ
no-reply n = n ∷ 0 ∷ 0 ∷ []

abbrev no-tick : ℕ → List ℕ
no-tick n = n ∷ 0 ∷ replicate 16 0

-- all three on a state that breaks the rules, whatever centre is named
abbrev broken : Exchanges → Example
broken x =
    example x (send ∷ send_to 2 ∷ reply-1 7 Deny ∷ tick ∷ [])
    (no-begin STATE (next_at x 0) (next_at x 1) ∷ no-begin STATE (next_at x 0) (next_at x 1) ∷ no-reply STATE ∷ no-tick STATE ∷ []) (take 2 x.places)

-- eight exchanges open under serials from one on
abbrev eight : ℕ → List Place
eight n = map (λ (s : ℕ). opened (n + s) SEND) (0 ∷ 1 ∷ 2 ∷ 3 ∷ 4 ∷ 5 ∷ 6 ∷ 7 ∷ [])

abbrev pub examples : List Example
examples =
    -- a send and a request, each under its own serial
    example (table [] 7 1 0) (send ∷ request ∷ []) ((0 ∷ 0 ∷ 39 ∷ 7 ∷ 8 ∷ 0 ∷ []) ∷ (0 ∷ 1 ∷ 34 ∷ 8 ∷ 9 ∷ 0 ∷ []) ∷ []) (opened 7 SEND ∷ opened 8 REQUEST ∷ [])
    -- the next serial may itself be open: with 65,535 and 0 open, 1 is given and 2 is next
    ∷ example (table (opened 65535 SEND ∷ free ∷ opened 0 REQUEST ∷ []) 65535 1 0) (send ∷ []) ((0 ∷ 1 ∷ 39 ∷ 1 ∷ 2 ∷ 0 ∷ []) ∷ []) (opened 65535 SEND ∷ opened 1 SEND ∷ [])
    -- a tick ages open places only, and after a resend the age is 0
    ∷ example (fresh 2 1) (send ∷ tick ∷ tick ∷ []) ((0 ∷ 0 ∷ 39 ∷ 0 ∷ 1 ∷ 0 ∷ []) ∷ first 0 0 ∷ first 0 RESENT ∷ []) (counted 1 0 (opened 0 SEND) ∷ free ∷ [])
    ∷ example (fresh 2 1) (send ∷ tick ∷ tick ∷ tick ∷ tick ∷ []) ((0 ∷ 0 ∷ 39 ∷ 0 ∷ 1 ∷ 0 ∷ []) ∷ first 0 0 ∷ first 0 RESENT ∷ first 0 0 ∷ first 0 FAILED ∷ []) both-free
    -- a failed place is zeroed, and its serial is told
    ∷ example (table (opened 7 SEND ∷ []) 9 1 0) (tick ∷ tick ∷ []) (first 7 FAILED ∷ first 0 0 ∷ []) both-free
    -- a send: an answer and a bad answer are stray, a denial fails it, and then it is no more
    ∷ example (table (opened 7 SEND ∷ []) 0 1 0) (reply-1 7 Answer ∷ reply-1 7 BadAnswer ∷ reply-1 6 Confirm ∷ reply-1 7 Deny ∷ reply-1 7 Confirm ∷ [])
    (no-reply STRAY ∷ no-reply STRAY ∷ no-reply STRAY ∷ (0 ∷ 0 ∷ FAILED ∷ []) ∷ no-reply STRAY ∷ []) both-free
    -- a confirm frees it
    ∷ example (table (opened 7 SEND ∷ opened 8 SEND ∷ []) 0 1 0) (reply-1 8 Confirm ∷ []) ((0 ∷ 1 ∷ CONFIRMED ∷ []) ∷ []) (opened 7 SEND ∷ free ∷ [])
    -- a request: a confirm is stray, a bad answer resends it, and an answer ends it
    ∷ example (table (free ∷ opened 7 REQUEST ∷ []) 0 1 1) (reply-1 7 Confirm ∷ reply-1 7 BadAnswer ∷ []) (no-reply STRAY ∷ (0 ∷ 1 ∷ RESENT ∷ []) ∷ []) (free ∷ counted 1 0 (opened 7 REQUEST) ∷ [])
    ∷ example (table (free ∷ opened 7 REQUEST ∷ []) 0 1 1) (reply-1 7 Answer ∷ []) ((0 ∷ 1 ∷ ANSWERED ∷ []) ∷ []) both-free
    -- "The second centre's first beginning": place 8, serial 0
    ∷ second (fresh 2 1) (send ∷ send_to 1 ∷ send_to 1 ∷ []) ((0 ∷ 0 ∷ 39 ∷ 0 ∷ 1 ∷ 0 ∷ []) ∷ (0 ∷ 8 ∷ 39 ∷ 0 ∷ 1 ∷ 1 ∷ []) ∷ (0 ∷ 9 ∷ 39 ∷ 1 ∷ 1 ∷ 2 ∷ []) ∷ [])
    (opened 0 SEND ∷ opened 1 SEND ∷ [])
    -- eight open for the first: FULL for it, the second still begins; a serial open with the first is given to the second
    ∷ second (tables (eight 0) [] 3 3 1 0) (send ∷ send_to 1 ∷ []) (no-begin FULL 3 3 ∷ (0 ∷ 8 ∷ 39 ∷ 3 ∷ 3 ∷ 4 ∷ []) ∷ []) (opened 3 SEND ∷ free ∷ [])
    ∷ example (tables (eight 0) (eight 0) 3 3 1 0) (send_to 1 ∷ send ∷ []) (no-begin FULL 3 3 ∷ no-begin FULL 3 3 ∷ []) (opened 0 SEND ∷ opened 1 SEND ∷ [])
    -- a centre that is none of the two
    ∷ example (fresh 2 1) (send_to 2 ∷ send_to 255 ∷ send ∷ []) (no-begin CENTRE 0 0 ∷ no-begin CENTRE 0 0 ∷ (0 ∷ 0 ∷ 39 ∷ 0 ∷ 1 ∷ 0 ∷ []) ∷ []) (opened 0 SEND ∷ free ∷ [])
    -- a confirm from the second's address frees its place alone, though the first has that serial open; one from neither address is stray
    ∷ second (tables (opened 0 SEND ∷ []) (opened 0 SEND ∷ []) 1 1 1 0) (reply neither 0 Confirm ∷ reply second-address 0 Confirm ∷ reply second-address 0 Confirm ∷ [])
    (no-reply STRAY ∷ (0 ∷ 8 ∷ CONFIRMED ∷ []) ∷ no-reply STRAY ∷ []) both-free
    ∷ example (tables (opened 0 SEND ∷ []) (opened 0 SEND ∷ []) 1 1 1 0) (reply second-address 0 Confirm ∷ []) ((0 ∷ 8 ∷ CONFIRMED ∷ []) ∷ []) (opened 0 SEND ∷ free ∷ [])
    -- STATE: a free place with serial 7; a mode that is none of the three; age T; resends R + 1; one serial open as a send and as a request; T 0 or 11; R 10
    ∷ broken (table (opened 7 FREE ∷ []) 0 1 0)
    ∷ broken (table (opened 7 3 ∷ []) 0 1 0)
    ∷ broken (table (free ∷ opened 0 255 ∷ []) 0 1 0)
    ∷ broken (table (counted 0 2 (opened 7 SEND) ∷ []) 0 2 0)
    ∷ broken (table (counted 1 0 (opened 7 SEND) ∷ []) 0 2 0)
    ∷ broken (table (opened 7 SEND ∷ opened 7 REQUEST ∷ []) 0 2 0)
    ∷ broken (tables [] (opened 7 SEND ∷ opened 7 REQUEST ∷ []) 0 0 2 0)
    ∷ broken (table [] 0 0 0)
    ∷ broken (table [] 0 11 0)
    ∷ broken (table [] 0 1 10)
    -- and equal addresses
    ∷ broken (blank 1 0 first-address first-address)
    -- "SETTING, with a table of zeros": every later call on it is STATE
    ∷ broken (fresh 0 0)
    ∷ broken (fresh 11 9)
    ∷ broken (fresh 10 10)
    ∷ broken (made 1 0 second-address second-address).state
    ∷ []

-- what the calls answer and leave, and what the example says
abbrev pub comes-out : Example → List (List ℕ) × List Place
comes-out e = (answers e.start e.calls, take 2 (drop (low_of e.whose) (run e.start e.calls).places))

abbrev pub expected : Example → List (List ℕ) × List Place
expected e = (e.told, e.left)

pub answered-so : map comes-out examples ≡ map expected examples
unfolding is_open made found begun begun_verdict mode_of centre_of answered ticking legal lowest_free is_open_as twice all_keep are_sound all_sound serial_for fitting swept same after run is_zero holds keeps
    denied ticked fits replied in_order first_fit any_fits packet_verdict judged_under judged_unit rows_of types find_row text_size end_of walk timely judged in_ranges low_first part unit_length
answered-so = refl

-- making a table: T 0 or 11, R 10; the ends of the ranges; equal addresses, and addresses that differ in one byte; a refused one is of zeros
abbrev makings : List (ℕ × ℕ × List ℕ × List ℕ)
makings =
    (0, 0, first-address, second-address) ∷ (11, 0, first-address, second-address) ∷ (1, 10, first-address, second-address)
    ∷ (1, 0, neither, neither) ∷ (1, 0, second-address, neither) ∷ (10, 9, first-address, second-address) ∷ []

pub made_so : map (λ (e : ℕ × ℕ × List ℕ × List ℕ). (made e.0 e.1 e.2 e.3).verdict.number) makings ≡ SETTING ∷ SETTING ∷ SETTING ∷ SETTING ∷ 0 ∷ 0 ∷ []
unfolding made in_order same
made_so = refl

abbrev zeros : Exchanges
zeros = blank 0 0 (replicate 6 0) (replicate 6 0)

pub made-zeros : map (λ (e : ℕ × ℕ × List ℕ × List ℕ). (made e.0 e.1 e.2 e.3).state) makings
    ≡ zeros ∷ zeros ∷ zeros ∷ zeros ∷ blank 1 0 second-address neither ∷ blank 10 9 first-address second-address ∷ []
unfolding made in_order same
made-zeros = refl
