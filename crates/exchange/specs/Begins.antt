-- "Begin and write as one" (document 02, Q-8) for a centre (Q-11), over any table of types rs. It is made of what stands: what a beginning finds and
-- the table with an exchange entered (Table), the packet writer's verdict and bytes (output).
-- Assumes nothing.
use Rattle.std.specs.Prelude.{ℕ, ◌+◌, ◌||◌, cond, List, [], ◌∷◌, ◌++◌, eqb}
use Rattle.kinds.specs.declared.Row.{Row}
use Rattle.output.specs.Writing.{room_tests, packet_verdict, written_packet}
use Rattle.packet.specs.declared.Header.{Header}
use Rattle.place.specs.Rules.{FREE, SEND, REQUEST, is_open}
use Rattle.verdict.specs.declared.Verdict.{Verdict}
use Rattle.verdict.specs.Orders.{Test, ◌or_else◌, in_order, is_good}
use Rattle.verdict.specs.Refusals.{COMMAND}
use Rattle.exchange.specs.declared.Begun.{Begun}
use Rattle.exchange.specs.declared.Draft.{Draft}
use Rattle.exchange.specs.declared.Exchanges.{Exchanges}
use Rattle.exchange.specs.Table.{address_at, begin_tests, found, entered}

-- the header of a draft under a destination, a serial and a command
abbrev pub headed_by : Draft → List ℕ → ℕ → ℕ → Header
headed_by d to s m = record { serial = s; version = d.version; label = d.label; source = d.source; destination = to; command = m }

-- "writes its address as destination", under the draft's own command
abbrev pub headed : Exchanges → ℕ → Draft → ℕ → Header
headed x c d s = headed_by d (address_at x c) s d.command

-- "Commands 1 and 2 open a send, 4 a request": the mode that a command opens; any other opens none
unfoldable pub mode_of : ℕ → ℕ
mode_of c = cond (eqb c 1 || eqb c 2) SEND (cond (eqb c 4) REQUEST FREE)

-- "COMMAND also for 3, 5, 6": where the packet writer has its own, behind LENGTH and ROOM
abbrev pub opening_tests : List ℕ → Draft → ℕ → List Test
opening_tests out d l = room_tests out l 30 ++ ((is_open (mode_of d.command) or_else COMMAND) ∷ [])

-- "it writes the packet with the serial it would give": what the packet writer says of that header
abbrev pub draft_verdict : List Row → Exchanges → ℕ → List ℕ → Draft → ℕ → Verdict
draft_verdict rs x c out d l = in_order (opening_tests out d l) (packet_verdict rs out (headed x c d (found x c).serial) l)

-- "Refusals: STATE, FULL, then the packet writer's", with CENTRE after STATE
unfoldable pub begun_verdict : List Row → Exchanges → ℕ → List ℕ → Draft → ℕ → Verdict
begun_verdict rs x c out d l = in_order (begin_tests x c) (draft_verdict rs x c out d l)

-- a beginning that was refused: zeros, and the table as it came
abbrev pub unbegun : Exchanges → Verdict → Begun
unbegun x v = record { verdict = v; place = 0; length = 0; serial = 0; state = x }

-- "and only then opens the place": the place and serial that were found, the packet's 30+L bytes, and the table with the exchange entered, where the call says v
abbrev pub begun_as : Exchanges → ℕ → Draft → ℕ → Verdict → Begun
begun_as x c d l v =
    cond (is_good v)
    (record {
      verdict = v;
      place = (found x c).place;
      length = 30 + l;
      serial = (found x c).serial;
      state = entered x c (found x c).place (found x c).serial (mode_of d.command);
    })
    (unbegun x v)

unfoldable pub begun : List Row → Exchanges → ℕ → List ℕ → Draft → ℕ → Begun
begun rs x c out d l = begun_as x c d l (begun_verdict rs x c out d l)

-- the output: the packet around the unit that stands in it, and where anything is refused as it came
unfoldable pub begun_output : List Row → Exchanges → ℕ → List ℕ → Draft → ℕ → List ℕ
begun_output rs x c out d l =
    cond (is_good (begun_verdict rs x c out d l)) (written_packet rs out (headed x c d (found x c).serial) l) out
