-- Every call that a box makes on the exchange table: those of the table itself, and a packet given as its bytes (document 02, Q-10, Q-11).
-- Assumes nothing.
use Rattle.std.specs.Prelude.{ℕ, Bool, true, false, not, List}
use Rattle.exchange.specs.declared.Exchanges.{Exchanges}
use Rattle.exchange.specs.Calls.{Call, begin, reply, tick, after}
use Rattle.exchange.specs.Centres.{Answer, to_reply, answer_to, spared}
use Rattle.exchange.specs.Logs.{Line, of_reply, line_of, logged_by}
use Rattle.kinds.specs.Table.{rows}
use Rattle.octets.specs.Searches.{same}
use Rattle.packet.specs.Headers.{header_of}
use Rattle.taking.specs.Takes.{taken}

pub data BoxCall : Type 0 where
  own : Call → BoxCall
  packet : List ℕ → BoxCall

-- what it answers, and the table that it gives back
unfoldable pub box_line : Exchanges → BoxCall → Line
box_line x (own c) = line_of x c
box_line x (packet p) = let a = taken rows x p in of_reply a.verdict a.place a.outcome

unfoldable pub box_after : Exchanges → BoxCall → Exchanges
box_after x (own c) = after x c
box_after x (packet p) = (taken rows x p).state

abbrev pub box_log : Exchanges → List BoxCall → List Line
box_log = logged_by box_line box_after

-- whether it is a tick
unfoldable pub calls_tick : BoxCall → Bool
calls_tick (own (begin a)) = false
calls_tick (own (reply a s w)) = false
calls_tick (own tick) = true
calls_tick (packet p) = false

-- what it answers to a centre
unfoldable pub box_answer : ℕ → Exchanges → BoxCall → Answer
box_answer c x (own k) = answer_to c x k
box_answer c x (packet p) = let a = taken rows x p in to_reply a.verdict a.place a.outcome

-- whether it is not of centre d, which has an address: a packet is of the centre from whose address it comes
unfoldable pub box_spared : ℕ → List ℕ → BoxCall → Bool
box_spared d l (own k) = spared d l k
box_spared d l (packet p) = not (same l (header_of p).source)
