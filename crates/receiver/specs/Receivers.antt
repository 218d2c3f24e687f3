-- The receiver's structs as the state and the answer of the reading, and how an answer is written in code. Assumes nothing.
use Rattle.std.specs.Prelude.{ℕ, List, Result, Ok, Err}
use Rattle.verdict.specs.declared.Refused.{Refused as Coded}
use Rattle.verdict.specs.Refusals.{number_of}
use Rattle.receiver.specs.declared.Receiver.{Receiver}
use Rattle.receiver.specs.declared.Received.{Received as CodedReceived}
use Rattle.receiver.specs.declared.Served.{Served as CodedServed}
use Rattle.reading.specs.Events.{Event, event_of}
use Rattle.reading.specs.Events.Event.{Refused}
use Rattle.reading.specs.Calls.{State, Answer}

-- the answer of a call: an event with the count that it carries, the bytes taken, and the new state
pub record Received : Type 0 where
  pub event : Event
  pub skipped : ℕ
  pub taken : ℕ
  pub state : Receiver

-- the same of a call on a lent hold: the new held length and count, without the hold
pub record Served : Type 0 where
  pub event : Event
  pub skipped : ℕ
  pub taken : ℕ
  pub held : ℕ
  pub count : ℕ

abbrev pub lent : List ℕ → ℕ → ℕ → State
lent hold held skipped = record { hold = hold; held = held; skipped = skipped }

abbrev pub given : Receiver → State
given r = lent r.hold r.held r.skipped

abbrev pub receiver_of : State → Receiver
receiver_of st = record { hold = st.hold; held = st.held; skipped = st.skipped }

-- the answer by value
abbrev pub received_of : Answer → Received
received_of a = record { event = a.event; skipped = a.skipped; taken = a.taken; state = receiver_of a.state }

-- and beside a lent hold
abbrev pub served_of : Answer → Served
served_of a = record { event = a.event; skipped = a.skipped; taken = a.taken; held = a.state.held; count = a.state.skipped }

-- the code's answer: an error is the refusal as the event, zero for all else, and the state as it came
abbrev pub received_by : State → Result CodedReceived Coded → Received
received_by st (Ok r) = record { event = event_of r.event; skipped = r.skipped; taken = r.taken; state = r.state }
received_by st (Err e) = record { event = Refused (number_of e.refusal); skipped = 0; taken = 0; state = receiver_of st }

abbrev pub served_by : ℕ → ℕ → Result CodedServed Coded → Served
served_by held skipped (Ok s) = record { event = event_of s.event; skipped = s.skipped; taken = s.taken; held = s.held; count = s.count }
served_by held skipped (Err e) = record { event = Refused (number_of e.refusal); skipped = 0; taken = 0; held = held; count = skipped }
