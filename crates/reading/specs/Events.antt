-- Document 01, "Reading a stream": an event, what stands at a position, and what the reading finds first; and how they are written in code.
-- Assumes nothing.
use Rattle.std.specs.Prelude.{ℕ, List, codes}
use Rattle.reading.specs.declared.Event.{Event as Coded}
use Rattle.reading.specs.declared.Event.TheVariants as coded

-- "One call gives one event or asks for more"; a refused call answers its refusal
pub data Event : Type 0 where
  More : Event
  Noise : Event
  Length : Event
  End : Event
  Sum : Event
  Packet : ℕ → Event
  Refused : ℕ → Event

-- at a position there are too few bytes to decide, or a byte to skip with so many bytes looked at, or an event with the bytes looked at and
-- the bytes passed
pub data Standing : Type 0 where
  Wait : Standing
  Skip : ℕ → Standing
  Hit : Event → ℕ → ℕ → Standing

-- what is found first: the event with the count that it carries, where it stands, how many bytes were looked at, the next position, and the
-- count from there on
pub record Step : Type 0 where
  pub event : Event
  pub carried : ℕ
  pub at : ℕ
  pub looked : ℕ
  pub next : ℕ
  pub count : ℕ

-- an event as its number and the packet's length
pub record Told : Type 0 where
  pub number : ℕ
  pub length : ℕ

-- the code's event, which is never a refusal
abbrev pub event_of : Coded → Event
event_of coded.More = More
event_of coded.Noise = Noise
event_of coded.Length = Length
event_of coded.End = End
event_of coded.Sum = Sum
event_of (coded.Packet n) = Packet n

-- its name
abbrev pub name_of : Coded → List ℕ
name_of coded.More = codes "MORE"
name_of coded.Noise = codes "NOISE"
name_of coded.Length = codes "LENGTH"
name_of coded.End = codes "END"
name_of coded.Sum = codes "SUM"
name_of (coded.Packet n) = codes "PACKET"
