-- Document 01: "If an answer is an enum, a definition gives this paper's number and values for each of its cases."
-- Assumes nothing.
use Rattle.std.specs.Prelude.{ℕ, Bool, true, false, List, take}
use Rattle.verdict.specs.Refusals.{LENGTH, END, SUM}
use Rattle.reading.specs.Events.{Event, Told}
use Rattle.reading.specs.Events.Event.{More, Noise, Length, End, Sum, Packet, Refused}

-- numbers of our own, outside 1 to 31, which documents 01 and 02 use
abbrev pub MORE : ℕ
MORE = 32

abbrev pub NOISE : ℕ
NOISE = 33

abbrev pub PACKET : ℕ
PACKET = 34

-- an event's number, and the packet's length
unfoldable pub told : Event → Told
told More = record { number = MORE; length = 0 }
told Noise = record { number = NOISE; length = 0 }
told Length = record { number = LENGTH; length = 0 }
told End = record { number = END; length = 0 }
told Sum = record { number = SUM; length = 0 }
told (Packet n) = record { number = PACKET; length = n }
told (Refused n) = record { number = n; length = 0 }

-- "One call gives one event or asks for more"
unfoldable pub asks : Event → Bool
asks More = true
asks Noise = false
asks Length = false
asks End = false
asks Sum = false
asks (Packet n) = false
asks (Refused n) = false

-- "one per LENGTH, END and SUM": the first byte of a refused start
unfoldable pub start_byte : Event → ℕ
start_byte More = 0
start_byte Noise = 0
start_byte Length = 1
start_byte End = 1
start_byte Sum = 1
start_byte (Packet n) = 0
start_byte (Refused n) = 0

-- the packet that an event brings, of the bytes that begin where it stands: none but for PACKET
unfoldable pub packet_of : Event → List ℕ → List ℕ
packet_of e xs = take (told e).length xs
