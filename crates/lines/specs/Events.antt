-- Document 01, "The listing program": "It reads standard input and prints per event `skipped NAME`; for PACKET also length, serial, command,
-- and the judge's OK or refusal name; last `held H skipped S`." Assumes nothing.
use Rattle.std.specs.Prelude.{ℕ, List, [], ◌∷◌, ◌++◌, take}
use Rattle.kinds.specs.Table.{rows}
use Rattle.naming.specs.Names.{ascii, letters}
use Rattle.packet.specs.Frames.{judged_packet}
use Rattle.packet.specs.Headers.{header_of}
use Rattle.reading.specs.Events.{Event}
use Rattle.reading.specs.Events.Event.{More, Noise, Length, End, Sum, Packet, Refused}
use Rattle.reading.specs.Values.{NOISE, PACKET}
use Rattle.verdict.specs.Refusals.{LENGTH, END, SUM}
use Rattle.lines.specs.Decimal.{decimal}

-- a line: its words with a blank between, and a newline
unfoldable pub line : List (List ℕ) → List ℕ
line [] = 10 ∷ []
line (w ∷ []) = w ++ (10 ∷ [])
line (w ∷ v ∷ ws) = w ++ (32 ∷ line (v ∷ ws))

-- "skipped NAME"
unfoldable pub short_line : ℕ → ℕ → List ℕ
short_line skipped number = line (decimal skipped ∷ letters number ∷ [])

-- "for PACKET also length, serial, command, and the judge's OK or refusal name"
abbrev pub packet_words : ℕ → ℕ → ℕ → ℕ → List (List ℕ)
packet_words n serial command number = decimal n ∷ decimal serial ∷ decimal command ∷ letters number ∷ []

unfoldable pub packet_line : ℕ → ℕ → List ℕ → List ℕ
packet_line skipped n p =
    line (decimal skipped ∷ letters PACKET ∷ packet_words n (header_of p).serial (header_of p).command (judged_packet rows p).number)

-- "per event": there is no line where more is asked for or the call was refused; a packet stands in the front of the buffer
unfoldable pub event_line : ℕ → Event → List ℕ → List ℕ
event_line skipped More out = []
event_line skipped Noise out = short_line skipped NOISE
event_line skipped Length out = short_line skipped LENGTH
event_line skipped End out = short_line skipped END
event_line skipped Sum out = short_line skipped SUM
event_line skipped (Packet n) out = packet_line skipped n (take n out)
event_line skipped (Refused n) out = []

-- "last `held H skipped S`"
unfoldable pub last_line : ℕ → ℕ → List ℕ
last_line held skipped = line (ascii "held" ∷ decimal held ∷ ascii "skipped" ∷ decimal skipped ∷ [])
