-- The judge of a packet (document 01, "Packet", "Orders"; 001, 6.6). The document counts a packet's bytes from 1, a list's places from 0.
-- Assumes nothing.
use Rattle.std.specs.Prelude.{ℕ, ◌+◌, List, [], ◌∷◌, eqb, get_or, drop}
use Rattle.frame.specs.Frame.{unit_length, frame_tests}
use Rattle.kinds.specs.declared.Row.{Row}
use Rattle.label.specs.Times.{label_of, judged, allowed}
use Rattle.octets.specs.Parts.{part}
use Rattle.unit.specs.Units.{is_command, judged_under}
use Rattle.verdict.specs.declared.Verdict.{Verdict}
use Rattle.verdict.specs.declared.Part.{Part}
use Rattle.verdict.specs.Orders.{Test, ◌or_else◌, in_order, part_by}
use Rattle.verdict.specs.Refusals.{VERSION, COMMAND, TIME}

-- byte 27: "command"
abbrev pub command_of : List ℕ → ℕ
command_of p = get_or p 26 0

-- bytes 28 to 27+L: "application data unit"
abbrev pub unit_of : List ℕ → List ℕ
unit_of p = part p 27 (27 + unit_length p)

-- "VERSION, COMMAND, TIME of the header"
abbrev pub header_tests : List ℕ → List Test
header_tests p =
    (eqb (get_or p 4 0) 1 or_else VERSION)
    ∷ (is_command (command_of p) or_else COMMAND)
    ∷ (allowed (judged (label_of (drop 6 p))) or_else TIME)
    ∷ []

-- what the judge says of a packet whose frame is good: the header, then "UNIT, TYPE, COUNT", SHORT, LONG, "TIME of the first bad object"
unfoldable pub judged_content : List Row → List ℕ → Verdict
judged_content rs p = in_order (header_tests p) (judged_under rs (command_of p) (unit_of p))

-- "One packet": the whole order
unfoldable pub judged_packet : List Row → List ℕ → Verdict
judged_packet rs p = in_order (frame_tests 1024 p) (judged_content rs p)

-- "The unit is read as the part of the packet that begins at byte 28"
unfoldable pub unit_place : List Row → List ℕ → Part
unit_place rs p = part_by (judged_packet rs p) 27 (27 + unit_length p)
