-- The packet writer (document 01, "Packet", "Orders"), over any table of types rs.
-- Assumes nothing.
use Rattle.std.specs.Prelude.{ℕ, ◌+◌, cond, List, [], ◌∷◌, leb, length}
use Rattle.kinds.specs.declared.Row.{Row}
use Rattle.label.specs.Times.{judged, allowed}
use Rattle.octets.specs.Parts.{part, put_at}
use Rattle.packet.specs.declared.Header.{Header}
use Rattle.output.specs.Packets.{packet_bytes}
use Rattle.unit.specs.Units.{is_command, judged_under}
use Rattle.verdict.specs.declared.Verdict.{Verdict}
use Rattle.verdict.specs.Orders.{Test, ◌or_else◌, in_order, is_good}
use Rattle.verdict.specs.Refusals.{LENGTH, ROOM, COMMAND, TIME}

-- LENGTH for "L over 1,024", ROOM for "output shorter than what is written"
abbrev pub room_tests : List ℕ → ℕ → ℕ → List Test
room_tests out l n = (leb l 1024 or_else LENGTH) ∷ (leb (n + l) (length out) or_else ROOM) ∷ []

abbrev pub field_tests : Header → List Test
field_tests h = (is_command h.command or_else COMMAND) ∷ (allowed (judged h.label) or_else TIME) ∷ []

-- "Packet writer: LENGTH, ROOM, then the judge's order from COMMAND"
unfoldable pub packet_verdict : List Row → List ℕ → Header → ℕ → Verdict
packet_verdict rs out h l = in_order (room_tests out l 30) (in_order (field_tests h) (judged_under rs h.command (part out 27 (27 + l))))

-- "an output in which the unit already stands from byte 28; it writes the other bytes", where the writer says v
abbrev pub written_as : List ℕ → Header → ℕ → Verdict → List ℕ
written_as out h l v = cond (is_good v) (put_at out 0 (packet_bytes h (part out 27 (27 + l)))) out

unfoldable pub written_packet : List Row → List ℕ → Header → ℕ → List ℕ
written_packet rs out h l = written_as out h l (packet_verdict rs out h l)
