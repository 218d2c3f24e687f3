-- The cases of document 02's Q-2, confirms that carry something, as rows of the one table of checked examples (Checked). Assumes nothing.
use Prim.Native.Nat.{ℕ, ◌%◌}
use mathlib.Core.List.{List, [], ◌∷◌, ◌++◌, map}
use mathlib.Core.Path.{◌≡◌, refl}
use lib.ListN.{length, set, take, drop, replicate}
use Rattle.std.specs.Prelude.{None}
use Rattle.frame.specs.Frame.{unit_length, ended, summed}
use Rattle.kinds.specs.Table.{table, rows_of, rows, find_row}
use Rattle.label.specs.Times.{label_of, judged, in_ranges}
use Rattle.octets.specs.Numbers.{low_first, bytes_of}
use Rattle.octets.specs.Parts.{part, put_at}
use Rattle.octets.specs.Searches.{first_fit}
use Rattle.octets.specs.Sums.{total}
use Rattle.octets.proofs.Examples.{A}
use Rattle.output.specs.Packets.{head_bytes, packet_bytes}
use Rattle.output.specs.Writing.{packet_verdict, written_packet}
use Rattle.packet.specs.declared.Header.{Header}
use Rattle.packet.specs.Frames.{judged_content, judged_packet, unit_place}
use Rattle.packet.specs.Headers.{header_of}
use Rattle.reply.specs.Replies.{command_for, due_to, reply_verdict, answered, written_reply}
use Rattle.unit.specs.Objects.{text_size, end_of, walk, timely}
use Rattle.unit.specs.Units.{judged_unit, judged_under}
use Rattle.verdict.specs.declared.Verdict.{Verdict}
use Rattle.verdict.specs.Orders.{in_order, refusal, good, part_by, part_in}
use Rattle.verdict.specs.Refusals.{LENGTH, VERSION, UNIT}
use Rattle.demands.specs.Rules.{in14, timely_by, packet_by}

abbrev pub of : Verdict → List ℕ
of v = v.number ∷ v.place ∷ []

-- A under a command, with this main version and this unit and the sum of all that
abbrev pub carrying : ℕ → ℕ → List ℕ → List ℕ
carrying version command u =
    let head = set (put_at (set (take 27 A) 4 version) 24 (bytes_of 2 (length u))) 26 command in
    head ++ (u ++ (total (drop 2 (head ++ u)) % 256 ∷ 35 ∷ 35 ∷ []))

-- a packet's verdict, and the reply to it in an output of 30 bytes, its command and L first
abbrev pub packet : List ℕ → List ℕ
packet p = of (judged_packet rows p)

abbrev pub reply : List ℕ → List ℕ
reply p =
    let answer = answered rows p (label_of (drop 6 A)) (replicate 30 1) in
    let out = written_reply rows p (label_of (drop 6 A)) (replicate 30 1) in
    of answer.verdict ++ (command_for answer.due ∷ take 3 (drop 24 out))

-- none is due: the output is as it was
abbrev pub none : List ℕ
none = of good ++ (0 ∷ 1 ∷ 1 ∷ 1 ∷ [])

abbrev A-with-FF : List ℕ
A-with-FF = take 24 A ++ (0x01 ∷ 0x00 ∷ 0x03 ∷ 0xFF ∷ 0x5D ∷ 0x23 ∷ 0x23 ∷ [])

-- a header as A's under another command
abbrev denying : Header
denying = header_of (set A 26 6)

abbrev full : List ℕ
full = replicate 1024 0xFF

abbrev pub checked-confirms : List (List ℕ × List ℕ)
checked-confirms =
    -- "A with L 1 and unit `FF`, sum 5D: good; no reply is due"
    (packet A-with-FF, of good)
    ∷ (A-with-FF, carrying 1 3 (0xFF ∷ []))
    ∷ (part_in A-with-FF (unit_place rows A-with-FF), 0xFF ∷ [])
    ∷ (reply A-with-FF, none)
    ∷ (of (packet_by in14 rows A-with-FF), of (refusal UNIT 0))
    -- "Command 6 with L 1,024 of any bytes: good, and the writer writes it"
    ∷ (packet (carrying 1 6 full), of good)
    ∷ (of (packet_verdict rows (replicate 27 0 ++ (full ++ (0 ∷ 0 ∷ 0 ∷ []))) denying 1024), of good)
    ∷ (written_packet rows (replicate 27 0 ++ (full ++ (0 ∷ 0 ∷ 0 ∷ []))) denying 1024, carrying 1 6 full)
    -- "Command 3 with L 1,025: LENGTH"
    ∷ (packet (carrying 1 3 (0 ∷ full)), of (refusal LENGTH 0))
    ∷ (of (judged_under rows 3 (0 ∷ full)), of (refusal LENGTH 0))
    -- "Command 2 with unit `FF`: UNIT, denied"
    ∷ (packet (carrying 1 2 (0xFF ∷ [])), of (refusal UNIT 0))
    ∷ (reply (carrying 1 2 (0xFF ∷ [])), of good ++ (6 ∷ 0 ∷ 0 ∷ 6 ∷ []))
    -- "Command 6, version 2, with a unit: VERSION, no reply"
    ∷ (packet (carrying 2 6 (0xFF ∷ [])), of (refusal VERSION 0))
    ∷ (reply (carrying 2 6 (0xFF ∷ [])), none)
    -- alone the same byte is no unit
    ∷ (of (judged_unit rows None (0xFF ∷ [])), of (refusal UNIT 0))
    ∷ []

pub confirms-so : map (λ (e : List ℕ × List ℕ). e.0) checked-confirms ≡ map (λ (e : List ℕ × List ℕ). e.1) checked-confirms
unfolding judged_packet judged_content judged_under judged_unit in_order rows_of table find_row text_size end_of walk timely timely_by judged in_ranges first_fit low_first part total summed ended unit_length
    put_at bytes_of head_bytes packet_bytes packet_verdict written_packet unit_place part_by answered reply_verdict due_to written_reply
confirms-so = refl
