-- The cases of document 02's Q-1, panels without a clock, as rows of the one table of checked examples (Checked). Assumes nothing.
use Prim.Native.Nat.{ℕ}
use mathlib.Core.List.{List, [], ◌∷◌, ◌++◌, map}
use mathlib.Core.Path.{◌≡◌, refl}
use lib.ListN.{set, take, drop, replicate}
use Rattle.fields.specs.Layouts.{label_in, fields_from}
use Rattle.frame.specs.Frame.{unit_length, ended, summed}
use Rattle.kinds.specs.Table.{table, rows_of, rows, find_row, entry_of}
use Rattle.label.specs.Times.{label_of, judged, in_ranges, shown_as, SHOWN_NOTHING, SHOWN_NO_LABEL}
use Rattle.label.specs.declared.Judgement.TheVariants.{Time, NoTime}
use Rattle.octets.specs.Numbers.{low_first, bytes_of}
use Rattle.octets.specs.Parts.{part, put_at}
use Rattle.octets.specs.Searches.{first_fit}
use Rattle.octets.specs.Sums.{total}
use Rattle.octets.proofs.Examples.{A}
use Rattle.output.specs.Packets.{head_bytes, packet_bytes}
use Rattle.packet.specs.Frames.{unit_of, judged_content, judged_packet}
use Rattle.packet.specs.Headers.{opened_packet}
use Rattle.packet.proofs.Examples.{B}
use Rattle.reply.specs.Replies.{due_to, reply_verdict, answered, written_reply}
use Rattle.typed.specs.Typing.{shown_in, typed_object}
use Rattle.unit.specs.Objects.{text_size, end_of, walk, timely}
use Rattle.unit.specs.Places.{placed_after, object_place}
use Rattle.unit.specs.Units.{judged_unit, judged_under}
use Rattle.verdict.specs.declared.Verdict.{Verdict}
use Rattle.verdict.specs.Orders.{in_order, refusal, good, part_by}
use Rattle.verdict.specs.Refusals.{TIME}
use Rattle.demands.specs.Rules.{in13, timely_by, packet_by}

abbrev of : Verdict → List ℕ
of v = v.number ∷ v.place ∷ []

abbrev zeros : List ℕ
zeros = replicate 6 0

-- A with this label and its sum, and B with this one as its object's
abbrev labelled : List ℕ → ℕ → List ℕ
labelled label sum = set (put_at A 6 label) 27 sum

abbrev within : List ℕ → ℕ → List ℕ
within label sum = set (put_at B 30 label) 36 sum

-- a packet's verdict and what its reading shows; the same of a unit's first object
abbrev packet : List ℕ → List ℕ
packet p = of (opened_packet rows p).verdict ++ ((opened_packet rows p).shown ∷ [])

abbrev object : List ℕ → List ℕ
object u = of (typed_object table u 0).verdict ++ ((typed_object table u 0).shown ∷ [])

abbrev taken : ℕ → List ℕ
taken shown = of good ++ (shown ∷ [])

abbrev refused : ℕ → List ℕ
refused place = of (refusal TIME place) ++ (SHOWN_NOTHING ∷ [])

abbrev pub checked-labels : List (List ℕ × List ℕ)
checked-labels =
    -- "A with six zeros as label, sum 0A: good, before it was TIME 0"
    (packet (labelled zeros 0x0A), taken (shown_as NoTime))
    ∷ (of (packet_by in13 rows (labelled zeros 0x0A)), of (refusal TIME 0))
    -- "B with six zeros as its object's label, sum 7D: good"
    ∷ (packet (within zeros 0x7D), taken (shown_as Time))
    ∷ (object (unit_of (within zeros 0x7D)), taken (shown_as NoTime))
    ∷ (of (packet_by in13 rows (within zeros 0x7D)), of (refusal TIME 1))
    -- "`00 00 00 00 01 00`, `00 00 00 00 00 18`, `00 00 00 01 00 00`, `01 00 00 00 00 00`: TIME; `00 00 00 01 01 00`: a time", in the header
    ∷ (packet (labelled (0 ∷ 0 ∷ 0 ∷ 0 ∷ 1 ∷ 0 ∷ []) 0x0B), refused 0)
    ∷ (packet (labelled (0 ∷ 0 ∷ 0 ∷ 0 ∷ 0 ∷ 0x18 ∷ []) 0x22), refused 0)
    ∷ (packet (labelled (0 ∷ 0 ∷ 0 ∷ 1 ∷ 0 ∷ 0 ∷ []) 0x0B), refused 0)
    ∷ (packet (labelled (1 ∷ 0 ∷ 0 ∷ 0 ∷ 0 ∷ 0 ∷ []) 0x0B), refused 0)
    ∷ (packet (labelled (0 ∷ 0 ∷ 0 ∷ 1 ∷ 1 ∷ 0 ∷ []) 0x0C), taken (shown_as Time))
    -- and in an object
    ∷ (packet (within (0 ∷ 0 ∷ 0 ∷ 0 ∷ 1 ∷ 0 ∷ []) 0x7E), refused 1)
    ∷ (object (unit_of (within (0 ∷ 0 ∷ 0 ∷ 0 ∷ 0 ∷ 0x18 ∷ []) 0x95)), refused 1)
    ∷ (object (unit_of (within (0 ∷ 0 ∷ 0 ∷ 1 ∷ 1 ∷ 0 ∷ []) 0x7F)), taken (shown_as Time))
    -- types 8, 28 and 90 with six zeros, and a type without a label
    ∷ (object (8 ∷ 1 ∷ 1 ∷ 2 ∷ zeros), taken (shown_as NoTime))
    ∷ (object (28 ∷ 1 ∷ zeros), taken (shown_as NoTime))
    ∷ (object (90 ∷ 1 ∷ zeros), taken (shown_as NoTime))
    ∷ (object (25 ∷ 1 ∷ 0 ∷ 0 ∷ []), taken SHOWN_NO_LABEL)
    -- "A reply made with six zeros is good and carries them"
    ∷ (of (answered rows B (label_of zeros) (replicate 30 1)).verdict, of good)
    ∷ (take 6 (drop 6 (written_reply rows B (label_of zeros) (replicate 30 1))), zeros)
    ∷ (packet (written_reply rows B (label_of zeros) (replicate 30 1)), taken (shown_as NoTime))
    ∷ []

pub labels-so : map (λ (e : List ℕ × List ℕ). e.0) checked-labels ≡ map (λ (e : List ℕ × List ℕ). e.1) checked-labels
unfolding opened_packet judged_packet judged_content judged_under judged_unit in_order rows_of table find_row entry_of text_size end_of walk timely timely_by judged in_ranges first_fit low_first
    part total summed ended unit_length put_at bytes_of head_bytes packet_bytes typed_object shown_in object_place placed_after part_by label_in fields_from answered reply_verdict due_to written_reply
labels-so = refl
